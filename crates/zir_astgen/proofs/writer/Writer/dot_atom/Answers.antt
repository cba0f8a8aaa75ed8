use Rattle.std.proofs.Common.{◌≡◌, false, sym, ◌∙◌, ap, subst, IfOk}
use Rattle.zig_tree.specs.declared.token.TokenKind.TheVariants as kind
use Rattle.zir_form.specs.Core.{Core}
use Rattle.zir_form.specs.Core as core
use Rattle.zir_form.specs.Lines.{over_cores, tree_at}
use Rattle.zir_astgen.specs.Firsts.{Adds}
use Rattle.zir_astgen.specs.Names.{dot_atom}
use Rattle.zir_astgen.specs.Parts.{first_tree, has_token}
use Rattle.zir_astgen.specs.Writing.{parts, trees}
use Rattle.zir_astgen.proofs.AddLemmas.{absent_tree}
use Rattle.zir_astgen.proofs.writer.Writer.dot_atom.Goals as goal

pub returns-else-has_token-clause-tree : goal.returns-else-has_token-clause-tree
unfolding dot_atom over_cores
returns-else-has_token-clause-tree c =
    let old = trees c.args.self.now in
    let e : has_token kind.Identifier (parts c.args.self.now c.args.more.now) ≡ false = sym c.has_token.ensures ∙ c.if-has_token.false in
    let eq : core.initializer c.args.place (tree_at old 1) (tree_at old c.first_line-values.result) ≡ core.initializer c.args.place core.absent (first_tree (parts c.args.self.now c.args.more.now)) =
    ap (λ (x : Core). core.initializer c.args.place x (tree_at old c.first_line-values.result)) (absent_tree _ c.args.self.now.has_firsts) ∙ ap (core.initializer c.args.place core.absent) c.first_line-values.ensures.tree in
    rw e (subst (λ (x : Core). IfOk c.put-else-has_token.result (Adds old (trees c.put-else-has_token.new.self) x)) eq c.put-else-has_token.ensures.tree)
