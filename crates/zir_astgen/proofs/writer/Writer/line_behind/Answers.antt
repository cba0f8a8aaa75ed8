use Rattle.std.proofs.Common.{◌∙◌, ap, sym}
use Rattle.zir_astgen.specs.Parts.{Parts, tree_behind}
use Rattle.zir_astgen.proofs.AddLemmas.{absent_tree, none_left}
use Rattle.zir_astgen.proofs.writer.Writer.line_behind.Goals as goal

pub returns-clause-tree : goal.returns-clause-tree
unfolding tree_behind
returns-clause-tree c =
    absent_tree c.args.self.now.lines c.args.self.now.has_firsts
    ∙ ap (λ (p : Parts). tree_behind c.args.wanted p) (sym (none_left _ _ c.loop-rest.rest.now c.in_default.len_below)) ∙ c.loop-rest.invariant.same
