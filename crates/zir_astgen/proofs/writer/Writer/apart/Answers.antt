use Rattle.std.proofs.Common.{◌≡◌, ◌∙◌, false}
use Rattle.zig_tree.specs.declared.grammar.Rule.TheVariants as rule
use Rattle.zig_tree.specs.Kinds.{is_rule}
use Rattle.zir_scope.specs.Syntax.{inside_of}
use Rattle.zir_astgen.specs.Writing.{file, site, trees}
use Rattle.zir_astgen.proofs.AddLemmas.{absent_tree, adds_none, two_lines}
use Rattle.zir_astgen.proofs.WalkLemmas.{apart_absent}
use Rattle.zir_astgen.proofs.writer.Writer.apart.Goals as goal

pub returns-else-same_rule-clause-tree : goal.returns-else-same_rule-clause-tree
returns-else-same_rule-clause-tree c =
    let w = c.args.self.now in
    let other : is_rule c.args.rule rule.Container ≡ false = cc in
    adds_none (trees w) _ 1 (two_lines w.lines w.has_firsts) (absent_tree w.lines w.has_firsts ∙ apart_absent (file w) (site w) c.args.rule (inside_of w.source.outline.now c.args.node) other)
