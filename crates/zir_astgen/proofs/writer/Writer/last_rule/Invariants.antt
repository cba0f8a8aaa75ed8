use Rattle.std.proofs.Common.{◌≡◌, length}
use Rattle.zig_tree.specs.declared.grammar.Rule.TheVariants as rule
use Rattle.zir_astgen.specs.Control.{last_rule}
use Rattle.zir_astgen.specs.Writing.{parts}
use Rattle.zir_astgen.proofs.writer.Writer.last_rule.Given as goal

abbrev pub invariant-loop-rest : goal.invariant-loop-rest
invariant-loop-rest l = last_rule l.last (parts l.self l.rest) ≡ last_rule rule.Root (parts l.self l.row)

abbrev pub decreases-loop-rest : goal.decreases-loop-rest
decreases-loop-rest l = length l.rest
