use Rattle.std.proofs.Common.{◌≡◌, length}
use Rattle.zir_astgen.specs.Control.{has_rule}
use Rattle.zir_astgen.specs.Writing.{parts}
use Rattle.zir_astgen.proofs.writer.Writer.has_rule.Given as goal

abbrev pub invariant-loop-rest : goal.invariant-loop-rest
invariant-loop-rest l = has_rule l.wanted (parts l.self l.rest) ≡ has_rule l.wanted (parts l.self l.row)

abbrev pub decreases-loop-rest : goal.decreases-loop-rest
decreases-loop-rest l = length l.rest
