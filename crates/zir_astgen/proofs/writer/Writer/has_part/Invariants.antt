use Rattle.std.proofs.Common.{◌≡◌, length}
use Rattle.zir_astgen.specs.Control.{has_part}
use Rattle.zir_astgen.specs.Writing.{parts}
use Rattle.zir_astgen.proofs.writer.Writer.has_part.Given as goal

abbrev pub invariant-loop-rest : goal.invariant-loop-rest
invariant-loop-rest l = has_part (parts l.self l.rest) ≡ has_part (parts l.self l.row)

abbrev pub decreases-loop-rest : goal.decreases-loop-rest
decreases-loop-rest l = length l.rest
