use Rattle.std.proofs.Common.{◌≡◌, length}
use Rattle.zir_astgen.specs.Names.{string_argument}
use Rattle.zir_astgen.specs.Writing.{parts}
use Rattle.zir_astgen.proofs.writer.Writer.string_argument.Given as goal

abbrev pub invariant-loop-rest : goal.invariant-loop-rest
invariant-loop-rest l = string_argument (parts l.self l.rest) ≡ string_argument (parts l.self l.row)

abbrev pub decreases-loop-rest : goal.decreases-loop-rest
decreases-loop-rest l = length l.rest
