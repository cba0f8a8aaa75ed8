use Rattle.std.proofs.Common.{◌≡◌, length}
use Rattle.zir_astgen.specs.Parts.{token_in}
use Rattle.zir_astgen.specs.Writing.{parts}
use Rattle.zir_astgen.proofs.writer.Writer.token_in.Given as goal

abbrev pub invariant-loop-rest : goal.invariant-loop-rest
invariant-loop-rest l = token_in l.wanted (parts l.self l.rest) ≡ token_in l.wanted (parts l.self l.row)

abbrev pub decreases-loop-rest : goal.decreases-loop-rest
decreases-loop-rest l = length l.rest
