use Rattle.std.proofs.Common.{◌≡◌, ◌++◌, length}
use Rattle.zir_astgen.specs.Names.{names_in}
use Rattle.zir_astgen.specs.Writing.{file, parts}
use Rattle.zir_astgen.proofs.writer.Writer.names_in.Given as goal

abbrev pub invariant-loop-rest : goal.invariant-loop-rest
invariant-loop-rest l = l.names.items ++ names_in (file l.self) (parts l.self l.rest) ≡ names_in (file l.self) (parts l.self l.row)

abbrev pub decreases-loop-rest : goal.decreases-loop-rest
decreases-loop-rest l = length l.rest
