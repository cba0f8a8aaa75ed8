use Rattle.std.proofs.Common.{◌≡◌, length}
use Rattle.zir_astgen.specs.Files.{word_in}
use Rattle.zir_scope.specs.Syntax.{row_in}
use Rattle.zir_astgen.proofs.content.word_in.Given as goal

abbrev pub invariant-loop-rest : goal.invariant-loop-rest
invariant-loop-rest l = word_in l.wanted (row_in l.outline l.rest) ≡ word_in l.wanted (row_in l.outline l.row)

abbrev pub decreases-loop-rest : goal.decreases-loop-rest
decreases-loop-rest l = length l.rest
