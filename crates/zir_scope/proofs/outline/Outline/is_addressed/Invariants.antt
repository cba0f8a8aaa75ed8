use Rattle.std.proofs.Common.{◌≡◌, length, false}
use Rattle.zir_scope.specs.Changes as spec
use Rattle.zir_scope.specs.Syntax.{row_in}
use Rattle.zir_scope.proofs.outline.Outline.is_addressed.Given as goal

abbrev pub invariant-loop-rest : goal.invariant-loop-rest
invariant-loop-rest l = spec.is_addressed l.last (row_in l.self l.rest) ≡ spec.is_addressed false (row_in l.self l.row)

abbrev pub decreases-loop-rest : goal.decreases-loop-rest
decreases-loop-rest l = length l.rest
