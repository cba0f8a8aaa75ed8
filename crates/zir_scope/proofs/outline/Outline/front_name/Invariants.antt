use Rattle.std.proofs.Common.{◌≡◌, length}
use Rattle.zir_scope.specs.Binders as spec
use Rattle.zir_scope.specs.Syntax.{row_in}
use Rattle.zir_scope.proofs.outline.Outline.front_name.Given as goal

abbrev pub invariant-loop-rest : goal.invariant-loop-rest
invariant-loop-rest l = spec.front_name (row_in l.self l.rest) ≡ spec.front_name (row_in l.self l.row)

abbrev pub decreases-loop-rest : goal.decreases-loop-rest
decreases-loop-rest l = length l.rest
