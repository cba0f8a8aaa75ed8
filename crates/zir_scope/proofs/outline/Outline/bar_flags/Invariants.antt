use Rattle.std.proofs.Common.{◌≡◌, length}
use Rattle.zir_scope.specs.Changes as spec
use Rattle.zir_scope.specs.Syntax.{row_in}
use Rattle.zir_scope.proofs.outline.Outline.bar_flags.Given as goal

abbrev pub invariant-loop-rest : goal.invariant-loop-rest
invariant-loop-rest l = spec.bar_flags (row_in l.self l.rest) ≡ spec.bar_flags (row_in l.self l.row)

abbrev pub decreases-loop-rest : goal.decreases-loop-rest
decreases-loop-rest l = length l.rest
