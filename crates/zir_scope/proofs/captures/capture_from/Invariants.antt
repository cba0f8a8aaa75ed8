use Rattle.std.proofs.Common.{◌≡◌, ◌++◌, length}
use Rattle.zir_scope.specs.Captures.{captured}
use Rattle.zir_scope.proofs.captures.capture_from.Given as goal

abbrev pub invariant-loop-rest : goal.invariant-loop-rest
invariant-loop-rest l = l.captures.items ++ captured l.since l.local l.rest ≡ l.initial.captures.items ++ captured l.since l.local l.around

abbrev pub decreases-loop-rest : goal.decreases-loop-rest
decreases-loop-rest l = length l.rest
