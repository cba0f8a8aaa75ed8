use Rattle.std.proofs.Common.{◌≡◌, ◌++◌, length}
use Rattle.zir_scope.specs.Captures.{captures_from, captures_of}
use Rattle.zir_scope.proofs.captures.captures_of.Given as goal

abbrev pub invariant-loop-rest : goal.invariant-loop-rest
invariant-loop-rest l = l.captures.items ++ captures_from l.around.items l.used.entries l.rest ≡ captures_of l.events

abbrev pub decreases-loop-rest : goal.decreases-loop-rest
decreases-loop-rest l = length l.rest
