use Rattle.std.proofs.Common.{◌≡◌, ◌++◌, length}
use Rattle.zig_parse.specs.Passes as spec
use Rattle.zig_parse.proofs.survey.those_waiting.Given as goal

abbrev pub invariant-loop-thread : goal.invariant-loop-thread
invariant-loop-thread l = l.waiting.items ++ spec.those_waiting l.ready ≡ spec.those_waiting l.fn.ready

abbrev pub decreases-loop-thread : goal.decreases-loop-thread
decreases-loop-thread l = length l.ready
