use Rattle.std.proofs.Common.{◌≡◌, [], length}
use Rattle.zig_parse.specs.Passes as spec
use Rattle.zig_parse.proofs.survey.resumed.Given as goal

abbrev pub invariant-loop-thread : goal.invariant-loop-thread
invariant-loop-thread l = spec.resumed l.found l.live.items l.waiting ≡ spec.resumed l.found [] l.fn.waiting

abbrev pub decreases-loop-thread : goal.decreases-loop-thread
decreases-loop-thread l = length l.waiting
