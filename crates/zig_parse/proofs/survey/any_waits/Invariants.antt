use Rattle.std.proofs.Common.{◌≡◌, drop}
use Rattle.zig_parse.specs.Passes as spec
use Rattle.zig_parse.proofs.survey.any_waits.Given as goal

abbrev pub invariant-loop-thread : goal.invariant-loop-thread
invariant-loop-thread l = spec.any_waits (drop l.thread-index l.ready) ≡ spec.any_waits l.ready
