use Rattle.std.proofs.Common.{◌≡◌, drop, None}
use Rattle.zig_parse.specs.Passes as spec
use Rattle.zig_parse.proofs.survey.least_depth.Given as goal

abbrev pub invariant-loop-thread : goal.invariant-loop-thread
invariant-loop-thread l = spec.least_from l.least l.goal (drop l.thread-index l.waiting) ≡ spec.least_from None l.goal l.waiting
