use Rattle.std.proofs.Common.{◌≡◌, drop}
use Rattle.zig_parse.specs.Passes as spec
use Rattle.zig_parse.proofs.survey.all_deep.Given as goal

abbrev pub invariant-loop-thread : goal.invariant-loop-thread
invariant-loop-thread l = spec.all_deep (drop l.thread-index l.live) ≡ spec.all_deep l.live
