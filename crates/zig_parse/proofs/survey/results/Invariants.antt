use Rattle.std.proofs.Common.{◌≡◌, ◌++◌, map, length}
use Rattle.zig_parse.specs.Passes.{finished}
use Rattle.zig_parse.proofs.survey.results.Given as goal

abbrev pub invariant-loop-thread : goal.invariant-loop-thread
invariant-loop-thread l = l.found.items ++ map finished l.live ≡ map finished l.fn.live

abbrev pub decreases-loop-thread : goal.decreases-loop-thread
decreases-loop-thread l = length l.live
