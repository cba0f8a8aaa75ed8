use Rattle.std.proofs.Common.{◌≡◌, ◌++◌}
use Rattle.zig_parse.specs.Moves.{settled_all}
use Rattle.zig_parse.proofs.Costs.{total_work}
use Rattle.zig_parse.proofs.settle.settle.Given as goal

abbrev pub invariant-loop-thread : goal.invariant-loop-thread
invariant-loop-thread l = l.ready.items ++ settled_all l.look l.at l.pending ≡ settled_all l.look l.at l.fn.pending

abbrev pub decreases-loop-thread : goal.decreases-loop-thread
decreases-loop-thread l = total_work l.pending
