use Rattle.std.proofs.Common.{◌≡◌, length}
use Rattle.zig_parse.specs.Threads.{risen}
use Rattle.zig_parse.proofs.thread.Thread.finish.Given as goal

abbrev pub invariant-loop-frame : goal.invariant-loop-frame
invariant-loop-frame l = (risen l.height l.self.frames ≡ risen 0 l.fn.self.frames) × (l.self.goal ≡ l.fn.self.goal) × (l.self.choices ≡ l.fn.self.choices)

abbrev pub decreases-loop-frame : goal.decreases-loop-frame
decreases-loop-frame l = length l.self.frames
