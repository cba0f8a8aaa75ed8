use Rattle.std.proofs.Common.{◌≡◌}
use Rattle.zig_parse.specs.Growth.{ready}
use Rattle.zig_parse.specs.Grows.{grown}
use Rattle.zig_parse.specs.Moves.{moves_for}
use Rattle.zig_parse.proofs.Costs.{work_of}
use Rattle.zig_parse.proofs.grow.Growth.settle.Given as goal

abbrev pub invariant-loop-fits : goal.invariant-loop-fits
invariant-loop-fits l = ready (moves_for l.self.thread) l.tokens l.look l.second (grown l.self) ≡ ready (moves_for l.fn.self.thread) l.tokens l.look l.second (grown l.fn.self)

abbrev pub decreases-loop-fits : goal.decreases-loop-fits
decreases-loop-fits l = work_of l.self.thread
