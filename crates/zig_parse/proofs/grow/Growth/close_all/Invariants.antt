use Rattle.std.proofs.Common.{◌≡◌, ◌-◌, length}
use Rattle.zig_parse.specs.Growth.{all_shut}
use Rattle.zig_parse.specs.Grows.{grown}
use Rattle.zig_parse.proofs.grow.Growth.close_all.Given as goal

abbrev pub invariant-loop : goal.invariant-loop
invariant-loop l = all_shut (l.count - l.counter) l.tokens (grown l.self) ≡ all_shut (length l.fn.self.thread.frames) l.tokens (grown l.fn.self)
