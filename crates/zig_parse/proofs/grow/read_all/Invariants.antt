use Rattle.std.proofs.Common.{◌≡◌, ◌-◌, length}
use Rattle.zig_parse.specs.Growth.{all_read}
use Rattle.zig_parse.specs.Grows.{grown}
use Rattle.zig_parse.proofs.grow.read_all.Given as goal

abbrev pub invariant-loop-at : goal.invariant-loop-at
invariant-loop-at l = all_read (length l.tokens - l.at) l.at l.tokens l.chosen (grown l.growth) ≡ all_read (length l.tokens) 0 l.tokens l.chosen (grown l.fn.growth)
