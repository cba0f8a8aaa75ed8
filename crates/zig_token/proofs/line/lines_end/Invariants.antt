use Rattle.std.proofs.Common.{◌≡◌, ◌-◌, ◌≤◌, length, drop}
use Rattle.zig_token.specs.Scan.{lines_from}
use Rattle.zig_token.proofs.line.lines_end.Given as goal

abbrev pub invariant-loop-at : goal.invariant-loop-at
invariant-loop-at l = record {
  begun : l.from ≤ l.at;
  within : l.at ≤ length l.text;
  so_far : lines_from l.text l.at 0 (drop l.at l.text) ≡ lines_from l.text l.from 0 (drop l.from l.text);
}

abbrev pub decreases-loop-at : goal.decreases-loop-at
decreases-loop-at l = length l.text - l.at
