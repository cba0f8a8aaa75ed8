use Rattle.std.proofs.Common.{◌≡◌, ◌-◌, ◌≤◌, length, drop}
use Rattle.zig_token.specs.Scan.{name_from}
use Rattle.zig_token.proofs.word.name_end.Given as goal

abbrev pub invariant-loop-at : goal.invariant-loop-at
invariant-loop-at l = record {
  begun : l.from ≤ l.at;
  within : l.at ≤ length l.text;
  so_far : name_from l.at (drop l.at l.text) ≡ name_from l.from (drop l.from l.text);
}

abbrev pub decreases-loop-at : goal.decreases-loop-at
decreases-loop-at l = length l.text - l.at
