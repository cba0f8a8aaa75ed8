use Rattle.std.proofs.Common.{◌≡◌, ◌-◌, ◌≤◌, false, length, drop}
use Rattle.zig_token.specs.Scan.{code_from}
use Rattle.zig_token.proofs.quoted.code_end.Given as goal

abbrev pub invariant-loop-at : goal.invariant-loop-at
invariant-loop-at l = record {
  begun : l.from ≤ l.at;
  within : l.at ≤ length l.text;
  small : l.value ≤ 0x10FFFF;
  so_far : code_from l.value l.some l.at (drop l.at l.text) ≡ code_from 0 false l.from (drop l.from l.text);
}

abbrev pub decreases-loop-at : goal.decreases-loop-at
decreases-loop-at l = length l.text - l.at
