use Rattle.std.proofs.Common.{◌≡◌, ◌-◌, ◌+◌, ◌<◌, ◌≤◌, length, drop}
use Rattle.zig_token.specs.Scan.{quoted_from}
use Rattle.zig_token.proofs.quoted.quoted_end.Given as goal

abbrev pub invariant-loop-at : goal.invariant-loop-at
invariant-loop-at l = record {
  begun : l.quote < l.at;
  within : l.at ≤ length l.text;
  so_far : quoted_from l.text l.quote l.at 0 (drop l.at l.text) ≡ quoted_from l.text l.quote (l.quote + 1) 0 (drop (l.quote + 1) l.text);
}

abbrev pub decreases-loop-at : goal.decreases-loop-at
decreases-loop-at l = length l.text - l.at
