use Rattle.std.proofs.Common.{◌≡◌, ◌-◌, ◌≤◌, length, drop}
use Rattle.zig_token.specs.Scan.{tokens_of, tokens_from}
use Rattle.zig_token.proofs.Reading.{with_front}
use Rattle.zig_token.proofs.scan.scan.Given as goal

abbrev pub invariant-loop-at : goal.invariant-loop-at
invariant-loop-at l = record {
  within : l.at ≤ length l.text;
  so_far : with_front l.list.items (tokens_from l.text l.at 0 (drop l.at l.text)) ≡ tokens_of l.text;
}

abbrev pub decreases-loop-at : goal.decreases-loop-at
decreases-loop-at l = length l.text - l.at
