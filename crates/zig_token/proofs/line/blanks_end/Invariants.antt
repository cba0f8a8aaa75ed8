use Rattle.std.proofs.Common.{◌≡◌, ◌-◌, ◌+◌, ◌≤◌, length, drop}
use Rattle.zig_token.specs.Scan.{blanks_from}
use Rattle.zig_token.proofs.line.blanks_end.Given as goal

abbrev pub invariant-loop-at : goal.invariant-loop-at
invariant-loop-at l = (l.from ≤ l.at) × (l.at ≤ l.from + length l.text) × (blanks_from l.at (drop l.at l.text) ≡ blanks_from l.from (drop l.from l.text))

abbrev pub decreases-loop-at : goal.decreases-loop-at
decreases-loop-at l = length l.text - l.at
