use Rattle.std.proofs.Common.{◌≡◌, ◌-◌, ◌≤◌}
use Rattle.diag_order.specs.Places.{line_at, col_at}
use Rattle.diag_order.proofs.place.advance.Given as goal

abbrev pub invariant-loop-place : goal.invariant-loop-place
invariant-loop-place l = record {
  within : l.place.offset ≤ l.to;
  line : l.place.line ≡ line_at l.text l.place.offset;
  col : l.place.col ≡ col_at l.text l.place.offset;
}

abbrev pub decreases-loop-place : goal.decreases-loop-place
decreases-loop-place l = l.to - l.place.offset
