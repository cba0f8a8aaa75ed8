use Rattle.std.proofs.Common.{◌≡◌, ◌+◌, ◌-◌, ◌/◌, ◌≤◌}
use Rattle.pool_words.specs.Layout.{level_at}
use Rattle.pool_shard.proofs.rows.layout_of.Given as goal

abbrev pub invariant-loop-next : goal.invariant-loop-next
invariant-loop-next l = record {
  next : l.next ≡ level_at (l.top + 2);
  below : level_at (l.top + 1) ≤ l.size / 4;
}

abbrev pub decreases-loop-next : goal.decreases-loop-next
decreases-loop-next l = l.size / 4 + 1 - l.next
