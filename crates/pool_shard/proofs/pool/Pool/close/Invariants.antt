use Rattle.std.proofs.Common.{◌≡◌, ◌+◌, length, vec_len}
use Rattle.pool_words.specs.Rule.{Extends}
use Rattle.pool_shard.specs.Looks.{IsGathered}
use Rattle.pool_shard.proofs.pool.Pool.close.Given as goal

abbrev pub invariant-loop-lock : goal.invariant-loop-lock
invariant-loop-lock g l = record {
  gathered : IsGathered l.layout l.words.shared.table_id l.seat l.counts.items l.sums.items;
  left : length l.seat.me.0.writes + vec_len l.locks ≡ l.layout.shards;
  log : Extends l.fn.seat.view.log l.seat.me.0.log;
}

abbrev pub decreases-loop-lock : goal.decreases-loop-lock
decreases-loop-lock g l = goal.left-loop-lock g l
