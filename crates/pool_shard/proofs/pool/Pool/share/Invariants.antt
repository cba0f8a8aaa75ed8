use Rattle.std.proofs.Common.{◌≡◌, ℕ, ◌-◌, ◌<◌, [], slice_index, vec_len, vec_capacity}
use Rattle.pool_words.specs.Views.{below}
use Rattle.pool_shard.specs.Looks.{IsSeat, IsPart}
use Rattle.pool_shard.proofs.pool.Pool.share.Given as goal

abbrev pub invariant-loop-done : goal.invariant-loop-done
invariant-loop-done g l = record {
  seat : IsSeat l.layout l.words.shared.table_id l.seat;
  slots : l.seat.me.1 ≡ [];
  left : l.seat.me.0.writes ≡ below (l.shards - l.done);
  parts : (s : ℕ) → s < l.shards - l.done → IsPart l.layout l.seat.me.0 s (slice_index l.counts.items s) (slice_index l.sums.items s);
  log : l.seat.me.0.log ≡ l.fn.rows.view.log;
  pushed : vec_len l.locks ≡ l.done;
  room : vec_capacity l.locks ≡ l.shards;
}
