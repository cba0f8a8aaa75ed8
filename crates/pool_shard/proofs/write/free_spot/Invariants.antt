use Rattle.std.proofs.Common.{◌≡◌, ◌≢◌, ℕ, ◌<◌, List, slice_index}
use Rattle.pool_words.specs.Layout.{hash_of, shard_of, level, spot}
use Rattle.pool_shard.specs.Looks.{IsSeat, Keeps}
use Rattle.pool_shard.proofs.write.free_spot.Given as goal

abbrev pub invariant-loop-far : goal.invariant-loop-far
invariant-loop-far l = record {
  seat : IsSeat l.layout l.words.shared.table_id l.seat;
  keeps : Keeps l.fn.seat.me.0 l.seat.me.0;
  slots : l.seat.me.1 ≡ l.fn.seat.me.1;
  run : (key : List ℕ) → l.hash ≡ hash_of key → (d : ℕ) → d < l.far → slice_index (level l.layout l.seat.me.0.words (shard_of l.layout key) l.at) (spot key l.at d) ≢ 0;
}
