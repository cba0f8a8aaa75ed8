use Rattle.std.proofs.Common.{◌≡◌, ℕ, ◌<◌}
use Rattle.pool_words.specs.Layout.{level, shard_of}
use Rattle.pool_shard.specs.Looks.{IsSeat, Keeps, IsPassed}
use Rattle.pool_shard.proofs.probe.probe.Given as goal

abbrev pub invariant-loop-far : goal.invariant-loop-far
invariant-loop-far l = record {
  seat : IsSeat l.layout l.words.shared.table_id l.seat;
  keeps : Keeps l.fn.seat.me.0 l.seat.me.0;
  slots : l.seat.me.1 ≡ l.fn.seat.me.1;
  passed : (d : ℕ) → d < l.far → IsPassed (level l.layout l.seat.me.0.words (shard_of l.layout l.key) l.at) l.at l.key l.seat.me.0.log d;
}
