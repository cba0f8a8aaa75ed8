use Rattle.std.proofs.Common.{◌≡◌, suc, ◌∷◌, length, take}
use Rattle.pool_words.specs.Layout.{window}
use Rattle.pool_shard.specs.Looks.{IsSeat, Keeps}
use Rattle.pool_shard.proofs.write.store_row.Given as goal

abbrev pub invariant-loop-i : goal.invariant-loop-i
invariant-loop-i l = record {
  seat : IsSeat l.layout l.words.shared.table_id l.seat;
  keeps : Keeps l.fn.seat.me.0 l.seat.me.0;
  slots : l.seat.me.1 ≡ l.fn.seat.me.1;
  stored : window l.seat.me.0.words l.place (suc l.i) ≡ length l.key ∷ take l.i l.key;
}
