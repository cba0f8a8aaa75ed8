use Rattle.std.proofs.Common.{◌≡◌, ℕ, List, take}
use Rattle.pool_words.specs.Rule.{In}
use Rattle.pool_shard.specs.Looks.{IsSeat, Keeps}
use Rattle.pool_shard.proofs.find.read_row.Given as goal

abbrev pub invariant-loop-i : goal.invariant-loop-i
invariant-loop-i l = record {
  seat : IsSeat l.layout l.words.shared.table_id l.seat;
  keeps : Keeps l.fn.seat.me.0 l.seat.me.0;
  slots : l.seat.me.1 ≡ l.fn.seat.me.1;
  so_far : (ws : List ℕ) → In (l.place, ws) l.fn.seat.me.0.log → l.into ≡ take l.i ws;
}
