use Rattle.std.proofs.Common.{◌≡◌, suc, ◌+◌, take}
use Rattle.pool_words.specs.Layout.{base, start, used, rows_of, level}
use Rattle.pool_words.specs.Rule.{HasRows}
use Rattle.pool_shard.specs.Looks.{IsSeat, Fills}
use Rattle.pool_shard.proofs.write.grow.Given as goal

abbrev pub invariant-loop-n : goal.invariant-loop-n
invariant-loop-n l = record {
  seat : IsSeat l.layout l.words.shared.table_id l.seat;
  fills : Fills l.shard (suc l.at) l.fn.seat.me.0 l.seat.me.0;
  slots : l.seat.me.1 ≡ l.fn.seat.me.1;
  filled : HasRows (level l.layout l.seat.me.0.words l.shard (suc l.at)) (suc l.at) (take l.n (rows_of l.layout l.shard l.seat.me.0.log));
  placed : l.place ≡ base l.layout l.shard + (start l.layout + used (take l.n (rows_of l.layout l.shard l.seat.me.0.log)));
}
