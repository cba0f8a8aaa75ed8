use Rattle.std.proofs.Common.{◌≡◌, ◌<◌, []}
use Rattle.pool_shard.specs.Looks.{IsSeat}
use Rattle.pool_shard.proofs.pool.Pool.ask.Given as goal

abbrev pub invariant-loop : goal.invariant-loop
invariant-loop g l = record {
  seat : IsSeat l.self.layout l.self.table l.seat;
  reads : (l.seat.me.0.writes ≡ []) × (l.seat.me.1 ≡ []);
  log : l.seat.me.0.log ≡ l.fn.seat.me.0.log;
  at : l.at < l.self.layout.shards;
}
