use Rattle.std.proofs.Common.{arith}
use Rattle.pool_shard.proofs.rows.PoolRows.shards.Goals as goal

pub overflow_cast-result : goal.overflow_cast-result
overflow_cast-result c = let l = c.self.invariant.seat.laid in let a = l.few in record { fits = omega arith }
