use Rattle.std.proofs.Common.{◌<◌, refl, sym, subst}
use Rattle.pool_words.proofs.Places.{shard_in}
use Rattle.pool_shard.proofs.pool.Pool.ask.Goals as goal

pub loop-init : goal.loop-init
loop-init g c = record {
  seat = c.requires.seat;
  reads = c.requires.reads;
  log = refl;
  at = let z = c.args.self.now.layout in subst (λ s. s < z.shards) (sym c.requires.hash.1) (shard_in z c.args.key.now c.requires.seat.laid);
}
