use Rattle.pool_shard.specs.Pairs.{pool_of}
use Rattle.pool_seat.proofs.threads.fill_once.Given as goal

abbrev pub ghosts-fill : goal.ghosts-fill
ghosts-fill g a = record { pool = pool_of a.rows }
