use Rattle.pool_shard.specs.Pairs.{pool_of}
use Rattle.pool_seat.proofs.threads.held_once.Given as goal

abbrev pub ghosts-held : goal.ghosts-held
ghosts-held g a = record { pool = pool_of a.rows }
