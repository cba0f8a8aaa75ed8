use Rattle.pool_shard.specs.Pairs.{pool_of}
use Rattle.pool_seat.proofs.threads.four_agree.Given as goal

abbrev pub ghosts-four : goal.ghosts-four
ghosts-four g a = record { pool = pool_of a.rows }
