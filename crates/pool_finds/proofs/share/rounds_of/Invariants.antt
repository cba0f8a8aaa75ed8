use Rattle.pool_shard.specs.Pairs.{pool_of}
use Rattle.pool_finds.proofs.share.rounds_of.Given as goal

abbrev pub ghosts-rounds : goal.ghosts-rounds
ghosts-rounds g a = record { pool = pool_of a.rows }
