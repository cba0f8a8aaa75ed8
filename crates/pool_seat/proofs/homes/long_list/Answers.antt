use Rattle.std.proofs.Common.{[], ◌∷◌, replicate, refl, arith}
use Rattle.pool_shard.specs.Pairs.{known}
use Rattle.pool_seat.proofs.Trees.{more_denotes}
use Rattle.pool_seat.proofs.homes.long_list.Goals as goal

pub returns-in-Ok-intern-clause-denote : goal.returns-in-Ok-intern-clause-denote
returns-in-Ok-intern-clause-denote c =
    more_denotes (known c.intern-2.new.self) c.in-Ok-intern.list c.in-Ok.last (replicate 60 7) (1 ∷ 2 ∷ []) refl (omega arith) (omega arith) (c.intern-2.ensures.grows.kept.keeps.words c.in-Ok.last (36 ∷ 1 ∷ 2 ∷ []) c.in-Ok.ensures.place) c.in-Ok-intern.ensures.place
