use Rattle.std.proofs.Common.{[], ◌∷◌, arith}
use Rattle.pool_shard.specs.Pairs.{known}
use Rattle.pool_seat.proofs.Trees.{end_denotes, set_denotes}
use Rattle.pool_seat.proofs.homes.optional_set.Goals as goal

pub returns-clause-denote : goal.returns-clause-denote
returns-clause-denote c =
    let k = known c.intern-5.new.self in
    let name = c.in-Ok-intern.name in
    let names = c.in-Ok-intern-2.names in
    let set = c.in-Ok-intern-3.set in
    let c3 = c.intern-3.ensures.grows.kept.keeps in
    let c4 = c.intern-4.ensures.grows.kept.keeps in
    let c5 = c.intern-5.ensures.grows.kept.keeps in
    let a = c5.words name (36 ∷ 97 ∷ []) (c4.words name (36 ∷ 97 ∷ []) (c3.words name (36 ∷ 97 ∷ []) c.in-Ok-intern.ensures.place)) in
    let b = c5.words names (36 ∷ name.0 ∷ []) (c4.words names (36 ∷ name.0 ∷ []) c.in-Ok-intern-2.ensures.place) in
    let d = c5.words set (3 ∷ names.0 ∷ []) c.in-Ok-intern-3.ensures.place in
    (set_denotes k name names set c.in-Ok-intern-4.optional a b d c.in-Ok-intern-4.ensures.place, end_denotes k names (name.0 ∷ []) (omega arith) b)
