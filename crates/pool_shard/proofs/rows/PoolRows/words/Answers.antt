use Rattle.std.proofs.Common.{sym, subst, arith, IsSome}
use Rattle.type_form.specs.Known.{words_at}
use Rattle.pool_shard.specs.Pairs.{Rows, known}
use Rattle.pool_shard.proofs.Knowing.{known_in, known_some}
use Rattle.pool_shard.proofs.Readings.{place_in}
use Rattle.pool_shard.proofs.rows.PoolRows.words.Goals as goal

pub returns-clause-inside : goal.returns-clause-inside
returns-clause-inside c i some =
    let s = c.self.invariant.seat in
    let v = c.self.inside.seat.me.0 in
    let r = known_some v.log i (subst (λ (p : Rows). IsSome (words_at (known p) i)) (sym c.self.view_is) some) in
    let w = place_in c.self.inside.layout v.words v.log (i.0, r.0) s.laid s.pool (known_in v.log i r.0 r.1) in
    omega arith
