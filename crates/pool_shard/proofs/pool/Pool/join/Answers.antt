use Rattle.std.proofs.Common.{subst}
use Rattle.type_form.specs.Known.{Keeps}
use Rattle.type_form.specs.Means.{Grows}
use Rattle.pool_shard.specs.Pairs.{Rows, known, known_of}
use Rattle.pool_shard.proofs.Counting.{GoesOn-seat}
use Rattle.pool_shard.proofs.Knowing.{known_keeps, pool_injective, known_grows}
use Rattle.pool_shard.proofs.Sharing.{seat_named}
use Rattle.pool_shard.proofs.pool.Pool.join.Goals as goal

pub returns-clause-grows : goal.returns-clause-grows
returns-clause-grows g c =
    let w = c.tell.new.seat.me.0 in
    subst (λ (p : Rows). Grows (known p) (known_of w.log)) c.seat.view_is (known_grows c.self.inside.layout w.words c.seat.inside.seat.me.0.log w.log c.tell.ensures.seat.pool c.tell.ensures.keeps.later.grows)

pub returns-clause-agrees : goal.returns-clause-agrees
returns-clause-agrees g c = let w = c.tell.new.seat.me.0 in pool_injective c.self.inside.layout w.words w.log c.tell.ensures.seat.pool

pub returns-clause-told : goal.returns-clause-told
returns-clause-told g c =
    let w = c.tell.new.seat.me.0 in
    subst (λ (p : Rows). Keeps (known p) (known_of w.log)) c.other.view_is (known_keeps c.other.inside.seat.me.0.log w.log c.tell.ensures.told)

pub returns-clause-rows : goal.returns-clause-rows
returns-clause-rows g c =
    let p = c.self.inside in
    let q = c.seat.inside.seat in
    let s = seat_named _ p.layout p.words.shared.table_id _ _ _ c.args.seat.now q c.self.invariant c.seat.view_is c.requires.of c.seat.invariant in
    GoesOn-seat p.layout p.words.shared.table_id q c.tell.new.seat c.args.seat.now c.seat.view_is s c.tell.ensures.seat c.tell.ensures.keeps.later.grows
