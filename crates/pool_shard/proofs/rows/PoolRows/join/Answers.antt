use Rattle.std.proofs.Common.{subst}
use Rattle.type_form.specs.Known.{Keeps}
use Rattle.type_form.specs.Means.{Grows}
use Rattle.pool_shard.specs.Pairs.{Rows, known, known_of}
use Rattle.pool_shard.proofs.Counting.{IsRows-keeps, GoesOn-seat}
use Rattle.pool_shard.proofs.Knowing.{known_keeps, pool_injective, known_grows}
use Rattle.pool_shard.proofs.rows.PoolRows.join.Goals as goal

pub invariant_of-self : goal.invariant_of-self
invariant_of-self c =
    let p = c.self.inside in
    IsRows-keeps p.layout p.words.shared.table_id p.seat c.tell.new.seat p.counts.items p.sums.items c.self.invariant c.tell.ensures.seat c.tell.ensures.keeps c.tell.ensures.slots

pub returns-clause-grows : goal.returns-clause-grows
returns-clause-grows c =
    let w = c.tell.new.seat.me.0 in
    subst (λ (p : Rows). Grows (known p) (known_of w.log)) c.self.view_is (known_grows c.self.inside.layout w.words c.self.inside.seat.me.0.log w.log c.tell.ensures.seat.pool c.tell.ensures.keeps.later.grows)

pub returns-clause-agrees : goal.returns-clause-agrees
returns-clause-agrees c = let w = c.tell.new.seat.me.0 in pool_injective c.self.inside.layout w.words w.log c.tell.ensures.seat.pool

pub returns-clause-told : goal.returns-clause-told
returns-clause-told c =
    let w = c.tell.new.seat.me.0 in
    subst (λ (p : Rows). Keeps (known p) (known_of w.log)) c.other.view_is (known_keeps c.other.inside.seat.me.0.log w.log c.tell.ensures.told)

pub returns-clause-rows : goal.returns-clause-rows
returns-clause-rows c =
    let p = c.self.inside in
    GoesOn-seat p.layout p.words.shared.table_id p.seat c.tell.new.seat c.args.self.now c.self.view_is c.self.invariant.seat c.tell.ensures.seat c.tell.ensures.keeps.later.grows
