use Rattle.std.proofs.Common.{◌≡◌, ◌∙◌, ap, subst, sym, Some, IsSome}
use Rattle.type_form.specs.Known.{words_at}
use Rattle.type_form.specs.Means.{Grows}
use Rattle.pool_shard.specs.Pairs.{Rows, known, known_of}
use Rattle.pool_shard.proofs.Counting.{IsRows-keeps, GoesOn-seat}
use Rattle.pool_shard.proofs.Knowing.{known_in, known_some, pool_injective, known_grows}
use Rattle.pool_shard.proofs.Logs.{log_keeps}
use Rattle.pool_shard.proofs.rows.PoolRows.key_into.Goals as goal

pub read_row-requires-clause-row : goal.read_row-requires-clause-row
read_row-requires-clause-row c =
    let u = c.self.inside.seat.me.0 in
    let r = known_some u.log c.args.i (subst (λ (p : Rows). IsSome (words_at (known p) c.args.i)) (sym c.self.view_is) c.requires) in
    (r.0, known_in u.log c.args.i r.0 r.1)

pub invariant_of-self : goal.invariant_of-self
invariant_of-self c =
    let p = c.self.inside in
    IsRows-keeps p.layout p.words.shared.table_id p.seat c.read_row.new.seat p.counts.items p.sums.items c.self.invariant c.read_row.ensures.seat c.read_row.ensures.keeps c.read_row.ensures.slots

pub returns-clause-grows : goal.returns-clause-grows
returns-clause-grows c =
    let w = c.read_row.new.seat.me.0 in
    subst (λ (p : Rows). Grows (known p) (known_of w.log)) c.self.view_is (known_grows c.self.inside.layout w.words c.self.inside.seat.me.0.log w.log c.read_row.ensures.seat.pool c.read_row.ensures.keeps.later.grows)

pub returns-clause-agrees : goal.returns-clause-agrees
returns-clause-agrees c = let w = c.read_row.new.seat.me.0 in pool_injective c.self.inside.layout w.words w.log c.read_row.ensures.seat.pool

pub returns-clause-words : goal.returns-clause-words
returns-clause-words c =
    let u = c.self.inside.seat.me.0 in
    let r = known_some u.log c.args.i (subst (λ (p : Rows). IsSome (words_at (known p) c.args.i)) (sym c.self.view_is) c.requires) in
    subst (λ (p : Rows). words_at (known p) c.args.i ≡ Some c.read_row.new.into) c.self.view_is (r.1 ∙ ap Some (sym (c.read_row.ensures.key r.0 (known_in u.log c.args.i r.0 r.1))))

pub returns-clause-rows : goal.returns-clause-rows
returns-clause-rows c =
    let p = c.self.inside in
    GoesOn-seat p.layout p.words.shared.table_id p.seat c.read_row.new.seat c.args.self.now c.self.view_is c.self.invariant.seat c.read_row.ensures.seat c.read_row.ensures.keeps.later.grows

pub returns-clause-same : goal.returns-clause-same
returns-clause-same c =
    let i = c.self.invariant in
    log_keeps c.self.inside.layout c.self.inside.seat.me.0 c.read_row.new.seat.me.0 i.seat.layout i.seat.laid i.owns c.read_row.ensures.keeps ∙ ap (λ (p : Rows). p.view.log) c.self.view_is
