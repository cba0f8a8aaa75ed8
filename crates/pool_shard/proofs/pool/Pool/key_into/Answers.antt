use Rattle.std.proofs.Common.{◌≡◌, ◌∙◌, ap, subst, sym, Some, IsSome}
use Rattle.type_form.specs.Known.{words_at}
use Rattle.type_form.specs.Means.{Grows}
use Rattle.pool_shard.specs.Pairs.{Rows, known, known_of}
use Rattle.pool_shard.proofs.Counting.{GoesOn-seat}
use Rattle.pool_shard.proofs.Knowing.{known_in, known_some, pool_injective, known_grows}
use Rattle.pool_shard.proofs.Sharing.{seat_named}
use Rattle.pool_shard.proofs.pool.Pool.key_into.Goals as goal

pub read_row-requires-clause-row : goal.read_row-requires-clause-row
read_row-requires-clause-row g c =
    let u = c.seat.inside.seat.me.0 in
    let r = known_some u.log c.args.i (subst (λ (p : Rows). IsSome (words_at (known p) c.args.i)) (sym c.seat.view_is) c.requires.known) in
    (r.0, known_in u.log c.args.i r.0 r.1)

pub returns-clause-grows : goal.returns-clause-grows
returns-clause-grows g c =
    let w = c.read_row.new.seat.me.0 in
    subst (λ (p : Rows). Grows (known p) (known_of w.log)) c.seat.view_is (known_grows c.self.inside.layout w.words c.seat.inside.seat.me.0.log w.log c.read_row.ensures.seat.pool c.read_row.ensures.keeps.later.grows)

pub returns-clause-agrees : goal.returns-clause-agrees
returns-clause-agrees g c = let w = c.read_row.new.seat.me.0 in pool_injective c.self.inside.layout w.words w.log c.read_row.ensures.seat.pool

pub returns-clause-words : goal.returns-clause-words
returns-clause-words g c =
    let u = c.seat.inside.seat.me.0 in
    let r = known_some u.log c.args.i (subst (λ (p : Rows). IsSome (words_at (known p) c.args.i)) (sym c.seat.view_is) c.requires.known) in
    subst (λ (p : Rows). words_at (known p) c.args.i ≡ Some c.read_row.new.into) c.seat.view_is (r.1 ∙ ap Some (sym (c.read_row.ensures.key r.0 (known_in u.log c.args.i r.0 r.1))))

pub returns-clause-rows : goal.returns-clause-rows
returns-clause-rows g c =
    let p = c.self.inside in
    let q = c.seat.inside.seat in
    let s = seat_named _ p.layout p.words.shared.table_id _ _ _ c.args.seat.now q c.self.invariant c.seat.view_is c.requires.of c.seat.invariant in
    GoesOn-seat p.layout p.words.shared.table_id q c.read_row.new.seat c.args.seat.now c.seat.view_is s c.read_row.ensures.seat c.read_row.ensures.keeps.later.grows
