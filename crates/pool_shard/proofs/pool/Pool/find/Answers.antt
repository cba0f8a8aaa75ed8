use Rattle.std.proofs.Common.{◌≡◌, subst, sym, Some, IfSome, IfNone}
use Rattle.type_form.specs.declared.index.Index.{Index}
use Rattle.type_form.specs.Known.{words_at}
use Rattle.type_form.specs.Words.{index_of}
use Rattle.type_form.specs.Means.{Grows}
use Rattle.pool_shard.specs.Pairs.{Rows, known, known_of}
use Rattle.pool_shard.proofs.Counting.{GoesOn-seat}
use Rattle.pool_shard.proofs.Knowing.{known_in, pool_known, pool_injective, known_grows}
use Rattle.pool_shard.proofs.Sharing.{seat_named}
use Rattle.pool_shard.proofs.pool.Pool.find.Goals as goal
use Rattle.pool_shard.proofs.pool.Pool.find.Goals.{in-Some, in-None}

pub returns-clause-grows : goal.returns-clause-grows
returns-clause-grows g c =
    let w = c.find_by.new.seat.me.0 in
    subst (λ (p : Rows). Grows (known p) (known_of w.log)) c.seat.view_is (known_grows c.self.inside.layout w.words c.seat.inside.seat.me.0.log w.log c.find_by.ensures.seat.pool c.find_by.ensures.keeps.later.grows)

pub returns-clause-agrees : goal.returns-clause-agrees
returns-clause-agrees g c = let w = c.find_by.new.seat.me.0 in pool_injective c.self.inside.layout w.words w.log c.find_by.ensures.seat.pool

pub returns-clause-found : goal.returns-clause-found
returns-clause-found g c =
    let w = c.find_by.new.seat.me.0 in
    let P = λ (i : Index). words_at (known_of w.log) i ≡ Some c.args.key.now in
    elim c.match-find_by.branch [
      | in-Some b ↦ subst (λ r. IfSome r P) (sym b.result-is) (pool_known c.self.inside.layout w.words w.log (index_of b.in-Some.place) c.args.key.now c.find_by.ensures.seat.pool b.in-Some.ensures.found)
      | in-None b ↦ subst (λ r. IfSome r P) (sym b.result-is) tt
    ]

pub returns-clause-absent : goal.returns-clause-absent
returns-clause-absent g c =
    let P = (i : Index) → words_at (known c.args.seat.now) i ≡ Some c.args.key.now → ⊥ in
    let u = c.seat.inside.seat.me.0 in
    elim c.match-find_by.branch [
      | in-Some b ↦ subst (λ r. IfNone r P) (sym b.result-is) tt
      | in-None b ↦ subst (λ r. IfNone r P) (sym b.result-is) (λ i e. b.in-None.ensures.absent i.0 (known_in u.log i c.args.key.now (subst (λ (p : Rows). words_at (known p) i ≡ Some c.args.key.now) (sym c.seat.view_is) e)))
    ]

pub returns-clause-rows : goal.returns-clause-rows
returns-clause-rows g c =
    let p = c.self.inside in
    let q = c.seat.inside.seat in
    let s = seat_named _ p.layout p.words.shared.table_id _ _ _ c.args.seat.now q c.self.invariant c.seat.view_is c.requires.of c.seat.invariant in
    GoesOn-seat p.layout p.words.shared.table_id q c.find_by.new.seat c.args.seat.now c.seat.view_is s c.find_by.ensures.seat c.find_by.ensures.keeps.later.grows
