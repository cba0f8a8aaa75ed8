use Rattle.std.proofs.Common.{◌≡◌, subst, sym, Some, IfOk, IfErr}
use Rattle.type_form.specs.declared.index.Index.{Index}
use Rattle.type_form.specs.Known.{words_at}
use Rattle.type_form.specs.Words.{index_of}
use Rattle.type_form.specs.Means.{Grows}
use Rattle.pool_shard.specs.Pairs.{Rows, known, known_of}
use Rattle.pool_shard.proofs.Counting.{GoesOn-seat}
use Rattle.pool_shard.proofs.Knowing.{known_in, pool_known, pool_injective, known_grows}
use Rattle.pool_shard.proofs.Sharing.{seat_named, pool_seen}
use Rattle.pool_shard.proofs.pool.Pool.intern.Goals as goal
use Rattle.pool_shard.proofs.pool.Pool.intern.Goals.{in-Ok, in-Err}

pub returns-clause-grows : goal.returns-clause-grows
returns-clause-grows g c =
    let w = c.ask.new.seat.me.0 in
    subst (λ (p : Rows). Grows (known p) (known_of w.log)) c.seat.view_is (known_grows c.args.self.now.layout w.words c.seat.inside.seat.me.0.log w.log c.ask.ensures.seat.pool c.ask.ensures.log)

pub returns-clause-agrees : goal.returns-clause-agrees
returns-clause-agrees g c = let w = c.ask.new.seat.me.0 in pool_injective c.args.self.now.layout w.words w.log c.ask.ensures.seat.pool

pub returns-clause-place : goal.returns-clause-place
returns-clause-place g c =
    let w = c.ask.new.seat.me.0 in
    let P = λ (i : Index). words_at (known_of w.log) i ≡ Some c.args.key.now in
    elim c.match-ask.branch [
      | in-Ok b ↦ subst (λ r. IfOk r P) (sym b.result-is) (pool_known c.args.self.now.layout w.words w.log (index_of b.in-Ok.place) c.args.key.now c.ask.ensures.seat.pool b.in-Ok.ensures.place)
      | in-Err b ↦ subst (λ r. IfOk r P) (sym b.result-is) tt
    ]

pub returns-clause-absent : goal.returns-clause-absent
returns-clause-absent g c =
    let w = c.ask.new.seat.me.0 in
    let P = (i : Index) → words_at (known_of w.log) i ≡ Some c.args.key.now → ⊥ in
    elim c.match-ask.branch [
      | in-Ok b ↦ subst (λ r. IfErr r (λ e. P)) (sym b.result-is) tt
      | in-Err b ↦ subst (λ r. IfErr r (λ e. P)) (sym b.result-is) (λ i e. b.in-Err.ensures.absent i.0 (known_in w.log i c.args.key.now e))
    ]

pub returns-clause-rows : goal.returns-clause-rows
returns-clause-rows g c =
    let i = c.args.self.now in
    let q = c.seat.inside.seat in
    let p = pool_seen _ _ _ _ _ _ i c.self.invariant c.self.view_is in
    let s = seat_named _ i.layout i.table _ _ _ c.args.seat.now q p c.seat.view_is c.requires.of c.seat.invariant in
    GoesOn-seat i.layout i.table q c.ask.new.seat c.args.seat.now c.seat.view_is s c.ask.ensures.seat c.ask.ensures.log
