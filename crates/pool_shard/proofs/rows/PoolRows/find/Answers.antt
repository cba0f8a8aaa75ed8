use Rattle.std.proofs.Common.{◌≡◌, ◌∙◌, ap, subst, sym, Some, IfSome, IfNone}
use Rattle.type_form.specs.declared.index.Index.{Index}
use Rattle.type_form.specs.Known.{words_at}
use Rattle.type_form.specs.Words.{index_of}
use Rattle.type_form.specs.Means.{Grows}
use Rattle.pool_shard.specs.Pairs.{Rows, known, known_of}
use Rattle.pool_shard.proofs.Counting.{IsRows-keeps, GoesOn-seat}
use Rattle.pool_shard.proofs.Knowing.{known_in, pool_known, pool_injective, known_grows}
use Rattle.pool_shard.proofs.Logs.{log_keeps}
use Rattle.pool_shard.proofs.rows.PoolRows.find.Goals as goal
use Rattle.pool_shard.proofs.rows.PoolRows.find.Goals.{in-Some, in-None}

pub invariant_of-self : goal.invariant_of-self
invariant_of-self c =
    let p = c.self.inside in
    IsRows-keeps p.layout p.words.shared.table_id p.seat c.find_by.new.seat p.counts.items p.sums.items c.self.invariant c.find_by.ensures.seat c.find_by.ensures.keeps c.find_by.ensures.slots

pub returns-clause-grows : goal.returns-clause-grows
returns-clause-grows c =
    let w = c.find_by.new.seat.me.0 in
    subst (λ (p : Rows). Grows (known p) (known_of w.log)) c.self.view_is (known_grows c.self.inside.layout w.words c.self.inside.seat.me.0.log w.log c.find_by.ensures.seat.pool c.find_by.ensures.keeps.later.grows)

pub returns-clause-agrees : goal.returns-clause-agrees
returns-clause-agrees c = let w = c.find_by.new.seat.me.0 in pool_injective c.self.inside.layout w.words w.log c.find_by.ensures.seat.pool

pub returns-clause-found : goal.returns-clause-found
returns-clause-found c =
    let w = c.find_by.new.seat.me.0 in
    let P = λ (i : Index). words_at (known_of w.log) i ≡ Some c.args.key.now in
    elim c.match-find_by.branch [
      | in-Some b ↦ subst (λ r. IfSome r P) (sym b.result-is) (pool_known c.self.inside.layout w.words w.log (index_of b.in-Some.place) c.args.key.now c.find_by.ensures.seat.pool b.in-Some.ensures.found)
      | in-None b ↦ subst (λ r. IfSome r P) (sym b.result-is) tt
    ]

pub returns-clause-absent : goal.returns-clause-absent
returns-clause-absent c =
    let P = (i : Index) → words_at (known c.args.self.now) i ≡ Some c.args.key.now → ⊥ in
    let u = c.self.inside.seat.me.0 in
    elim c.match-find_by.branch [
      | in-Some b ↦ subst (λ r. IfNone r P) (sym b.result-is) tt
      | in-None b ↦ subst (λ r. IfNone r P) (sym b.result-is) (λ i e. b.in-None.ensures.absent i.0 (known_in u.log i c.args.key.now (subst (λ (p : Rows). words_at (known p) i ≡ Some c.args.key.now) (sym c.self.view_is) e)))
    ]

pub returns-clause-rows : goal.returns-clause-rows
returns-clause-rows c =
    let p = c.self.inside in
    GoesOn-seat p.layout p.words.shared.table_id p.seat c.find_by.new.seat c.args.self.now c.self.view_is c.self.invariant.seat c.find_by.ensures.seat c.find_by.ensures.keeps.later.grows

pub returns-clause-same : goal.returns-clause-same
returns-clause-same c =
    let i = c.self.invariant in
    log_keeps c.self.inside.layout c.self.inside.seat.me.0 c.find_by.new.seat.me.0 i.seat.layout i.seat.laid i.owns c.find_by.ensures.keeps ∙ ap (λ (p : Rows). p.view.log) c.self.view_is
