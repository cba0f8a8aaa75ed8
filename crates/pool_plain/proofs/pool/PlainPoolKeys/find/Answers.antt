use Rattle.std.proofs.Common.{◌≡◌, ◌∙◌, ap, subst, sym, Some, None, Option, List, ℕ, IfSome, IfNone}
use Rattle.type_form.specs.declared.index.Index.{Index}
use Rattle.type_form.specs.Known.{words_at, IsInjective}
use Rattle.type_form.specs.Words.{index_of}
use Rattle.pool_plain.specs.Rows.{numbered, place_in}
use Rattle.pool_plain.proofs.RowLemmas.{Matches-injective, known_at}
use Rattle.pool_plain.proofs.pool.PlainPoolKeys.find.Goals as goal
use Rattle.pool_plain.proofs.pool.PlainPoolKeys.find.Goals.{in-Some, in-None}

pub returns-clause-agrees : goal.returns-clause-agrees
returns-clause-agrees c = subst (λ r. IsInjective (numbered 0 r)) c.self.view_is (Matches-injective c.self.inside.places c.self.inside.rows.items c.self.invariant)

pub returns-clause-found : goal.returns-clause-found
returns-clause-found c =
    let P = λ (i : Index). words_at (numbered 0 c.args.self.now) i ≡ Some c.args.key.now in
    elim c.match-place_of.branch [
      | in-Some w ↦ subst (λ r. IfSome r P) (sym w.result-is)
          (subst (λ r. words_at (numbered 0 r) (index_of w.in-Some.place) ≡ Some c.args.key.now) c.self.view_is
          (known_at c.self.inside.rows.items (index_of w.in-Some.place) ∙ c.self.invariant.found c.args.key.now w.in-Some.place (sym c.place_of.ensures ∙ w.in-Some.is)))
      | in-None w ↦ subst (λ r. IfSome r P) (sym w.result-is) tt
    ]

pub returns-clause-absent : goal.returns-clause-absent
returns-clause-absent c =
    let P = (i : Index) → words_at (numbered 0 c.args.self.now) i ≡ Some c.args.key.now → ⊥ in
    elim c.match-place_of.branch [
      | in-Some w ↦ subst (λ r. IfNone r P) (sym w.result-is) tt
      | in-None w ↦ subst (λ r. IfNone r P) (sym w.result-is)
          (λ i e. let there = c.self.invariant.placed c.args.key.now i.0 (sym (known_at c.self.inside.rows.items i) ∙ subst (λ r. words_at (numbered 0 r) i ≡ Some c.args.key.now) (sym c.self.view_is) e) in
          none_some i.0 (sym w.in-None.is ∙ c.place_of.ensures ∙ there))
    ]
  where
    none_some : (n : ℕ) → (let o : Option ℕ = None in o) ≡ Some n → ⊥
    none_some n e = cc
