use Rattle.std.proofs.Common.{◌≡◌, ◌∙◌, ◌++◌, ◌≤◌, ap, refl, subst, sym, Some, None, List, [], ◌∷◌, ℕ, Option, length, slice_get, if◌then◌else◌}
use Rattle.std.specs.Str.{bytes_eq}
use Rattle.type_form.specs.Known.{words_at, IsInjective}
use Rattle.type_form.specs.Words.{index_of}
use Rattle.type_form.specs.Means.{Grows}
use Rattle.pool_plain.specs.Rows.{numbered, place_in, Matches}
use Rattle.pool_plain.proofs.RowLemmas.{Matches-injective, Matches-unchanged, Matches-added, Matches-grows, known_at, get_last-is}
use Rattle.pool_plain.proofs.pool.PlainPoolInterner.intern.Goals as goal

pub invariant_of-self : goal.invariant_of-self
invariant_of-self c =
    subst (Matches c.add.new.places) (sym c.in_err-place-in-None.ensures.rows_stay)
    (Matches-unchanged c.self.inside.places c.add.new.places c.self.inside.rows.items c.self.invariant c.in_err-place-in-None.ensures.places_stay)

pub returns-in_err-place-in-None-clause-agrees : goal.returns-in_err-place-in-None-clause-agrees
returns-in_err-place-in-None-clause-agrees c = Matches-injective c.add.new.places c.add.new.rows.items (invariant_of-self c)

-- the rows with the key at their end
added : (c : goal.In_ok-place-in-None) → Matches c.add.new.places (c.self.inside.rows.items ++ c.args.key.now ∷ [])
added c = Matches-added c.self.inside.places c.add.new.places c.self.inside.rows.items c.args.key.now c.self.invariant
    (sym c.place_of.ensures ∙ c.in-None.is) c.requires.few
    (λ cs. c.in_ok-place-in-None.ensures.places cs ∙ ap (λ (n : ℕ). if bytes_eq c.args.key.now cs then Some n else place_in c.self.inside.places cs) c.in_ok-place-in-None.ensures.place)

pub invariant_of-self-in-None : goal.invariant_of-self-in-None
invariant_of-self-in-None c = subst (Matches c.add.new.places) (sym c.in_ok-place-in-None.ensures.rows) (added c)

pub returns-in-Some-clause-agrees : goal.returns-in-Some-clause-agrees
returns-in-Some-clause-agrees c = subst (λ r. IsInjective (numbered 0 r)) c.self.view_is (Matches-injective c.self.inside.places c.self.inside.rows.items c.self.invariant)

pub returns-in-Some-clause-place : goal.returns-in-Some-clause-place
returns-in-Some-clause-place c =
    subst (λ r. words_at (numbered 0 r) (index_of c.in-Some.place) ≡ Some c.args.key.now) c.self.view_is
    (known_at c.self.inside.rows.items (index_of c.in-Some.place) ∙ c.self.invariant.found c.args.key.now c.in-Some.place (sym c.place_of.ensures ∙ c.in-Some.is))

pub returns-in_ok-place-in-None-clause-interns : goal.returns-in_ok-place-in-None-clause-interns
returns-in_ok-place-in-None-clause-interns c =
    let grown = Matches-grows c.add.new.places c.self.inside.rows.items c.args.key.now (added c) in
    let here = subst (λ r. Grows (numbered 0 c.self.inside.rows.items) (numbered 0 r)) (sym c.in_ok-place-in-None.ensures.rows) grown in
    record {
      grows = subst (λ r. Grows (numbered 0 r) (numbered 0 c.add.new.rows.items)) c.self.view_is here;
      same_home = refl;
      counts = refl;
    }

pub returns-in_ok-place-in-None-clause-agrees : goal.returns-in_ok-place-in-None-clause-agrees
returns-in_ok-place-in-None-clause-agrees c = Matches-injective c.add.new.places c.add.new.rows.items (invariant_of-self-in-None c)

pub returns-in_ok-place-in-None-clause-place : goal.returns-in_ok-place-in-None-clause-place
returns-in_ok-place-in-None-clause-place c =
    known_at c.add.new.rows.items (index_of c.in_ok-place-in-None.place)
    ∙ subst (λ r. (let o : Option (List ℕ) = slice_get r c.in_ok-place-in-None.place in o) ≡ Some c.args.key.now) (sym c.in_ok-place-in-None.ensures.rows)
    (get_last-is c.self.inside.rows.items c.args.key.now c.in_ok-place-in-None.place c.in_ok-place-in-None.ensures.place)
