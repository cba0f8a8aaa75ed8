-- Settled levels: nothing changes after one, and where at most so many units are known at it, the last level is one.
use Rattle.std.proofs.Common.{◌≡◌, Bool, true, false, ℕ, zero, suc, ◌+◌, ◌*◌, ◌≤◌, cond, List, [], ◌∷◌, ◌++◌, length, ◌⊎◌, Option, Some, None, is_some, count_by, flat_map, refl, sym, ap, ◌∙◌, subst, inl, inr, arith, length-append, append-nil}
use Rattle.std.proofs.Common.{eq-or-lt_of_le}
use Rattle.std.proofs.Math.Path.{fun_ext}
use Rattle.std.proofs.lemmas.Bool.{cases_lt}
use Rattle.std.proofs.lemmas.List.Sums.{sum_by-cons, sum_by-append, count_by-le-length}
use Rattle.std.specs.Prelude.{if◌then◌else◌}
use Rattle.std.specs.List.{Contains}
use Rattle.question_runs.specs.Rounds.{Language, run_by, result_of}
use Rattle.unit_levels.specs.Levels.{TellsUnits, has_unit, with_units, met_in, units_at, result_at, run_at_level, IsSettled, last_level}
use Rattle.unit_levels.proofs.UnitLists.{nothing-in, Contains-cases, has-Contains}
use Rattle.unit_levels.proofs.Growth.{known-front, result-next}

-- ---- after a settled level

none-before : {R : Type 0} (x y : Option R) → ((r : R) → x ≡ Some r → y ≡ Some r) → y ≡ None → x ≡ None
none-before None y up none = refl
none-before (Some r) y up none = let there : y ≡ Some r = up r refl in absurd (cc)

-- what is known and done at the level after
abbrev units_after : {Q A U R : Type 0} → Language Q A U R → (Q → A) → List U → (U → Option R) → List U
units_after l files known done = with_units l known (flat_map (λ u. met_in l (run_by l files done u)) known)

abbrev results_after : {Q A U R : Type 0} → Language Q A U R → (Q → A) → List U → (U → Option R) → U → Option R
results_after l files known done u = if has_unit l known u then result_of l (run_by l files done u) else None

module _ {Q A U R : Type 0} (l : Language Q A U R) (tells : TellsUnits l) (files : Q → A) (roots : List U) where
  same-result : (n : ℕ) (u : U) (b : Bool) → has_unit l (units_at l files roots n) u ≡ b → IsSettled l files roots n → result_at l files roots (suc n) u ≡ result_at l files roots n u
  same-result n u true is settled = settled.finished u (has-Contains l tells (units_at l files roots n) u is)
  same-result n u false is settled =
      let none : result_at l files roots (suc n) u ≡ None = ap (λ b. if b then result_of l (run_at_level l files roots n u) else None) is in
      none ∙ sym (none-before (result_at l files roots n u) (result_at l files roots (suc n) u) (result-next l files roots n u) none)

  -- at the next level each unit has what it had, known or not
  same-next : (n : ℕ) → IsSettled l files roots n → result_at l files roots (suc n) ≡ result_at l files roots n
  same-next n settled = fun_ext (λ u. same-result n u (has_unit l (units_at l files roots n) u) refl settled)

  -- so each later level is as it was
  pub same-later : (n m : ℕ) → n ≤ m → IsSettled l files roots n → (units_at l files roots m ≡ units_at l files roots n) × (result_at l files roots m ≡ result_at l files roots n)
  same-later n zero below settled = let is : zero ≡ n = omega arith in (ap (units_at l files roots) is, ap (result_at l files roots) is)
  same-later n (suc m) below settled = elim (eq-or-lt_of_le below) [
    | inl is ↦ (ap (units_at l files roots) (sym is), ap (result_at l files roots) (sym is))
    | inr less ↦
        let (known, done) = same-later n m (omega arith) settled in
        let units : units_at l files roots (suc m) ≡ units_at l files roots (suc n) = ap (λ us. units_after l files us (result_at l files roots m)) known ∙ ap (units_after l files (units_at l files roots n)) done in
        let results : result_at l files roots (suc m) ≡ result_at l files roots (suc n) = ap (λ us. results_after l files us (result_at l files roots m)) known ∙ ap (results_after l files (units_at l files roots n)) done in
        (units ∙ settled.known, results ∙ same-next n settled)
  ]

  settled-next : (n : ℕ) → IsSettled l files roots n → IsSettled l files roots (suc n)
  settled-next n settled =
      let now = same-later n (suc n) (omega arith) settled in
      let later = same-later n (suc (suc n)) (omega arith) settled in
      record {
        known = later.0 ∙ sym now.0;
        finished = λ u among. ap (λ f. f u) (later.1 ∙ sym now.1);
      }

-- ---- how many of some units have a result

some-le : {R : Type 0} (x y : Option R) → ((r : R) → x ≡ Some r → y ≡ Some r) → cond (is_some x) 1 0 ≤ cond (is_some y) 1 0
some-le None y up = omega arith
some-le (Some r) y up = subst (λ z. 1 ≤ cond (is_some z) 1 0) (sym (up r refl)) (omega arith)

some-same : {R : Type 0} (x y : Option R) → ((r : R) → x ≡ Some r → y ≡ Some r) → cond (is_some y) 1 0 ≤ cond (is_some x) 1 0 → y ≡ x
some-same (Some r) y up below = up r refl
some-same None None up below = refl
some-same None (Some r) up below = absurd (omega arith)

nothing-long : {X : Type 0} (xs : List X) → length xs ≤ 0 → xs ≡ []
nothing-long [] below = refl
nothing-long (x ∷ xs) below = absurd (omega arith)

module _ {Q A U R : Type 0} (l : Language Q A U R) (files : Q → A) (roots : List U) where
  abbrev with_result : ℕ → List U → ℕ
  with_result n us = count_by (λ u. is_some (result_at l files roots n u)) us

  with_result-cons : (n : ℕ) (u : U) (us : List U) → with_result n (u ∷ us) ≡ cond (is_some (result_at l files roots n u)) 1 0 + with_result n us
  with_result-cons n u us = sum_by-cons (λ v. cond (is_some (result_at l files roots n v)) 1 0) u us

  with_result-front : (n : ℕ) (us more : List U) → with_result n (us ++ more) ≡ with_result n us + with_result n more
  with_result-front n us more = sum_by-append (λ u. cond (is_some (result_at l files roots n u)) 1 0) us more

  some-next : (n : ℕ) (u : U) → cond (is_some (result_at l files roots n u)) 1 0 ≤ cond (is_some (result_at l files roots (suc n) u)) 1 0
  some-next n u = some-le (result_at l files roots n u) (result_at l files roots (suc n) u) (result-next l files roots n u)

  with_result-grows : (n : ℕ) (us : List U) → with_result n us ≤ with_result (suc n) us
  with_result-grows n [] = omega arith
  with_result-grows n (u ∷ us) = omega (arith, with_result-cons n u us, with_result-cons (suc n) u us, some-next n u, with_result-grows n us)

  -- where no more of them have one at the next level, each has what it had
  with_result-same : (n : ℕ) (us : List U) → with_result (suc n) us ≤ with_result n us → (u : U) → Contains us u → result_at l files roots (suc n) u ≡ result_at l files roots n u
  with_result-same n [] below u among = absurd (nothing-in u among)
  with_result-same n (v ∷ us) below u among =
      let e = with_result-cons n v us in
      let e' = with_result-cons (suc n) v us in
      let first = some-next n v in
      let rest = with_result-grows n us in
      elim (Contains-cases v us u among) [
        | inl is ↦ subst (λ w. result_at l files roots (suc n) w ≡ result_at l files roots n w) is (some-same (result_at l files roots n v) (result_at l files roots (suc n) v) (result-next l files roots n v) (omega arith))
        | inr later ↦ with_result-same n us (omega arith) u later
      ]

  -- known units, and those with a result counted again
  abbrev size_at : ℕ → ℕ
  size_at n = length (units_at l files roots n) + with_result n (units_at l files roots n)

  size-most : (n most : ℕ) → length (units_at l files roots n) ≤ most → size_at n ≤ 2 * most
  size-most n most below = omega (arith, count_by-le-length (λ u. is_some (result_at l files roots n u)) (units_at l files roots n))

  -- where the size grows no further, the level is settled
  settled-here : (n : ℕ) → size_at (suc n) ≤ size_at n → IsSettled l files roots n
  settled-here n below =
      let known : List U = units_at l files roots n in
      let front : (more : List U) × (units_at l files roots (suc n) ≡ known ++ more) = known-front l files roots n (suc n) (omega arith) in
      let long : length (units_at l files roots (suc n)) ≡ length known + length front.0 = ap (λ us. length us) front.1 ∙ length-append known front.0 in
      let count : with_result (suc n) (units_at l files roots (suc n)) ≡ with_result (suc n) known + with_result (suc n) front.0 = ap (λ us. with_result (suc n) us) front.1 ∙ with_result-front (suc n) known front.0 in
      let up : with_result n known ≤ with_result (suc n) known = with_result-grows n known in
      let none : front.0 ≡ [] = nothing-long front.0 (omega arith) in
      record {
        known = front.1 ∙ ap (λ us. known ++ us) none ∙ append-nil known;
        finished = λ u among. with_result-same n known (omega arith) u among;
      }

module _ {Q A U R : Type 0} (l : Language Q A U R) (tells : TellsUnits l) (files : Q → A) (roots : List U) where
  -- each level is settled, or has a size of at least its number
  settled-or-large : (n : ℕ) → IsSettled l files roots n ⊎ (n ≤ size_at l files roots n)
  settled-or-large zero = inr (omega arith)
  settled-or-large (suc n) = elim (settled-or-large n) [
    | inl settled ↦ inl (settled-next l tells files roots n settled)
    | inr large ↦ elim (cases_lt (size_at l files roots n) (size_at l files roots (suc n))) [
      | inl more ↦ inr (omega arith)
      | inr below ↦ inl (settled-next l tells files roots n (settled-here l files roots n below))
    ]
  ]

  -- where at most so many units are known at it, the last level is settled
  pub last-settled : (most : ℕ) → length (units_at l files roots (last_level most)) ≤ most → IsSettled l files roots (last_level most)
  last-settled most few = elim (settled-or-large (last_level most)) [
    | inl settled ↦ settled
    | inr large ↦ let small = size-most l files roots (last_level most) most few in absurd (omega arith)
  ]
