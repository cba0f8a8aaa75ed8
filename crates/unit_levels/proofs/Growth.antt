-- What is known and done at a level is sound, without repeats, and stays at each later one; and how runs go on with the level.
use Rattle.std.proofs.Common.{◌≡◌, Bool, true, false, ℕ, zero, suc, ◌≤◌, List, [], ◌++◌, length, Option, Some, None, refl, sym, ap, ◌∙◌, subst, inl, inr, arith, append_assoc, append-nil, length-append, flat_map}
use Rattle.std.proofs.Common.{eq-or-lt_of_le}
use Rattle.std.specs.Prelude.{if◌then◌else◌}
use Rattle.std.specs.List.{Contains, IsDistinct}
use Rattle.std.proofs.lemmas.List.Elements.{Contains-append_left}
use Rattle.question_runs.specs.Runs.{IsOver}
use Rattle.question_runs.specs.RunLaws.{Lower, Continues}
use Rattle.question_runs.specs.Rounds.{Language, result_of, needs, Meets, round, run_at, Demanded, root, met}
use Rattle.question_runs.specs.RestLaws.{IsSound}
use Rattle.question_runs.proofs.GrowingRounds.{run_by-continues, continues-result, continues-meets}
use Rattle.question_runs.proofs.KeptRuns.{continues-over}
use Rattle.unit_levels.specs.Levels.{TellsUnits, has_unit, met_in, units_at, result_at, run_at_level}
use Rattle.unit_levels.proofs.UnitLists.{nothing-in, Contains-flat_map, flat_map-Contains, Meets-met_in, met_in-Meets, has_unit-front, with_units-front, with_units-only, with_units-has, with_units-distinct, has-Contains, Contains-has}
use Rattle.unit_levels.proofs.Waiting.{stays}

-- what is there under a test is there
if-result : {R : Type 0} (b : Bool) (x : Option R) (r : R) → (if b then x else None) ≡ Some r → x ≡ Some r
if-result true x r e = e
if-result false x r e = absurd (cc)

-- and the test holds
if-test : {R : Type 0} (b : Bool) (x : Option R) (r : R) → (if b then x else None) ≡ Some r → b ≡ true
if-test true x r e = refl
if-test false x r e = absurd (cc)

-- what is there stays, where the test does and it does
if-stays : {R : Type 0} (b c : Bool) (x y : Option R) (r : R) → (b ≡ true → c ≡ true) → (x ≡ Some r → y ≡ Some r) → (if b then x else None) ≡ Some r → (if c then y else None) ≡ Some r
if-stays false c x y r up go e = absurd (cc)
if-stays true true x y r up go e = go e
if-stays true false x y r up go e = let no : false ≡ true = up refl in absurd (cc)

module _ {Q A U R : Type 0} (l : Language Q A U R) (files : Q → A) (roots : List U) where
  -- what runs of known units meet at a level
  abbrev pub met_at : ℕ → List U
  met_at n = flat_map (λ u. met_in l (run_at_level l files roots n u)) (units_at l files roots n)

  pub met_at-Meets : (n : ℕ) (v : U) → Contains (met_at n) v → (u : U) × Contains (units_at l files roots n) u × Meets l (run_at_level l files roots n u) v
  met_at-Meets n v among =
      let at = flat_map-Contains (λ u. met_in l (run_at_level l files roots n u)) (units_at l files roots n) v among in
      (at.0, at.1, met_in-Meets l (run_at_level l files roots n at.0) v at.2)

  -- ---- levels are sound

  -- the results of a level are those of the round
  pub result-round : (n : ℕ) → Lower (result_at l files roots n) (round l files n)
  result-round zero u r e = absurd (cc)
  result-round (suc n) u r e =
      let c : Continues (run_at_level l files roots n u) (run_at l files n u) = run_by-continues l files (result_at l files roots n) (round l files n) (result-round n) u in
      continues-result l (run_at_level l files roots n u) (run_at l files n u) r c (if-result (has_unit l (units_at l files roots n) u) (result_of l (run_at_level l files roots n u)) r e)

  -- known units are demanded
  pub known-demanded : (n : ℕ) (u : U) → Contains (units_at l files roots n) u → Demanded l files roots u
  known-demanded zero u among = elim (with_units-only l [] roots u among) [
    | inl none ↦ absurd (nothing-in u none)
    | inr is ↦ root is
  ]
  known-demanded (suc n) u among = elim (with_units-only l (units_at l files roots n) (met_at n) u among) [
    | inl old ↦ known-demanded n u old
    | inr new ↦
        let at = met_at-Meets n u new in
        let c : Continues (run_at_level l files roots n at.0) (run_at l files n at.0) = run_by-continues l files (result_at l files roots n) (round l files n) (result-round n) at.0 in
        met (known-demanded n at.0 at.1) n (continues-meets l (run_at_level l files roots n at.0) (run_at l files n at.0) u c at.2)
  ]

  pub sound-at : (n : ℕ) → IsSound l files roots (units_at l files roots n) (result_at l files roots n)
  sound-at n = record { demanded = known-demanded n; below = (n, result-round n) }

  -- ---- levels grow

  known-next : (n : ℕ) → (more : List U) × (units_at l files roots (suc n) ≡ units_at l files roots n ++ more)
  known-next n = with_units-front l (units_at l files roots n) (met_at n)

  -- what is known at a level is known at each later one, in front
  pub known-front : (n m : ℕ) → n ≤ m → (more : List U) × (units_at l files roots m ≡ units_at l files roots n ++ more)
  known-front n zero below = let is : zero ≡ n = omega arith in ([], ap (units_at l files roots) is ∙ sym (append-nil (units_at l files roots n)))
  known-front n (suc m) below = elim (eq-or-lt_of_le below) [
    | inl is ↦ ([], ap (units_at l files roots) (sym is) ∙ sym (append-nil (units_at l files roots n)))
    | inr less ↦
        let first = known-front n m (omega arith) in
        let next = known-next m in
        (first.0 ++ next.0, next.1 ∙ ap (λ us. us ++ next.0) first.1 ∙ append_assoc (units_at l files roots n) first.0 next.0)
  ]

  pub known-grows : (n m : ℕ) → n ≤ m → (u : U) → Contains (units_at l files roots n) u → Contains (units_at l files roots m) u
  known-grows n m below u among = let front = known-front n m below in subst (λ us. Contains us u) (sym front.1) (Contains-append_left (units_at l files roots n) front.0 u among)

  pub known-length : (n m : ℕ) → n ≤ m → length (units_at l files roots n) ≤ length (units_at l files roots m)
  known-length n m below =
      let front : (more : List U) × (units_at l files roots m ≡ units_at l files roots n ++ more) = known-front n m below in
      let long : length (units_at l files roots m) ≡ length (units_at l files roots n ++ front.0) = ap (λ us. length us) front.1 in
      omega (arith, long, length-append (units_at l files roots n) front.0)

  known-has : (n : ℕ) (u : U) → has_unit l (units_at l files roots n) u ≡ true → has_unit l (units_at l files roots (suc n)) u ≡ true
  known-has n u is = let front = known-next n in subst (λ us. has_unit l us u ≡ true) (sym front.1) (has_unit-front l (units_at l files roots n) front.0 u is)

  -- a result at a level is there at the next one
  pub result-next : (n : ℕ) → Lower (result_at l files roots n) (result_at l files roots (suc n))
  result-next zero u r e = absurd (cc)
  result-next (suc n) u r e =
      let c : Continues (run_at_level l files roots n u) (run_at_level l files roots (suc n) u) = run_by-continues l files (result_at l files roots n) (result_at l files roots (suc n)) (result-next n) u in
      if-stays (has_unit l (units_at l files roots n) u) (has_unit l (units_at l files roots (suc n)) u) (result_of l (run_at_level l files roots n u)) (result_of l (run_at_level l files roots (suc n) u)) r (known-has n u) (continues-result l (run_at_level l files roots n u) (run_at_level l files roots (suc n) u) r c) e

  -- and at each later one
  pub result-stays : (n m : ℕ) → n ≤ m → Lower (result_at l files roots n) (result_at l files roots m)
  result-stays n zero below u r e = let is : n ≡ zero = omega arith in subst (λ k. result_at l files roots k u ≡ Some r) is e
  result-stays n (suc m) below u r e = elim (eq-or-lt_of_le below) [
    | inl is ↦ subst (λ k. result_at l files roots k u ≡ Some r) is e
    | inr less ↦ result-next m u r (result-stays n m (omega arith) u r e)
  ]

  -- ---- runs at later levels

  pub run-continues : (n m : ℕ) (u : U) → n ≤ m → Continues (run_at_level l files roots n u) (run_at_level l files roots m u)
  run-continues n m u below = run_by-continues l files (result_at l files roots n) (result_at l files roots m) (result-stays n m below) u

  -- a run that is over is the same at each later level
  pub over-stays : (n m : ℕ) (u : U) → n ≤ m → IsOver (run_at_level l files roots n u) → run_at_level l files roots m u ≡ run_at_level l files roots n u
  over-stays n m u below over = continues-over (run_at_level l files roots n u) (run_at_level l files roots m u) (run-continues n m u below) over

  -- and so is one that stops for a unit that has no result there either
  pub waiting-stays : (n m : ℕ) (u v : U) → n ≤ m → needs l (run_at_level l files roots n u) ≡ Some v → result_at l files roots m v ≡ None → run_at_level l files roots m u ≡ run_at_level l files roots n u
  waiting-stays n m u v below need none = stays l files (result_at l files roots n) u v need (result_at l files roots m) (run-continues n m u below) none

module _ {Q A U R : Type 0} (l : Language Q A U R) (tells : TellsUnits l) (files : Q → A) (roots : List U) where
  -- no unit is known twice
  pub known-distinct : (n : ℕ) → IsDistinct l.same_unit (units_at l files roots n)
  unfolding IsDistinct
  known-distinct zero = with_units-distinct l tells [] roots tt
  known-distinct (suc n) = with_units-distinct l tells (units_at l files roots n) (met_at l files roots n) (known-distinct n)

  pub known-roots : (n : ℕ) (u : U) → Contains roots u → Contains (units_at l files roots n) u
  known-roots n u among = known-grows l files roots zero n (omega arith) u (with_units-has l tells [] roots u among)

  -- what the run of a known unit meets is known at the next level
  pub known-met : (n : ℕ) (u v : U) → Contains (units_at l files roots n) u → Meets l (run_at_level l files roots n u) v → Contains (units_at l files roots (suc n)) v
  known-met n u v among meets = with_units-has l tells (units_at l files roots n) (met_at l files roots n) v (Contains-flat_map (λ w. met_in l (run_at_level l files roots n w)) (units_at l files roots n) u v among (Meets-met_in l (run_at_level l files roots n u) v meets))

  -- the result of a known unit at the next level is what its run gives
  pub known-result : (n : ℕ) (u : U) → Contains (units_at l files roots n) u → result_at l files roots (suc n) u ≡ result_of l (run_at_level l files roots n u)
  known-result n u among = ap (λ b. if b then result_of l (run_at_level l files roots n u) else None) (Contains-has l tells (units_at l files roots n) u among)

  -- and known units alone have results
  pub result-known : (n : ℕ) (u : U) (r : R) → result_at l files roots n u ≡ Some r → Contains (units_at l files roots n) u
  result-known zero u r e = absurd (cc)
  result-known (suc n) u r e =
      let is = if-test (has_unit l (units_at l files roots n) u) (result_of l (run_at_level l files roots n u)) r e in
      known-grows l files roots n (suc n) (omega arith) u (has-Contains l tells (units_at l files roots n) u is)
