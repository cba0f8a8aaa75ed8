-- The numbers of units.
use Rattle.std.proofs.Common.{◌≡◌, ℕ, zero, suc, ◌+◌, ◌<◌, ◌≤◌, ◌⊎◌, inl, inr, Bool, true, false, List, [], ◌∷◌, ◌++◌, Option, Some, None, length, take, get_or, refl, sym, ap, ap₂, ◌∙◌, if◌then◌else◌, arith, append-nil, append_assoc, length-append}
use Rattle.std.specs.Prelude.{slice_get, ◌||◌}
use Rattle.std.proofs.lemmas.Bool.{cases_lt}
use Rattle.std.proofs.lemmas.List.Folds.{list_any-append}
use Rattle.std.proofs.lemmas.Option.{slice_get_read, slice_get-get_or, slice_get_within}
use Rattle.trace_log.specs.declared.trace.Move.{Move}
use Rattle.trace_log.specs.declared.question.UnitIndex.{UnitIndex}
use Rattle.trace_log.specs.TableStates.{same_unit, PutsUnit}
use Rattle.trace_log.proofs.Sameness.{same_unit-self, same_unit-true}
use Rattle.unit_rounds.specs.KnownUnits.{has_index, with_index, with_indices, HasNumbers}
use Rattle.unit_rounds.specs.MetUnits.{unit_of_move, units_of_moves}
use Rattle.unit_rounds.specs.Standing.{IsFilled}
use Rattle.unit_rounds.proofs.UnitSteps.{slice_get-before, slice_get-front, some-one, take-next}

pub slice_get-last : {A : Type 0} (xs : List A) (x : A) → slice_get (xs ++ x ∷ []) (length xs) ≡ Some x
slice_get-last [] x = refl
slice_get-last (y ∷ xs) x = slice_get-last xs x

or-true : (a b : Bool) → b ≡ true → (a || b) ≡ true
or-true true b e = refl
or-true false b e = e

has-there : (us : List UnitIndex) (n : ℕ) (u : UnitIndex) → slice_get us n ≡ Some u → has_index us u ≡ true
has-there [] n u e = absurd (cc)
has-there (v ∷ us) zero u e = let one : v ≡ u = cc in ap (λ b. b || has_index us u) (ap (same_unit u) one ∙ same_unit-self u)
has-there (v ∷ us) (suc n) u e = or-true (same_unit u v) (has_index us u) (has-there us n u e)

-- a unit with a number is not put again
pub with-number : (known : List UnitIndex) (numbers : UnitIndex → Option ℕ) (u : UnitIndex) (n : ℕ) → HasNumbers known numbers → numbers u ≡ Some n → with_index known u ≡ known
with-number known numbers u n h e = ap (λ (b : Bool). if b then known else known ++ u ∷ []) (has-there known n u (h.finds u n e))

pub without-number : (known : List UnitIndex) (numbers : UnitIndex → Option ℕ) (u : UnitIndex) → HasNumbers known numbers → numbers u ≡ None → with_index known u ≡ known ++ u ∷ []
without-number known numbers u h e = ap (λ (b : Bool). if b then known else known ++ u ∷ []) (h.absent u e)

module _ (known : List UnitIndex) (old new : UnitIndex → Option ℕ) (u : UnitIndex) (n : ℕ) (h : HasNumbers known old) (at : n ≡ length known) (puts : PutsUnit old new u n) where
  found : (v : UnitIndex) (m : ℕ) (b : Bool) → same_unit v u ≡ b → (if b then Some n else old v) ≡ Some m → slice_get (known ++ u ∷ []) m ≡ Some v
  found v m true same e =
      let one : n ≡ m = cc in
      ap (slice_get (known ++ u ∷ [])) (sym one ∙ at) ∙ slice_get-last known u ∙ ap Some (sym (same_unit-true v u same))
  found v m false same e = slice_get-front known (u ∷ []) m v (h.finds v m e)

  missing : (v : UnitIndex) (b : Bool) → same_unit v u ≡ b → (if b then Some n else old v) ≡ None → has_index (known ++ u ∷ []) v ≡ false
  missing v true same e = absurd (cc)
  missing v false same e = list_any-append (same_unit v) known (u ∷ []) ∙ ap₂ (λ x y. x || (y || false)) (h.absent v e) same

  pub numbers-put : HasNumbers (known ++ u ∷ []) new
  numbers-put = record {
    finds = λ v m e. found v m (same_unit v u) refl (sym (puts v) ∙ e);
    absent = λ v e. missing v (same_unit v u) refl (sym (puts v) ∙ e);
  }

-- ---- units that are put one after the other

with_indices-append : (known us vs : List UnitIndex) → with_indices known (us ++ vs) ≡ with_indices (with_indices known us) vs
with_indices-append known [] vs = refl
with_indices-append known (u ∷ us) vs = with_indices-append (with_index known u) us vs

pub with_indices-push : (known us : List UnitIndex) (u : UnitIndex) → with_indices known (us ++ u ∷ []) ≡ with_index (with_indices known us) u
with_indices-push known us u = with_indices-append known us (u ∷ [])

take-more : {X : Type 0} (xs : List X) (i : ℕ) (x : X) → slice_get xs i ≡ Some x → take (i + 1) xs ≡ take i xs ++ x ∷ []
take-more xs i x e = let n : i + 1 ≡ suc i = omega arith in ap (λ m. take m xs) n ∙ take-next xs i x e

pub with_indices-more : (known us : List UnitIndex) (i : ℕ) (d : UnitIndex) → i < length us → with_indices known (take (i + 1) us) ≡ with_index (with_indices known (take i us)) (get_or us i d)
with_indices-more known us i d h = ap (with_indices known) (take-more us i (get_or us i d) (slice_get-get_or us i d h)) ∙ with_indices-push known (take i us) (get_or us i d)

pub next-known : (known us : List UnitIndex) (i : ℕ) (d : UnitIndex) (before now : List UnitIndex) → i < length us → before ≡ with_indices known (take i us) → now ≡ with_index before (get_or us i d) → now ≡ with_indices known (take (i + 1) us)
next-known known us i d before now h e f = f ∙ ap (λ k. with_index k (get_or us i d)) e ∙ sym (with_indices-more known us i d h)

units_of_moves-push : (ms : List Move) (m : Move) → units_of_moves (ms ++ m ∷ []) ≡ units_of_moves ms ++ unit_of_move m
units_of_moves-push [] m = append-nil (unit_of_move m)
units_of_moves-push (n ∷ ms) m = ap (λ us. unit_of_move n ++ us) (units_of_moves-push ms m) ∙ sym (append_assoc (unit_of_move n) (units_of_moves ms) (unit_of_move m))

pub moves-more : (known : List UnitIndex) (ms : List Move) (i : ℕ) (m : Move) → i < length ms → m ≡ get_or ms i m
    → with_indices known (units_of_moves (take (i + 1) ms)) ≡ with_indices (with_indices known (units_of_moves (take i ms))) (unit_of_move m)
moves-more known ms i m h e =
    ap (λ ns. with_indices known (units_of_moves ns)) (take-more ms i m (slice_get_read ms (length ms) i m refl h e))
    ∙ ap (with_indices known) (units_of_moves-push (take i ms) m)
    ∙ with_indices-append known (units_of_moves (take i ms)) (unit_of_move m)

-- what an attempt with a result met, its moves met
pub with_met_done : (known us : List UnitIndex) → with_indices known (us ++ []) ≡ with_indices known us
with_met_done known us = ap (with_indices known) (append-nil us)

pub ruleset noting = (with_indices-push, with_met_done, slice_get_within)

-- ---- what units wait for, filled up

fresh-by : (before after : List (Option ℕ)) (i : ℕ) (w : Option ℕ) → IsFilled before after → length before ≤ i → (i < length after) ⊎ (length after ≤ i) → slice_get (after ++ None ∷ []) i ≡ Some w → w ≡ None
fresh-by before after i w h above (inl below) e = h.fresh i w above (sym (slice_get-before after (None ∷ []) i below) ∙ e)
fresh-by before after i w h above (inr past) e =
    let within : i < length (after ++ None ∷ []) = slice_get_within (after ++ None ∷ []) i w e in
    let one : i ≡ length after = omega (arith, length-append after (None ∷ [])) in
    let last : slice_get (after ++ None ∷ []) i ≡ Some None = ap (slice_get (after ++ None ∷ [])) one ∙ slice_get-last after None in
    some-one w None (sym e ∙ last)

pub filled-none : (before : List (Option ℕ)) → IsFilled before before
filled-none before = record {
  same = λ i below. refl;
  fresh = λ i w above e. let within = slice_get_within before i w e in absurd (omega arith);
}

pub filled-push : (before after : List (Option ℕ)) → length before ≤ length after → IsFilled before after → IsFilled before (after ++ None ∷ [])
filled-push before after long h = record {
  same = λ i below. slice_get-before after (None ∷ []) i (omega arith) ∙ h.same i below;
  fresh = λ i w above e. fresh-by before after i w h above (cases_lt i (length after)) e;
}

pub ruleset filling = (filled-none, filled-push)
