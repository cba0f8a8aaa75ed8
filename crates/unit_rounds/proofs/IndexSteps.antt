-- Lists of units by indices, and the units that they stand for.
use Rattle.std.proofs.Common.{◌≡◌, Bool, true, false, List, [], ◌∷◌, ◌++◌, map, refl, sym, ap, ap₂, ◌∙◌, if◌then◌else◌}
use Rattle.std.specs.Prelude.{◌||◌}
use Rattle.std.specs.List.{All}
use Rattle.std.proofs.lemmas.List.Elements.{All-head, All-tail, All-push, All-weaker}
use Rattle.std.proofs.lemmas.List.{map-append}
use Rattle.type_form.specs.Known.{Known, IsInjective}
use Rattle.type_form.specs.Means.{Grows}
use Rattle.elab_form.specs.Questions as plain
use Rattle.elab_form.specs.Units.{language}
use Rattle.elab_form.proofs.Sameness.{same_unit-self as plain-self, same_unit-true as plain-true, true-together}
use Rattle.trace_log.specs.declared.question.UnitIndex.{UnitIndex}
use Rattle.trace_log.specs.Readings.{IsUnit, unit_at}
use Rattle.trace_log.specs.TableStates.{same_unit}
use Rattle.trace_log.proofs.Growing.{IsUnit-grows, unit-grows}
use Rattle.trace_log.proofs.Sameness.{same_unit-self, same_unit-true, unit_at-injective}
use Rattle.unit_levels.specs.Levels.{TellsUnits, has_unit, with_unit, with_units}
use Rattle.unit_rounds.specs.KnownUnits.{has_index, with_index, with_indices}

-- elaboration tells units apart
pub tells-units : TellsUnits language
tells-units u v = (plain-true u v, λ e. ap (plain.same_unit u) (sym e) ∙ plain-self u)

map-if : {X Y : Type 0} (f : X → Y) (b : Bool) (xs : List X) (x : X) → map f (if b then xs else xs ++ x ∷ []) ≡ (if b then map f xs else map f xs ++ f x ∷ [])
map-if f true xs x = refl
map-if f false xs x = map-append f xs (x ∷ [])

all-if : {X : Type 0} (P : X → Type 0) (b : Bool) (xs : List X) (x : X) → All P xs → P x → All P (if b then xs else xs ++ x ∷ [])
all-if P true xs x h p = h
all-if P false xs x h p = All-push P xs x h p

module _ (k : Known) where
  pub are-with : (known : List UnitIndex) (u : UnitIndex) → All (IsUnit k) known → IsUnit k u → All (IsUnit k) (with_index known u)
  are-with known u h a = all-if (IsUnit k) (has_index known u) known u h a

  pub are-with-all : (known us : List UnitIndex) → All (IsUnit k) known → All (IsUnit k) us → All (IsUnit k) (with_indices known us)
  are-with-all known [] h a = h
  are-with-all known (u ∷ us) h a = are-with-all (with_index known u) us (are-with known u h (All-head (IsUnit k) u us a)) (All-tail (IsUnit k) u us a)

module _ (k : Known) (g : IsInjective k) where
  pub same_unit-at : (u v : UnitIndex) → IsUnit k u → IsUnit k v → plain.same_unit (unit_at k u) (unit_at k v) ≡ same_unit u v
  same_unit-at u v a b =
      true-together _ _
      (λ e. ap (same_unit u) (sym (unit_at-injective k u v g a b (plain-true (unit_at k u) (unit_at k v) e))) ∙ same_unit-self u)
      (λ e. ap (λ w. plain.same_unit (unit_at k u) (unit_at k w)) (sym (same_unit-true u v e)) ∙ plain-self (unit_at k u))

  pub has-at : (us : List UnitIndex) (u : UnitIndex) → All (IsUnit k) us → IsUnit k u → has_unit language (map (unit_at k) us) (unit_at k u) ≡ has_index us u
  has-at [] u h a = refl
  has-at (v ∷ us) u h a = ap₂ (λ x y. x || y) (same_unit-at u v a (All-head (IsUnit k) v us h)) (has-at us u (All-tail (IsUnit k) v us h) a)

  with-at : (known : List UnitIndex) (u : UnitIndex) → All (IsUnit k) known → IsUnit k u → map (unit_at k) (with_index known u) ≡ with_unit language (map (unit_at k) known) (unit_at k u)
  with-at known u h a =
      map-if (unit_at k) (has_index known u) known u
      ∙ ap (λ (b : Bool). if b then map (unit_at k) known else map (unit_at k) known ++ unit_at k u ∷ []) (sym (has-at known u h a))

  pub with-all-at : (known us : List UnitIndex) → All (IsUnit k) known → All (IsUnit k) us → map (unit_at k) (with_indices known us) ≡ with_units language (map (unit_at k) known) (map (unit_at k) us)
  with-all-at known [] h a = refl
  with-all-at known (u ∷ us) h a =
      let first = All-head (IsUnit k) u us a in
      with-all-at (with_index known u) us (are-with k known u h first) (All-tail (IsUnit k) u us a)
      ∙ ap (λ ks. with_units language ks (map (unit_at k) us)) (with-at known u h first)

module _ (k l : Known) (g : Grows k l) where
  pub map-grows : (us : List UnitIndex) → All (IsUnit k) us → map (unit_at l) us ≡ map (unit_at k) us
  map-grows [] h = refl
  map-grows (u ∷ us) h = ap₂ (λ x xs. x ∷ xs) (unit-grows k l u g (All-head (IsUnit k) u us h)) (map-grows us (All-tail (IsUnit k) u us h))

  pub are-grown : (us : List UnitIndex) → All (IsUnit k) us → All (IsUnit l) us
  are-grown us h = All-weaker (IsUnit k) (IsUnit l) (λ u a. IsUnit-grows k l u g a) us h
