-- Each refusal stands exactly where its cause is.
use Rattle.std.proofs.Common.{zero, suc, ℤ, pos, negsuc, ◌<ℤ◌, ◌≤ℤ◌, arith, ◌≡◌, ◌≢◌, ◌⊎◌, inl, inr, ◌∙◌, refl, Bool, true, false}
use Rattle.std.proofs.lemmas.Int.{ints, by_lt_z}
use Rattle.std.specs.Prelude.{int_lt, ◌↔◌}
use Rattle.int_ops.specs.declared.types.IntType.{IntType}
use Rattle.int_ops.specs.declared.types.IntType.TheVariants.{Signed, Unsigned, Comptime}
use Rattle.int_ops.specs.declared.types.Mode.{Mode}
use Rattle.int_ops.specs.declared.types.Mode.TheVariants.{Checked, Wrap, Saturate}
use Rattle.int_ops.specs.declared.types.IntOut.{IntOut}
use Rattle.int_ops.specs.declared.types.IntOut.TheVariants.{Value, Overflow, DivByZero, BadShift}
use Rattle.int_ops.specs.IntType.{lowest_of, highest_of}
use Rattle.int_ops.specs.IntOut.{beyond, outcome, Overflows, unless_zero, unless_bad_shift, is_bad_shift, IsBadShift}

beyond_strict : (z bound : ℤ) (t : IntType) (mode : Mode) → (beyond z bound t mode ≡ Overflow) ↔ ((mode ≡ Checked) ⊎ (t ≡ Comptime))
beyond_strict z bound (Signed width) Checked = (λ _. inl refl, λ _. refl)
beyond_strict z bound (Signed width) Wrap = (λ e. absurd (cc), λ s. elim s [ inl e ↦ cc | inr e ↦ cc ])
beyond_strict z bound (Signed width) Saturate = (λ e. absurd (cc), λ s. elim s [ inl e ↦ cc | inr e ↦ cc ])
beyond_strict z bound (Unsigned width) Checked = (λ _. inl refl, λ _. refl)
beyond_strict z bound (Unsigned width) Wrap = (λ e. absurd (cc), λ s. elim s [ inl e ↦ cc | inr e ↦ cc ])
beyond_strict z bound (Unsigned width) Saturate = (λ e. absurd (cc), λ s. elim s [ inl e ↦ cc | inr e ↦ cc ])
beyond_strict z bound Comptime mode = (λ _. inr refl, λ _. refl)

-- the three places of z against the bounds of a type
data Place (z : ℤ) (t : IntType) (mode : Mode) : Type 0 where
  Low : z <ℤ lowest_of t → outcome z t mode ≡ beyond z (lowest_of t) t mode → Place z t mode
  High : highest_of t <ℤ z → outcome z t mode ≡ beyond z (highest_of t) t mode → Place z t mode
  Within : lowest_of t ≤ℤ z → z ≤ℤ highest_of t → outcome z t mode ≡ Value z → Place z t mode

place : (z : ℤ) (t : IntType) (mode : Mode) → Place z t mode
unfolding outcome
place z t mode =
    by_lt_z z (lowest_of t)
    (λ below. let low : int_lt z (lowest_of t) ≡ true = grind (arith, ints) in Low below (rw low refl))
    (λ above. let low : int_lt z (lowest_of t) ≡ false = grind (arith, ints) in
    by_lt_z (highest_of t) z
    (λ over. let high : int_lt (highest_of t) z ≡ true = grind (arith, ints) in High over (rw (low, high) refl))
    (λ under. let high : int_lt (highest_of t) z ≡ false = grind (arith, ints) in Within above under (rw (low, high) refl)))

pub overflow_cause : (r : IntOut) (z : ℤ) (t : IntType) (mode : Mode) → r ≡ outcome z t mode → (r ≡ Overflow) ↔ Overflows z t mode
overflow_cause r z t mode is = elim (place z t mode) [
  | Low below e ↦ (λ o. (inl below, (beyond_strict z (lowest_of t) t mode).0 (cc)), λ o. is ∙ e ∙ (beyond_strict z (lowest_of t) t mode).1 o.1)
  | High over e ↦ (λ o. (inr over, (beyond_strict z (highest_of t) t mode).0 (cc)), λ o. is ∙ e ∙ (beyond_strict z (highest_of t) t mode).1 o.1)
  | Within above under e ↦ (λ o. absurd (cc), λ o. absurd (elim o.0 [ inl below ↦ omega (arith, ints) | inr over ↦ omega (arith, ints) ]))
]

-- an exact result is refused by Overflow alone
data Kind (out : IntOut) : Type 0 where
  Refused : out ≡ Overflow → Kind out
  Given : (value : ℤ) → out ≡ Value value → Kind out

kind_beyond : (z bound : ℤ) (t : IntType) (mode : Mode) → Kind (beyond z bound t mode)
kind_beyond z bound (Signed width) Checked = Refused refl
kind_beyond z bound (Signed width) Wrap = Given _ refl
kind_beyond z bound (Signed width) Saturate = Given _ refl
kind_beyond z bound (Unsigned width) Checked = Refused refl
kind_beyond z bound (Unsigned width) Wrap = Given _ refl
kind_beyond z bound (Unsigned width) Saturate = Given _ refl
kind_beyond z bound Comptime mode = Refused refl

kind_along : (a b : IntOut) → a ≡ b → Kind b → Kind a
kind_along a b e (Refused is) = Refused (e ∙ is)
kind_along a b e (Given value is) = Given value (e ∙ is)

kind : (z : ℤ) (t : IntType) (mode : Mode) → Kind (outcome z t mode)
kind z t mode = elim (place z t mode) [
  | Low below e ↦ kind_along _ _ e (kind_beyond z (lowest_of t) t mode)
  | High over e ↦ kind_along _ _ e (kind_beyond z (highest_of t) t mode)
  | Within above under e ↦ Given z e
]

outcome_not_zero_fault : (z : ℤ) (t : IntType) (mode : Mode) → outcome z t mode ≢ DivByZero
outcome_not_zero_fault z t mode o = elim (kind z t mode) [ Refused is ↦ cc | Given value is ↦ cc ]

outcome_not_bad_shift : (z : ℤ) (t : IntType) (mode : Mode) → outcome z t mode ≢ BadShift
outcome_not_bad_shift z t mode o = elim (kind z t mode) [ Refused is ↦ cc | Given value is ↦ cc ]

-- ---- divisions

zero_fault : (b z : ℤ) (t : IntType) (mode : Mode) → (unless_zero b (outcome z t mode) ≡ DivByZero) ↔ (b ≡ pos 0)
zero_fault (pos zero) z t mode = (λ _. refl, λ _. refl)
zero_fault (pos (suc n)) z t mode = (λ e. absurd (outcome_not_zero_fault z t mode e), λ e. absurd (cc))
zero_fault (negsuc n) z t mode = (λ e. absurd (outcome_not_zero_fault z t mode e), λ e. absurd (cc))

division_overflow : (b z : ℤ) (t : IntType) (mode : Mode) → (unless_zero b (outcome z t mode) ≡ Overflow) ↔ ((b ≢ pos 0) × Overflows z t mode)
division_overflow (pos zero) z t mode = (λ e. absurd (cc), λ o. absurd (o.0 refl))
division_overflow (pos (suc n)) z t mode = (λ e. (λ zero_is. cc, (overflow_cause _ z t mode refl).0 e), λ o. (overflow_cause _ z t mode refl).1 o.1)
division_overflow (negsuc n) z t mode = (λ e. (λ zero_is. cc, (overflow_cause _ z t mode refl).0 e), λ o. (overflow_cause _ z t mode refl).1 o.1)

pub unless_zero_at : (b : ℤ) (out : IntOut) → b ≡ pos 0 → unless_zero b out ≡ DivByZero
unless_zero_at b out e = rw e refl

pub unless_zero_else : (b : ℤ) (out : IntOut) → b ≢ pos 0 → unless_zero b out ≡ out
unless_zero_else (pos zero) out nonzero = absurd (nonzero refl)
unless_zero_else (pos (suc n)) out nonzero = refl
unless_zero_else (negsuc n) out nonzero = refl

-- ---- shifts

pub bad_shift_is : (b : ℤ) (t : IntType) → (is_bad_shift b t ≡ true) ↔ IsBadShift b t
bad_shift_is b (Signed width) = (λ e. grind (arith, ints), λ e. elim e [ inl h ↦ grind (arith, ints) | inr h ↦ grind (arith, ints) ])
bad_shift_is b (Unsigned width) = (λ e. grind (arith, ints), λ e. elim e [ inl h ↦ grind (arith, ints) | inr h ↦ grind (arith, ints) ])
bad_shift_is b Comptime = (λ e. grind (arith, ints), λ h. grind (arith, ints))

choose : (test : Bool) → (test ≡ true) ⊎ (test ≡ false)
choose true = inl refl
choose false = inr refl

shift_fault : (b z : ℤ) (t : IntType) (mode : Mode) → (unless_bad_shift b t (outcome z t mode) ≡ BadShift) ↔ IsBadShift b t
shift_fault b z t mode = elim (choose (is_bad_shift b t)) [
  | inl bad ↦ (λ _. (bad_shift_is b t).0 bad, λ _. rw bad refl)
  | inr good ↦ (
    λ e. absurd (outcome_not_bad_shift z t mode (rw good at e)),
    λ bad. absurd (let bad_test : is_bad_shift b t ≡ true = (bad_shift_is b t).1 bad in cc),
  )
]

shift_overflow : (b z : ℤ) (t : IntType) (mode : Mode) → (unless_bad_shift b t (outcome z t mode) ≡ Overflow) ↔ ((¬ IsBadShift b t) × Overflows z t mode)
shift_overflow b z t mode = elim (choose (is_bad_shift b t)) [
  | inl bad ↦ (λ e. absurd (let no_answer : BadShift ≡ Overflow = rw bad at e in cc), λ o. absurd (o.0 ((bad_shift_is b t).0 bad)))
  | inr good ↦ (
    λ e. (λ bad. (let bad_test : is_bad_shift b t ≡ true = (bad_shift_is b t).1 bad in cc), (overflow_cause _ z t mode refl).0 (rw good at e)),
    λ o. rw good ((overflow_cause _ z t mode refl).1 o.1),
  )
]

-- ---- the same of an answer

pub zero_cause : (r : IntOut) (b z : ℤ) (t : IntType) (mode : Mode) → r ≡ unless_zero b (outcome z t mode) → (r ≡ DivByZero) ↔ (b ≡ pos 0)
zero_cause r b z t mode is = rw is (zero_fault b z t mode)

pub division_overflow_cause : (r : IntOut) (b z : ℤ) (t : IntType) (mode : Mode) → r ≡ unless_zero b (outcome z t mode) → (r ≡ Overflow) ↔ ((b ≢ pos 0) × Overflows z t mode)
division_overflow_cause r b z t mode is = rw is (division_overflow b z t mode)

pub shift_cause : (r : IntOut) (b z : ℤ) (t : IntType) (mode : Mode) → r ≡ unless_bad_shift b t (outcome z t mode) → (r ≡ BadShift) ↔ IsBadShift b t
shift_cause r b z t mode is = rw is (shift_fault b z t mode)

pub shift_overflow_cause : (r : IntOut) (b z : ℤ) (t : IntType) (mode : Mode) → r ≡ unless_bad_shift b t (outcome z t mode) → (r ≡ Overflow) ↔ ((¬ IsBadShift b t) × Overflows z t mode)
shift_overflow_cause r b z t mode is = rw is (shift_overflow b z t mode)
