-- A result that does not fit 128 bits lies beyond one of the two bounds.
use Rattle.std.proofs.Common.{ℤ, pos, neg_ℤ, ◌^◌, ◌+ℤ◌, ◌-ℤ◌, ◌<ℤ◌, ◌≤ℤ◌, ◌⊎◌, inl, inr, arith}
use Rattle.std.proofs.lemmas.Int.{ints, by_lt_z}
use Rattle.std.specs.Int.{w128}
use Rattle.std.specs.Prelude.{FitsSigned}

pub fits_between : (z : ℤ) → neg_ℤ (pos (2 ^ 127)) ≤ℤ z → z <ℤ pos (2 ^ 127) → FitsSigned w128 z
fits_between z low high = omega (arith, ints)

pub outside : (z : ℤ) → ¬ FitsSigned w128 z → (z <ℤ neg_ℤ (pos (2 ^ 127))) ⊎ (pos (2 ^ 127) ≤ℤ z)
outside z unfit =
    by_lt_z z (neg_ℤ (pos (2 ^ 127))) (λ below. inl below) (λ low.
    by_lt_z z (pos (2 ^ 127)) (λ high. absurd (unfit (fits_between z low high))) (λ above. inr above))

-- a sum that does not fit lies on the side of the first number's sign
pub sum_below : (a b : ℤ) → FitsSigned w128 a → FitsSigned w128 b → ¬ FitsSigned w128 (a +ℤ b) → a <ℤ pos 0 → (a +ℤ b) <ℤ neg_ℤ (pos (2 ^ 127))
sum_below a b fa fb unfit sign = elim (outside (a +ℤ b) unfit) [ inl below ↦ below | inr above ↦ absurd (omega (arith, ints)) ]

pub sum_above : (a b : ℤ) → FitsSigned w128 a → FitsSigned w128 b → ¬ FitsSigned w128 (a +ℤ b) → pos 0 ≤ℤ a → pos (2 ^ 127) ≤ℤ (a +ℤ b)
sum_above a b fa fb unfit sign = elim (outside (a +ℤ b) unfit) [ inl below ↦ absurd (omega (arith, ints)) | inr above ↦ above ]

pub difference_below : (a b : ℤ) → FitsSigned w128 a → FitsSigned w128 b → ¬ FitsSigned w128 (a -ℤ b) → a <ℤ pos 0 → (a -ℤ b) <ℤ neg_ℤ (pos (2 ^ 127))
difference_below a b fa fb unfit sign = elim (outside (a -ℤ b) unfit) [ inl below ↦ below | inr above ↦ absurd (omega (arith, ints)) ]

pub difference_above : (a b : ℤ) → FitsSigned w128 a → FitsSigned w128 b → ¬ FitsSigned w128 (a -ℤ b) → pos 0 ≤ℤ a → pos (2 ^ 127) ≤ℤ (a -ℤ b)
difference_above a b fa fb unfit sign = elim (outside (a -ℤ b) unfit) [ inl below ↦ absurd (omega (arith, ints)) | inr above ↦ above ]
