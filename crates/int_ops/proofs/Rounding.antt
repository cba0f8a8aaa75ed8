-- The quotient rounded toward zero against the one rounded down, and their remainders.
use Rattle.std.proofs.Common.{ℕ, zero, suc, ℤ, pos, negsuc, neg_ℤ, ◌^◌, ◌*◌, ◌+◌, ◌-◌, ◌%◌, ◌/◌, ◌+ℤ◌, ◌-ℤ◌, ◌<ℤ◌, ◌≤ℤ◌, ◌<◌, ◌≤◌, inl, inr, arith, ◌≡◌, ◌≢◌, ap, ◌∙◌, refl, true, false}
use Rattle.std.proofs.lemmas.Int.{ints}
use Rattle.std.proofs.lemmas.Nat.{div_below, div-mul-add, mod-mul-add, mod_below, div-add-mod'}
use Rattle.std.proofs.lemmas.Bool.{cases_lt}
use Rattle.std.proofs.Math.Nat.{div-le_self, pow-le-pow_right, zero-div, zero-mod, div-eq_of_lt}
use Rattle.std.specs.Int.{w128}
use Rattle.std.specs.Prelude.{int_div, int_rem, FitsSigned}
use Rattle.int_ops.specs.Division.{floor_by, int_floor_div, int_modulo, has_other_sign}

fits_signed_from_neg : (n : ℕ) → n ≤ 2 ^ 127 → FitsSigned w128 (neg_ℤ (pos n))
fits_signed_from_neg zero small = record { sfits = omega arith }
fits_signed_from_neg (suc n) small = record { sfits = omega arith }

-- from a to a + 1 the quotient stays and the remainder rises, or the quotient rises and the remainder begins at 0
pub data Next (a n : ℕ) : Type 0 where
  Same : suc a / n ≡ a / n → suc a % n ≡ suc (a % n) → suc (a % n) < n → Next a n
  Risen : suc a / n ≡ suc (a / n) → suc a % n ≡ 0 → suc (a % n) ≡ n → Next a n

pub next : (a n : ℕ) → 0 < n → Next a n
next a n positive =
    let below : a % n < n = mod_below a n positive in
    let split : suc a ≡ a / n * n + suc (a % n) = omega (arith, div-add-mod' a n) in
    elim (cases_lt (suc (a % n)) n) [
      | inl small ↦ Same
          (ap (λ m. m / n) split ∙ div-mul-add (a / n) n (suc (a % n)) small)
          (ap (λ m. m % n) split ∙ mod-mul-add (a / n) n (suc (a % n)) small)
          small
      | inr large ↦
          let full : suc a ≡ (a / n + 1) * n + 0 = omega (arith, div-add-mod' a n) in
          Risen
          (ap (λ m. m / n) full ∙ div-mul-add (a / n + 1) n 0 positive ∙ omega arith)
          (ap (λ m. m % n) full ∙ mod-mul-add (a / n + 1) n 0 positive)
          (omega arith)
    ]

zero_if_same : (r n : ℕ) → has_other_sign (pos r) (negsuc n) ≡ false → r ≡ 0
zero_if_same zero n e = refl
zero_if_same (suc r) n e = cc

above_if_other : (r n : ℕ) → has_other_sign (pos r) (negsuc n) ≡ true → 0 < r
above_if_other zero n e = cc
above_if_other (suc r) n e = omega arith

neg_zero_if_same : (r n : ℕ) → has_other_sign (neg_ℤ (pos r)) (pos n) ≡ false → r ≡ 0
neg_zero_if_same zero n e = refl
neg_zero_if_same (suc r) n e = cc

neg_above_if_other : (r n : ℕ) → has_other_sign (neg_ℤ (pos r)) (pos n) ≡ true → 0 < r
neg_above_if_other zero n e = cc
neg_above_if_other (suc r) n e = omega arith

never_other : (r n : ℕ) → has_other_sign (pos r) (pos n) ≡ false
never_other zero n = refl
never_other (suc r) n = refl

neg_never_other : (r n : ℕ) → has_other_sign (neg_ℤ (pos r)) (negsuc n) ≡ false
neg_never_other zero n = refl
neg_never_other (suc r) n = refl

-- with a remainder of b's sign, the quotients agree
pub floor_same : (a b : ℤ) → b ≢ pos 0 → has_other_sign (int_rem a b) b ≡ false → int_div a b ≡ int_floor_div a b
floor_same (pos a) (pos b) nonzero e = refl
floor_same (pos zero) (negsuc b) nonzero e = rw zero-div refl
floor_same (pos (suc a)) (negsuc b) nonzero e = elim (next a (suc b) (omega arith)) [
  | Same quotient rest below ↦ absurd (let none : suc a % suc b ≡ 0 = zero_if_same (suc a % suc b) b e in omega arith)
  | Risen quotient rest full ↦ rw quotient refl
]
floor_same (negsuc a) (pos zero) nonzero e = absurd (nonzero refl)
floor_same (negsuc a) (pos (suc b)) nonzero e = elim (next a (suc b) (omega arith)) [
  | Same quotient rest below ↦ absurd (let none : suc a % suc b ≡ 0 = neg_zero_if_same (suc a % suc b) (suc b) e in omega arith)
  | Risen quotient rest full ↦ rw quotient refl
]
floor_same (negsuc a) (negsuc b) nonzero e = refl

-- with a remainder of the other sign, the quotient toward zero is one above
pub floor_other : (a b : ℤ) → b ≢ pos 0 → has_other_sign (int_rem a b) b ≡ true → int_div a b -ℤ pos 1 ≡ int_floor_div a b
floor_other (pos a) (pos b) nonzero e = let same : has_other_sign (pos (a % b)) (pos b) ≡ false = never_other (a % b) b in cc
floor_other (pos zero) (negsuc b) nonzero e = absurd (let some : 0 < 0 % suc b = above_if_other (0 % suc b) b e in omega (arith, zero-mod (suc b)))
floor_other (pos (suc a)) (negsuc b) nonzero e = elim (next a (suc b) (omega arith)) [
  | Same quotient rest below ↦ rw quotient (omega (arith, ints))
  | Risen quotient rest full ↦ absurd (let some : 0 < suc a % suc b = above_if_other (suc a % suc b) b e in omega arith)
]
floor_other (negsuc a) (pos zero) nonzero e = absurd (nonzero refl)
floor_other (negsuc a) (pos (suc b)) nonzero e = elim (next a (suc b) (omega arith)) [
  | Same quotient rest below ↦ rw quotient (omega (arith, ints))
  | Risen quotient rest full ↦ absurd (let some : 0 < suc a % suc b = neg_above_if_other (suc a % suc b) (suc b) e in omega arith)
]
floor_other (negsuc a) (negsuc b) nonzero e = let same : has_other_sign (neg_ℤ (pos (suc a % suc b))) (negsuc b) ≡ false = neg_never_other (suc a % suc b) b in cc

-- the same two for the remainders
pub modulo_same : (a b : ℤ) → b ≢ pos 0 → has_other_sign (int_rem a b) b ≡ false → int_rem a b ≡ int_modulo a b
modulo_same (pos a) (pos b) nonzero e = refl
modulo_same (pos zero) (negsuc b) nonzero e = rw zero-mod refl
modulo_same (pos (suc a)) (negsuc b) nonzero e =
    let none : suc a % suc b ≡ 0 = zero_if_same (suc a % suc b) b e in
    elim (next a (suc b) (omega arith)) [
      | Same quotient rest below ↦ absurd (omega arith)
      | Risen quotient rest full ↦ omega (arith, ints)
    ]
modulo_same (negsuc a) (pos zero) nonzero e = absurd (nonzero refl)
modulo_same (negsuc a) (pos (suc b)) nonzero e =
    let none : suc a % suc b ≡ 0 = neg_zero_if_same (suc a % suc b) (suc b) e in
    elim (next a (suc b) (omega arith)) [
      | Same quotient rest below ↦ absurd (omega arith)
      | Risen quotient rest full ↦ omega (arith, ints)
    ]
modulo_same (negsuc a) (negsuc b) nonzero e = refl

pub modulo_other : (a b : ℤ) → b ≢ pos 0 → has_other_sign (int_rem a b) b ≡ true → int_rem a b +ℤ b ≡ int_modulo a b
modulo_other (pos a) (pos b) nonzero e = let same : has_other_sign (pos (a % b)) (pos b) ≡ false = never_other (a % b) b in cc
modulo_other (pos zero) (negsuc b) nonzero e = absurd (let some : 0 < 0 % suc b = above_if_other (0 % suc b) b e in omega (arith, zero-mod (suc b)))
modulo_other (pos (suc a)) (negsuc b) nonzero e =
    let some : 0 < suc a % suc b = above_if_other (suc a % suc b) b e in
    elim (next a (suc b) (omega arith)) [
      | Same quotient rest below ↦ omega (arith, ints)
      | Risen quotient rest full ↦ absurd (omega arith)
    ]
modulo_other (negsuc a) (pos zero) nonzero e = absurd (nonzero refl)
modulo_other (negsuc a) (pos (suc b)) nonzero e =
    let some : 0 < suc a % suc b = neg_above_if_other (suc a % suc b) (suc b) e in
    elim (next a (suc b) (omega arith)) [
      | Same quotient rest below ↦ omega (arith, ints)
      | Risen quotient rest full ↦ absurd (omega arith)
    ]
modulo_other (negsuc a) (negsuc b) nonzero e = let same : has_other_sign (neg_ℤ (pos (suc a % suc b))) (negsuc b) ≡ false = neg_never_other (suc a % suc b) b in cc

-- ---- halving many times

pub halved_far : (z : ℤ) (amount : ℕ) → FitsSigned w128 z → pos 0 ≤ℤ z → 127 ≤ amount → floor_by z (2 ^ amount) ≡ pos 0
halved_far (pos a) amount fits sign far = ap pos (div-eq_of_lt (omega (arith, fits.sfits, pow-le-pow_right {n = 2} (omega arith) {i = 127} {j = amount} far)))
halved_far (negsuc a) amount fits sign far = absurd (omega (arith, ints))

pub halved_far_below : (z : ℤ) (amount : ℕ) → FitsSigned w128 z → z <ℤ pos 0 → 127 ≤ amount → floor_by z (2 ^ amount) ≡ negsuc 0
halved_far_below (pos a) amount fits sign far = absurd (omega (arith, ints))
halved_far_below (negsuc a) amount fits sign far = ap negsuc (div-eq_of_lt (omega (arith, fits.sfits, pow-le-pow_right {n = 2} (omega arith) {i = 127} {j = amount} far)))

-- ---- quotients within 128 bits

div_within : (a n : ℕ) → a < 2 ^ 127 → a / n < 2 ^ 127
div_within a n below = omega (arith, div-le_self a n)

div_by_two : (a n : ℕ) → a < 2 ^ 127 → suc a / suc (suc n) < 2 ^ 127
div_by_two a n below = div_below (suc a) (suc (suc n)) (2 ^ 127) (omega arith) (omega arith)

pub floor_fits : (a b : ℤ) → FitsSigned w128 a → b ≢ negsuc 0 → FitsSigned w128 (int_floor_div a b)
floor_fits (pos a) (pos b) fits other = record { sfits = div_within a b fits.sfits }
floor_fits (negsuc a) (pos b) fits other = record { sfits = div_within a b fits.sfits }
floor_fits a (negsuc zero) fits other = absurd (other refl)
floor_fits (pos zero) (negsuc (suc b)) fits other = record { sfits = div_within 0 (suc (suc b)) fits.sfits }
floor_fits (pos (suc a)) (negsuc (suc b)) fits other = record { sfits = div_within a (suc (suc b)) (omega (arith, fits.sfits)) }
floor_fits (negsuc a) (negsuc (suc b)) fits other = record { sfits = div_by_two a b fits.sfits }

pub quotient_fits : (a b : ℤ) → FitsSigned w128 a → b ≢ negsuc 0 → FitsSigned w128 (int_div a b)
quotient_fits (pos a) (pos b) fits other = record { sfits = div_within a b fits.sfits }
quotient_fits (negsuc a) (pos b) fits other = fits_signed_from_neg (suc a / b) (omega (arith, fits.sfits, div-le_self (suc a) b))
quotient_fits a (negsuc zero) fits other = absurd (other refl)
quotient_fits (pos a) (negsuc (suc b)) fits other = fits_signed_from_neg (a / suc (suc b)) (omega (arith, fits.sfits, div-le_self a (suc (suc b))))
quotient_fits (negsuc a) (negsuc (suc b)) fits other = record { sfits = div_by_two a b fits.sfits }

pub modulo_fits : (a b : ℤ) → FitsSigned w128 b → b ≢ pos 0 → FitsSigned w128 (int_modulo a b)
modulo_fits a (pos zero) fits nonzero = absurd (nonzero refl)
modulo_fits (pos a) (pos (suc b)) fits nonzero = record { sfits = omega (arith, fits.sfits, mod_below a (suc b) (omega arith)) }
modulo_fits (negsuc a) (pos (suc b)) fits nonzero = record { sfits = omega (arith, fits.sfits) }
modulo_fits (pos zero) (negsuc b) fits nonzero = fits_signed_from_neg (0 % suc b) (omega (arith, fits.sfits, mod_below 0 (suc b) (omega arith)))
modulo_fits (pos (suc a)) (negsuc b) fits nonzero = fits_signed_from_neg (suc b - 1 - a % suc b) (omega (arith, fits.sfits))
modulo_fits (negsuc a) (negsuc b) fits nonzero = fits_signed_from_neg (suc a % suc b) (omega (arith, fits.sfits, mod_below (suc a) (suc b) (omega arith)))
