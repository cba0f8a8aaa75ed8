-- What quotients, remainders and the operations on bits are by definition meets the laws that name them.
use Rattle.std.proofs.Common.{ℕ, zero, suc, ℤ, pos, negsuc, neg_ℤ, ◌^◌, ◌+◌, ◌%◌, ◌+ℤ◌, ◌*ℤ◌, ◌≤ℤ◌, ◌<◌, arith, ◌≡◌, ◌≢◌, ap, ◌∙◌, sym, refl, min, max, bit_and, bit_or, bit_xor, unsigned_abs}
use lib.IntN.{neg_ℤ-+ℤ, neg_ℤ-neg_ℤ, *ℤ-negsuc}
use Rattle.std.proofs.lemmas.Int.{ints, rem_below}
use Rattle.std.proofs.lemmas.Nat.{mod_below, div-add-mod', and_le_l, or_lt, xor_lt}
use Rattle.std.proofs.lemmas.Nat.Bits.{bit_at_and, bit_at_or, bit_at_xor}
use Rattle.std.specs.Int.{int_rem_euclid, bit_at}
use Rattle.std.specs.Prelude.{int_rem}
use Rattle.int_ops.specs.IntType.{residue, signed_of}
use Rattle.int_ops.specs.Division.{floor_by, int_floor_div, int_modulo, HasSignOf}
use Rattle.int_ops.specs.Bits.{int_and, int_or, int_xor, int_bit_at}
use Rattle.int_ops.proofs.Ranges.{mod-signed, residue_below}
use Rattle.int_ops.proofs.BitsOf.{signed_128}

-- ---- the quotient rounded down and its remainder

floor_split : (a : ℤ) (n : ℕ) → 0 < n → floor_by a n *ℤ pos n +ℤ int_rem_euclid a (pos n) ≡ a
floor_split (pos a) n positive = ap pos (div-add-mod' a n)
floor_split (negsuc a) n positive = omega (arith, ints, div-add-mod' a n, mod_below a n positive)

pub modulo_split : (a b : ℤ) → b ≢ pos 0 → int_floor_div a b *ℤ b +ℤ int_modulo a b ≡ a
modulo_split a (pos zero) nonzero = absurd (nonzero refl)
modulo_split a (pos (suc n)) nonzero = floor_split a (suc n) (omega arith)
modulo_split a (negsuc n) nonzero =
    ap (λ z. z +ℤ neg_ℤ (int_rem_euclid (neg_ℤ a) (pos (suc n)))) (*ℤ-negsuc (floor_by (neg_ℤ a) (suc n)) n)
    ∙ sym (neg_ℤ-+ℤ (floor_by (neg_ℤ a) (suc n) *ℤ pos (suc n)) (int_rem_euclid (neg_ℤ a) (pos (suc n))))
    ∙ ap neg_ℤ (floor_split (neg_ℤ a) (suc n) (omega arith))
    ∙ neg_ℤ-neg_ℤ a

euclid_below : (a : ℤ) (n : ℕ) → unsigned_abs (int_rem_euclid a (pos (suc n))) < suc n
euclid_below (pos a) n = mod_below a (suc n) (omega arith)
euclid_below (negsuc a) n = omega arith

abs_neg : (z : ℤ) → unsigned_abs (neg_ℤ z) ≡ unsigned_abs z
abs_neg (pos zero) = refl
abs_neg (pos (suc n)) = refl
abs_neg (negsuc n) = refl

pub modulo_small : (a b : ℤ) → b ≢ pos 0 → unsigned_abs (int_modulo a b) < unsigned_abs b
modulo_small a (pos zero) nonzero = absurd (nonzero refl)
modulo_small a (pos (suc n)) nonzero = euclid_below a n
modulo_small a (negsuc n) nonzero = omega (arith, euclid_below (neg_ℤ a) n, abs_neg (int_rem_euclid (neg_ℤ a) (pos (suc n))))

euclid_not_negative : (a d : ℤ) → pos 0 ≤ℤ int_rem_euclid a d
euclid_not_negative (pos a) d = omega (arith, ints)
euclid_not_negative (negsuc a) d = omega (arith, ints)

pub modulo_sign : (a b : ℤ) → HasSignOf b (int_modulo a b)
modulo_sign a (pos n) = euclid_not_negative a (pos n)
modulo_sign a (negsuc n) = omega (arith, ints, euclid_not_negative (neg_ℤ a) (pos (suc n)))

-- ---- the remainder of the quotient rounded toward zero

pub rem_sign : (a b : ℤ) → HasSignOf a (int_rem a b)
rem_sign (pos a) b = omega (arith, ints)
rem_sign (negsuc a) b = omega (arith, ints)

pub rem_small : (a b : ℤ) → b ≢ pos 0 → unsigned_abs (int_rem a b) < unsigned_abs b
rem_small a (pos zero) nonzero = absurd (nonzero refl)
rem_small a (pos (suc n)) nonzero = rem_below a (pos (suc n)) (omega arith)
rem_small a (negsuc n) nonzero = rem_below a (negsuc n) (omega arith)

-- ---- bits

residue_signed : (n : ℕ) → n < 2 ^ 128 → residue (signed_of n 128) 128 ≡ n
residue_signed n below =
    ap (λ z. residue z 128) (signed_128 n below)
    ∙ ap unsigned_abs (mod-signed n 128 (omega arith) below)
    ∙ omega arith

pub and_bits : (a b : ℤ) (i : ℕ) → int_bit_at (int_and a b) i ≡ min (int_bit_at a i) (int_bit_at b i)
and_bits a b i =
    ap (λ n. bit_at n i) (residue_signed (bit_and (residue a 128) (residue b 128)) (omega (arith, residue_below a, and_le_l (residue a 128) (residue b 128))))
    ∙ bit_at_and (residue a 128) (residue b 128) i

pub or_bits : (a b : ℤ) (i : ℕ) → int_bit_at (int_or a b) i ≡ max (int_bit_at a i) (int_bit_at b i)
or_bits a b i =
    ap (λ n. bit_at n i) (residue_signed (bit_or (residue a 128) (residue b 128)) (or_lt 128 (residue a 128) (residue b 128) (residue_below a) (residue_below b)))
    ∙ bit_at_or (residue a 128) (residue b 128) i

pub xor_bits : (a b : ℤ) (i : ℕ) → int_bit_at (int_xor a b) i ≡ (int_bit_at a i + int_bit_at b i) % 2
xor_bits a b i =
    ap (λ n. bit_at n i) (residue_signed (bit_xor (residue a 128) (residue b 128)) (xor_lt 128 (residue a 128) (residue b 128) (residue_below a) (residue_below b)))
    ∙ bit_at_xor (residue a 128) (residue b 128) i

-- what holds of any number that is the remainder of the quotient rounded down
pub modulo_laws : (r a b : ℤ) → b ≢ pos 0 → r ≡ int_modulo a b → (int_floor_div a b *ℤ b +ℤ r ≡ a) × (unsigned_abs r < unsigned_abs b) × HasSignOf b r
modulo_laws r a b nonzero is = rw is (modulo_split a b nonzero, modulo_small a b nonzero, modulo_sign a b)
