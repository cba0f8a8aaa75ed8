-- Each range holds 0 and lies within 128 bits, and wrapping to 128 bits on the way changes no wrapped value.
use Rattle.std.proofs.Common.{ℕ, suc, ℤ, pos, negsuc, neg_ℤ, ◌^◌, ◌*◌, ◌+◌, ◌-◌, ◌%◌, ◌/◌, ◌+ℤ◌, ◌<ℤ◌, ◌≤ℤ◌, ◌<◌, ◌≤◌, inl, inr, arith, ◌≡◌, ap, ◌∙◌, sym, refl, true, false}
use Rattle.std.proofs.lemmas.Int.{ints, int_rem_euclid_is, to_z_pos}
use Rattle.std.proofs.lemmas.Nat.{pow_pos, pow_below, pow-add, mod-pow-add, mod-mul-add, mod_below, div-add-mod'}
use Rattle.std.proofs.Math.Nat.{mul_assoc}
use Rattle.std.proofs.Math.Facts.{to_z-neg}
use Rattle.std.proofs.lemmas.Bool.{cases_lt}
use Rattle.std.specs.Int.{w128, int_wrap, int_rem_euclid}
use Rattle.std.proofs.Common.{to_z}
use Rattle.std.specs.Prelude.{unsigned_abs, int_lt}
use Rattle.int_ops.specs.declared.types.IntType.{IntType}
use Rattle.int_ops.specs.declared.types.IntType.TheVariants.{Signed, Unsigned, Comptime}
use Rattle.int_ops.specs.declared.types.Mode.{Mode}
use Rattle.int_ops.specs.declared.types.Mode.TheVariants.{Checked, Wrap, Saturate}
use Rattle.int_ops.specs.declared.types.IntOut.TheVariants.{Value}
use Rattle.int_ops.specs.IntType.{lowest_of, highest_of, residue, signed_of}
use Rattle.int_ops.specs.IntOut.{beyond, outcome}

pub lowest-bounds : (t : IntType) → (neg_ℤ (pos (2 ^ 127)) ≤ℤ lowest_of t) × (lowest_of t ≤ℤ pos 0)
lowest-bounds (Signed width) = let small : 2 ^ (width.bits - 1) < 2 ^ 127 = pow_below (width.bits - 1) 127 (omega (arith, width.at_most_64)) in (omega (arith, ints), omega (arith, ints))
lowest-bounds (Unsigned width) = (omega (arith, ints), omega (arith, ints))
lowest-bounds Comptime = (omega (arith, ints), omega (arith, ints))

pub highest-bounds : (t : IntType) → (pos 0 ≤ℤ highest_of t) × (highest_of t <ℤ pos (2 ^ 127))
highest-bounds (Signed width) = let small : 2 ^ (width.bits - 1) < 2 ^ 127 = pow_below (width.bits - 1) 127 (omega (arith, width.at_most_64)) in (omega (arith, ints), omega (arith, ints))
highest-bounds (Unsigned width) = let small : 2 ^ width.bits < 2 ^ 127 = pow_below width.bits 127 (omega (arith, width.at_most_64)) in (omega (arith, ints), omega (arith, ints))
highest-bounds Comptime = (omega (arith, ints), omega (arith, ints))

-- ---- residues

two_powers : (k : ℕ) → k ≤ 128 → 2 ^ (128 - k) * 2 ^ k ≡ 2 ^ 128
two_powers k within = let whole : 128 - k + k ≡ 128 = omega arith in sym (pow-add 2 (128 - k) k) ∙ ap (λ n. 2 ^ n) whole

-- a residue modulo 2 ^ 128 keeps the residue modulo 2 ^ k
mod-residue : (z : ℤ) (k : ℕ) → k ≤ 128 → int_rem_euclid z (pos (2 ^ k)) ≡ pos (residue z 128 % 2 ^ k)
mod-residue (pos a) k within =
    let whole : 128 - k + k ≡ 128 = omega arith in
    let split : a % 2 ^ 128 ≡ a / 2 ^ k % 2 ^ (128 - k) * 2 ^ k + a % 2 ^ k = ap (λ n. a % 2 ^ n) (sym whole) ∙ mod-pow-add a (128 - k) k in
    ap pos (sym (ap (λ n. n % 2 ^ k) split ∙ mod-mul-add (a / 2 ^ k % 2 ^ (128 - k)) (2 ^ k) (a % 2 ^ k) (mod_below a (2 ^ k) (pow_pos k))))
mod-residue (negsuc a) k within =
    let steps : ((a / 2 ^ 128 + 1) * 2 ^ (128 - k)) * 2 ^ k ≡ (a / 2 ^ 128 + 1) * 2 ^ 128 = mul_assoc (a / 2 ^ 128 + 1) (2 ^ (128 - k)) (2 ^ k) ∙ ap (λ n. (a / 2 ^ 128 + 1) * n) (two_powers k within) in
    int_rem_euclid_is (negsuc a) (pos (2 ^ k)) (2 ^ k) ((a / 2 ^ 128 + 1) * 2 ^ (128 - k)) (residue (negsuc a) 128) (pow_pos k) refl (omega (arith, ints, div-add-mod' a (2 ^ 128)))

high_part : (n m : ℕ) → m ≡ 2 ^ 128 → n < 2 ^ 128 → 2 ^ 127 ≤ n → to_z w128 n +ℤ pos m ≡ pos n
high_part n m e fits high =
    let back : 2 ^ 128 - suc (2 ^ 128 - suc n) ≡ n = omega arith in
    let negative : to_z w128 n ≡ negsuc (2 ^ 128 - suc n) = ap (to_z w128) (sym back) ∙ to_z-neg w128 (2 ^ 128 - suc n) (omega arith) in
    rw (e, negative) (omega (arith, ints))

-- the signed number with this residue modulo 2 ^ 128 has its residue modulo 2 ^ k
pub mod-signed : (n k : ℕ) → k ≤ 128 → n < 2 ^ 128 → int_rem_euclid (to_z w128 n) (pos (2 ^ k)) ≡ pos (n % 2 ^ k)
mod-signed n k within fits =
    let powers : 2 ^ (128 - k) * 2 ^ k ≡ 2 ^ 128 = two_powers k within in
    elim (cases_lt n (2 ^ 127)) [
      | inl low ↦ ap (λ z. int_rem_euclid z (pos (2 ^ k))) (to_z_pos w128 n low)
      | inr high ↦ int_rem_euclid_is (to_z w128 n) (pos (2 ^ k)) (2 ^ k) (2 ^ (128 - k)) n (pow_pos k) refl (high_part n ((2 ^ (128 - k)) * 2 ^ k) powers fits high)
    ]

pub residue_below : (z : ℤ) → residue z 128 < 2 ^ 128
residue_below (pos a) = mod_below a (2 ^ 128) (pow_pos 128)
residue_below (negsuc a) = omega arith

pub residue-int_wrap : (z : ℤ) (k : ℕ) → k ≤ 128 → residue (int_wrap w128 z) k ≡ residue z k
unfolding int_wrap
residue-int_wrap z k within =
    ap unsigned_abs (mod-signed (residue z 128) k within (residue_below z) ∙ sym (mod-residue z k within))

pub beyond-int_wrap : (z bound : ℤ) (t : IntType) (mode : Mode) → beyond (int_wrap w128 z) bound t mode ≡ beyond z bound t mode
beyond-int_wrap z bound (Signed width) Checked = refl
beyond-int_wrap z bound (Signed width) Wrap = ap (λ n. Value (signed_of n width.bits)) (residue-int_wrap z width.bits (omega (arith, width.at_most_64)))
beyond-int_wrap z bound (Signed width) Saturate = refl
beyond-int_wrap z bound (Unsigned width) Checked = refl
beyond-int_wrap z bound (Unsigned width) Wrap = ap (λ n. Value (pos n)) (residue-int_wrap z width.bits (omega (arith, width.at_most_64)))
beyond-int_wrap z bound (Unsigned width) Saturate = refl
beyond-int_wrap z bound Comptime mode = refl

-- ---- answers for a result beyond 128 bits

pub outcome_above : (z left : ℤ) (t : IntType) (mode : Mode) → pos (2 ^ 127) ≤ℤ z → left ≡ int_wrap w128 z → beyond left (highest_of t) t mode ≡ outcome z t mode
unfolding outcome
outcome_above z left t mode above e =
    let low : int_lt z (lowest_of t) ≡ false = grind (arith, ints, lowest-bounds t) in
    let high : int_lt (highest_of t) z ≡ true = grind (arith, ints, highest-bounds t) in
    rw (e, beyond-int_wrap z (highest_of t) t mode, low, high) refl

pub outcome_below : (z left : ℤ) (t : IntType) (mode : Mode) → z <ℤ neg_ℤ (pos (2 ^ 127)) → left ≡ int_wrap w128 z → beyond left (lowest_of t) t mode ≡ outcome z t mode
unfolding outcome
outcome_below z left t mode below e =
    let low : int_lt z (lowest_of t) ≡ true = grind (arith, ints, lowest-bounds t) in
    rw (e, beyond-int_wrap z (lowest_of t) t mode, low) refl
