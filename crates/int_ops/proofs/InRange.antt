-- A value that is answered is a value of the type.
use Rattle.std.proofs.Common.{ℕ, zero, suc, ℤ, pos, negsuc, neg_ℤ, ◌^◌, ◌*◌, ◌+◌, ◌-◌, ◌≤ℤ◌, ◌<◌, ◌≤◌, inl, inr, arith, ◌≡◌, ap, ◌∙◌, Bool, true, false, refl}
use Rattle.std.proofs.lemmas.Int.{ints, by_lt_z, int_rem_euclid_is}
use Rattle.std.proofs.lemmas.Nat.{pow_pos, pow-add, mod_below}
use Rattle.std.proofs.lemmas.Bool.{cases_lt}
use Rattle.std.proofs.Math.Nat.{mod-eq_of_lt}
use Rattle.std.specs.Prelude.{unsigned_abs, ◌-ℤ◌, int_lt, nat_lt, if◌then◌else◌}
use Rattle.int_ops.specs.declared.types.IntType.{IntType}
use Rattle.int_ops.specs.declared.types.IntType.TheVariants.{Signed, Unsigned, Comptime}
use Rattle.int_ops.specs.declared.types.Mode.{Mode}
use Rattle.int_ops.specs.declared.types.Mode.TheVariants.{Checked, Wrap, Saturate}
use Rattle.int_ops.specs.declared.types.IntOut.{IntOut}
use Rattle.int_ops.specs.declared.types.IntOut.TheVariants.{BadShift}
use Rattle.int_ops.specs.IntType.{lowest_of, highest_of, residue, signed_of, wrapped, HasSameResidue}
use Rattle.int_ops.specs.IntOut.{beyond, outcome, unless_zero, unless_bad_shift, is_bad_shift, IsAnswerIn}
use Rattle.int_ops.proofs.Ranges.{lowest-bounds, highest-bounds}

below_power : (z : ℤ) (k : ℕ) → residue z k < 2 ^ k
below_power (pos a) k = mod_below a (2 ^ k) (pow_pos k)
below_power (negsuc a) k = omega (arith, pow_pos k)

signed_in : (n k : ℕ) → 1 ≤ k → n < 2 ^ k → (neg_ℤ (pos (2 ^ (k - 1))) ≤ℤ signed_of n k) × (signed_of n k ≤ℤ pos (2 ^ (k - 1) - 1))
signed_in n k positive below =
    let whole : 2 ^ k ≡ 2 * 2 ^ (k - 1) = let up : k ≡ 1 + (k - 1) = omega arith in ap (λ m. 2 ^ m) up ∙ pow-add 2 1 (k - 1) in
    elim (cases_lt n (2 ^ (k - 1))) [
      | inl low ↦ let test : nat_lt n (2 ^ (k - 1)) ≡ true = grind arith in rw test (omega (arith, ints), omega (arith, ints))
      | inr high ↦ let test : nat_lt n (2 ^ (k - 1)) ≡ false = grind arith in rw test (omega (arith, ints, pow_pos (k - 1)), omega (arith, ints, pow_pos (k - 1)))
    ]

lowest-highest : (t : IntType) → lowest_of t ≤ℤ highest_of t
lowest-highest t = omega (arith, ints, (lowest-bounds t).1, (highest-bounds t).0)

beyond_low_in : (z : ℤ) (t : IntType) (mode : Mode) → IsAnswerIn t (beyond z (lowest_of t) t mode)
beyond_low_in z (Signed width) Checked = tt
beyond_low_in z (Signed width) Wrap = signed_in (residue z width.bits) width.bits width.at_least_one (below_power z width.bits)
beyond_low_in z (Signed width) Saturate = (omega (arith, ints), lowest-highest (Signed width))
beyond_low_in z (Unsigned width) Checked = tt
beyond_low_in z (Unsigned width) Wrap = (omega (arith, ints), omega (arith, ints, below_power z width.bits))
beyond_low_in z (Unsigned width) Saturate = (omega (arith, ints), lowest-highest (Unsigned width))
beyond_low_in z Comptime mode = tt

beyond_high_in : (z : ℤ) (t : IntType) (mode : Mode) → IsAnswerIn t (beyond z (highest_of t) t mode)
beyond_high_in z (Signed width) Checked = tt
beyond_high_in z (Signed width) Wrap = signed_in (residue z width.bits) width.bits width.at_least_one (below_power z width.bits)
beyond_high_in z (Signed width) Saturate = (lowest-highest (Signed width), omega (arith, ints))
beyond_high_in z (Unsigned width) Checked = tt
beyond_high_in z (Unsigned width) Wrap = (omega (arith, ints), omega (arith, ints, below_power z width.bits))
beyond_high_in z (Unsigned width) Saturate = (lowest-highest (Unsigned width), omega (arith, ints))
beyond_high_in z Comptime mode = tt

outcome_in : (z : ℤ) (t : IntType) (mode : Mode) → IsAnswerIn t (outcome z t mode)
unfolding outcome
outcome_in z t mode =
    by_lt_z z (lowest_of t)
    (λ below. let low : int_lt z (lowest_of t) ≡ true = grind (arith, ints) in rw low (beyond_low_in z t mode))
    (λ above. let low : int_lt z (lowest_of t) ≡ false = grind (arith, ints) in
    by_lt_z (highest_of t) z
    (λ over. let high : int_lt (highest_of t) z ≡ true = grind (arith, ints) in rw (low, high) (beyond_high_in z t mode))
    (λ under. let high : int_lt (highest_of t) z ≡ false = grind (arith, ints) in rw (low, high) (above, under)))

pub answer_in : (r : IntOut) (z : ℤ) (t : IntType) (mode : Mode) → r ≡ outcome z t mode → IsAnswerIn t r
answer_in r z t mode is = rw is (outcome_in z t mode)

pub division_in : (r : IntOut) (b z : ℤ) (t : IntType) (mode : Mode) → r ≡ unless_zero b (outcome z t mode) → IsAnswerIn t r
division_in r (pos zero) z t mode is = rw is tt
division_in r (pos (suc n)) z t mode is = rw is (outcome_in z t mode)
division_in r (negsuc n) z t mode is = rw is (outcome_in z t mode)

shift_in' : (bad : Bool) (out : IntOut) (t : IntType) → IsAnswerIn t out → IsAnswerIn t (if bad then BadShift else out)
shift_in' true out t within = tt
shift_in' false out t within = within

pub shift_in : (r : IntOut) (b z : ℤ) (t : IntType) (mode : Mode) → r ≡ unless_bad_shift b t (outcome z t mode) → IsAnswerIn t r
shift_in r b z t mode is = rw is (shift_in' (is_bad_shift b t) (outcome z t mode) t (outcome_in z t mode))

-- ---- what is wrapped keeps its residue

residue-pos : (n k : ℕ) → n < 2 ^ k → residue (pos n) k ≡ n
residue-pos n k below = mod-eq_of_lt below

residue-signed_of : (n k : ℕ) → n < 2 ^ k → residue (signed_of n k) k ≡ n
residue-signed_of n k below = elim (cases_lt n (2 ^ (k - 1))) [
  | inl low ↦ let test : nat_lt n (2 ^ (k - 1)) ≡ true = grind arith in rw test (residue-pos n k below)
  | inr high ↦ let test : nat_lt n (2 ^ (k - 1)) ≡ false = grind arith in
      rw test (ap unsigned_abs (int_rem_euclid_is (pos n -ℤ pos (2 ^ k)) (pos (2 ^ k)) (2 ^ k) 1 n (pow_pos k) refl (omega (arith, ints))) ∙ mod-eq_of_lt below)
]

pub residue-wrapped : (t : IntType) (z : ℤ) → HasSameResidue t (wrapped t z) z
residue-wrapped (Signed width) z = residue-signed_of (residue z width.bits) width.bits (below_power z width.bits)
residue-wrapped (Unsigned width) z = residue-pos (residue z width.bits) width.bits (below_power z width.bits)
residue-wrapped Comptime z = refl

pub residue_along : (t : IntType) (x z : ℤ) → x ≡ wrapped t z → HasSameResidue t x z
residue_along t x z is = rw is (residue-wrapped t z)
