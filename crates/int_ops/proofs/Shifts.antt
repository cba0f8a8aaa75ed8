-- Shifts at the comptime type by amounts from 127 on.
use Rattle.std.proofs.Common.{ℕ, zero, suc, ℤ, pos, negsuc, neg_ℤ, ◌^◌, ◌*◌, ◌*ℤ◌, ◌<ℤ◌, ◌≤ℤ◌, ◌≤◌, arith, ◌≡◌, ◌≢◌, refl, ap, false}
use Rattle.std.proofs.lemmas.Int.{ints}
use Rattle.std.proofs.Math.Nat.{pow-le-pow_right}
use Rattle.std.specs.Prelude.{unsigned_abs}
use Rattle.int_ops.specs.declared.types.IntType.{IntType}
use Rattle.int_ops.specs.declared.types.IntType.TheVariants.{Signed, Unsigned, Comptime}
use Rattle.int_ops.specs.declared.types.Mode.{Mode}
use Rattle.int_ops.specs.declared.types.IntOut.{IntOut}
use Rattle.int_ops.specs.declared.types.IntOut.TheVariants.{Overflow}
use Rattle.int_ops.specs.IntOut.{outcome, is_bad_shift, unless_bad_shift}
use Rattle.int_ops.proofs.Ranges.{outcome_above, outcome_below}

two_to_far : (n k : ℕ) → k ≤ n → 2 ^ k ≤ 2 ^ n
two_to_far n k far = pow-le-pow_right {n = 2} (omega arith) {i = k} {j = n} far

product_above : (a m : ℕ) → 2 ^ 127 ≤ m → pos (2 ^ 127) ≤ℤ (pos (suc a) *ℤ pos m)
product_above a m large = let size : 2 ^ 127 ≤ suc a * m = omega arith in omega (arith, ints)

product_below : (a m : ℕ) → 2 ^ 128 ≤ suc a * m → (negsuc a *ℤ pos m) <ℤ neg_ℤ (pos (2 ^ 127))
product_below a m large = omega (arith, ints)

-- every number but 0, and -1 by 127, leaves the range
pub far_overflows : (a amount : ℤ) (mode : Mode) → pos 127 ≤ℤ amount → a ≢ pos 0 → (a ≡ negsuc 0 → amount ≢ pos 127) → Overflow ≡ outcome (a *ℤ pos (2 ^ unsigned_abs amount)) Comptime mode
far_overflows a (negsuc n) mode far nonzero other = absurd (omega (arith, ints))
far_overflows (pos zero) (pos n) mode far nonzero other = absurd (nonzero refl)
far_overflows (pos (suc a)) (pos n) mode far nonzero other =
    outcome_above _ _ Comptime mode (product_above a (2 ^ n) (two_to_far n 127 (omega (arith, ints)))) refl
far_overflows (negsuc zero) (pos n) mode far nonzero other =
    let apart : n ≢ 127 = λ e. other refl (ap pos e) in
    outcome_below _ _ Comptime mode (product_below 0 (2 ^ n) (omega (arith, two_to_far n 128 (omega (arith, ints))))) refl
far_overflows (negsuc (suc a)) (pos n) mode far nonzero other =
    outcome_below _ _ Comptime mode (product_below (suc a) (2 ^ n) (omega (arith, two_to_far n 127 (omega (arith, ints))))) refl

-- an amount from 127 on is good at the comptime type alone
pub comptime_if_far : (amount : ℤ) (t : IntType) → pos 127 ≤ℤ amount → is_bad_shift amount t ≡ false → t ≡ Comptime
comptime_if_far amount (Signed width) far good = absurd (grind (arith, ints, width.at_most_64))
comptime_if_far amount (Unsigned width) far good = absurd (grind (arith, ints, width.at_most_64))
comptime_if_far amount Comptime far good = refl

pub far_answer : (r : IntOut) (a b : ℤ) (t : IntType) (mode : Mode) → pos 127 ≤ℤ b → is_bad_shift b t ≡ false → r ≡ outcome (a *ℤ pos (2 ^ unsigned_abs b)) Comptime mode → r ≡ unless_bad_shift b t (outcome (a *ℤ pos (2 ^ unsigned_abs b)) t mode)
far_answer r a b t mode far good is = rw (good, comptime_if_far b t far good) is
