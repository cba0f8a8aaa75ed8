-- The low bits of a number, as a signed number.
use Rattle.std.proofs.Common.{◌≡◌, ℕ, ℤ, pos, negsuc, refl, ap, ◌∙◌, to_z, of_z}
use Rattle.std.specs.Prelude.{unsigned_abs}
use Rattle.std.specs.Int.{w32, w64, w128, int_wrap, int_rem_euclid}

-- a remainder is natural
of-rem : (z : ℤ) (m : ℕ) → of_z w128 (int_rem_euclid z (pos m)) ≡ unsigned_abs (int_rem_euclid z (pos m))
of-rem (pos a) m = refl
of-rem (negsuc a) m = refl

pub wrapped-32 : (z low : ℤ) → low ≡ int_rem_euclid z (pos 4294967296) → to_z w32 (of_z w128 low) ≡ int_wrap w32 z
unfolding int_wrap
wrapped-32 z low e = ap (to_z w32) (ap (of_z w128) e ∙ of-rem z 4294967296)

pub wrapped-64 : (z low : ℤ) → low ≡ int_rem_euclid z (pos 18446744073709551616) → to_z w64 (of_z w128 low) ≡ int_wrap w64 z
unfolding int_wrap
wrapped-64 z low e = ap (to_z w64) (ap (of_z w128) e ∙ of-rem z 18446744073709551616)

pub ruleset wrapped_numbers = (wrapped-32, wrapped-64)
