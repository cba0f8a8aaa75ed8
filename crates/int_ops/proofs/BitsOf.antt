-- The bits of two's complement that the code works on are those of the residue.
use Rattle.std.proofs.Common.{ℕ, ℤ, pos, negsuc, ◌^◌, ◌<◌, ◌≡◌, arith, FitsSigned, to_z, of_z}
use Rattle.std.proofs.lemmas.Int.{ints}
use Rattle.std.specs.Int.{w128}
use Rattle.int_ops.specs.IntType.{residue, signed_of}

pub residue_128 : (z : ℤ) → FitsSigned w128 z → residue z 128 ≡ of_z w128 z
residue_128 (pos n) fits = omega (arith, fits.sfits)
residue_128 (negsuc n) fits = omega (arith, fits.sfits)

pub signed_128 : (n : ℕ) → n < 2 ^ 128 → signed_of n 128 ≡ to_z w128 n
signed_128 n below = grind (arith, ints)
