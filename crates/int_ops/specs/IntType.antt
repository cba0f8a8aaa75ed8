-- The values of a type of integers, and what wraps into them.
use Rattle.std.specs.Prelude.{◌≡◌, ℕ, ℤ, pos, neg_ℤ, unsigned_abs, nat_lt, ◌-◌, ◌^◌, ◌-ℤ◌, ◌<ℤ◌, ◌⊎◌, if◌then◌else◌}
use Rattle.std.specs.Int.{int_rem_euclid}
use Rattle.int_ops.specs.declared.types.IntType.{IntType}
use Rattle.int_ops.specs.declared.types.IntType.TheVariants.{Signed, Unsigned, Comptime}

-- the least value of a type
abbrev pub lowest_of : IntType → ℤ
lowest_of (Signed width) = neg_ℤ (pos (2 ^ (width.bits - 1)))
lowest_of (Unsigned width) = pos 0
lowest_of Comptime = neg_ℤ (pos (2 ^ 127))

-- the greatest value of a type
abbrev pub highest_of : IntType → ℤ
highest_of (Signed width) = pos (2 ^ (width.bits - 1) - 1)
highest_of (Unsigned width) = pos (2 ^ width.bits - 1)
highest_of Comptime = pos (2 ^ 127 - 1)

-- z is no value of the type
abbrev pub IsOutOfRange : ℤ → IntType → Type 0
IsOutOfRange z t = (z <ℤ lowest_of t) ⊎ (highest_of t <ℤ z)

-- the residue of z modulo 2 ^ k, from 0 to 2 ^ k - 1
abbrev pub residue : ℤ → ℕ → ℕ
residue z k = unsigned_abs (int_rem_euclid z (pos (2 ^ k)))

-- the signed number of k bits, k not 0, with this residue: a residue from 2 ^ (k - 1) on stands for a negative number
abbrev pub signed_of : ℕ → ℕ → ℤ
signed_of n k = if nat_lt n (2 ^ (k - 1)) then pos n else (pos n -ℤ pos (2 ^ k))

-- the value of a sized type that has the residue of z modulo 2 ^ width
abbrev pub wrapped : IntType → ℤ → ℤ
wrapped (Signed width) z = signed_of (residue z width.bits) width.bits
wrapped (Unsigned width) z = pos (residue z width.bits)
wrapped Comptime z = z

-- x and z have one residue modulo 2 ^ width
abbrev pub HasSameResidue : IntType → ℤ → ℤ → Type 0
HasSameResidue (Signed width) x z = residue x width.bits ≡ residue z width.bits
HasSameResidue (Unsigned width) x z = residue x width.bits ≡ residue z width.bits
HasSameResidue Comptime x z = x ≡ z
