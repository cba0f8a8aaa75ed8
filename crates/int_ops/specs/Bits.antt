-- The operations on bits. The bits of an integer of 128 bits are those of its residue modulo 2 ^ 128.
use Rattle.std.specs.Prelude.{ℕ, ℤ, bit_and, bit_or, bit_xor}
use Rattle.std.specs.Int.{bit_at}
use Rattle.int_ops.specs.IntType.{residue, signed_of}

-- the number whose bits are set where they are in both numbers
abbrev pub int_and : ℤ → ℤ → ℤ
int_and a b = signed_of (bit_and (residue a 128) (residue b 128)) 128

-- the number whose bits are set where they are in one number or in both
abbrev pub int_or : ℤ → ℤ → ℤ
int_or a b = signed_of (bit_or (residue a 128) (residue b 128)) 128

-- the number whose bits are set where they are in just one of the numbers
abbrev pub int_xor : ℤ → ℤ → ℤ
int_xor a b = signed_of (bit_xor (residue a 128) (residue b 128)) 128

-- bit i of an integer of 128 bits
abbrev pub int_bit_at : ℤ → ℕ → ℕ
int_bit_at z i = bit_at (residue z 128) i
