-- What an operation answers, from its exact result over the integers.
use Rattle.std.specs.Prelude.{zero, ℤ, pos, Bool, int_lt, int_le, ◌||◌, ◌≡◌, ◌⊎◌, ◌<ℤ◌, ◌≤ℤ◌, if◌then◌else◌}
use Rattle.int_ops.specs.declared.types.IntType.{IntType}
use Rattle.int_ops.specs.declared.types.IntType.TheVariants.{Signed, Unsigned, Comptime}
use Rattle.int_ops.specs.declared.types.Mode.{Mode}
use Rattle.int_ops.specs.declared.types.Mode.TheVariants.{Checked, Wrap, Saturate}
use Rattle.int_ops.specs.declared.types.IntOut.{IntOut}
use Rattle.int_ops.specs.declared.types.IntOut.TheVariants.{Value, Overflow, DivByZero, BadShift}
use Rattle.int_ops.specs.IntType.{lowest_of, highest_of, wrapped, IsOutOfRange}

-- the answer where the exact result z lies beyond this bound of the type, which is the nearest of its values
abbrev pub beyond : ℤ → ℤ → IntType → Mode → IntOut
beyond z bound Comptime mode = Overflow
beyond z bound (Signed width) Checked = Overflow
beyond z bound (Signed width) Wrap = Value (wrapped (Signed width) z)
beyond z bound (Signed width) Saturate = Value bound
beyond z bound (Unsigned width) Checked = Overflow
beyond z bound (Unsigned width) Wrap = Value (wrapped (Unsigned width) z)
beyond z bound (Unsigned width) Saturate = Value bound

-- the answer where the exact result is z
unfoldable pub outcome : ℤ → IntType → Mode → IntOut
outcome z t mode =
    if int_lt z (lowest_of t) then beyond z (lowest_of t) t mode
    else (if int_lt (highest_of t) z then beyond z (highest_of t) t mode else Value z)

-- z is out of range, and the mode is Checked or the type is the comptime one, which neither wraps nor saturates
abbrev pub Overflows : ℤ → IntType → Mode → Type 0
Overflows z t mode = IsOutOfRange z t × ((mode ≡ Checked) ⊎ (t ≡ Comptime))

-- the answer of a division by b: DivByZero at 0, and else this one
abbrev pub unless_zero : ℤ → IntOut → IntOut
unless_zero (pos zero) out = DivByZero
unless_zero b out = out

-- an amount by which no value of the type is shifted, as a test: below 0, or not below the width, which the comptime type has not
abbrev pub is_bad_shift : ℤ → IntType → Bool
is_bad_shift amount (Signed width) = int_lt amount (pos 0) || int_le (pos width.bits) amount
is_bad_shift amount (Unsigned width) = int_lt amount (pos 0) || int_le (pos width.bits) amount
is_bad_shift amount Comptime = int_lt amount (pos 0)

-- the same as a fact
abbrev pub IsBadShift : ℤ → IntType → Type 0
IsBadShift amount (Signed width) = (amount <ℤ pos 0) ⊎ (pos width.bits ≤ℤ amount)
IsBadShift amount (Unsigned width) = (amount <ℤ pos 0) ⊎ (pos width.bits ≤ℤ amount)
IsBadShift amount Comptime = amount <ℤ pos 0

-- the answer of a shift by this amount: BadShift where the amount is bad, also if the result would overflow, and else this one
abbrev pub unless_bad_shift : ℤ → IntType → IntOut → IntOut
unless_bad_shift amount t out = if is_bad_shift amount t then BadShift else out

-- a value that is answered is a value of the type
abbrev pub IsAnswerIn : IntType → IntOut → Type 0
IsAnswerIn t (Value value) = (lowest_of t ≤ℤ value) × (value ≤ℤ highest_of t)
IsAnswerIn t Overflow = Unit {0}
IsAnswerIn t DivByZero = Unit {0}
IsAnswerIn t BadShift = Unit {0}
