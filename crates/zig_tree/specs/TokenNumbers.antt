-- Whole numbers as they are written (Zig Language Reference 0.14, "Integer Literals").
use Rattle.std.specs.Prelude.{◌≡◌, ◌≢◌, ℕ, ◌+◌, ◌*◌, ◌^◌, ◌<◌, Bool, false, true, ◌==◌, nat_lt, ◌&&◌, if◌then◌else◌, List, [], ◌∷◌, length, slice_index, drop}
use Rattle.zig_tree.specs.TokenBytes.{is_hex_digit, digit_value}

-- digits of a base with `_` only between them, whose number is below 2 ^ 127; value is that of the digits before
unfoldable pub digits_fit : ℕ → ℕ → Bool → List ℕ → Bool
digits_fit base value after_digit [] = after_digit
digits_fit base value after_digit (b ∷ rest) =
    if b == 95 then after_digit && digits_fit base value false rest
    else is_hex_digit b && (nat_lt (digit_value b) base && (nat_lt (base * value + digit_value b) (2 ^ 127) && digits_fit base (base * value + digit_value b) true rest))

-- a whole number: 0, digits that begin with another, or 0x, 0o, 0b and digits
unfoldable pub is_integer : List ℕ → Bool
is_integer word =
    if slice_index word 0 == 48 then
    (if slice_index word 1 == 120 then digits_fit 16 0 false (drop 2 word)
    else (if slice_index word 1 == 111 then digits_fit 8 0 false (drop 2 word)
    else (if slice_index word 1 == 98 then digits_fit 2 0 false (drop 2 word)
    else length word == 1)))
    else digits_fit 10 0 false word

-- ---- the same, by cases on what is written

-- a digit of a base
abbrev pub IsDigitOf : ℕ → ℕ → Type 0
IsDigitOf base b = (is_hex_digit b ≡ true) × (digit_value b < base)

-- digits of a base, with `_` only between them
pub data AreDigits (base : ℕ) : List ℕ → Type 0 where
  last : {b : ℕ} → IsDigitOf base b → AreDigits base (b ∷ [])
  next : {b : ℕ} {rest : List ℕ} → IsDigitOf base b → AreDigits base rest → AreDigits base (b ∷ rest)
  parted : {b u : ℕ} {rest : List ℕ} → IsDigitOf base b → u ≡ 95 → AreDigits base rest → AreDigits base (b ∷ u ∷ rest)

-- the number that digits behind a number make with it; `_` counts for nothing
abbrev pub number_behind : ℕ → ℕ → List ℕ → ℕ
number_behind base value [] = value
number_behind base value (b ∷ rest) = if b == 95 then number_behind base value rest else number_behind base (base * value + digit_value b) rest

-- the number that digits make is at most 2 ^ 127 - 1
abbrev pub IsSmall : ℕ → List ℕ → Type 0
IsSmall base digits = number_behind base 0 digits < 2 ^ 127

-- a whole number
pub data IsInteger : List ℕ → Type 0 where
  zero : IsInteger (48 ∷ [])
  decimal : {b : ℕ} {rest : List ℕ} → b ≢ 48 → AreDigits 10 (b ∷ rest) → IsSmall 10 (b ∷ rest) → IsInteger (b ∷ rest)
  hexadecimal : {digits : List ℕ} → AreDigits 16 digits → IsSmall 16 digits → IsInteger (48 ∷ 120 ∷ digits)
  octal : {digits : List ℕ} → AreDigits 8 digits → IsSmall 8 digits → IsInteger (48 ∷ 111 ∷ digits)
  binary : {digits : List ℕ} → AreDigits 2 digits → IsSmall 2 digits → IsInteger (48 ∷ 98 ∷ digits)
