-- What stands in quotes, with its escapes resolved (Zig Language Reference 0.14, "Escape Sequences"). Each
-- definition has a value at every list of bytes; what the values are where no string is written does not matter.
use Rattle.std.specs.Prelude.{ℕ, zero, suc, ◌+◌, ◌*◌, ◌==◌, ◌||◌, nat_lt, if◌then◌else◌, List, [], ◌∷◌, ◌++◌, slice_index, drop, Option, None, Some}
use Rattle.std.specs.Char.{encode_utf8}
use Rattle.zig_tree.specs.TokenBytes.{is_within, is_hex_digit, digit_value}

-- the value of a hexadecimal digit
unfoldable pub hex_value : ℕ → Option ℕ
hex_value b = if is_hex_digit b then Some (digit_value b) else None

-- the number that the hexadecimal digits at the front make behind another
unfoldable pub number_at_front : ℕ → List ℕ → ℕ
number_at_front number [] = number
number_at_front number (b ∷ rest) = if is_hex_digit b then number_at_front (16 * number + digit_value b) rest else number

-- how many hexadecimal digits stand at the front
unfoldable pub digit_count : List ℕ → ℕ
digit_count [] = 0
digit_count (b ∷ rest) = if is_hex_digit b then digit_count rest + 1 else 0

-- a byte in two hexadecimal digits
abbrev pub pair_of : Option ℕ → Option ℕ → List ℕ
pair_of (Some high) (Some low) = (16 * high + low) ∷ []
pair_of (Some high) None = []
pair_of None low = []

unfoldable pub pair_value : ℕ → ℕ → List ℕ
pair_value high low = pair_of (hex_value high) (hex_value low)

-- a code point that is no surrogate, in UTF-8
unfoldable pub code_value : ℕ → List ℕ
code_value number = if nat_lt number 0xD800 || is_within 0xE000 0x10FFFF number then encode_utf8 number else []

-- a letter behind a backslash: n r t are LF, CR and TAB; \ ' " are themselves
unfoldable pub letter_value : ℕ → ℕ
letter_value b = if b == 110 then 10 else (if b == 114 then 13 else (if b == 116 then 9 else b))

-- what an escape stands for, from behind its backslash: x and two digits, u and digits in braces, or a letter
unfoldable pub escape_value : List ℕ → List ℕ
escape_value rest =
    if slice_index rest 0 == 120 then pair_value (slice_index rest 1) (slice_index rest 2)
    else (if slice_index rest 0 == 117 then code_value (number_at_front 0 (drop 2 rest))
    else letter_value (slice_index rest 0) ∷ [])

-- how many bytes it has there
unfoldable pub escape_length : List ℕ → ℕ
escape_length rest =
    if slice_index rest 0 == 120 then 3
    else (if slice_index rest 0 == 117 then digit_count (drop 2 rest) + 3
    else 1)

-- what stands up to the closing quote; the first `skip` bytes belong to what stands before
unfoldable pub value_from : ℕ → List ℕ → List ℕ
value_from skip [] = []
value_from (suc skip) (b ∷ rest) = value_from skip rest
value_from zero (b ∷ rest) =
    if b == 34 then []
    else (if b == 92 then escape_value rest ++ value_from (escape_length rest) rest
    else b ∷ value_from 0 rest)
