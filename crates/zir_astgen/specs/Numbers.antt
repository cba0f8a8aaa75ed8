-- The numbers that literals stand for (Zig Language Reference 0.14, "Integer Literals", "Escape Sequences"). Each
-- definition has a value at every list of bytes; what the values are where no literal is written does not matter.
use Rattle.std.specs.Prelude.{ℕ, ◌+◌, ◌-◌, ◌*◌, ◌^◌, ◌==◌, min, if◌then◌else◌, List, slice_index, drop}
use Rattle.zig_tree.specs.TokenBytes.{digit_value}
use Rattle.zig_tree.specs.TokenNumbers.{number_behind}
use Rattle.zir_form.specs.Escapes.{number_at_front, letter_value}

-- the largest number that is written
abbrev pub largest : ℕ
largest = 2 ^ 127 - 1

-- the number of a word: in the base that 0x, 0o or 0b says, else in decimal
unfoldable pub number_in : List ℕ → ℕ
number_in word =
    if slice_index word 0 == 48 then
    (if slice_index word 1 == 120 then number_behind 16 0 (drop 2 word)
    else (if slice_index word 1 == 111 then number_behind 8 0 (drop 2 word)
    else (if slice_index word 1 == 98 then number_behind 2 0 (drop 2 word)
    else 0)))
    else number_behind 10 0 word

-- the value of an integer literal: numbers end at the largest
unfoldable pub int_value : List ℕ → ℕ
int_value word = min (number_in word) largest

-- the code point of an escape, from behind its backslash: x and two digits, u and digits in braces, or a letter
unfoldable pub escape_code : List ℕ → ℕ
escape_code rest =
    if slice_index rest 0 == 120 then 16 * digit_value (slice_index rest 1) + digit_value (slice_index rest 2)
    else (if slice_index rest 0 == 117 then min (number_at_front 0 (drop 2 rest)) 0x110000
    else letter_value (slice_index rest 0))

-- the code point of a character literal, from its opening quote: one byte, or an escape
unfoldable pub char_value : List ℕ → ℕ
char_value bytes = if slice_index bytes 1 == 92 then escape_code (drop 2 bytes) else slice_index bytes 1
