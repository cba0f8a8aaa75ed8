-- What the token of a literal stands for, by cases on how it is read.
use Rattle.std.specs.Prelude.{◌≡◌, ◌≢◌, ℕ, ◌+◌, ◌*◌, ◌≤◌, true, List, [], ◌∷◌, ◌++◌, slice_index, slice_range}
use Rattle.std.specs.Char.{encode_utf8}
use Rattle.zig_tree.specs.TokenBytes.{is_hex_digit, digit_value, is_escaped}
use Rattle.zig_tree.specs.Tokens.{IsChar, IsJoin, HasValue, Closes}
use Rattle.zir_form.specs.Escapes.{letter_value}

-- an escape, from its backslash to before another place, that stands for a byte: a letter, or x and two digits
pub data IsByteEscape (text : List ℕ) : ℕ → ℕ → ℕ → Type 0 where
  letter : {a b byte : ℕ} → slice_index text a ≡ 92 → is_escaped (slice_index text (a + 1)) ≡ true → b ≡ a + 2 → byte ≡ letter_value (slice_index text (a + 1)) → IsByteEscape text a b byte
  pair : {a b byte : ℕ} → slice_index text a ≡ 92 → slice_index text (a + 1) ≡ 120 → is_hex_digit (slice_index text (a + 2)) ≡ true → is_hex_digit (slice_index text (a + 3)) ≡ true → b ≡ a + 4 → byte ≡ 16 * digit_value (slice_index text (a + 2)) + digit_value (slice_index text (a + 3)) → IsByteEscape text a b byte

-- one that stands for a code point: u and digits in braces
pub data IsCodeEscape (text : List ℕ) : ℕ → ℕ → ℕ → Type 0 where
  code : {a m b v : ℕ} → slice_index text a ≡ 92 → slice_index text (a + 1) ≡ 117 → slice_index text (a + 2) ≡ 123 → HasValue text (a + 3) m v → v ≤ 0x10FFFF → Closes text (a + 3) m v → b ≡ m + 1 → IsCodeEscape text a b v

-- what stands between the quotes of a character literal, and its code point
pub data CharHolds (text : List ℕ) : ℕ → ℕ → ℕ → Type 0 where
  byte : {a b code : ℕ} → slice_index text a ≢ 92 → b ≡ a + 1 → code ≡ slice_index text a → CharHolds text a b code
  byte_escape : {a b code : ℕ} → IsByteEscape text a b code → CharHolds text a b code
  code_escape : {a b code : ℕ} → IsCodeEscape text a b code → CharHolds text a b code

-- The items between the quotes of a string, and the bytes that they stand for: a character for itself, an escape
-- for its byte, or for its code point in UTF-8.
pub data StringHolds (text : List ℕ) : ℕ → ℕ → List ℕ → Type 0 where
  none : {a : ℕ} → StringHolds text a a []
  char : {a m b : ℕ} {rest value : List ℕ} → slice_index text a ≢ 34 → slice_index text a ≢ 92 → IsChar text a m → StringHolds text m b rest → value ≡ slice_range text a m ++ rest → StringHolds text a b value
  byte : {a m b byte : ℕ} {rest value : List ℕ} → IsByteEscape text a m byte → StringHolds text m b rest → value ≡ byte ∷ rest → StringHolds text a b value
  code : {a m b v : ℕ} {rest value : List ℕ} → IsCodeEscape text a m v → StringHolds text m b rest → value ≡ encode_utf8 v ++ rest → StringHolds text a b value

-- The items of neighbouring lines that begin with `\\`, and the bytes that they stand for: a character for
-- itself, and a line's end with the next line's `\\` for LF.
pub data LinesHold (text : List ℕ) : ℕ → ℕ → List ℕ → Type 0 where
  none : {a : ℕ} → LinesHold text a a []
  char : {a m b : ℕ} {rest value : List ℕ} → IsChar text a m → LinesHold text m b rest → value ≡ slice_range text a m ++ rest → LinesHold text a b value
  join : {a m b : ℕ} {rest value : List ℕ} → IsJoin text a m → LinesHold text m b rest → value ≡ 10 ∷ rest → LinesHold text a b value
