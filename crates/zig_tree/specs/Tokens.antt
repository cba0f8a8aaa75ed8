-- The tokens of a text, as a relation on the whole text. A place is the number of the bytes before it; what
-- lies from a place to before another is said by both.
use Rattle.std.specs.Prelude.{◌≡◌, ◌≢◌, ℕ, ◌+◌, ◌*◌, ◌<◌, ◌≤◌, true, false, not, ◌&&◌, ◌||◌, ◌==◌, List, [], ◌∷◌, length, slice_index, slice_range, ◌⊎◌, Result, Ok, Err}
use Rattle.zig_tree.specs.declared.token.TokenKind.{TokenKind}
use Rattle.zig_tree.specs.declared.token.TokenKind.TheVariants.{Identifier, Builtin, Integer, Char, Str, MultilineStr, End}
use Rattle.zig_tree.specs.declared.token.Token.{Token}
use Rattle.zig_tree.specs.TokenBytes.{is_within, is_digit, is_name_start, is_name_byte, is_hex_digit, digit_value, is_blank, ends_line, char_len, begins, is_escaped, text_start}
use Rattle.zig_tree.specs.TokenNumbers.{IsInteger}
use Rattle.zig_tree.specs.TokenTables.{Row, symbols, word_kind}

-- what is wrong with a text, with its place
pub data Fault : Type 0 where
  bad_byte : ℕ → Fault
  bad_escape : ℕ → Fault
  open_string : ℕ → Fault
  bad_number : ℕ → Fault

-- items one behind the other
pub data Run (item : ℕ → ℕ → Type 0) : ℕ → ℕ → Type 0 where
  none : {a : ℕ} → Run item a a
  more : {a m b : ℕ} → item a m → Run item m b → Run item a b

-- a character of a comment or a string
pub data IsChar (text : List ℕ) : ℕ → ℕ → Type 0 where
  char : {a b : ℕ} → 0 < char_len text a → b ≡ a + char_len text a → IsChar text a b

-- a byte that may not stand in a comment or a string, and is no line's end
abbrev pub IsWrong : List ℕ → ℕ → Type 0
IsWrong text a = (ends_line text a ≡ false) × (char_len text a ≡ 0)

-- what parts tokens: a space, a TAB, a line's end, or a comment up to its line's end
pub data IsSeparator (text : List ℕ) : ℕ → ℕ → Type 0 where
  blank : {a b : ℕ} → is_blank (slice_index text a) ≡ true → b ≡ a + 1 → IsSeparator text a b
  line_end : {a b : ℕ} → begins text a 13 10 ≡ true → b ≡ a + 2 → IsSeparator text a b
  comment : {a b : ℕ} → begins text a 47 47 ≡ true → Run (IsChar text) (a + 2) b → ends_line text b ≡ true → IsSeparator text a b

-- ---- escapes

-- the hexadecimal digits from one place to another, and their value
pub data HasValue (text : List ℕ) (start : ℕ) : ℕ → ℕ → Type 0 where
  nothing : HasValue text start start 0
  digit : {m n v w : ℕ} → HasValue text start m v → is_hex_digit (slice_index text m) ≡ true → n ≡ m + 1 → w ≡ 16 * v + digit_value (slice_index text m) → HasValue text start n w

-- `}` behind the digits of a code point that is no surrogate
abbrev pub Closes : List ℕ → ℕ → ℕ → ℕ → Type 0
Closes text start m v = (slice_index text m ≡ 125) × (start < m) × (is_within 0xD800 0xDFFF v ≡ false)

-- an escape, from its backslash
pub data IsEscape (text : List ℕ) : ℕ → ℕ → Type 0 where
  letter : {a b : ℕ} → slice_index text a ≡ 92 → is_escaped (slice_index text (a + 1)) ≡ true → b ≡ a + 2 → IsEscape text a b
  pair : {a b : ℕ} → slice_index text a ≡ 92 → slice_index text (a + 1) ≡ 120 → is_hex_digit (slice_index text (a + 2)) ≡ true → is_hex_digit (slice_index text (a + 3)) ≡ true → b ≡ a + 4 → IsEscape text a b
  code : {a m v b : ℕ} → slice_index text a ≡ 92 → slice_index text (a + 1) ≡ 117 → slice_index text (a + 2) ≡ 123 → HasValue text (a + 3) m v → v ≤ 0x10FFFF → Closes text (a + 3) m v → b ≡ m + 1 → IsEscape text a b

-- the first byte with which no escape begins that goes on from a backslash
pub data Breaks (text : List ℕ) : ℕ → ℕ → Type 0 where
  no_letter : {a w : ℕ} → slice_index text a ≡ 92 → is_escaped (slice_index text (a + 1)) ≡ false → slice_index text (a + 1) ≢ 120 → slice_index text (a + 1) ≢ 117 → w ≡ a + 1 → Breaks text a w
  no_pair : {a w : ℕ} → slice_index text a ≡ 92 → slice_index text (a + 1) ≡ 120 → is_hex_digit (slice_index text (a + 2)) ≡ false → w ≡ a + 2 → Breaks text a w
  half_pair : {a w : ℕ} → slice_index text a ≡ 92 → slice_index text (a + 1) ≡ 120 → is_hex_digit (slice_index text (a + 2)) ≡ true → is_hex_digit (slice_index text (a + 3)) ≡ false → w ≡ a + 3 → Breaks text a w
  no_brace : {a w : ℕ} → slice_index text a ≡ 92 → slice_index text (a + 1) ≡ 117 → slice_index text (a + 2) ≢ 123 → w ≡ a + 2 → Breaks text a w
  too_large : {a w v : ℕ} → slice_index text a ≡ 92 → slice_index text (a + 1) ≡ 117 → slice_index text (a + 2) ≡ 123 → HasValue text (a + 3) w v → v ≤ 0x10FFFF → is_hex_digit (slice_index text w) ≡ true → 0x10FFFF < 16 * v + digit_value (slice_index text w) → Breaks text a w
  no_close : {a w v : ℕ} → slice_index text a ≡ 92 → slice_index text (a + 1) ≡ 117 → slice_index text (a + 2) ≡ 123 → HasValue text (a + 3) w v → v ≤ 0x10FFFF → is_hex_digit (slice_index text w) ≡ false → (Closes text (a + 3) w v → ⊥) → Breaks text a w

-- ---- quotes

-- an item of a string: a character, or an escape
pub data IsItem (text : List ℕ) : ℕ → ℕ → Type 0 where
  char : {a b : ℕ} → slice_index text a ≢ 34 → slice_index text a ≢ 92 → IsChar text a b → IsItem text a b
  escape : {a b : ℕ} → IsEscape text a b → IsItem text a b

-- a string, from its opening quote to behind its closing one
pub data IsString (text : List ℕ) : ℕ → ℕ → Type 0 where
  string : {a m b : ℕ} → slice_index text a ≡ 34 → Run (IsItem text) (a + 1) m → slice_index text m ≡ 34 → b ≡ m + 1 → IsString text a b

-- what a byte shows that breaks an escape of a string: quote and slash are the places of its opening quote and of the backslash
pub data Misfit (text : List ℕ) (quote slash : ℕ) : ℕ → Fault → Type 0 where
  open_quote : {w : ℕ} → ends_line text w ≡ true → Misfit text quote slash w (open_string quote)
  wrong_byte : {w : ℕ} → IsWrong text w → Misfit text quote slash w (bad_byte w)
  wrong_escape : {w : ℕ} → ends_line text w ≡ false → 0 < char_len text w → Misfit text quote slash w (bad_escape slash)

-- what a string shows that is none
pub data StringFault (text : List ℕ) : ℕ → Fault → Type 0 where
  unclosed : {q m : ℕ} → Run (IsItem text) (q + 1) m → ends_line text m ≡ true → StringFault text q (open_string q)
  wrong_byte : {q m : ℕ} → Run (IsItem text) (q + 1) m → IsWrong text m → StringFault text q (bad_byte m)
  wrong_escape : {q m w : ℕ} {fault : Fault} → Run (IsItem text) (q + 1) m → Breaks text m w → Misfit text q m w fault → StringFault text q fault

-- what stands in a character literal: one byte of printable ASCII, or an escape
pub data IsCharItem (text : List ℕ) : ℕ → ℕ → Type 0 where
  byte : {a b : ℕ} → is_within 32 126 (slice_index text a) ≡ true → slice_index text a ≢ 39 → slice_index text a ≢ 92 → b ≡ a + 1 → IsCharItem text a b
  escape : {a b : ℕ} → IsEscape text a b → IsCharItem text a b

pub data IsLiteral (text : List ℕ) : ℕ → ℕ → Type 0 where
  literal : {a m b : ℕ} → slice_index text a ≡ 39 → IsCharItem text (a + 1) m → slice_index text m ≡ 39 → b ≡ m + 1 → IsLiteral text a b

-- what a byte shows that does not fit a character literal
pub data CharMisfit (text : List ℕ) (quote : ℕ) : ℕ → Fault → Type 0 where
  open_quote : {w : ℕ} → ends_line text w ≡ true → CharMisfit text quote w (open_string quote)
  wrong_byte : {w : ℕ} → ends_line text w ≡ false → CharMisfit text quote w (bad_byte w)

-- what a character literal shows that is none
pub data LiteralFault (text : List ℕ) : ℕ → Fault → Type 0 where
  no_item : {q : ℕ} {fault : Fault} → slice_index text (q + 1) ≢ 92 → (is_within 32 126 (slice_index text (q + 1)) && not (slice_index text (q + 1) == 39)) ≡ false → CharMisfit text q (q + 1) fault → LiteralFault text q fault
  unclosed : {q m : ℕ} {fault : Fault} → IsCharItem text (q + 1) m → slice_index text m ≢ 39 → CharMisfit text q m fault → LiteralFault text q fault
  open_escape : {q w : ℕ} → Breaks text (q + 1) w → ends_line text w ≡ true → LiteralFault text q (open_string q)
  wrong_byte : {q w : ℕ} → Breaks text (q + 1) w → ends_line text w ≡ false → is_within 32 126 (slice_index text w) ≡ false → LiteralFault text q (bad_byte w)
  wrong_escape : {q w : ℕ} → Breaks text (q + 1) w → ends_line text w ≡ false → is_within 32 126 (slice_index text w) ≡ true → LiteralFault text q (bad_escape (q + 1))

-- ---- names, numbers, lines, symbols

pub data IsNameByte (text : List ℕ) : ℕ → ℕ → Type 0 where
  byte : {a b : ℕ} → is_name_byte (slice_index text a) ≡ true → b ≡ a + 1 → IsNameByte text a b

pub data IsName (text : List ℕ) : ℕ → ℕ → Type 0 where
  name : {a b : ℕ} → is_name_start (slice_index text a) ≡ true → a < b → Run (IsNameByte text) a b → IsName text a b

-- no letter, digit or `_` follows directly, and no `.` and a digit
abbrev pub EndsNumber : List ℕ → ℕ → Type 0
EndsNumber text b = (is_name_byte (slice_index text b) ≡ false) × ((slice_index text b == 46 && is_digit (slice_index text (b + 1))) ≡ false)

pub data IsNumber (text : List ℕ) : ℕ → ℕ → Type 0 where
  number : {a b : ℕ} → is_digit (slice_index text a) ≡ true → a < b → Run (IsNameByte text) a b → IsInteger (slice_range text a b) → EndsNumber text b → IsNumber text a b

-- spaces and TABs
pub data IsSpace (text : List ℕ) : ℕ → ℕ → Type 0 where
  space : {a b : ℕ} → (slice_index text a == 32 || slice_index text a == 9) ≡ true → b ≡ a + 1 → IsSpace text a b

-- the line's end at a place, and where the next line begins
pub data IsLineFeed (text : List ℕ) : ℕ → ℕ → Type 0 where
  lf : {a b : ℕ} → slice_index text a ≡ 10 → b ≡ a + 1 → IsLineFeed text a b
  cr_lf : {a b : ℕ} → begins text a 13 10 ≡ true → b ≡ a + 2 → IsLineFeed text a b

-- a line's end, and the next line's spaces, TABs and `\\`
pub data IsJoin (text : List ℕ) : ℕ → ℕ → Type 0 where
  join : {a s m b : ℕ} → IsLineFeed text a s → Run (IsSpace text) s m → begins text m 92 92 ≡ true → b ≡ m + 2 → IsJoin text a b

-- what neighbouring lines that begin with `\\` hold
pub data IsLineItem (text : List ℕ) : ℕ → ℕ → Type 0 where
  char : {a b : ℕ} → IsChar text a b → IsLineItem text a b
  join : {a b : ℕ} → IsJoin text a b → IsLineItem text a b

-- neighbouring lines that each begin with `\\`, the last of which has no such neighbour
pub data IsLines (text : List ℕ) : ℕ → ℕ → Type 0 where
  lines : {a b : ℕ} → begins text a 92 92 ≡ true → Run (IsLineItem text) (a + 2) b → ends_line text b ≡ true → ((m : ℕ) → IsJoin text b m → ⊥) → IsLines text a b

-- a row of a table
abbrev pub IsRow : List Row → Row → Type 0
IsRow [] row = ⊥
IsRow (first ∷ rows) row = (first ≡ row) ⊎ IsRow rows row

pub data IsSymbol (text : List ℕ) (kind : TokenKind) : ℕ → ℕ → Type 0 where
  symbol : {a b : ℕ} → begins text a 47 47 ≡ false → b ≤ length text → IsRow symbols (slice_range text a b, kind) → IsSymbol text kind a b

-- a token from one place to before another
pub data IsToken (text : List ℕ) : TokenKind → ℕ → ℕ → Type 0 where
  word : {a b : ℕ} {kind : TokenKind} → IsName text a b → kind ≡ word_kind (slice_range text a b) → IsToken text kind a b
  quoted_name : {a b : ℕ} → slice_index text a ≡ 64 → slice_index text (a + 2) ≢ 34 → IsString text (a + 1) b → IsToken text Identifier a b
  builtin : {a b : ℕ} → slice_index text a ≡ 64 → IsName text (a + 1) b → IsToken text Builtin a b
  integer : {a b : ℕ} → IsNumber text a b → IsToken text Integer a b
  char : {a b : ℕ} → IsLiteral text a b → IsToken text Char a b
  string : {a b : ℕ} → IsString text a b → IsToken text Str a b
  lines : {a b : ℕ} → IsLines text a b → IsToken text MultilineStr a b
  symbol : {a b : ℕ} {kind : TokenKind} → IsSymbol text kind a b → IsToken text kind a b

-- ---- faults

-- no separator, comment or token begins at a place, and none that shows a fault further on
pub record BeginsNothing (text : List ℕ) (a : ℕ) : Type 0 where
  pub blank : is_blank (slice_index text a) ≡ false
  pub line_end : begins text a 13 10 ≡ false
  pub comment : begins text a 47 47 ≡ false
  pub lines : begins text a 92 92 ≡ false
  pub quotes : (slice_index text a ≢ 34) × (slice_index text a ≢ 39)
  pub at_sign : slice_index text a ≢ 64
  pub digit : is_digit (slice_index text a) ≡ false
  pub name : is_name_start (slice_index text a) ≡ false
  pub symbol : (b : ℕ) (kind : TokenKind) → IsSymbol text kind a b → ⊥

-- the fault that is shown by what stands at a place
pub data Shows (text : List ℕ) : ℕ → Fault → Type 0 where
  in_comment : {a m : ℕ} → begins text a 47 47 ≡ true → Run (IsChar text) (a + 2) m → IsWrong text m → Shows text a (bad_byte m)
  in_lines : {a m : ℕ} → begins text a 92 92 ≡ true → Run (IsLineItem text) (a + 2) m → IsWrong text m → Shows text a (bad_byte m)
  in_string : {a : ℕ} {fault : Fault} → slice_index text a ≡ 34 → StringFault text a fault → Shows text a fault
  in_name : {a : ℕ} {fault : Fault} → slice_index text a ≡ 64 → slice_index text (a + 1) ≡ 34 → slice_index text (a + 2) ≢ 34 → StringFault text (a + 1) fault → Shows text a fault
  in_literal : {a : ℕ} {fault : Fault} → slice_index text a ≡ 39 → LiteralFault text a fault → Shows text a fault
  no_number : {a : ℕ} → is_digit (slice_index text a) ≡ true → ((b : ℕ) → IsNumber text a b → ⊥) → Shows text a (bad_number a)
  empty_name : {a : ℕ} → slice_index text a ≡ 64 → slice_index text (a + 1) ≡ 34 → slice_index text (a + 2) ≡ 34 → Shows text a (bad_byte a)
  lone_at : {a : ℕ} → slice_index text a ≡ 64 → slice_index text (a + 1) ≢ 34 → is_name_start (slice_index text (a + 1)) ≡ false → Shows text a (bad_byte a)
  no_piece : {a : ℕ} → a < length text → BeginsNothing text a → Shows text a (bad_byte a)

-- ---- texts

-- no longer token begins at the place
abbrev pub IsLongest : List ℕ → ℕ → ℕ → Type 0
IsLongest text a b = (kind : TokenKind) (further : ℕ) → IsToken text kind a further → further ≤ b

abbrev pub token_from : TokenKind → ℕ → ℕ → Token
token_from kind a b = record { kind = kind; span = record { start = a; end = b } }

-- a token, and what stands behind it
abbrev pub then_read : Token → Result (List Token) Fault → Result (List Token) Fault
then_read token (Ok tokens) = Ok (token ∷ tokens)
then_read token (Err fault) = Err fault

-- From a place on there are these tokens, with separators and comments alone between them, the last one the
-- text's end; or this is the first fault that is shown.
pub data ReadsFrom (text : List ℕ) : ℕ → Result (List Token) Fault → Type 0 where
  ended : {a : ℕ} → Run (IsSeparator text) a (length text) → ReadsFrom text a (Ok (token_from End (length text) (length text) ∷ []))
  shown : {a m : ℕ} {fault : Fault} → Run (IsSeparator text) a m → Shows text m fault → ReadsFrom text a (Err fault)
  token : {a m b : ℕ} {kind : TokenKind} {rest all : Result (List Token) Fault} → Run (IsSeparator text) a m → IsToken text kind m b → IsLongest text m b → ReadsFrom text b rest → all ≡ then_read (token_from kind m b) rest → ReadsFrom text a all

-- the tokens of a text, or its first fault
abbrev pub Reads : List ℕ → Result (List Token) Fault → Type 0
Reads text outcome = ReadsFrom text (text_start text) outcome
