-- The tokens of a text, read from the left. A place is the number of the bytes before it; 0 stands for
-- the byte past the end, since no rule has a use for 0.
use Rattle.std.specs.Prelude.{◌≡◌, ℕ, zero, suc, ◌+◌, ◌-◌, ◌*◌, Bool, true, false, not, ◌==◌, nat_le, ◌&&◌, ◌||◌, if◌then◌else◌, List, [], ◌∷◌, slice_index, slice_range, drop, Option, Some, None, Result, Ok, Err}
use Rattle.std.specs.Option.{option_map_or}
use Rattle.std.specs.Global.{Vec}
use Rattle.zig_tree.specs.declared.token.TokenKind.{TokenKind}
use Rattle.zig_tree.specs.declared.token.TokenKind.TheVariants.{Identifier, Builtin, Integer, Char, Str, MultilineStr, End}
use Rattle.zig_tree.specs.declared.token.Token.{Token}
use Rattle.zig_tree.specs.TokenBytes.{is_within, is_digit, is_name_start, is_name_byte, is_hex_digit, digit_value, is_blank, ends_line, char_len, begins, is_escaped, text_start}
use Rattle.zig_tree.specs.TokenNumbers.{is_integer}
use Rattle.zig_tree.specs.TokenTables.{symbols, word_kind, row_at_front}
use Rattle.zig_token.specs.declared.fault.LexFault.{LexFault}
use Rattle.zig_token.specs.declared.fault.LexFault.TheVariants.{BadByte, BadEscape, OpenString, BadNumber, OutOfMemory}
use Rattle.zig_token.specs.declared.quoted.Escape.{Escape}
use Rattle.zig_token.specs.declared.quoted.Escape.TheVariants.{Whole, Wrong}
use Rattle.zig_token.specs.declared.piece.Piece.{Piece}
use Rattle.zig_token.specs.declared.piece.Piece.TheVariants as pieces

infixl 10 ◌>>=◌
abbrev pub ◌>>=◌ : {A B : Type 0} → Result A LexFault → (A → Result B LexFault) → Result B LexFault
(Ok x) >>= f = f x
(Err e) >>= f = Err e

-- ---- lines

-- The end of a line of text; the first `skip` bytes of the rest belong to a character before.
unfoldable pub line_from : List ℕ → ℕ → ℕ → List ℕ → Result ℕ LexFault
line_from text at skip [] = Ok at
line_from text at (suc skip) (b ∷ rest) = line_from text (at + 1) skip rest
line_from text at zero (b ∷ rest) =
    if ends_line text at then Ok at
    else (if char_len text at == 0 then Err (BadByte at)
    else line_from text (at + 1) (char_len text at - 1) rest)

unfoldable pub line_end : List ℕ → ℕ → Result ℕ LexFault
line_end text at = line_from text at 0 (drop at text)

-- where spaces and TABs end
unfoldable pub blanks_from : ℕ → List ℕ → ℕ
blanks_from at [] = at
blanks_from at (b ∷ rest) = if b == 32 || b == 9 then blanks_from (at + 1) rest else at

-- the `\\` with which the line after a line's end begins, after spaces and TABs: the place behind it
unfoldable pub next_line : List ℕ → ℕ → Option ℕ
next_line text at =
    let start = if slice_index text at == 13 then at + 2 else at + 1 in
    let mark = blanks_from start (drop start text) in
    if begins text mark 92 92 then Some (mark + 2) else None

-- the end of neighbouring lines that each begin with `\\`
unfoldable pub lines_from : List ℕ → ℕ → ℕ → List ℕ → Result ℕ LexFault
lines_from text at skip [] = Ok at
lines_from text at (suc skip) (b ∷ rest) = lines_from text (at + 1) skip rest
lines_from text at zero (b ∷ rest) =
    if ends_line text at then option_map_or (λ on. lines_from text (at + 1) (on - (at + 1)) rest) (next_line text at) (Ok at)
    else (if char_len text at == 0 then Err (BadByte at)
    else lines_from text (at + 1) (char_len text at - 1) rest)

unfoldable pub lines_end : List ℕ → ℕ → Result ℕ LexFault
lines_end text at = lines_from text at 0 (drop at text)

-- ---- quotes

unfoldable pub hex_pair : List ℕ → ℕ → Escape
hex_pair text at =
    if is_hex_digit (slice_index text at) then (if is_hex_digit (slice_index text (at + 1)) then Whole (at + 2) else Wrong (at + 1))
    else Wrong at

-- `}` behind the digits of a code point, if there were some and it is no surrogate
unfoldable pub closes_code : ℕ → Bool → ℕ → Bool
closes_code b some value = b == 125 && (some && not (is_within 0xD800 0xDFFF value))

-- the digits of a code point, and `}`: `some` says that there was a digit, value is that of the digits so far
unfoldable pub code_from : ℕ → Bool → ℕ → List ℕ → Escape
code_from value some at [] = Wrong at
code_from value some at (b ∷ rest) =
    if is_hex_digit b then
    (if nat_le (16 * value + digit_value b) 0x10FFFF then code_from (16 * value + digit_value b) true (at + 1) rest else Wrong at)
    else (if closes_code b some value then Whole (at + 1) else Wrong at)

-- an escape, from its backslash: its end, or the first byte with which none begins
unfoldable pub escape_at : List ℕ → ℕ → Escape
escape_at text at =
    let next = slice_index text (at + 1) in
    if is_escaped next then Whole (at + 2)
    else (if next == 120 then hex_pair text (at + 2)
    else (if next == 117 then (if slice_index text (at + 2) == 123 then code_from 0 false (at + 3) (drop (at + 3) text) else Wrong (at + 2))
    else Wrong (at + 1)))

-- what a byte shows that does not fit the escape of a backslash, within quotes
unfoldable pub misfit : List ℕ → ℕ → ℕ → ℕ → LexFault
misfit text quote slash at =
    if ends_line text at then OpenString quote else (if char_len text at == 0 then BadByte at else BadEscape slash)

abbrev pub escape_or : Escape → (ℕ → LexFault) → Result ℕ LexFault
escape_or (Whole end) fault = Ok end
escape_or (Wrong at) fault = Err (fault at)

-- the end of an escape or a character of a string
unfoldable pub item_end : List ℕ → ℕ → ℕ → Result ℕ LexFault
item_end text quote at =
    if slice_index text at == 92 then escape_or (escape_at text at) (misfit text quote at)
    else (if ends_line text at then Err (OpenString quote)
    else (if char_len text at == 0 then Err (BadByte at)
    else Ok (at + char_len text at)))

unfoldable pub quoted_from : List ℕ → ℕ → ℕ → ℕ → List ℕ → Result ℕ LexFault
quoted_from text quote at skip [] = Err (OpenString quote)
quoted_from text quote at (suc skip) (b ∷ rest) = quoted_from text quote (at + 1) skip rest
quoted_from text quote at zero (b ∷ rest) =
    if b == 34 then Ok (at + 1)
    else (item_end text quote at >>= λ end. quoted_from text quote (at + 1) (end - (at + 1)) rest)

-- the end of a string, from its opening quote
unfoldable pub quoted_end : List ℕ → ℕ → Result ℕ LexFault
quoted_end text quote = quoted_from text quote (quote + 1) 0 (drop (quote + 1) text)

-- the same for a character literal
unfoldable pub char_misfit : List ℕ → ℕ → ℕ → LexFault
char_misfit text quote at = if ends_line text at then OpenString quote else BadByte at

unfoldable pub char_escape_misfit : List ℕ → ℕ → ℕ → ℕ → LexFault
char_escape_misfit text quote slash at =
    if ends_line text at then OpenString quote else (if is_within 32 126 (slice_index text at) then BadEscape slash else BadByte at)

unfoldable pub char_item_end : List ℕ → ℕ → Result ℕ LexFault
char_item_end text quote =
    let b = slice_index text (quote + 1) in
    if b == 92 then escape_or (escape_at text (quote + 1)) (char_escape_misfit text quote (quote + 1))
    else (if is_within 32 126 b && not (b == 39) then Ok (quote + 2) else Err (char_misfit text quote (quote + 1)))

unfoldable pub char_end : List ℕ → ℕ → Result ℕ LexFault
char_end text quote = do
  at ← char_item_end text quote
  if slice_index text at == 39 then Ok (at + 1) else Err (char_misfit text quote at)

-- ---- names and numbers

unfoldable pub name_from : ℕ → List ℕ → ℕ
name_from at [] = at
name_from at (b ∷ rest) = if is_name_byte b then name_from (at + 1) rest else at

-- the end of the letters, digits and `_` at a place
unfoldable pub name_end : List ℕ → ℕ → ℕ
name_end text at = name_from at (drop at text)

unfoldable pub number_end : List ℕ → ℕ → Result ℕ LexFault
number_end text at =
    let end = name_end text at in
    if is_integer (slice_range text at end) && not (slice_index text end == 46 && is_digit (slice_index text (end + 1))) then Ok end
    else Err (BadNumber at)

-- ---- tokens

abbrev pub as_token : TokenKind → Result ℕ LexFault → Result Piece LexFault
as_token kind end = end >>= λ e. Ok (pieces.Token kind e)

unfoldable pub at_sign : List ℕ → ℕ → Result Piece LexFault
at_sign text at =
    if begins text (at + 1) 34 34 then Err (BadByte at)
    else (if slice_index text (at + 1) == 34 then as_token Identifier (quoted_end text (at + 1))
    else (if is_name_start (slice_index text (at + 1)) then Ok (pieces.Token Builtin (name_end text (at + 1)))
    else Err (BadByte at)))

unfoldable pub symbol_at : List ℕ → ℕ → Result Piece LexFault
symbol_at text at =
    option_map_or (λ row. Ok (pieces.Token row.1 (at + row.0))) (row_at_front symbols (drop at text)) (Err (BadByte at))

unfoldable pub word_or_symbol : List ℕ → ℕ → Result Piece LexFault
word_or_symbol text at =
    if is_name_start (slice_index text at) then Ok (pieces.Token (word_kind (slice_range text at (name_end text at))) (name_end text at))
    else symbol_at text at

unfoldable pub token_at : List ℕ → ℕ → Result Piece LexFault
token_at text at =
    let b = slice_index text at in
    if b == 34 then as_token Str (quoted_end text at)
    else (if b == 39 then as_token Char (char_end text at)
    else (if begins text at 92 92 then as_token MultilineStr (lines_end text (at + 2))
    else (if b == 64 then at_sign text at
    else (if is_digit b then as_token Integer (number_end text at)
    else word_or_symbol text at))))

-- what stands at a place: a separator or a comment, or a token, up to its end
unfoldable pub piece_at : List ℕ → ℕ → Result Piece LexFault
piece_at text at =
    if is_blank (slice_index text at) then Ok (pieces.Gap (at + 1))
    else (if begins text at 13 10 then Ok (pieces.Gap (at + 2))
    else (if begins text at 47 47 then (line_end text (at + 2) >>= λ end. Ok (pieces.Gap end))
    else token_at text at))

abbrev pub piece_end : Piece → ℕ
piece_end (pieces.Gap end) = end
piece_end (pieces.Token kind end) = end

abbrev pub token_from : TokenKind → ℕ → ℕ → Token
token_from kind at end = record { kind = kind; span = record { start = at; end = end } }

-- a piece that begins at a place, and the tokens behind it
abbrev pub put : ℕ → Piece → Result (List Token) LexFault → Result (List Token) LexFault
put at (pieces.Gap end) others = others
put at (pieces.Token kind end) others = others >>= λ tokens. Ok (token_from kind at end ∷ tokens)

unfoldable pub tokens_from : List ℕ → ℕ → ℕ → List ℕ → Result (List Token) LexFault
tokens_from text at skip [] = Ok (token_from End at at ∷ [])
tokens_from text at (suc skip) (b ∷ rest) = tokens_from text (at + 1) skip rest
tokens_from text at zero (b ∷ rest) =
    piece_at text at >>= λ piece. put at piece (tokens_from text (at + 1) (piece_end piece - (at + 1)) rest)

unfoldable pub tokens_of : List ℕ → Result (List Token) LexFault
tokens_of text = tokens_from text (text_start text) 0 (drop (text_start text) text)

-- what a call answers is what reading gives, unless memory runs out
abbrev pub Gives : Result (Vec Token) LexFault → Result (List Token) LexFault → Type 0
Gives (Ok list) read = read ≡ Ok list.items
Gives (Err OutOfMemory) read = Unit {0}
Gives (Err (BadByte at)) read = read ≡ Err (BadByte at)
Gives (Err (BadEscape at)) read = read ≡ Err (BadEscape at)
Gives (Err (OpenString at)) read = read ≡ Err (OpenString at)
Gives (Err (BadNumber at)) read = read ≡ Err (BadNumber at)
