-- Bytes of Zig's text: names, digits, and what may stand in comments and strings.
use Rattle.std.specs.Prelude.{ℕ, ◌+◌, ◌-◌, Bool, ◌==◌, nat_le, ◌&&◌, ◌||◌, List, length, slice_index, if◌then◌else◌}

abbrev pub is_within : ℕ → ℕ → ℕ → Bool
is_within low high b = nat_le low b && nat_le b high

unfoldable pub is_digit : ℕ → Bool
is_digit b = is_within 48 57 b

-- a letter or `_`
unfoldable pub is_name_start : ℕ → Bool
is_name_start b = is_within 65 90 b || (is_within 97 122 b || b == 95)

unfoldable pub is_name_byte : ℕ → Bool
is_name_byte b = is_name_start b || is_digit b

unfoldable pub is_hex_digit : ℕ → Bool
is_hex_digit b = is_digit b || (is_within 65 70 b || is_within 97 102 b)

-- the value of a digit, also of a hexadecimal one in either case
unfoldable pub digit_value : ℕ → ℕ
digit_value b = if is_digit b then b - 48 else (if is_within 65 70 b then b - 55 else b - 87)

-- TAB and printable ASCII
unfoldable pub is_plain : ℕ → Bool
is_plain b = b == 9 || is_within 32 126 b

-- what parts tokens by itself: space, TAB, LF
unfoldable pub is_blank : ℕ → Bool
is_blank b = b == 32 || (b == 9 || b == 10)

-- the text ends here, or its line does: LF, or CR directly before LF
unfoldable pub ends_line : List ℕ → ℕ → Bool
ends_line text at =
    nat_le (length text) at || (slice_index text at == 10 || (slice_index text at == 13 && slice_index text (at + 1) == 10))

-- Well-formed UTF-8 above 0x7F (The Unicode Standard, table "Well-Formed UTF-8 Byte Sequences").
abbrev pub is_tail : ℕ → Bool
is_tail b = is_within 0x80 0xBF b

unfoldable pub is_two_bytes : ℕ → ℕ → Bool
is_two_bytes a b = is_within 0xC2 0xDF a && is_tail b

unfoldable pub is_three_bytes : ℕ → ℕ → ℕ → Bool
is_three_bytes a b c =
    (a == 0xE0 && is_within 0xA0 0xBF b
    || (is_within 0xE1 0xEC a && is_tail b
    || (a == 0xED && is_within 0x80 0x9F b
    || is_within 0xEE 0xEF a && is_tail b)))
    && is_tail c

unfoldable pub is_four_bytes : ℕ → ℕ → ℕ → ℕ → Bool
is_four_bytes a b c d =
    (a == 0xF0 && is_within 0x90 0xBF b
    || (is_within 0xF1 0xF3 a && is_tail b
    || a == 0xF4 && is_within 0x80 0x8F b))
    && (is_tail c && is_tail d)

-- how many bytes the character at a place has that may stand in a comment or a string; 0 where none may
unfoldable pub char_len : List ℕ → ℕ → ℕ
char_len text at =
    let a = slice_index text at in
    let b = slice_index text (at + 1) in
    let c = slice_index text (at + 2) in
    let d = slice_index text (at + 3) in
    if is_plain a then 1
    else (if is_two_bytes a b then 2
    else (if is_three_bytes a b c then 3
    else (if is_four_bytes a b c d then 4 else 0)))

-- two bytes stand at a place
unfoldable pub begins : List ℕ → ℕ → ℕ → ℕ → Bool
begins text at a b = slice_index text at == a && slice_index text (at + 1) == b

-- what may follow a backslash by itself: n r t \ ' "
unfoldable pub is_escaped : ℕ → Bool
is_escaped b = b == 110 || (b == 114 || (b == 116 || (b == 92 || (b == 39 || b == 34))))

-- a byte order mark at the start is no part of the text
unfoldable pub text_start : List ℕ → ℕ
text_start text = if begins text 0 0xEF 0xBB && slice_index text 2 == 0xBF then 3 else 0
