-- Strings on one line and character literals: what is read from a slice is what its items stand for.
use Rattle.std.proofs.Common.{◌≡◌, ◌≢◌, ℕ, zero, suc, ◌+◌, ◌-◌, ◌*◌, ◌<◌, ◌≤◌, min, true, false, List, [], ◌∷◌, ◌++◌, get_or, drop, refl, sym, ap, ◌∙◌, subst, arith, inl, inr}
use Rattle.std.specs.Prelude.{slice_range}
use Rattle.std.specs.Char.{encode_utf8}
use Rattle.std.proofs.lemmas.Bool.{ne_eqb, lt-ltb, le-ltb, le-leb, cases_lt}
use Rattle.zig_tree.specs.TokenBytes.{is_within, is_digit, is_hex_digit, digit_value, is_escaped, char_len}
use Rattle.zig_tree.specs.Tokens as tokens
use Rattle.zig_tree.specs.Tokens.{Run, IsChar, IsItem, IsEscape, IsString, IsCharItem, IsLiteral, HasValue, Closes}
use Rattle.zir_form.specs.Escapes.{hex_value, number_at_front, digit_count, pair_value, code_value, letter_value, escape_value, escape_length, value_from}
use Rattle.zir_astgen.specs.Numbers.{escape_code, char_value}
use Rattle.zir_astgen.specs.Values.{string_value}
use Rattle.zir_astgen.specs.TokenValues as hold
use Rattle.zir_astgen.specs.TokenValues.{IsByteEscape, IsCodeEscape, CharHolds, StringHolds}
use Rattle.zir_astgen.proofs.CharLemmas.{char_parts, kept_front, slice_byte, drop_slice}

-- ---- bytes that are no NUL
escaped_nul : (c : ℕ) → is_escaped c ≡ true → 0 < c
unfolding is_escaped
escaped_nul zero h = absurd cc
escaped_nul (suc c) h = omega arith

hex_nul : (c : ℕ) → is_hex_digit c ≡ true → 0 < c
unfolding is_hex_digit is_digit
hex_nul zero h = absurd cc
hex_nul (suc c) h = omega arith

escaped_x : (c : ℕ) → is_escaped c ≡ true → c ≢ 120
unfolding is_escaped
escaped_x c h e = let f : is_escaped 120 ≡ true = ap is_escaped (sym e) ∙ h in absurd cc

escaped_u : (c : ℕ) → is_escaped c ≡ true → c ≢ 117
unfolding is_escaped
escaped_u c h e = let f : is_escaped 117 ≡ true = ap is_escaped (sym e) ∙ h in absurd cc

-- ---- escapes at the front of a list
value_skip : (n : ℕ) (bytes : List ℕ) → value_from n bytes ≡ value_from 0 (drop n bytes)
unfolding value_from
value_skip zero bytes = refl
value_skip (suc n) [] = refl
value_skip (suc n) (b ∷ bytes) = value_skip n bytes

letter_step : (c : ℕ) (bytes : List ℕ) → is_escaped c ≡ true → value_from 0 (92 ∷ c ∷ bytes) ≡ letter_value c ∷ value_from 0 bytes
unfolding value_from escape_value escape_length
letter_step c bytes h = rw (ne_eqb c 120 (escaped_x c h), ne_eqb c 117 (escaped_u c h)) refl

pair_step : (high low : ℕ) (bytes : List ℕ) → is_hex_digit high ≡ true → is_hex_digit low ≡ true → value_from 0 (92 ∷ 120 ∷ high ∷ low ∷ bytes) ≡ (16 * digit_value high + digit_value low) ∷ value_from 0 bytes
unfolding value_from escape_value escape_length pair_value hex_value
pair_step high low bytes h l = rw (h, l) refl

code_char : (v : ℕ) → v ≤ 0x10FFFF → is_within 0xD800 0xDFFF v ≡ false → code_value v ≡ encode_utf8 v
unfolding code_value
code_char v le no_half = elim (cases_lt v 0xD800) [
  | inl below ↦ rw (lt-ltb v 0xD800 below) refl
  | inr from ↦ elim (cases_lt v 0xE000) [
    | inl half ↦ absurd (let f : is_within 0xD800 0xDFFF v ≡ true = rw (le-leb 0xD800 v from, le-leb v 0xDFFF (omega arith)) refl in cc)
    | inr beyond ↦ rw (le-ltb v 0xD800 from, le-leb 0xE000 v beyond, le-leb v 0x10FFFF le) refl
  ]
]

code_step : (digits : List ℕ) (v n : ℕ) → number_at_front 0 digits ≡ v → digit_count digits ≡ n → code_value v ≡ encode_utf8 v → value_from 0 (92 ∷ 117 ∷ 123 ∷ digits) ≡ encode_utf8 v ++ value_from 0 (drop (n + 1) digits)
unfolding value_from escape_value escape_length
code_step digits v n number count char =
    ap (λ k. code_value k ++ value_from (digit_count digits + 3) (117 ∷ 123 ∷ digits)) number
    ∙ ap (λ xs. xs ++ value_from (digit_count digits + 3) (117 ∷ 123 ∷ digits)) char
    ∙ ap (λ k. encode_utf8 v ++ value_from (k + 3) (117 ∷ 123 ∷ digits)) count
    ∙ ap (λ k. encode_utf8 v ++ value_from k (117 ∷ 123 ∷ digits)) (let e : n + 3 ≡ suc (suc (n + 1)) = omega arith in e)
    ∙ ap (λ xs. encode_utf8 v ++ xs) (value_skip (n + 1) digits)

-- ---- the digits of a code point, in a slice that ends at a place
module _ (text : List ℕ) (e : ℕ) where
  record Digits (start m v : ℕ) : Type 0 where
    pub rises : start ≤ m
    pub number : number_at_front 0 (slice_range text start e) ≡ number_at_front v (slice_range text m e)
    pub count : digit_count (slice_range text start e) ≡ (m - start) + digit_count (slice_range text m e)

  digits_read : (start m v : ℕ) → HasValue text start m v → m ≤ e → Digits start m v
  unfolding number_at_front digit_count
  digits_read start m v tokens.nothing le = record { rises = omega arith; number = refl; count = omega arith }
  digits_read start m v (tokens.digit {m = k} {v = u} before h next grown) le =
      let sofar = digits_read start k u before (omega arith) in
      let byte = get_or text k 0 in
      let more = slice_byte text e k byte refl (hex_nul byte h) (omega arith) in
      let number : number_at_front u (slice_range text k e) ≡ number_at_front (16 * u + digit_value byte) (slice_range text (k + 1) e) = ap (number_at_front u) more ∙ rw h refl in
      let count : digit_count (slice_range text k e) ≡ digit_count (slice_range text (k + 1) e) + 1 = ap digit_count more ∙ rw h refl in
      let moved : digit_count (slice_range text (k + 1) e) ≡ digit_count (slice_range text m e) = ap (λ i. digit_count (slice_range text i e)) (sym next) in
      record {
        rises = omega (arith, sofar.rises);
        number = sofar.number ∙ number ∙ ap (λ i. number_at_front (16 * u + digit_value byte) (slice_range text i e)) (sym next) ∙ ap (λ i. number_at_front i (slice_range text m e)) (sym grown);
        count = omega (arith, sofar.rises, sofar.count, count, moved);
      }

  -- up to the closing brace
  record Code (start m v : ℕ) : Type 0 where
    pub number : number_at_front 0 (slice_range text start e) ≡ v
    pub count : digit_count (slice_range text start e) ≡ m - start
    pub rises : start ≤ m

  code_read : (start m v : ℕ) → HasValue text start m v → get_or text m 0 ≡ 125 → m + 1 ≤ e → Code start m v
  unfolding number_at_front digit_count is_hex_digit is_digit
  code_read start m v digits brace le =
      let read = digits_read start m v digits (omega arith) in
      let close = slice_byte text e m 125 brace (omega arith) (omega arith) in
      let none : digit_count (slice_range text m e) ≡ 0 = ap digit_count close in
      record {
        number = read.number ∙ ap (number_at_front v) close;
        count = omega (arith, read.count, none);
        rises = read.rises;
      }

  -- ---- escapes in that slice
  slice_two : (a x y m : ℕ) → get_or text a 0 ≡ x → get_or text (a + 1) 0 ≡ y → 0 < x → 0 < y → m ≡ a + 2 → m ≤ e → slice_range text a e ≡ x ∷ y ∷ slice_range text m e
  slice_two a x y m first second some_x some_y next le =
      slice_byte text e a x first some_x (omega arith)
      ∙ ap (λ xs. x ∷ xs) (slice_byte text e (a + 1) y second some_y (omega arith))
      ∙ ap (λ k. x ∷ y ∷ slice_range text k e) (let same : (a + 1) + 1 ≡ m = omega arith in same)

  letter_front : (a m : ℕ) → get_or text a 0 ≡ 92 → is_escaped (get_or text (a + 1) 0) ≡ true → m ≡ a + 2 → m ≤ e → slice_range text a e ≡ 92 ∷ get_or text (a + 1) 0 ∷ slice_range text m e
  letter_front a m slash h next le = slice_two a 92 (get_or text (a + 1) 0) m slash refl (omega arith) (escaped_nul (get_or text (a + 1) 0) h) next le

  pair_front : (a m : ℕ) → get_or text a 0 ≡ 92 → get_or text (a + 1) 0 ≡ 120 → is_hex_digit (get_or text (a + 2) 0) ≡ true → is_hex_digit (get_or text (a + 3) 0) ≡ true → m ≡ a + 4 → m ≤ e
      → slice_range text a e ≡ 92 ∷ 120 ∷ get_or text (a + 2) 0 ∷ get_or text (a + 3) 0 ∷ slice_range text m e
  pair_front a m slash x high low next le =
      let last : get_or text ((a + 2) + 1) 0 ≡ get_or text (a + 3) 0 = ap (λ k. get_or text k 0) (let same : (a + 2) + 1 ≡ a + 3 = omega arith in same) in
      slice_two a 92 120 (a + 2) slash x (omega arith) (omega arith) refl (omega arith)
      ∙ ap (λ xs. 92 ∷ 120 ∷ xs) (slice_two (a + 2) (get_or text (a + 2) 0) (get_or text (a + 3) 0) m refl last (hex_nul (get_or text (a + 2) 0) high) (hex_nul (get_or text (a + 3) 0) low) (omega arith) le)

  code_front : (a : ℕ) → get_or text a 0 ≡ 92 → get_or text (a + 1) 0 ≡ 117 → get_or text (a + 2) 0 ≡ 123 → a + 3 ≤ e → slice_range text a e ≡ 92 ∷ 117 ∷ 123 ∷ slice_range text (a + 3) e
  code_front a slash u brace le =
      slice_two a 92 117 (a + 2) slash u (omega arith) (omega arith) refl (omega arith)
      ∙ ap (λ xs. 92 ∷ 117 ∷ xs) (slice_byte text e (a + 2) 123 brace (omega arith) (omega arith))
      ∙ ap (λ k. 92 ∷ 117 ∷ 123 ∷ slice_range text k e) (let same : (a + 2) + 1 ≡ a + 3 = omega arith in same)

  byte_escape_read : (a m n : ℕ) → IsByteEscape text a m n → m ≤ e → value_from 0 (slice_range text a e) ≡ n ∷ value_from 0 (slice_range text m e)
  byte_escape_read a m n (hold.letter slash h next is) le =
      ap (value_from 0) (letter_front a m slash h next le) ∙ letter_step (get_or text (a + 1) 0) (slice_range text m e) h ∙ ap (λ k. k ∷ value_from 0 (slice_range text m e)) (sym is)
  byte_escape_read a m n (hold.pair slash x high low next is) le =
      ap (value_from 0) (pair_front a m slash x high low next le) ∙ pair_step (get_or text (a + 2) 0) (get_or text (a + 3) 0) (slice_range text m e) high low ∙ ap (λ k. k ∷ value_from 0 (slice_range text m e)) (sym is)

  code_escape_read : (a m v : ℕ) → IsCodeEscape text a m v → m ≤ e → value_from 0 (slice_range text a e) ≡ encode_utf8 v ++ value_from 0 (slice_range text m e)
  code_escape_read a m v (hold.code {m = k} slash u brace digits small closes next) le =
      let read = code_read (a + 3) k v digits closes.0 (omega arith) in
      let n = k - (a + 3) in
      let rises = read.rises in
      let rest : drop (n + 1) (slice_range text (a + 3) e) ≡ slice_range text m e =
      drop_slice text (n + 1) (a + 3) e (omega arith) ∙ ap (λ i. slice_range text i e) (let same : (a + 3) + (n + 1) ≡ m = omega arith in same) in
      ap (value_from 0) (code_front a slash u brace (omega arith))
      ∙ code_step (slice_range text (a + 3) e) v n read.number read.count (code_char v small closes.2)
      ∙ ap (λ xs. encode_utf8 v ++ value_from 0 xs) rest

-- ---- characters of a string
abbrev IsQuoted : ℕ → Type 0
IsQuoted b = (0 < b) × (b ≢ 34) × (b ≢ 92)

quoted_byte : (b : ℕ) (bytes : List ℕ) → IsQuoted b → value_from 0 (b ∷ bytes) ≡ b ∷ value_from 0 bytes
unfolding value_from
quoted_byte b bytes h = rw (ne_eqb b 34 h.1, ne_eqb b 92 h.2) refl

quoted_parts : (text : List ℕ) (a : ℕ) → get_or text a 0 ≢ 34 → get_or text a 0 ≢ 92 → (k : ℕ) → k < char_len text a → IsQuoted (get_or text (a + k) 0)
quoted_parts text a no_quote no_slash zero lt =
    let same : get_or text a 0 ≡ get_or text (a + zero) 0 = ap (λ k. get_or text k 0) (let e : a ≡ a + zero = omega arith in e) in
    ((char_parts text a zero lt).0.0, λ f. no_quote (same ∙ f), λ f. no_slash (same ∙ f))
quoted_parts text a no_quote no_slash (suc k) lt =
    let high = (char_parts text a (suc k) lt).1 (omega arith) in
    (omega arith, λ f. omega arith, λ f. omega arith)

char_kept : (text : List ℕ) (e a m : ℕ) → get_or text a 0 ≢ 34 → get_or text a 0 ≢ 92 → IsChar text a m → m ≤ e → value_from 0 (slice_range text a e) ≡ slice_range text a m ++ value_from 0 (slice_range text m e)
char_kept text e a m no_quote no_slash (tokens.char some next) le =
    kept_front IsQuoted (λ n h. h.0) (value_from 0) quoted_byte text e (char_len text a) a (quoted_parts text a no_quote no_slash) (omega arith)
    ∙ ap (λ k. slice_range text a k ++ value_from 0 (slice_range text k e)) (sym next)

-- ---- strings
code_rises : (text : List ℕ) (start m v : ℕ) → HasValue text start m v → start ≤ m
code_rises text start m v tokens.nothing = omega arith
code_rises text start m v (tokens.digit {m = k} {v = u} before h next grown) = omega (arith, code_rises text start k u before)

escape_rises : (text : List ℕ) (a m : ℕ) → IsEscape text a m → a ≤ m
escape_rises text a m (tokens.letter slash h next) = omega arith
escape_rises text a m (tokens.pair slash x high low next) = omega arith
escape_rises text a m (tokens.code {m = k} {v = v} slash u brace digits small closes next) = omega (arith, code_rises text (a + 3) k v digits)

items_rise : (text : List ℕ) (a b : ℕ) → Run (IsItem text) a b → a ≤ b
items_rise text a b tokens.none = omega arith
items_rise text a b (tokens.more {m = m} (tokens.char no_quote no_slash (tokens.char some next)) run) = omega (arith, items_rise text m b run)
items_rise text a b (tokens.more {m = m} (tokens.escape escape) run) = omega (arith, escape_rises text a m escape, items_rise text m b run)

items_hold : (text : List ℕ) (e a b : ℕ) → Run (IsItem text) a b → get_or text b 0 ≡ 34 → e ≡ b + 1 → StringHolds text a b (value_from 0 (slice_range text a e))
unfolding value_from
items_hold text e a b tokens.none quote ends =
    let front = slice_byte text e a 34 quote (omega arith) (omega arith) in
    subst (λ xs. StringHolds text a a (value_from 0 xs)) (sym front) hold.none
items_hold text e a b (tokens.more {m = m} (tokens.char no_quote no_slash item) run) quote ends =
    let rises = items_rise text m b run in
    hold.char no_quote no_slash item (items_hold text e m b run quote ends) (char_kept text e a m no_quote no_slash item (omega arith))
items_hold text e a b (tokens.more {m = m} (tokens.escape (tokens.letter slash h next)) run) quote ends =
    let rises = items_rise text m b run in
    let escape : IsByteEscape text a m (letter_value (get_or text (a + 1) 0)) = hold.letter slash h next refl in
    hold.byte escape (items_hold text e m b run quote ends) (byte_escape_read text e a m (letter_value (get_or text (a + 1) 0)) escape (omega arith))
items_hold text e a b (tokens.more {m = m} (tokens.escape (tokens.pair slash x high low next)) run) quote ends =
    let rises = items_rise text m b run in
    let byte = 16 * digit_value (get_or text (a + 2) 0) + digit_value (get_or text (a + 3) 0) in
    let escape : IsByteEscape text a m byte = hold.pair slash x high low next refl in
    hold.byte escape (items_hold text e m b run quote ends) (byte_escape_read text e a m byte escape (omega arith))
items_hold text e a b (tokens.more {m = m} (tokens.escape (tokens.code {m = k} {v = v} slash u brace digits small closes next)) run) quote ends =
    let rises = items_rise text m b run in
    let escape : IsCodeEscape text a m v = hold.code slash u brace digits small closes next in
    hold.code escape (items_hold text e m b run quote ends) (code_escape_read text e a m v escape (omega arith))

pub string_holds : (text : List ℕ) (a b : ℕ) → IsString text a b → StringHolds text (a + 1) (b - 1) (string_value (slice_range text a b))
unfolding string_value
string_holds text a b (tokens.string {m = m} quote items close next) =
    let rises = items_rise text (a + 1) m items in
    let front = slice_byte text b a 34 quote (omega arith) (omega arith) in
    let ends : m ≡ b - 1 = omega arith in
    let holds = items_hold text b (a + 1) m items close next in
    let value : value_from 0 (slice_range text (a + 1) b) ≡ value_from 0 (drop 1 (slice_range text a b)) = ap (λ xs. value_from 0 (drop 1 xs)) (sym front) in
    subst (λ k. StringHolds text (a + 1) k (value_from 0 (drop 1 (slice_range text a b)))) ends (subst (λ xs. StringHolds text (a + 1) m xs) value holds)

-- ---- character literals
byte_char : (quote c : ℕ) (bytes : List ℕ) → c ≢ 92 → char_value (quote ∷ c ∷ bytes) ≡ c
unfolding char_value
byte_char quote c bytes h = rw (ne_eqb c 92 h) refl

letter_char : (quote c : ℕ) (bytes : List ℕ) → is_escaped c ≡ true → char_value (quote ∷ 92 ∷ c ∷ bytes) ≡ letter_value c
unfolding char_value escape_code
letter_char quote c bytes h = rw (ne_eqb c 120 (escaped_x c h), ne_eqb c 117 (escaped_u c h)) refl

pair_char : (quote high low : ℕ) (bytes : List ℕ) → char_value (quote ∷ 92 ∷ 120 ∷ high ∷ low ∷ bytes) ≡ 16 * digit_value high + digit_value low
unfolding char_value escape_code
pair_char quote high low bytes = refl

coded_char : (quote v : ℕ) (digits : List ℕ) → number_at_front 0 digits ≡ v → v ≤ 0x10FFFF → char_value (quote ∷ 92 ∷ 117 ∷ 123 ∷ digits) ≡ v
unfolding char_value escape_code
coded_char quote v digits number small = ap (λ n. min n 0x110000) number ∙ (let e : min v 0x110000 ≡ v = omega arith in e)

module _ (text : List ℕ) (e quote : ℕ) where
  char_item : (a m : ℕ) → IsCharItem text a m → m ≤ e → CharHolds text a m (char_value (quote ∷ slice_range text a e))
  char_item a m (tokens.byte printed no_quote no_slash next) le =
      let c = get_or text a 0 in
      let front = slice_byte text e a c refl (printed_nul c printed) (omega arith) in
      hold.byte no_slash next (ap (λ xs. char_value (quote ∷ xs)) front ∙ byte_char quote c (slice_range text (a + 1) e) no_slash)
    where
      printed_nul : (c : ℕ) → is_within 32 126 c ≡ true → 0 < c
      printed_nul zero h = absurd cc
      printed_nul (suc c) h = omega arith
  char_item a m (tokens.escape (tokens.letter slash h next)) le =
      hold.byte_escape (hold.letter slash h next (ap (λ xs. char_value (quote ∷ xs)) (letter_front text e a m slash h next le) ∙ letter_char quote (get_or text (a + 1) 0) (slice_range text m e) h))
  char_item a m (tokens.escape (tokens.pair slash x high low next)) le =
      hold.byte_escape (hold.pair slash x high low next (ap (λ xs. char_value (quote ∷ xs)) (pair_front text e a m slash x high low next le) ∙ pair_char quote (get_or text (a + 2) 0) (get_or text (a + 3) 0) (slice_range text m e)))
  char_item a m (tokens.escape (tokens.code {m = k} {v = v} slash u brace digits small closes next)) le =
      let read = code_read text e (a + 3) k v digits closes.0 (omega arith) in
      let rises = read.rises in
      let value : char_value (quote ∷ slice_range text a e) ≡ v =
      ap (λ xs. char_value (quote ∷ xs)) (code_front text e a slash u brace (omega arith)) ∙ coded_char quote v (slice_range text (a + 3) e) read.number small in
      subst (λ n. CharHolds text a m n) (sym value) (hold.code_escape (hold.code slash u brace digits small closes next))

item_rises : (text : List ℕ) (a m : ℕ) → IsCharItem text a m → a ≤ m
item_rises text a m (tokens.byte printed no_quote no_slash next) = omega arith
item_rises text a m (tokens.escape escape) = escape_rises text a m escape

pub char_holds : (text : List ℕ) (a b : ℕ) → IsLiteral text a b → CharHolds text (a + 1) (b - 1) (char_value (slice_range text a b))
char_holds text a b (tokens.literal {m = m} quote item close next) =
    let rises = item_rises text (a + 1) m item in
    let front = slice_byte text b a 39 quote (omega arith) (omega arith) in
    let ends : m ≡ b - 1 = omega arith in
    let holds = char_item text b 39 (a + 1) m item (omega arith) in
    subst (λ k. CharHolds text (a + 1) k (char_value (slice_range text a b))) ends (subst (λ xs. CharHolds text (a + 1) m (char_value xs)) (sym front) holds)
