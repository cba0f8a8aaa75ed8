-- Hexadecimal digits and escapes, one after the other.
use Rattle.std.proofs.Common.{◌≡◌, ℕ, zero, suc, ◌+◌, ◌*◌, ◌<◌, ◌≤◌, min, Bool, true, false, if◌then◌else◌, List, [], ◌∷◌, ◌++◌, length, get_or, drop, Some, None, refl, sym, ap, ◌∙◌, arith, inl, inr, nat_le}
use Rattle.std.proofs.lemmas.Bool.{ne_eqb, cases_lt, le-ltb, lt-leb, and_right}
use Rattle.std.proofs.lemmas.List.{drop_more, drop_all, drop-drop}
use Rattle.zig_tree.specs.TokenBytes.{is_hex_digit, digit_value}
use Rattle.zir_form.specs.Escapes.{hex_value, number_at_front, digit_count, code_value, escape_value, escape_length, value_from}

pub hex_some : (b d : ℕ) → Some d ≡ hex_value b → (is_hex_digit b ≡ true) × (digit_value b ≡ d)
unfolding hex_value
hex_some b d e = by (is_hex_digit b) refl
  where
    by : (t : Bool) → is_hex_digit b ≡ t → (is_hex_digit b ≡ true) × (digit_value b ≡ d)
    by true h = let f : Some d ≡ Some (digit_value b) = e ∙ ap (λ t. if t then Some (digit_value b) else None) h in (h, cc)
    by false h = let f : Some d ≡ None = e ∙ ap (λ t. if t then Some (digit_value b) else None) h in cc

pub hex_none : (b : ℕ) → None ≡ hex_value b → is_hex_digit b ≡ false
unfolding hex_value
hex_none b e = by (is_hex_digit b) refl
  where
    by : (t : Bool) → is_hex_digit b ≡ t → is_hex_digit b ≡ false
    by true h = let f : None ≡ Some (digit_value b) = e ∙ ap (λ t. if t then Some (digit_value b) else None) h in cc
    by false h = h

-- numbers that are the same up to a bound stay so
pub capped : (v w : ℕ) (bytes : List ℕ) → min v 0x110000 ≡ min w 0x110000 → min (number_at_front v bytes) 0x110000 ≡ min (number_at_front w bytes) 0x110000
unfolding number_at_front
capped v w [] e = e
capped v w (b ∷ bytes) e = by (is_hex_digit b) (capped (16 * v + digit_value b) (16 * w + digit_value b) bytes (omega arith))
  where
    by : (t : Bool) → min (number_at_front (16 * v + digit_value b) bytes) 0x110000 ≡ min (number_at_front (16 * w + digit_value b) bytes) 0x110000
        → min (if t then number_at_front (16 * v + digit_value b) bytes else v) 0x110000 ≡ min (if t then number_at_front (16 * w + digit_value b) bytes else w) 0x110000
    by true rest = rest
    by false rest = e

-- a number beyond all code points stands for what each does
pub code_capped : (n : ℕ) → code_value (min n 0x110000) ≡ code_value n
unfolding code_value
code_capped n = elim (cases_lt n 0x110000) [
  | inl below ↦ ap code_value (let e : min n 0x110000 ≡ n = omega arith in e)
  | inr beyond ↦
      let e : min n 0x110000 ≡ 0x110000 = omega arith in
      ap code_value e ∙ sym (rw (le-ltb n 0xD800 (omega arith), and_right (nat_le 0xE000 n) (nat_le n 0x10FFFF) (lt-leb n 0x10FFFF (omega arith))) refl)
]

module _ (bytes : List ℕ) (i : ℕ) (lt : i < length bytes) where
  pub number_more : (number d : ℕ) → Some d ≡ hex_value (get_or bytes i 0) → number_at_front number (drop i bytes) ≡ number_at_front (16 * number + d) (drop (i + 1) bytes)
  unfolding number_at_front
  number_more number d e = let h = hex_some (get_or bytes i 0) d e in rw (drop_more bytes i 0 lt, h.0, h.1) refl

  pub number_end : (number : ℕ) → None ≡ hex_value (get_or bytes i 0) → number_at_front number (drop i bytes) ≡ number
  unfolding number_at_front
  number_end number e = rw (drop_more bytes i 0 lt, hex_none (get_or bytes i 0) e) refl

  pub count_more : (d : ℕ) → Some d ≡ hex_value (get_or bytes i 0) → digit_count (drop i bytes) ≡ digit_count (drop (i + 1) bytes) + 1
  unfolding digit_count
  count_more d e = let h = hex_some (get_or bytes i 0) d e in rw (drop_more bytes i 0 lt, h.0) refl

  pub count_end : None ≡ hex_value (get_or bytes i 0) → digit_count (drop i bytes) ≡ 0
  unfolding digit_count
  count_end e = rw (drop_more bytes i 0 lt, hex_none (get_or bytes i 0) e) refl

pub number_done : (bytes : List ℕ) (i number : ℕ) → length bytes ≤ i → number_at_front number (drop i bytes) ≡ number
unfolding number_at_front
number_done bytes i number le = rw (drop_all i bytes le) refl

pub count_done : (bytes : List ℕ) (i : ℕ) → length bytes ≤ i → digit_count (drop i bytes) ≡ 0
unfolding digit_count
count_done bytes i le = rw (drop_all i bytes le) refl

-- ---- what stands in quotes
value_skips : (n : ℕ) (bytes : List ℕ) → value_from n bytes ≡ value_from 0 (drop n bytes)
unfolding value_from
value_skips zero bytes = refl
value_skips (suc n) [] = refl
value_skips (suc n) (b ∷ bytes) = value_skips n bytes

module _ (bytes : List ℕ) (at : ℕ) (lt : at < length bytes) where
  pub value_ends : get_or bytes at 0 ≡ 34 → value_from 0 (drop at bytes) ≡ []
  unfolding value_from
  value_ends e = rw (drop_more bytes at 0 lt, e) refl

  pub value_escape : get_or bytes at 0 ≡ 92 → value_from 0 (drop at bytes) ≡ escape_value (drop (at + 1) bytes) ++ value_from 0 (drop (at + (1 + escape_length (drop (at + 1) bytes))) bytes)
  unfolding value_from
  value_escape e =
      let rest = drop (at + 1) bytes in
      let n = escape_length rest in
      let further : value_from n rest ≡ value_from 0 (drop (at + (1 + n)) bytes) = value_skips n rest ∙ ap (value_from 0) (drop-drop n (at + 1) bytes) ∙ ap (λ k. value_from 0 (drop k bytes)) (let s : (at + 1) + n ≡ at + (1 + n) = omega arith in s) in
      rw (drop_more bytes at 0 lt, e) (ap (λ v. escape_value rest ++ v) further)

  pub value_char : (get_or bytes at 0 ≡ 34 → ⊥) → (get_or bytes at 0 ≡ 92 → ⊥) → value_from 0 (drop at bytes) ≡ get_or bytes at 0 ∷ value_from 0 (drop (at + 1) bytes)
  unfolding value_from
  value_char no_quote no_slash = rw (drop_more bytes at 0 lt, ne_eqb _ 34 no_quote, ne_eqb _ 92 no_slash) refl

pub value_done : (bytes : List ℕ) (at : ℕ) → length bytes ≤ at → value_from 0 (drop at bytes) ≡ []
unfolding value_from
value_done bytes at le = rw (drop_all at bytes le) refl

pub escape_code : (rest : List ℕ) → get_or rest 0 0 ≡ 117 → escape_value rest ≡ code_value (number_at_front 0 (drop 2 rest))
unfolding escape_value
escape_code rest e = rw e refl
