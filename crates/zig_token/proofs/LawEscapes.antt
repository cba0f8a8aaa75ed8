-- Escapes: what the functions on lists answer is what the relation says.
use Rattle.std.proofs.Common.{◌≡◌, ℕ, zero, suc, ◌+◌, ◌*◌, ◌<◌, ◌≤◌, true, false, List, length, get_or, drop, refl, sym, ap, subst, ◌∙◌, ◌⊎◌, inl, inr, arith, ltb}
use Rattle.std.proofs.lemmas.Bool.{cases_Bool, cases_lt, cases_eq, and_parts, eqb-true, ne_eqb, lt-ltb, le-ltb, ltb-true, not-true, false_from_ne_true, false≢true}
use Rattle.zig_tree.specs.TokenBytes.{is_within, is_digit, is_hex_digit, digit_value, is_escaped}
use Rattle.zig_tree.specs.Tokens.{HasValue, nothing, digit, Closes, IsEscape, letter, pair, code, Breaks, no_letter, no_pair, half_pair, no_brace, too_large, no_close}
use Rattle.zig_token.specs.declared.quoted.Escape.TheVariants.{Whole, Wrong}
use Rattle.zig_token.specs.Scan.{hex_pair, closes_code, code_from, escape_at}
use Rattle.zig_token.proofs.Skips.{within_text}
use Rattle.zig_token.proofs.Quotes.{hex_within, escaped_within, code_wrong, code_further, code_closes, code_open, code_done}

value_rises : {text : List ℕ} {s m v : ℕ} → HasValue text s m v → s ≤ m
value_rises nothing = omega arith
value_rises (digit d h n w) = omega (arith, value_rises d)

-- after some digits the function goes on with their value
value_read : (text : List ℕ) {s m v : ℕ} → HasValue text s m v → v ≤ 0x10FFFF → code_from 0 false s (drop s text) ≡ code_from v (ltb s m) m (drop m text)
value_read text {s} nothing le = ap (λ b. code_from 0 b s (drop s text)) (sym (le-ltb s s (omega arith)))
value_read text {s} (digit {m = m} {n = n} {v = v} {w = w} d h e f) le =
    let before = value_read text d (omega arith) in
    let one = code_further text m v (ltb s m) (hex_within text m h) h (omega arith) in
    let some : true ≡ ltb s n = sym (lt-ltb s n (omega (arith, value_rises d))) in
    before ∙ one ∙ (λ i. code_from (sym f i) (some i) (sym e i) (drop (sym e i) text))

closes_is : (b s m v : ℕ) → b ≡ 125 → s < m → is_within 0xD800 0xDFFF v ≡ false → closes_code b (ltb s m) v ≡ true
unfolding closes_code
closes_is b s m v e lt valid = rw (e, lt-ltb s m lt, valid) refl

closes_means : (text : List ℕ) (s m v : ℕ) → closes_code (get_or text m 0) (ltb s m) v ≡ true → Closes text s m v
unfolding closes_code
closes_means text s m v h =
    let p = and_parts _ _ h in
    let q = and_parts _ _ p.1 in
    (eqb-true _ 125 p.0, ltb-true s m q.0, not-true _ q.1)

closes_or : (text : List ℕ) (s m v : ℕ) → (Closes text s m v → ⊥) → closes_code (get_or text m 0) (ltb s m) v ≡ false
closes_or text s m v open_here = false_from_ne_true _ (λ t. open_here (closes_means text s m v t))

not_hex : is_hex_digit 125 ≡ false
unfolding is_hex_digit is_digit
not_hex = refl

not_escaped : (text : List ℕ) (a b : ℕ) → get_or text a 0 ≡ b → is_escaped b ≡ false → is_escaped (get_or text a 0) ≡ false
not_escaped text a b e h = ap is_escaped e ∙ h

x_not_escaped : is_escaped 120 ≡ false
unfolding is_escaped
x_not_escaped = refl

u_not_escaped : is_escaped 117 ≡ false
unfolding is_escaped
u_not_escaped = refl

-- an escape that is there is read
pub escape_read : (text : List ℕ) (a b : ℕ) → IsEscape text a b → escape_at text a ≡ Whole b
unfolding escape_at hex_pair
escape_read text a b (letter slash h e) = rw (h, e) refl
escape_read text a b (pair slash x h k e) =
    let k' : is_hex_digit (get_or text (a + 2 + 1) 0) ≡ true = subst (λ n. is_hex_digit (get_or text n 0) ≡ true) (omega arith) k in
    let e' : a + 2 + 2 ≡ b = omega arith in
    rw (x, x_not_escaped, h, k', e') refl
escape_read text a b (code {m = m} {v = v} slash u brace d le closes e) =
    let here = within_text text m (omega (arith, closes.0)) in
    let open_digits : is_hex_digit (get_or text m 0) ≡ false = ap is_hex_digit closes.0 ∙ not_hex in
    let closed = closes_is (get_or text m 0) (a + 3) m v closes.0 closes.1 closes.2 in
    let one = value_read text d le ∙ code_closes text m v (ltb (a + 3) m) here open_digits closed in
    rw (u, u_not_escaped, brace, one, e) refl

pub break_read : (text : List ℕ) (a w : ℕ) → Breaks text a w → escape_at text a ≡ Wrong w
unfolding escape_at hex_pair
break_read text a w (no_letter slash h x u e) = rw (h, ne_eqb _ 120 x, ne_eqb _ 117 u, e) refl
break_read text a w (no_pair slash x h e) = rw (x, x_not_escaped, h, e) refl
break_read text a w (half_pair slash x h k e) =
    let k' : is_hex_digit (get_or text (a + 2 + 1) 0) ≡ false = subst (λ n. is_hex_digit (get_or text n 0) ≡ false) (omega arith) k in
    let e' : a + 2 + 1 ≡ w = omega arith in
    rw (x, x_not_escaped, h, k', e') refl
break_read text a w (no_brace slash u b e) = rw (u, u_not_escaped, ne_eqb _ 123 b, e) refl
break_read text a w (too_large {v = v} slash u brace d le h big) =
    let one = value_read text d le ∙ code_wrong text w v (ltb (a + 3) w) (hex_within text w h) h big in
    rw (u, u_not_escaped, brace, one) refl
break_read text a w (no_close {v = v} slash u brace d le h open_here) =
    let stop : code_from v (ltb (a + 3) w) w (drop w text) ≡ Wrong w =
    elim (cases_lt w (length text)) [
      | inl lt ↦ code_open text w v (ltb (a + 3) w) lt h (closes_or text (a + 3) w v open_here)
      | inr past ↦ code_done text w v (ltb (a + 3) w) past
    ] in
    rw (u, u_not_escaped, brace, value_read text d le ∙ stop) refl

-- at each backslash there is an escape, or a byte with which none begins
abbrev pub Outcome : List ℕ → ℕ → Type 0
Outcome text a = ((b : ℕ) × IsEscape text a b) ⊎ ((w : ℕ) × Breaks text a w)

module _ (text : List ℕ) (a : ℕ) (slash : get_or text a 0 ≡ 92) (u : get_or text (a + 1) 0 ≡ 117) (brace : get_or text (a + 2) 0 ≡ 123) where
  code_stop : (m v : ℕ) → HasValue text (a + 3) m v → v ≤ 0x10FFFF → is_hex_digit (get_or text m 0) ≡ false → Outcome text a
  code_stop m v d le h =
      elim (cases_Bool (closes_code (get_or text m 0) (ltb (a + 3) m) v)) [
        | inl closed ↦ inl (m + 1, code slash u brace d le (closes_means text (a + 3) m v closed) refl)
        | inr left_open ↦ inr (m, no_close slash u brace d le h (λ c. false≢true (sym left_open ∙ closes_is (get_or text m 0) (a + 3) m v c.0 c.1 c.2)))
      ]

  code_outcome : (n m v : ℕ) → length text ≤ m + n → HasValue text (a + 3) m v → v ≤ 0x10FFFF → Outcome text a
  code_outcome zero m v far d le =
      elim (cases_Bool (is_hex_digit (get_or text m 0))) [
        | inl h ↦ absurd (omega (arith, hex_within text m h))
        | inr h ↦ code_stop m v d le h
      ]
  code_outcome (suc n) m v far d le =
      elim (cases_Bool (is_hex_digit (get_or text m 0))) [
        | inl h ↦ elim (cases_lt 0x10FFFF (16 * v + digit_value (get_or text m 0))) [
          | inl big ↦ inr (m, too_large slash u brace d le h big)
          | inr small ↦ code_outcome n (m + 1) (16 * v + digit_value (get_or text m 0)) (omega arith) (digit d h refl refl) small
        ]
        | inr h ↦ code_stop m v d le h
      ]

pair_outcome : (text : List ℕ) (a : ℕ) → get_or text a 0 ≡ 92 → get_or text (a + 1) 0 ≡ 120 → Outcome text a
pair_outcome text a slash x =
    elim (cases_Bool (is_hex_digit (get_or text (a + 2) 0))) [
      | inl h ↦ elim (cases_Bool (is_hex_digit (get_or text (a + 3) 0))) [ inl k ↦ inl (a + 4, pair slash x h k refl) | inr k ↦ inr (a + 3, half_pair slash x h k refl) ]
      | inr h ↦ inr (a + 2, no_pair slash x h refl)
    ]

pub escape_outcome : (text : List ℕ) (a : ℕ) → get_or text a 0 ≡ 92 → Outcome text a
escape_outcome text a slash =
    elim (cases_Bool (is_escaped (get_or text (a + 1) 0))) [
      | inl h ↦ inl (a + 2, letter slash h refl)
      | inr h ↦ elim (cases_eq (get_or text (a + 1) 0) 120) [
        | inl x ↦ pair_outcome text a slash x
        | inr not_x ↦ elim (cases_eq (get_or text (a + 1) 0) 117) [
          | inl u ↦ elim (cases_eq (get_or text (a + 2) 0) 123) [
            | inl brace ↦ code_outcome text a slash u brace (length text) (a + 3) 0 (omega arith) nothing (omega arith)
            | inr no_open ↦ inr (a + 2, no_brace slash u no_open refl)
          ]
          | inr not_u ↦ inr (a + 1, no_letter slash h not_x not_u refl)
        ]
      ]
    ]

-- an escape lies within the text, as its last byte does
pub escape_rises : (text : List ℕ) (a b : ℕ) → IsEscape text a b → (a < b) × (b ≤ length text)
escape_rises text a b (letter slash h e) = (omega arith, omega (arith, (escaped_within text (a + 1) h).1))
escape_rises text a b (pair slash x h k e) = (omega arith, omega (arith, hex_within text (a + 3) k))
escape_rises text a b (code {m = m} slash u brace d le closes e) = (omega (arith, closes.1), omega (arith, within_text text m (omega (arith, closes.0))))
