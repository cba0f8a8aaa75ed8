-- Lines of text, one character after the other.
use Rattle.std.proofs.Common.{◌≡◌, ℕ, ◌+◌, ◌-◌, ◌<◌, ◌≤◌, true, false, List, length, get_or, drop, Some, None, Ok, Err, refl, ap, ◌∙◌, arith, eqb, cond, ◌⊎◌, inl, inr}
use Rattle.std.proofs.lemmas.Bool.{and_parts, leb-true, eqb-true, cond_both, ne_eqb}
use Rattle.std.proofs.lemmas.List.{drop_all}
use Rattle.zig_tree.specs.TokenBytes.{is_plain, is_two_bytes, is_three_bytes, is_four_bytes, is_within, char_len, ends_line}
use Rattle.zig_token.specs.declared.fault.LexFault.TheVariants.{BadByte}
use Rattle.zig_token.specs.Scan.{line_from, blanks_from, lines_from, next_line}
use Rattle.zig_tree.specs.TokenBytes.{begins}
use Rattle.zig_token.proofs.Skips.{within_text, passed, here}

-- a byte of a range is not below its low end
pub is_byte_below : (low high b : ℕ) → is_within low high b ≡ true → low ≤ b
is_byte_below low high b h = leb-true low b (and_parts _ _ h).0

-- the last byte of a character is not 0, so it lies within the text
two_tail : (a b : ℕ) → is_two_bytes a b ≡ true → 0 < b
unfolding is_two_bytes
two_tail a b h = omega (arith, is_byte_below 0x80 0xBF b (and_parts _ _ h).1)

three_tail : (a b c : ℕ) → is_three_bytes a b c ≡ true → 0 < c
unfolding is_three_bytes
three_tail a b c h = omega (arith, is_byte_below 0x80 0xBF c (and_parts _ _ h).1)

four_tail : (a b c d : ℕ) → is_four_bytes a b c d ≡ true → 0 < d
unfolding is_four_bytes
four_tail a b c d h = omega (arith, is_byte_below 0x80 0xBF d (and_parts _ _ (and_parts _ _ h).1).1)

pub char_fits : (text : List ℕ) (at : ℕ) → at < length text → at + char_len text at ≤ length text
unfolding char_len
char_fits text at lt =
    let a = get_or text at 0 in
    let b = get_or text (at + 1) 0 in
    let c = get_or text (at + 2) 0 in
    let d = get_or text (at + 3) 0 in
    cond_both (is_plain a) 1 (cond (is_two_bytes a b) 2 (cond (is_three_bytes a b c) 3 (cond (is_four_bytes a b c d) 4 0))) (λ n. at + n ≤ length text) (λ _. omega arith) (λ _.
    cond_both (is_two_bytes a b) 2 (cond (is_three_bytes a b c) 3 (cond (is_four_bytes a b c d) 4 0)) (λ n. at + n ≤ length text) (λ h. omega (arith, within_text text (at + 1) (two_tail a b h))) (λ _.
    cond_both (is_three_bytes a b c) 3 (cond (is_four_bytes a b c d) 4 0) (λ n. at + n ≤ length text) (λ h. omega (arith, within_text text (at + 2) (three_tail a b c h))) (λ _.
    cond_both (is_four_bytes a b c d) 4 0 (λ n. at + n ≤ length text) (λ h. omega (arith, within_text text (at + 3) (four_tail a b c d h))) (λ _. omega arith))))

nonzero : (n : ℕ) → 0 < n → eqb n 0 ≡ false
nonzero n lt = ne_eqb n 0 (λ e. omega arith)

module _ (text : List ℕ) (at : ℕ) (lt : at < length text) where
  pub line_ends : ends_line text at ≡ true → line_from text at 0 (drop at text) ≡ Ok at
  unfolding line_from
  line_ends h = rw (here text at lt, h) refl

  pub line_wrong : ends_line text at ≡ false → char_len text at ≡ 0 → line_from text at 0 (drop at text) ≡ Err (BadByte at)
  unfolding line_from
  line_wrong h z = rw (here text at lt, h, z) refl

  pub line_further : ends_line text at ≡ false → 0 < char_len text at → line_from text at 0 (drop at text) ≡ line_from text (at + char_len text at) 0 (drop (at + char_len text at) text)
  unfolding line_from
  line_further h nz =
      let n = char_len text at in
      let k : n - 1 ≡ at + n - (at + 1) = omega arith in
      let some : eqb n 0 ≡ false = nonzero n nz in
      let one : line_from text at 0 (drop at text) ≡ line_from text (at + 1) (n - 1) (drop (at + 1) text) = rw (here text at lt, h, some) refl in
      one ∙ ap (λ j. line_from text (at + 1) j (drop (at + 1) text)) k ∙ passed (line_from text) (λ _ _ _ _. refl) text at (at + n) (omega arith) (char_fits text at lt)

-- at the end of the text
pub line_done : (text : List ℕ) (at : ℕ) → length text ≤ at → line_from text at 0 (drop at text) ≡ Ok at
unfolding line_from
line_done text at le = rw (drop_all at text le) refl

-- spaces and TABs
module _ (text : List ℕ) (at : ℕ) (lt : at < length text) where
  pub blanks_further : get_or text at 0 ≡ 32 ⊎ get_or text at 0 ≡ 9 → blanks_from at (drop at text) ≡ blanks_from (at + 1) (drop (at + 1) text)
  unfolding blanks_from
  blanks_further (inl e) = rw (here text at lt, e) refl
  blanks_further (inr e) = rw (here text at lt, e) refl

  pub blanks_end : (get_or text at 0 ≡ 32 → ⊥) → (get_or text at 0 ≡ 9 → ⊥) → blanks_from at (drop at text) ≡ at
  unfolding blanks_from
  blanks_end no_space no_tab =
      let s : eqb (get_or text at 0) 32 ≡ false = ne_eqb _ 32 no_space in
      let t : eqb (get_or text at 0) 9 ≡ false = ne_eqb _ 9 no_tab in
      rw (here text at lt, s, t) refl

pub blanks_done : (text : List ℕ) (at : ℕ) → length text ≤ at → blanks_from at (drop at text) ≡ at
unfolding blanks_from
blanks_done text at le = rw (drop_all at text le) refl

-- two bytes that are not 0 stand within the text
pub begins_fits : (text : List ℕ) (at a b : ℕ) → begins text at a b ≡ true → 0 < b → (begins text at a b ≡ begins text at a b) × (at + 2 ≤ length text)
unfolding begins
begins_fits text at a b h nz = (refl, omega (arith, within_text text (at + 1), eqb-true (get_or text (at + 1) 0) b (and_parts _ _ h).1))

-- lines that begin with `\\`
module _ (text : List ℕ) (at : ℕ) (lt : at < length text) where
  pub lines_end : ends_line text at ≡ true → next_line text at ≡ None → lines_from text at 0 (drop at text) ≡ Ok at
  unfolding lines_from
  lines_end h none = rw (here text at lt, h, none) refl

  pub lines_on : (on : ℕ) → ends_line text at ≡ true → next_line text at ≡ Some on → at < on → on ≤ length text → lines_from text at 0 (drop at text) ≡ lines_from text on 0 (drop on text)
  unfolding lines_from
  lines_on on h some further fits =
      let one : lines_from text at 0 (drop at text) ≡ lines_from text (at + 1) (on - (at + 1)) (drop (at + 1) text) = rw (here text at lt, h, some) refl in
      one ∙ passed (lines_from text) (λ _ _ _ _. refl) text at on further fits

  pub lines_wrong : ends_line text at ≡ false → char_len text at ≡ 0 → lines_from text at 0 (drop at text) ≡ Err (BadByte at)
  unfolding lines_from
  lines_wrong h z = rw (here text at lt, h, z) refl

  pub lines_further : ends_line text at ≡ false → 0 < char_len text at → lines_from text at 0 (drop at text) ≡ lines_from text (at + char_len text at) 0 (drop (at + char_len text at) text)
  unfolding lines_from
  lines_further h nz =
      let n = char_len text at in
      let k : n - 1 ≡ at + n - (at + 1) = omega arith in
      let some : eqb n 0 ≡ false = nonzero n nz in
      let one : lines_from text at 0 (drop at text) ≡ lines_from text (at + 1) (n - 1) (drop (at + 1) text) = rw (here text at lt, h, some) refl in
      one ∙ ap (λ j. lines_from text (at + 1) j (drop (at + 1) text)) k ∙ passed (lines_from text) (λ _ _ _ _. refl) text at (at + n) (omega arith) (char_fits text at lt)

pub lines_done : (text : List ℕ) (at : ℕ) → length text ≤ at → lines_from text at 0 (drop at text) ≡ Ok at
unfolding lines_from
lines_done text at le = rw (drop_all at text le) refl
