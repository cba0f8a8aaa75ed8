-- Escapes and strings, one byte or one item after the other.
use Rattle.std.proofs.Common.{◌≡◌, ℕ, zero, suc, ◌+◌, ◌-◌, ◌*◌, ◌<◌, ◌≤◌, Bool, true, false, List, length, get_or, drop, Ok, Err, refl, ◌∙◌, arith, ◌||◌, inl, inr}
use Rattle.std.proofs.lemmas.Bool.{ne_eqb, le-leb, lt-leb, or_cases}
use Rattle.std.proofs.lemmas.List.{drop_all}
use Rattle.zig_tree.specs.TokenBytes.{is_hex_digit, is_digit, is_within, digit_value}
use Rattle.zig_token.specs.declared.fault.LexFault.{LexFault}
use Rattle.zig_token.specs.declared.fault.LexFault.TheVariants.{OpenString}
use Rattle.zig_token.specs.declared.quoted.Escape.TheVariants.{Whole, Wrong}
use Rattle.zig_token.specs.Scan.{closes_code, code_from, quoted_from, item_end}
use Rattle.zig_tree.specs.TokenBytes.{is_escaped}
use Rattle.zig_token.proofs.Skips.{within_text, passed, here}
use Rattle.zig_token.proofs.Lines.{is_byte_below}

-- a byte that is not 0 stands within the text
pub byte_within : (text : List ℕ) (at b : ℕ) → get_or text at 0 ≡ b → 0 < b → (get_or text at 0 ≡ get_or text at 0) × (at < length text)
byte_within text at b e nz = (refl, within_text text at (omega arith))

hex_some : (b : ℕ) → is_hex_digit b ≡ true → 0 < b
unfolding is_hex_digit is_digit
hex_some b h =
    elim (or_cases (is_digit b) (is_within 65 70 b || is_within 97 102 b) h) [
      | inl d ↦ omega (arith, is_byte_below 48 57 b d)
      | inr r ↦ elim (or_cases (is_within 65 70 b) (is_within 97 102 b) r) [ inl d ↦ omega (arith, is_byte_below 65 70 b d) | inr d ↦ omega (arith, is_byte_below 97 102 b d) ]
    ]

pub hex_within : (text : List ℕ) (at : ℕ) → is_hex_digit (get_or text at 0) ≡ true → at < length text
hex_within text at h = within_text text at (hex_some (get_or text at 0) h)

escaped_some : (b : ℕ) → is_escaped b ≡ true → 0 < b
unfolding is_escaped
escaped_some zero h = absurd cc
escaped_some (suc b) h = omega arith

pub escaped_within : (text : List ℕ) (at : ℕ) → is_escaped (get_or text at 0) ≡ true → (get_or text at 0 ≡ get_or text at 0) × (at < length text)
escaped_within text at h = (refl, within_text text at (escaped_some (get_or text at 0) h))

-- ---- code points
module _ (text : List ℕ) (at value : ℕ) (some : Bool) (lt : at < length text) where
  pub code_wrong : is_hex_digit (get_or text at 0) ≡ true → 0x10FFFF < 16 * value + digit_value (get_or text at 0) → code_from value some at (drop at text) ≡ Wrong at
  unfolding code_from
  code_wrong h big = rw (here text at lt, h, lt-leb _ _ big) refl

  pub code_further : is_hex_digit (get_or text at 0) ≡ true → 16 * value + digit_value (get_or text at 0) ≤ 0x10FFFF → code_from value some at (drop at text) ≡ code_from (16 * value + digit_value (get_or text at 0)) true (at + 1) (drop (at + 1) text)
  unfolding code_from
  code_further h small = rw (here text at lt, h, le-leb _ _ small) refl

  pub code_closes : is_hex_digit (get_or text at 0) ≡ false → closes_code (get_or text at 0) some value ≡ true → code_from value some at (drop at text) ≡ Whole (at + 1)
  unfolding code_from
  code_closes h e = rw (here text at lt, h, e) refl

  pub code_open : is_hex_digit (get_or text at 0) ≡ false → closes_code (get_or text at 0) some value ≡ false → code_from value some at (drop at text) ≡ Wrong at
  unfolding code_from
  code_open h e = rw (here text at lt, h, e) refl

pub code_done : (text : List ℕ) (at value : ℕ) (some : Bool) → length text ≤ at → code_from value some at (drop at text) ≡ Wrong at
unfolding code_from
code_done text at value some le = rw (drop_all at text le) refl

-- ---- strings
module _ (text : List ℕ) (quote at : ℕ) (lt : at < length text) where
  pub quoted_ends : get_or text at 0 ≡ 34 → quoted_from text quote at 0 (drop at text) ≡ Ok (at + 1)
  unfolding quoted_from
  quoted_ends e = rw (here text at lt, e) refl

  pub quoted_wrong : (fault : LexFault) → (get_or text at 0 ≡ 34 → ⊥) → item_end text quote at ≡ Err fault → quoted_from text quote at 0 (drop at text) ≡ Err fault
  unfolding quoted_from
  quoted_wrong fault inside e = rw (here text at lt, ne_eqb _ 34 inside, e) refl

  pub quoted_further : (end : ℕ) → (get_or text at 0 ≡ 34 → ⊥) → item_end text quote at ≡ Ok end → at < end → end ≤ length text → quoted_from text quote at 0 (drop at text) ≡ quoted_from text quote end 0 (drop end text)
  unfolding quoted_from
  quoted_further end inside e further fits =
      let one : quoted_from text quote at 0 (drop at text) ≡ quoted_from text quote (at + 1) (end - (at + 1)) (drop (at + 1) text) = rw (here text at lt, ne_eqb _ 34 inside, e) refl in
      one ∙ passed (quoted_from text quote) (λ _ _ _ _. refl) text at end further fits

pub quoted_done : (text : List ℕ) (quote at : ℕ) → length text ≤ at → quoted_from text quote at 0 (drop at text) ≡ Err (OpenString quote)
unfolding quoted_from
quoted_done text quote at le = rw (drop_all at text le) refl
