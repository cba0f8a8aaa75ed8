-- Names and digits, one byte after the other.
use Rattle.std.proofs.Common.{◌≡◌, ℕ, ◌+◌, ◌*◌, ◌^◌, ◌<◌, ◌≤◌, Bool, true, false, List, length, get_or, drop, refl, ◌⊎◌, inl, inr}
use Rattle.std.proofs.lemmas.Bool.{ne_eqb, lt-ltb, le-ltb, and_left, and_right}
use Rattle.std.proofs.lemmas.List.{drop_all}
use Rattle.zig_tree.specs.TokenBytes.{is_name_byte, is_hex_digit, digit_value}
use Rattle.zig_token.specs.Scan.{name_from}
use Rattle.zig_tree.specs.TokenNumbers.{digits_fit}
use Rattle.zig_token.proofs.Skips.{here}

module _ (text : List ℕ) (at : ℕ) (lt : at < length text) where
  pub name_further : is_name_byte (get_or text at 0) ≡ true → name_from at (drop at text) ≡ name_from (at + 1) (drop (at + 1) text)
  unfolding name_from
  name_further h = rw (here text at lt, h) refl

  pub name_ends : is_name_byte (get_or text at 0) ≡ false → name_from at (drop at text) ≡ at
  unfolding name_from
  name_ends h = rw (here text at lt, h) refl

pub name_done : (text : List ℕ) (at : ℕ) → length text ≤ at → name_from at (drop at text) ≡ at
unfolding name_from
name_done text at le = rw (drop_all at text le) refl

module _ (base value : ℕ) (after : Bool) (text : List ℕ) (at : ℕ) (lt : at < length text) where
  -- a `_`
  pub digits_bar : get_or text at 0 ≡ 95 → after ≡ true → digits_fit base value after (drop at text) ≡ digits_fit base value false (drop (at + 1) text)
  unfolding digits_fit
  digits_bar e t = rw (here text at lt, e, t) refl

  -- a digit
  pub digits_next : (get_or text at 0 ≡ 95 → ⊥) → is_hex_digit (get_or text at 0) ≡ true → digit_value (get_or text at 0) < base → base * value + digit_value (get_or text at 0) < 2 ^ 127
      → digits_fit base value after (drop at text) ≡ digits_fit base (base * value + digit_value (get_or text at 0)) true (drop (at + 1) text)
  unfolding digits_fit
  digits_next other h small fits = rw (here text at lt, ne_eqb _ 95 other, h, lt-ltb _ _ small, lt-ltb _ _ fits) refl

  -- what is neither, or too much
  pub digits_wrong : ((get_or text at 0 ≡ 95) × (after ≡ false)) ⊎ ((get_or text at 0 ≡ 95 → ⊥) × ((is_hex_digit (get_or text at 0) ≡ false) ⊎ ((base ≤ digit_value (get_or text at 0)) ⊎ (2 ^ 127 ≤ base * value + digit_value (get_or text at 0)))))
      → digits_fit base value after (drop at text) ≡ false
  unfolding digits_fit
  digits_wrong (inl h) = rw (here text at lt, h.0, h.1) refl
  digits_wrong (inr (other, inl h)) = rw (here text at lt, ne_eqb _ 95 other, h) refl
  digits_wrong (inr (other, inr (inl h))) = rw (here text at lt, ne_eqb _ 95 other) (and_right (is_hex_digit (get_or text at 0)) _ (and_left _ _ (le-ltb _ _ h)))
  digits_wrong (inr (other, inr (inr h))) = rw (here text at lt, ne_eqb _ 95 other) (and_right (is_hex_digit (get_or text at 0)) _ (and_right _ _ (and_left _ _ (le-ltb _ _ h))))

pub digits_done : (base value : ℕ) (after : Bool) (text : List ℕ) (at : ℕ) → length text ≤ at → digits_fit base value after (drop at text) ≡ after
unfolding digits_fit
digits_done base value after text at le = rw (drop_all at text le) refl
