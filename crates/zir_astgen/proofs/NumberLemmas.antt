-- Numbers that end at the largest one, digit by digit.
use Rattle.std.proofs.Common.{◌≡◌, ℕ, ◌+◌, ◌*◌, ◌^◌, ◌<◌, ◌≤◌, min, Bool, true, false, if◌then◌else◌, List, [], ◌∷◌, length, get_or, drop, refl, ap, arith, inl, inr, eqb}
use Rattle.std.proofs.lemmas.Bool.{cases_lt, ne_eqb}
use Rattle.std.proofs.lemmas.List.{drop_more}
use Rattle.zig_tree.specs.TokenBytes.{digit_value}
use Rattle.zig_tree.specs.TokenNumbers as tokens
use Rattle.zig_tree.specs.TokenNumbers.{number_behind, IsInteger}
use Rattle.zir_astgen.specs.Numbers.{largest, number_in, int_value}

grows : (base value d : ℕ) → 1 ≤ base → value ≤ base * value + d
grows base value d le = grind arith

-- numbers that are the same up to a bound stay so behind a further digit
next_capped : (base v w d bound : ℕ) → 1 ≤ base → min v bound ≡ min w bound → min (base * v + d) bound ≡ min (base * w + d) bound
next_capped base v w d bound positive same = elim (cases_lt v bound) [
  | inl below ↦ let e : v ≡ w = omega arith in ap (λ n. min (base * n + d) bound) e
  | inr beyond ↦ omega (arith, grows base v d positive, grows base w d positive)
]

-- and behind all digits
number_capped : (base v w : ℕ) (digits : List ℕ) → 1 ≤ base → min v largest ≡ min w largest → min (number_behind base v digits) largest ≡ min (number_behind base w digits) largest
number_capped base v w [] positive same = same
number_capped base v w (b ∷ digits) positive same =
    by (eqb b 95) (number_capped base v w digits positive same) (number_capped base (base * v + digit_value b) (base * w + digit_value b) digits positive (next_capped base v w (digit_value b) largest positive same))
  where
    by : (t : Bool) → min (number_behind base v digits) largest ≡ min (number_behind base w digits) largest
        → min (number_behind base (base * v + digit_value b) digits) largest ≡ min (number_behind base (base * w + digit_value b) digits) largest
        → min (if t then number_behind base v digits else number_behind base (base * v + digit_value b) digits) largest
        ≡ min (if t then number_behind base w digits else number_behind base (base * w + digit_value b) digits) largest
    by true bar digit = bar
    by false bar digit = digit

module _ (base value : ℕ) (digits : List ℕ) (at : ℕ) (lt : at < length digits) where
  -- a `_`
  pub number_bar : get_or digits at 0 ≡ 95 → min (number_behind base value (drop (at + 1) digits)) largest ≡ min (number_behind base value (drop at digits)) largest
  number_bar e = rw (drop_more digits at 0 lt, e) refl

  -- a digit
  pub number_next : (next d : ℕ) → 1 ≤ base → (get_or digits at 0 ≡ 95 → ⊥) → d ≡ digit_value (get_or digits at 0) → next ≡ min (base * value + d) largest
      → min (number_behind base next (drop (at + 1) digits)) largest ≡ min (number_behind base value (drop at digits)) largest
  number_next next d positive other is e =
      let more = base * value + digit_value (get_or digits at 0) in
      let sum : base * value + d ≡ more = ap (λ n. base * value + n) is in
      let same : min next largest ≡ min more largest = omega arith in
      rw (drop_more digits at 0 lt, ne_eqb _ 95 other) (number_capped base next more (drop (at + 1) digits) positive same)

-- ---- whole numbers are below the bound
kept : (n : ℕ) → n < 2 ^ 127 → min n largest ≡ n
kept n small = omega arith

pub int_value-whole : (word : List ℕ) → IsInteger word → int_value word ≡ number_in word
unfolding int_value number_in
int_value-whole word tokens.zero = refl
int_value-whole word (tokens.decimal {b = b} {rest = rest} other digits small) = rw (ne_eqb b 48 other) (kept _ small)
int_value-whole word (tokens.hexadecimal digits small) = kept _ small
int_value-whole word (tokens.octal digits small) = kept _ small
int_value-whole word (tokens.binary digits small) = kept _ small
