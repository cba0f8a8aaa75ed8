-- Whole numbers: the test on lists says what the cases say.
use Rattle.std.proofs.Common.{◌≡◌, ◌≢◌, ℕ, ◌+◌, ◌*◌, ◌^◌, ◌<◌, ◌≤◌, Bool, true, false, List, [], ◌∷◌, length, refl, sym, ap, subst, ◌∙◌, inl, inr, arith, eqb, ltb, ◌&&◌}
use Rattle.std.proofs.lemmas.Bool.{cases_eq, and_parts, ne_eqb, eqb-true, ltb-true, lt-ltb, cond_both}
use Rattle.zig_tree.specs.TokenBytes.{is_digit, is_hex_digit, digit_value}
use Rattle.zig_tree.specs.TokenNumbers as rel
use Rattle.zig_tree.specs.TokenNumbers.{digits_fit, is_integer, IsDigitOf, AreDigits, last, next, parted, number_behind, IsSmall, IsInteger}

bar_no_digit : is_hex_digit 95 ≡ false
unfolding is_hex_digit is_digit
bar_no_digit = refl

digit_no_bar : (base b : ℕ) → IsDigitOf base b → eqb b 95 ≡ false
digit_no_bar base b d = ne_eqb b 95 (λ e. absurd (let f = ap is_hex_digit e ∙ bar_no_digit in let g = d.0 in cc))

-- what may stand behind a digit
data Behind (base : ℕ) : List ℕ → Type 0 where
  stop : Behind base []
  others : {rest : List ℕ} → AreDigits base rest → Behind base rest
  bar : {u : ℕ} {rest : List ℕ} → u ≡ 95 → AreDigits base rest → Behind base (u ∷ rest)

with_digit : (base b : ℕ) (rest : List ℕ) → IsDigitOf base b → Behind base rest → AreDigits base (b ∷ rest)
with_digit base b rest d stop = last d
with_digit base b rest d (others ds) = next d ds
with_digit base b rest d (bar e ds) = parted d e ds

-- ---- the test is true only of numbers
Fits : ℕ → ℕ → List ℕ → Type 0
Fits base value ds = (digits_fit base value false ds ≡ true → AreDigits base ds × (number_behind base value ds < 2 ^ 127))
    × (value < 2 ^ 127 → digits_fit base value true ds ≡ true → Behind base ds × (number_behind base value ds < 2 ^ 127))

module _ (base value b : ℕ) (rest : List ℕ) where
  first_digit : eqb b 95 ≡ false → Fits base (base * value + digit_value b) rest → (is_hex_digit b && (ltb (digit_value b) base && (ltb (base * value + digit_value b) (2 ^ 127) && digits_fit base (base * value + digit_value b) true rest))) ≡ true
      → AreDigits base (b ∷ rest) × (number_behind base value (b ∷ rest) < 2 ^ 127)
  unfolding Fits
  first_digit no_bar rest_fits h =
      let p = and_parts _ _ h in
      let q = and_parts _ _ p.1 in
      let r = and_parts _ _ q.1 in
      let d : IsDigitOf base b = (p.0, ltb-true (digit_value b) base q.0) in
      let s = rest_fits.1 (ltb-true _ _ r.0) r.1 in
      (with_digit base b rest d s.0, rw no_bar s.1)

  first_fits : Fits base value rest → Fits base (base * value + digit_value b) rest → (c : Bool) → eqb b 95 ≡ c → Fits base value (b ∷ rest)
  unfolding Fits digits_fit
  first_fits same more true e = (
    λ h. let f = rw e at h in absurd cc,
    λ small h. let f = same.0 (rw e at h) in (bar (eqb-true b 95 e) f.0, rw e f.1),
  )
  first_fits same more false e = (
    λ h. first_digit e more (rw e at h),
    λ small h. let f = first_digit e more (rw e at h) in (others f.0, f.1),
  )

fits_all : (base value : ℕ) (ds : List ℕ) → Fits base value ds
unfolding Fits digits_fit
fits_all base value [] = (λ h. absurd cc, λ small h. (stop, small))
fits_all base value (b ∷ rest) = first_fits base value b rest (fits_all base value rest) (fits_all base (base * value + digit_value b) rest) (eqb b 95) refl

digits_mean : (base : ℕ) (ds : List ℕ) → digits_fit base 0 false ds ≡ true → AreDigits base ds × IsSmall base ds
unfolding Fits
digits_mean base ds h = (fits_all base 0 ds).0 h

-- ---- the test is true of each number
grows_one : (base value d : ℕ) → 1 ≤ base → value ≤ base * value + d
grows_one base value d le = grind arith

grows : (base value : ℕ) (ds : List ℕ) → 1 ≤ base → value ≤ number_behind base value ds
grows base value [] le = omega arith
grows base value (b ∷ rest) le =
    cond_both (eqb b 95) (number_behind base value rest) (number_behind base (base * value + digit_value b) rest) (λ n. value ≤ n)
    (λ _. grows base value rest le)
    (λ _. omega (arith, grows_one base value (digit_value b) le, grows base (base * value + digit_value b) rest le))

digits_done : (base value : ℕ) (ds : List ℕ) (after : Bool) → 1 ≤ base → AreDigits base ds → number_behind base value ds < 2 ^ 127 → digits_fit base value after ds ≡ true
unfolding digits_fit
digits_done base value ds after le (last {b = b} d) small =
    let no_bar = digit_no_bar base b d in
    let small' : base * value + digit_value b < 2 ^ 127 = rw no_bar at small in
    rw (no_bar, d.0, lt-ltb _ _ d.1, lt-ltb _ _ small') refl
digits_done base value ds after le (next {b = b} {rest = rest} d r) small =
    let no_bar = digit_no_bar base b d in
    let more : number_behind base (base * value + digit_value b) rest < 2 ^ 127 = rw no_bar at small in
    let small' : base * value + digit_value b < 2 ^ 127 = omega (arith, grows base (base * value + digit_value b) rest le) in
    rw (no_bar, d.0, lt-ltb _ _ d.1, lt-ltb _ _ small') (digits_done base (base * value + digit_value b) rest true le r more)
digits_done base value ds after le (parted {b = b} {u = u} {rest = rest} d e r) small =
    let no_bar = digit_no_bar base b d in
    let is_bar : eqb u 95 ≡ true = ap (λ n. eqb n 95) e in
    let more : number_behind base (base * value + digit_value b) rest < 2 ^ 127 = rw (no_bar, is_bar) at small in
    let small' : base * value + digit_value b < 2 ^ 127 = omega (arith, grows base (base * value + digit_value b) rest le) in
    rw (no_bar, d.0, lt-ltb _ _ d.1, lt-ltb _ _ small', is_bar) (digits_done base (base * value + digit_value b) rest false le r more)

-- ---- whole numbers
pub integer_tested : (word : List ℕ) → IsInteger word → is_integer word ≡ true
unfolding is_integer
integer_tested word rel.zero = refl
integer_tested word (rel.decimal {b = b} {rest = rest} other ds small) = rw (ne_eqb b 48 other) (digits_done 10 0 (b ∷ rest) false (omega arith) ds small)
integer_tested word (rel.hexadecimal {digits = digits} ds small) = digits_done 16 0 digits false (omega arith) ds small
integer_tested word (rel.octal {digits = digits} ds small) = digits_done 8 0 digits false (omega arith) ds small
integer_tested word (rel.binary {digits = digits} ds small) = digits_done 2 0 digits false (omega arith) ds small

zero_means : (rest : List ℕ) → is_integer (48 ∷ rest) ≡ true → IsInteger (48 ∷ rest)
unfolding is_integer
zero_means [] h = rel.zero
zero_means (c ∷ ds) h =
    elim (cases_eq c 120) [
      | inl x ↦ let f = digits_mean 16 ds (rw x at h) in subst (λ n. IsInteger (48 ∷ n ∷ ds)) (sym x) (rel.hexadecimal f.0 f.1)
      | inr no_x ↦ let h1 = rw (ne_eqb c 120 no_x) at h in elim (cases_eq c 111) [
        | inl o ↦ let f = digits_mean 8 ds (rw o at h) in subst (λ n. IsInteger (48 ∷ n ∷ ds)) (sym o) (rel.octal f.0 f.1)
        | inr no_o ↦ let h2 = rw (ne_eqb c 111 no_o) at h1 in elim (cases_eq c 98) [
          | inl b ↦ let f = digits_mean 2 ds (rw b at h) in subst (λ n. IsInteger (48 ∷ n ∷ ds)) (sym b) (rel.binary f.0 f.1)
          | inr no_b ↦ let h3 = rw (ne_eqb c 98 no_b) at h2 in let e = eqb-true (length (48 ∷ c ∷ ds)) 1 h3 in absurd (omega arith)
        ]
      ]
    ]

first_means : (b : ℕ) (rest : List ℕ) → b ≢ 48 → is_integer (b ∷ rest) ≡ true → IsInteger (b ∷ rest)
unfolding is_integer
first_means b rest other h = let f = digits_mean 10 (b ∷ rest) (rw (ne_eqb b 48 other) at h) in rel.decimal other f.0 f.1

empty_means : is_integer [] ≡ true → ⊥
unfolding is_integer digits_fit
empty_means h = absurd cc

pub integer_means : (word : List ℕ) → is_integer word ≡ true → IsInteger word
integer_means [] h = absurd (empty_means h)
integer_means (b ∷ rest) h =
    elim (cases_eq b 48) [
      | inl z ↦ subst (λ n. IsInteger (n ∷ rest)) (sym z) (zero_means rest (subst (λ n. is_integer (n ∷ rest) ≡ true) z h))
      | inr other ↦ first_means b rest other h
    ]
