-- Names and numbers: what the functions on lists answer is what the relation says.
use Rattle.std.proofs.Common.{◌≡◌, ℕ, zero, suc, ◌+◌, ◌<◌, ◌≤◌, Bool, true, false, not, List, length, get_or, drop, Ok, Err, refl, sym, ap, subst, ◌∙◌, ◌⊎◌, inl, inr, arith, eqb, ◌&&◌}
use Rattle.std.specs.Prelude.{slice_range}
use Rattle.std.proofs.lemmas.Bool.{cases_Bool, cases_lt, and_parts, not-true, false≢true, or_right}
use Rattle.zig_tree.specs.TokenBytes.{is_digit, is_name_start, is_name_byte}
use Rattle.zig_tree.specs.TokenNumbers.{is_integer}
use Rattle.zig_tree.specs.Tokens as rel
use Rattle.zig_tree.specs.Tokens.{Run, IsNameByte, IsName, name, EndsNumber, IsNumber, number}
use Rattle.zig_token.specs.declared.fault.LexFault.TheVariants.{BadNumber}
use Rattle.zig_token.specs.Scan.{name_from, name_end, number_end}
use Rattle.zig_token.proofs.Skips.{within_text}
use Rattle.zig_token.proofs.Words.{name_further, name_ends, name_done}
use Rattle.zig_token.proofs.Pieces.{name_from_after, digit_begun}
use Rattle.zig_token.proofs.LawNumbers.{integer_tested, integer_means}
use Rattle.zig_token.proofs.Runs.{run_passes, run_stops}

name_some : (b : ℕ) → is_name_byte b ≡ true → 0 < b
unfolding is_name_byte is_name_start is_digit
name_some zero h = absurd cc
name_some (suc b) h = omega arith

name_within : (text : List ℕ) (a : ℕ) → is_name_byte (get_or text a 0) ≡ true → a < length text
name_within text a h = within_text text a (name_some (get_or text a 0) h)

name_passes : (text : List ℕ) (a b : ℕ) → IsNameByte text a b → name_from a (drop a text) ≡ name_from b (drop b text)
name_passes text a b (rel.byte h e) = name_further text a (name_within text a h) h ∙ ap (λ n. name_from n (drop n text)) (sym e)

byte_rises : (text : List ℕ) (a b : ℕ) → IsNameByte text a b → (a < b) × (b ≤ length text)
byte_rises text a b (rel.byte h e) = (omega arith, omega (arith, name_within text a h))

name_to : (text : List ℕ) (a b : ℕ) → Run (IsNameByte text) a b → name_end text a ≡ name_from b (drop b text)
unfolding name_end
name_to text a b run = run_passes (λ n. name_from n (drop n text)) (name_passes text) run

-- no name goes on beyond what is read
pub name_longest : (text : List ℕ) (a b : ℕ) → Run (IsNameByte text) a b → b ≤ name_end text a
name_longest text a b run = omega (arith, name_to text a b run, name_from_after b (drop b text))

name_stops : (text : List ℕ) (m : ℕ) → is_name_byte (get_or text m 0) ≡ false → name_from m (drop m text) ≡ m
name_stops text m h = elim (cases_lt m (length text)) [ inl lt ↦ name_ends text m lt h | inr past ↦ name_done text m past ]

pub name_exact : (text : List ℕ) (a b : ℕ) → Run (IsNameByte text) a b → is_name_byte (get_or text b 0) ≡ false → name_end text a ≡ b
name_exact text a b run h = name_to text a b run ∙ name_stops text b h

name_or_stop : (text : List ℕ) (a : ℕ) → ((b : ℕ) × IsNameByte text a b × (a < b) × (b ≤ length text)) ⊎ (is_name_byte (get_or text a 0) ≡ false)
name_or_stop text a =
    elim (cases_Bool (is_name_byte (get_or text a 0))) [
      | inl h ↦ let c : IsNameByte text a (a + 1) = rel.byte h refl in let r = byte_rises text a (a + 1) c in inl (a + 1, c, r.0, r.1)
      | inr h ↦ inr h
    ]

pub record NameEnds (text : List ℕ) (a : ℕ) : Type 0 where
  pub run : Run (IsNameByte text) a (name_end text a)
  pub within : name_end text a ≤ length text
  pub stops : is_name_byte (get_or text (name_end text a) 0) ≡ false

pub name_means : (text : List ℕ) (a : ℕ) → a ≤ length text → NameEnds text a
name_means text a le =
    let found = run_stops (length text) (λ n _. name_or_stop text n) a le in
    let e : found.0 ≡ name_end text a = sym (name_exact text a found.0 found.1 found.3) in
    record {
      run = subst (λ n. Run (IsNameByte text) a n) e found.1;
      within = omega (arith, found.2);
      stops = subst (λ n. is_name_byte (get_or text n 0) ≡ false) e found.3;
    }

-- ---- numbers
pub number_ends_at : (text : List ℕ) (a b : ℕ) → IsNumber text a b → name_end text a ≡ b
number_ends_at text a b (number d lt run whole ends) = name_exact text a b run ends.0

pub number_read : (text : List ℕ) (a b : ℕ) → IsNumber text a b → number_end text a ≡ Ok b
unfolding number_end
number_read text a b (number d lt run whole ends) = rw (name_exact text a b run ends.0, integer_tested (slice_range text a b) whole, ends.1) refl

-- what is tested behind the digits
number_test : List ℕ → ℕ → Bool
number_test text a = is_integer (slice_range text a (name_end text a)) && not (eqb (get_or text (name_end text a) 0) 46 && is_digit (get_or text (name_end text a + 1) 0))

number_tested : (text : List ℕ) (a : ℕ) → is_digit (get_or text a 0) ≡ true → a < length text → number_test text a ≡ true → IsNumber text a (name_end text a)
unfolding number_test
number_tested text a d lt h =
    let n = name_means text a (omega arith) in
    let p = and_parts _ _ h in
    number d (digit_begun text a lt d) n.run (integer_means (slice_range text a (name_end text a)) p.0) (n.stops, not-true _ p.1)

number_tests : (text : List ℕ) (a b : ℕ) → IsNumber text a b → number_test text a ≡ true
unfolding number_test
number_tests text a b (number d lt run whole ends) = rw (name_exact text a b run ends.0, integer_tested (slice_range text a b) whole, ends.1) refl

digit_within : (text : List ℕ) (a : ℕ) → is_digit (get_or text a 0) ≡ true → a < length text
unfolding is_name_byte
digit_within text a d = name_within text a (or_right _ _ d)

pub number_outcome : (text : List ℕ) (a : ℕ) → is_digit (get_or text a 0) ≡ true → ((b : ℕ) × IsNumber text a b) ⊎ ((b : ℕ) → IsNumber text a b → ⊥)
number_outcome text a d =
    elim (cases_Bool (number_test text a)) [
      | inl h ↦ inl (name_end text a, number_tested text a d (digit_within text a d) h)
      | inr h ↦ inr (λ b n. false≢true (sym h ∙ number_tests text a b n))
    ]

pub no_number_read : (text : List ℕ) (a : ℕ) → is_digit (get_or text a 0) ≡ true → ((b : ℕ) → IsNumber text a b → ⊥) → number_end text a ≡ Err (BadNumber a)
unfolding number_end number_test
no_number_read text a d none_here =
    elim (cases_Bool (number_test text a)) as (λ _. number_end text a ≡ Err (BadNumber a)) [
      | inl h ↦ absurd (none_here (name_end text a) (number_tested text a d (digit_within text a d) h))
      | inr h ↦ rw h refl
    ]

pub number_rises : (text : List ℕ) (a b : ℕ) → IsNumber text a b → (a < b) × (b ≤ length text)
number_rises text a b (number d lt run whole ends) =
    (lt, omega (arith, (name_means text a (omega (arith, digit_within text a d))).within, name_exact text a b run ends.0))
