-- Characters, comments and lines: what the functions on lists answer is what the relation says.
use Rattle.std.proofs.Common.{◌≡◌, ℕ, ◌+◌, ◌<◌, ◌≤◌, true, false, List, length, get_or, drop, Ok, Err, refl, sym, ap, ◌∙◌, ◌⊎◌, inl, inr, arith}
use Rattle.std.proofs.lemmas.Bool.{cases_Bool, cases_lt, or_cases, or_left, and_parts, leb-true, le-leb, eqb-true, false_from_ne_true}
use Rattle.std.proofs.lemmas.List.{get_or_past}
use Rattle.zig_tree.specs.TokenBytes.{is_plain, is_two_bytes, is_three_bytes, is_four_bytes, char_len, ends_line}
use Rattle.zig_tree.specs.Tokens.{Run, IsChar, char, IsWrong}
use Rattle.zig_token.specs.declared.fault.LexFault.TheVariants.{BadByte}
use Rattle.zig_token.specs.Scan.{line_from, line_end}
use Rattle.zig_token.proofs.Lines.{char_fits, line_ends, line_wrong, line_further, line_done}
use Rattle.zig_token.proofs.Runs.{run_passes, run_stops}

-- ---- where no character stands
no_char_zero : (text : List ℕ) (a : ℕ) → get_or text a 0 ≡ 0 → char_len text a ≡ 0
unfolding char_len is_plain is_two_bytes is_three_bytes is_four_bytes
no_char_zero text a e = rw e refl

no_char_lf : (text : List ℕ) (a : ℕ) → get_or text a 0 ≡ 10 → char_len text a ≡ 0
unfolding char_len is_plain is_two_bytes is_three_bytes is_four_bytes
no_char_lf text a e = rw e refl

no_char_cr : (text : List ℕ) (a : ℕ) → get_or text a 0 ≡ 13 → char_len text a ≡ 0
unfolding char_len is_plain is_two_bytes is_three_bytes is_four_bytes
no_char_cr text a e = rw e refl

pub char_within : (text : List ℕ) (a : ℕ) → 0 < char_len text a → a < length text
char_within text a some =
    elim (cases_lt a (length text)) [
      | inl lt ↦ lt
      | inr le ↦ absurd (omega (arith, no_char_zero text a (get_or_past text a 0 le)))
    ]

pub past_ends : (text : List ℕ) (a : ℕ) → length text ≤ a → ends_line text a ≡ true
unfolding ends_line
past_ends text a le = or_left _ _ (le-leb (length text) a le)

pub within_unended : (text : List ℕ) (a : ℕ) → ends_line text a ≡ false → a < length text
within_unended text a unended =
    elim (cases_lt a (length text)) [ inl lt ↦ lt | inr le ↦ let e = past_ends text a le in absurd cc ]

pub end_no_char : (text : List ℕ) (a : ℕ) → ends_line text a ≡ true → char_len text a ≡ 0
unfolding ends_line
end_no_char text a e =
    elim (or_cases _ _ e) [
      | inl past ↦ no_char_zero text a (get_or_past text a 0 (leb-true (length text) a past))
      | inr line ↦ elim (or_cases _ _ line) [ inl lf ↦ no_char_lf text a (eqb-true _ 10 lf) | inr cr ↦ no_char_cr text a (eqb-true _ 13 (and_parts _ _ cr).0) ]
    ]

pub char_unended : (text : List ℕ) (a : ℕ) → 0 < char_len text a → ends_line text a ≡ false
char_unended text a some = false_from_ne_true _ (λ e. omega (arith, end_no_char text a e))

pub char_rises : (text : List ℕ) (a b : ℕ) → IsChar text a b → (a < b) × (b ≤ length text)
char_rises text a b (char some e) = (omega arith, omega (arith, char_fits text a (char_within text a some)))

-- ---- lines
line_passes : (text : List ℕ) (a b : ℕ) → IsChar text a b → line_from text a 0 (drop a text) ≡ line_from text b 0 (drop b text)
line_passes text a b (char some e) =
    line_further text a (char_within text a some) (char_unended text a some) some ∙ ap (λ n. line_from text n 0 (drop n text)) (sym e)

line_stops_end : (text : List ℕ) (m : ℕ) → ends_line text m ≡ true → line_from text m 0 (drop m text) ≡ Ok m
line_stops_end text m e =
    elim (cases_lt m (length text)) [ inl lt ↦ line_ends text m lt e | inr le ↦ line_done text m le ]

line_stops_wrong : (text : List ℕ) (m : ℕ) → IsWrong text m → line_from text m 0 (drop m text) ≡ Err (BadByte m)
line_stops_wrong text m wrong = line_wrong text m (within_unended text m wrong.0) wrong.0 wrong.1

pub line_ended : (text : List ℕ) (a m : ℕ) → Run (IsChar text) a m → ends_line text m ≡ true → line_end text a ≡ Ok m
unfolding line_end
line_ended text a m run e = run_passes (λ n. line_from text n 0 (drop n text)) (line_passes text) run ∙ line_stops_end text m e

pub line_is_wrong : (text : List ℕ) (a m : ℕ) → Run (IsChar text) a m → IsWrong text m → line_end text a ≡ Err (BadByte m)
unfolding line_end
line_is_wrong text a m run wrong = run_passes (λ n. line_from text n 0 (drop n text)) (line_passes text) run ∙ line_stops_wrong text m wrong

-- at each place a line ends, a byte is wrong, or a character stands
pub data LineStop (text : List ℕ) (m : ℕ) : Type 0 where
  ends : ends_line text m ≡ true → LineStop text m
  wrong : IsWrong text m → LineStop text m

pub char_or_stop : (text : List ℕ) (a : ℕ) → ((b : ℕ) × IsChar text a b × (a < b) × (b ≤ length text)) ⊎ LineStop text a
char_or_stop text a =
    elim (cases_Bool (ends_line text a)) [
      | inl e ↦ inr (ends e)
      | inr unended ↦ elim (cases_lt 0 (char_len text a)) [
        | inl some ↦ let c : IsChar text a (a + char_len text a) = char some refl in let r = char_rises text a (a + char_len text a) c in inl (a + char_len text a, c, r.0, r.1)
        | inr none ↦ inr (wrong (unended, omega arith))
      ]
    ]

pub line_means : (text : List ℕ) (a : ℕ) → a ≤ length text → (m : ℕ) × Run (IsChar text) a m × (m ≤ length text) × LineStop text m
line_means text a le = run_stops (length text) (λ n _. char_or_stop text n) a le

-- a quote or a backslash is a character
pub quote_char : (text : List ℕ) (a : ℕ) → get_or text a 0 ≡ 34 → char_len text a ≡ 1
unfolding char_len is_plain
quote_char text a e = rw e refl

pub slash_char : (text : List ℕ) (a : ℕ) → get_or text a 0 ≡ 92 → char_len text a ≡ 1
unfolding char_len is_plain
slash_char text a e = rw e refl
