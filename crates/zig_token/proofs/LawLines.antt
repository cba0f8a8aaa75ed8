-- Strings of several lines: what the functions on lists answer is what the relation says.
use Rattle.std.proofs.Common.{◌≡◌, ℕ, ◌+◌, ◌<◌, ◌≤◌, Bool, true, false, cond, List, length, get_or, drop, Some, None, Ok, Err, refl, sym, ap, ◌∙◌, ◌⊎◌, inl, inr, arith, eqb, ◌||◌}
use Rattle.std.proofs.lemmas.Bool.{cases_Bool, cases_lt, or_cases, or_left, or_right, and_parts, eqb-true, eq-eqb, leb-true}
use Rattle.zig_tree.specs.TokenBytes.{ends_line, begins}
use Rattle.zig_tree.specs.Tokens as rel
use Rattle.zig_tree.specs.Tokens.{Run, IsChar, IsWrong, IsSpace, space, IsLineFeed, lf, cr_lf, IsJoin, join, IsLineItem, IsLines}
use Rattle.zig_token.specs.declared.fault.LexFault.TheVariants.{BadByte}
use Rattle.zig_token.specs.Scan.{blanks_from, next_line, lines_from, lines_end}
use Rattle.zig_token.proofs.Skips.{within_text, here}
use Rattle.zig_token.proofs.Lines.{blanks_further, blanks_done, begins_fits, lines_end as at_end, lines_on, lines_wrong, lines_further, lines_done}
use Rattle.zig_token.proofs.Runs.{run_passes, run_rises, run_stops}
use Rattle.zig_token.proofs.LawChars.{char_within, char_unended, char_rises, within_unended, LineStop, ends, wrong, char_or_stop}

-- ---- spaces and TABs
space_test : List ℕ → ℕ → Bool
space_test text a = eqb (get_or text a 0) 32 || eqb (get_or text a 0) 9

space_cases : (text : List ℕ) (a : ℕ) → (eqb (get_or text a 0) 32 || eqb (get_or text a 0) 9) ≡ true → (get_or text a 0 ≡ 32) ⊎ (get_or text a 0 ≡ 9)
space_cases text a h = elim (or_cases _ _ h) [ inl s ↦ inl (eqb-true _ 32 s) | inr t ↦ inr (eqb-true _ 9 t) ]

space_within : (text : List ℕ) (a : ℕ) → (eqb (get_or text a 0) 32 || eqb (get_or text a 0) 9) ≡ true → a < length text
space_within text a h = elim (space_cases text a h) [ inl s ↦ within_text text a (omega arith) | inr t ↦ within_text text a (omega arith) ]

space_passes : (text : List ℕ) (a b : ℕ) → IsSpace text a b → blanks_from a (drop a text) ≡ blanks_from b (drop b text)
space_passes text a b (space h e) = blanks_further text a (space_within text a h) (space_cases text a h) ∙ ap (λ n. blanks_from n (drop n text)) (sym e)

space_rises : (text : List ℕ) (a b : ℕ) → IsSpace text a b → (a < b) × (b ≤ length text)
space_rises text a b (space h e) = (omega arith, omega (arith, space_within text a h))

spaces_stop : (text : List ℕ) (m : ℕ) → (eqb (get_or text m 0) 32 || eqb (get_or text m 0) 9) ≡ false → blanks_from m (drop m text) ≡ m
unfolding blanks_from
spaces_stop text m h = elim (cases_lt m (length text)) as (λ _. blanks_from m (drop m text) ≡ m) [ inl lt ↦ rw (here text m lt, h) refl | inr past ↦ blanks_done text m past ]

spaces_read : (text : List ℕ) (s m : ℕ) → Run (IsSpace text) s m → (eqb (get_or text m 0) 32 || eqb (get_or text m 0) 9) ≡ false → blanks_from s (drop s text) ≡ m
spaces_read text s m run h = run_passes (λ n. blanks_from n (drop n text)) (space_passes text) run ∙ spaces_stop text m h

spaces_mean : (text : List ℕ) (s : ℕ) → s ≤ length text → (m : ℕ) × Run (IsSpace text) s m × (blanks_from s (drop s text) ≡ m)
spaces_mean text s le =
    let found = run_stops (length text) (λ n _. space_or_stop n) s le in
    (found.0, found.1, spaces_read text s found.0 found.1 found.3)
  where
    space_or_stop : (n : ℕ) → ((b : ℕ) × IsSpace text n b × (n < b) × (b ≤ length text)) ⊎ ((eqb (get_or text n 0) 32 || eqb (get_or text n 0) 9) ≡ false)
    space_or_stop n =
        elim (cases_Bool (eqb (get_or text n 0) 32 || eqb (get_or text n 0) 9)) [
          | inl h ↦ let c : IsSpace text n (n + 1) = space h refl in let r = space_rises text n (n + 1) c in inl (n + 1, c, r.0, r.1)
          | inr h ↦ inr h
        ]

-- ---- joins
begins_first : (text : List ℕ) (a x y : ℕ) → begins text a x y ≡ true → get_or text a 0 ≡ x
unfolding begins
begins_first text a x y h = eqb-true _ x (and_parts _ _ h).0

feed_start : (text : List ℕ) (a s : ℕ) → IsLineFeed text a s → cond (eqb (get_or text a 0) 13) (a + 2) (a + 1) ≡ s
feed_start text a s (lf e is) = rw e (sym is)
feed_start text a s (cr_lf h is) = rw (begins_first text a 13 10 h) (sym is)

feed_rises : (text : List ℕ) (a s : ℕ) → IsLineFeed text a s → (a < s) × (s ≤ length text)
feed_rises text a s (lf e is) = (omega arith, omega (arith, within_text text a (omega arith)))
feed_rises text a s (cr_lf h is) = (omega arith, omega (arith, (begins_fits text a 13 10 h (omega arith)).1))

feed_ends : (text : List ℕ) (a s : ℕ) → IsLineFeed text a s → ends_line text a ≡ true
unfolding ends_line begins
feed_ends text a s (lf e is) = or_right _ _ (or_left _ _ (eq-eqb _ 10 e))
feed_ends text a s (cr_lf h is) = or_right _ _ (or_right _ _ h)

feed_some : (text : List ℕ) (a : ℕ) → ends_line text a ≡ true → a < length text → (s : ℕ) × IsLineFeed text a s
unfolding ends_line begins
feed_some text a e lt =
    elim (or_cases _ _ e) [
      | inl past ↦ let reached = leb-true (length text) a past in absurd (omega arith)
      | inr line ↦ elim (or_cases _ _ line) [ inl l ↦ (a + 1, lf (eqb-true _ 10 l) refl) | inr c ↦ (a + 2, cr_lf c refl) ]
    ]

mark_no_space : (text : List ℕ) (m : ℕ) → get_or text m 0 ≡ 92 → (eqb (get_or text m 0) 32 || eqb (get_or text m 0) 9) ≡ false
mark_no_space text m e = rw e refl

join_read : (text : List ℕ) (a b : ℕ) → IsJoin text a b → next_line text a ≡ Some b
unfolding next_line
join_read text a b (join {s = s} {m = m} feed run mark is) =
    rw (feed_start text a s feed, spaces_read text s m run (mark_no_space text m (begins_first text m 92 92 mark)), mark, is) refl

join_rises : (text : List ℕ) (a b : ℕ) → IsJoin text a b → (a < b) × (b ≤ length text)
join_rises text a b (join {s = s} {m = m} feed run mark is) =
    let r = feed_rises text a s feed in
    (omega (arith, r.0, run_rises (λ x y i. (space_rises text x y i).0) run), omega (arith, (begins_fits text m 92 92 mark (omega arith)).1))

join_ends : (text : List ℕ) (a b : ℕ) → IsJoin text a b → ends_line text a ≡ true
join_ends text a b (join {s = s} feed run mark is) = feed_ends text a s feed

next_none : (text : List ℕ) (a s m : ℕ) → IsLineFeed text a s → blanks_from s (drop s text) ≡ m → begins text m 92 92 ≡ false → next_line text a ≡ None
unfolding next_line
next_none text a s m feed blanks mark = rw (feed_start text a s feed, blanks, mark) refl

-- a line's end joins the next line, or no line goes on
join_or_none : (text : List ℕ) (a : ℕ) → ends_line text a ≡ true → a < length text → ((b : ℕ) × IsJoin text a b) ⊎ (next_line text a ≡ None)
join_or_none text a e lt =
    let feed = feed_some text a e lt in
    let spaces = spaces_mean text feed.0 (feed_rises text a feed.0 feed.1).1 in
    elim (cases_Bool (begins text spaces.0 92 92)) [
      | inl mark ↦ inl (spaces.0 + 2, join feed.1 spaces.1 mark refl)
      | inr other ↦ inr (next_none text a feed.0 spaces.0 feed.1 spaces.2 other)
    ]

none_no_join : (text : List ℕ) (a : ℕ) → next_line text a ≡ None → (m : ℕ) → IsJoin text a m → ⊥
none_no_join text a none_here m j = let e = join_read text a m j in cc

no_join_none : (text : List ℕ) (a : ℕ) → ends_line text a ≡ true → a < length text → ((m : ℕ) → IsJoin text a m → ⊥) → next_line text a ≡ None
no_join_none text a e lt no_join = elim (join_or_none text a e lt) [ inl found ↦ absurd (no_join found.0 found.1) | inr none_here ↦ none_here ]

past_no_join : (text : List ℕ) (a : ℕ) → length text ≤ a → (m : ℕ) → IsJoin text a m → ⊥
past_no_join text a past m j = omega (arith, join_rises text a m j)

-- ---- lines
item_rises : (text : List ℕ) (a b : ℕ) → IsLineItem text a b → (a < b) × (b ≤ length text)
item_rises text a b (rel.char c) = char_rises text a b c
item_rises text a b (rel.join j) = join_rises text a b j

item_passes : (text : List ℕ) (a b : ℕ) → IsLineItem text a b → lines_from text a 0 (drop a text) ≡ lines_from text b 0 (drop b text)
item_passes text a b (rel.char (rel.char some e)) =
    lines_further text a (char_within text a some) (char_unended text a some) some ∙ ap (λ n. lines_from text n 0 (drop n text)) (sym e)
item_passes text a b (rel.join j) =
    let r = join_rises text a b j in lines_on text a (omega (arith, r.0, r.1)) b (join_ends text a b j) (join_read text a b j) r.0 r.1

lines_to : (text : List ℕ) (a m : ℕ) → Run (IsLineItem text) a m → lines_end text a ≡ lines_from text m 0 (drop m text)
unfolding lines_end
lines_to text a m run = run_passes (λ n. lines_from text n 0 (drop n text)) (item_passes text) run

pub lines_read : (text : List ℕ) (a b : ℕ) → IsLines text a b → lines_end text (a + 2) ≡ Ok b
lines_read text a b (rel.lines mark run e no_join) =
    lines_to text (a + 2) b run ∙
    elim (cases_lt b (length text)) as (λ _. lines_from text b 0 (drop b text) ≡ Ok b) [ inl lt ↦ at_end text b lt e (no_join_none text b e lt no_join) | inr past ↦ lines_done text b past ]

pub lines_fault_read : (text : List ℕ) (a m : ℕ) → Run (IsLineItem text) (a + 2) m → IsWrong text m → lines_end text (a + 2) ≡ Err (BadByte m)
lines_fault_read text a m run wrong_here = lines_to text (a + 2) m run ∙ lines_wrong text m (within_unended text m wrong_here.0) wrong_here.0 wrong_here.1

data LinesStop (text : List ℕ) (m : ℕ) : Type 0 where
  last_line : ends_line text m ≡ true → ((b : ℕ) → IsJoin text m b → ⊥) → LinesStop text m
  wrong_byte : IsWrong text m → LinesStop text m

lines_or_stop : (text : List ℕ) (a : ℕ) → ((b : ℕ) × IsLineItem text a b × (a < b) × (b ≤ length text)) ⊎ LinesStop text a
lines_or_stop text a =
    elim (char_or_stop text a) [
      | inl found ↦ inl (found.0, rel.char found.1, found.2, found.3)
      | inr stop ↦ at_stop stop
    ]
  where
    at_line_end : ends_line text a ≡ true → ((b : ℕ) × IsLineItem text a b × (a < b) × (b ≤ length text)) ⊎ LinesStop text a
    at_line_end e =
        elim (cases_lt a (length text)) [
          | inl lt ↦ elim (join_or_none text a e lt) [
            | inl found ↦ let r = join_rises text a found.0 found.1 in inl (found.0, rel.join found.1, r.0, r.1)
            | inr none_here ↦ inr (last_line e (none_no_join text a none_here))
          ]
          | inr past ↦ inr (last_line e (past_no_join text a past))
        ]

    at_stop : LineStop text a → ((b : ℕ) × IsLineItem text a b × (a < b) × (b ≤ length text)) ⊎ LinesStop text a
    at_stop (ends e) = at_line_end e
    at_stop (wrong w) = inr (wrong_byte w)

pub lines_outcome : (text : List ℕ) (a : ℕ) → begins text a 92 92 ≡ true → ((b : ℕ) × IsLines text a b) ⊎ ((m : ℕ) × Run (IsLineItem text) (a + 2) m × IsWrong text m)
lines_outcome text a mark =
    let found = run_stops (length text) (λ n _. lines_or_stop text n) (a + 2) (begins_fits text a 92 92 mark (omega arith)).1 in
    by_stop found.0 found.1 found.3
  where
    by_stop : (m : ℕ) → Run (IsLineItem text) (a + 2) m → LinesStop text m → ((b : ℕ) × IsLines text a b) ⊎ ((m : ℕ) × Run (IsLineItem text) (a + 2) m × IsWrong text m)
    by_stop m run (last_line e no_join) = inl (m, rel.lines mark run e no_join)
    by_stop m run (wrong_byte w) = inr (m, run, w)

run_within : (text : List ℕ) {a b : ℕ} → Run (IsLineItem text) a b → a ≤ length text → (a ≤ b) × (b ≤ length text)
run_within text rel.none le = (omega arith, le)
run_within text (rel.more i r) le = let s = item_rises text _ _ i in let t = run_within text r s.1 in (omega (arith, s.0, t.0), t.1)

pub lines_rises : (text : List ℕ) (a b : ℕ) → IsLines text a b → (a < b) × (b ≤ length text)
lines_rises text a b (rel.lines mark run e no_join) =
    let r = run_within text run (begins_fits text a 92 92 mark (omega arith)).1 in (omega (arith, r.0), r.1)
