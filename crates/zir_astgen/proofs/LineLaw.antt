-- A string of several lines: the bytes that are read from its slice are those that its items stand for.
use Rattle.std.proofs.Common.{◌≡◌, ℕ, suc, ◌+◌, ◌<◌, ◌≤◌, true, List, ◌∷◌, ◌++◌, get_or, refl, sym, ap, ◌∙◌, subst, arith, inl, inr, eqb, ◌||◌}
use Rattle.std.specs.Prelude.{slice_range}
use Rattle.std.proofs.lemmas.Bool.{ne_eqb, eqb-true, or_cases}
use Rattle.zig_tree.specs.TokenBytes.{begins, char_len}
use Rattle.zig_tree.specs.Tokens as tokens
use Rattle.zig_tree.specs.Tokens.{Run, IsChar, IsJoin, IsSpace, IsLineFeed, IsLineItem, IsLines}
use Rattle.zir_astgen.specs.Values.{margin, lines_from, multiline_value}
use Rattle.zir_astgen.specs.TokenValues as hold
use Rattle.zir_astgen.specs.TokenValues.{LinesHold}
use Rattle.zir_astgen.proofs.CharLemmas.{IsText, char_parts, kept_front, slice_none, slice_byte, slice_pair}

-- ---- one byte after the other
text_byte : (b : ℕ) (bytes : List ℕ) → IsText b → lines_from 0 (b ∷ bytes) ≡ b ∷ lines_from 0 bytes
unfolding lines_from
text_byte b bytes h = rw (ne_eqb b 10 h.1, ne_eqb b 13 h.2) refl

feed_byte : (bytes : List ℕ) → lines_from 0 (10 ∷ bytes) ≡ 10 ∷ lines_from (margin bytes) bytes
unfolding lines_from
feed_byte bytes = refl

feed_bytes : (bytes : List ℕ) → lines_from 0 (13 ∷ 10 ∷ bytes) ≡ 10 ∷ lines_from (margin bytes) bytes
unfolding lines_from
feed_bytes bytes = refl

blank_byte : (b : ℕ) (bytes : List ℕ) → (eqb b 32 || eqb b 9) ≡ true → lines_from (margin (b ∷ bytes)) (b ∷ bytes) ≡ lines_from (margin bytes) bytes
unfolding lines_from margin
blank_byte b bytes h = rw h (let e : margin bytes + 1 ≡ suc (margin bytes) = omega arith in rw e refl)

mark_bytes : (bytes : List ℕ) → lines_from (margin (92 ∷ 92 ∷ bytes)) (92 ∷ 92 ∷ bytes) ≡ lines_from 0 bytes
unfolding lines_from margin
mark_bytes bytes = refl

begun_bytes : (bytes : List ℕ) → multiline_value (92 ∷ 92 ∷ bytes) ≡ lines_from 0 bytes
unfolding multiline_value lines_from
begun_bytes bytes = refl

-- ---- slices of a text
spaces_rise : (text : List ℕ) (s m : ℕ) → Run (IsSpace text) s m → s ≤ m
spaces_rise text s m tokens.none = omega arith
spaces_rise text s m (tokens.more (tokens.space h e) run) = omega (arith, spaces_rise text _ m run)

module _ (text : List ℕ) (b : ℕ) where
  -- ---- a character
  char_joined : (a m : ℕ) → IsChar text a m → m ≤ b → lines_from 0 (slice_range text a b) ≡ slice_range text a m ++ lines_from 0 (slice_range text m b)
  char_joined a m (tokens.char some e) le =
      kept_front IsText (λ n h. h.0) (lines_from 0) text_byte text b (char_len text a) a (λ k lt. (char_parts text a k lt).0) (omega arith) ∙ ap (λ k. slice_range text a k ++ lines_from 0 (slice_range text k b)) (sym e)

  -- ---- a line's end, and the next line's margin
  space_nul : (n : ℕ) → (eqb n 32 || eqb n 9) ≡ true → 0 < n
  space_nul n h = elim (or_cases _ _ h) [ inl e ↦ let f = eqb-true n 32 e in omega arith | inr e ↦ let f = eqb-true n 9 e in omega arith ]

  margin_left : (s m : ℕ) → Run (IsSpace text) s m → begins text m 92 92 ≡ true → m + 2 ≤ b → lines_from (margin (slice_range text s b)) (slice_range text s b) ≡ lines_from 0 (slice_range text (m + 2) b)
  margin_left s m tokens.none h le =
      ap (λ xs. lines_from (margin xs) xs) (slice_pair text b m 92 92 h (omega arith) (omega arith) le) ∙ mark_bytes (slice_range text (m + 2) b)
  margin_left s m (tokens.more {m = t} (tokens.space h e) run) mark le =
      let rises = spaces_rise text t m run in
      let first = slice_byte text b s (get_or text s 0) refl (space_nul _ h) (omega arith) in
      ap (λ xs. lines_from (margin xs) xs) first
      ∙ blank_byte (get_or text s 0) (slice_range text (s + 1) b) h
      ∙ ap (λ k. lines_from (margin (slice_range text k b)) (slice_range text k b)) (sym e)
      ∙ margin_left t m run mark le

  feed_joined : (a s : ℕ) → IsLineFeed text a s → s ≤ b → lines_from 0 (slice_range text a b) ≡ 10 ∷ lines_from (margin (slice_range text s b)) (slice_range text s b)
  feed_joined a s (tokens.lf h e) le =
      ap (lines_from 0) (slice_byte text b a 10 h (omega arith) (omega arith)) ∙ feed_byte (slice_range text (a + 1) b)
      ∙ ap (λ k. 10 ∷ lines_from (margin (slice_range text k b)) (slice_range text k b)) (sym e)
  feed_joined a s (tokens.cr_lf h e) le =
      ap (lines_from 0) (slice_pair text b a 13 10 h (omega arith) (omega arith) (omega arith)) ∙ feed_bytes (slice_range text (a + 2) b)
      ∙ ap (λ k. 10 ∷ lines_from (margin (slice_range text k b)) (slice_range text k b)) (sym e)

  join_joined : (a m : ℕ) → IsJoin text a m → m ≤ b → lines_from 0 (slice_range text a b) ≡ 10 ∷ lines_from 0 (slice_range text m b)
  join_joined a m (tokens.join {s = s} {m = mark} feed spaces begun e) le =
      let rises = spaces_rise text s mark spaces in
      feed_joined a s feed (omega arith)
      ∙ ap (λ xs. 10 ∷ xs) (margin_left s mark spaces begun (omega arith))
      ∙ ap (λ k. 10 ∷ lines_from 0 (slice_range text k b)) (sym e)

-- ---- all items
feed_rises : (text : List ℕ) (a s : ℕ) → IsLineFeed text a s → a ≤ s
feed_rises text a s (tokens.lf h e) = omega arith
feed_rises text a s (tokens.cr_lf h e) = omega arith

item_rises : (text : List ℕ) (a m : ℕ) → IsLineItem text a m → a ≤ m
item_rises text a m (tokens.char (tokens.char some e)) = omega arith
item_rises text a m (tokens.join (tokens.join {s = s} {m = mark} feed spaces begun e)) = omega (arith, feed_rises text a s feed, spaces_rise text s mark spaces)

items_rise : (text : List ℕ) (a b : ℕ) → Run (IsLineItem text) a b → a ≤ b
items_rise text a b tokens.none = omega arith
items_rise text a b (tokens.more {m = m} item run) = omega (arith, item_rises text a m item, items_rise text m b run)

items_hold : (text : List ℕ) (a b : ℕ) → Run (IsLineItem text) a b → LinesHold text a b (lines_from 0 (slice_range text a b))
unfolding lines_from
items_hold text a b tokens.none = subst (λ xs. LinesHold text a a (lines_from 0 xs)) (sym (slice_none text a)) hold.none
items_hold text a b (tokens.more {m = m} (tokens.char item) run) =
    hold.char item (items_hold text m b run) (char_joined text b a m item (items_rise text m b run))
items_hold text a b (tokens.more {m = m} (tokens.join item) run) =
    hold.join item (items_hold text m b run) (join_joined text b a m item (items_rise text m b run))

pub lines_hold : (text : List ℕ) (a b : ℕ) → IsLines text a b → LinesHold text (a + 2) b (multiline_value (slice_range text a b))
lines_hold text a b (tokens.lines begun items ended last) =
    let le = items_rise text (a + 2) b items in
    let value : multiline_value (slice_range text a b) ≡ lines_from 0 (slice_range text (a + 2) b) =
    ap multiline_value (slice_pair text b a 92 92 begun (omega arith) (omega arith) le) ∙ begun_bytes (slice_range text (a + 2) b) in
    subst (λ xs. LinesHold text (a + 2) b xs) (sym value) (items_hold text (a + 2) b items)
