-- The bytes of characters that may stand in comments and strings, and of slices.
use Rattle.std.proofs.Common.{◌≡◌, ◌≢◌, ℕ, zero, suc, ◌+◌, ◌-◌, ◌<◌, ◌≤◌, Bool, true, false, if◌then◌else◌, List, [], ◌∷◌, ◌++◌, length, get_or, take, drop, refl, sym, ap, ◌∙◌, subst, ◌⊎◌, inl, inr, arith}
use Rattle.std.specs.Prelude.{slice_range}
use Rattle.std.proofs.lemmas.Bool.{cases_lt, or_cases, and_parts, leb-true, eqb-true}
use Rattle.std.proofs.lemmas.List.{get_or_past, drop_more, drop-drop, drop-take}
use Rattle.zig_tree.specs.TokenBytes.{is_within, is_plain, is_two_bytes, is_three_bytes, is_four_bytes, char_len, begins}

-- a byte that is no NUL, LF or CR
abbrev pub IsText : ℕ → Type 0
IsText b = (0 < b) × (b ≢ 10) × (b ≢ 13)

text_from : (b : ℕ) → (b ≡ 9) ⊎ (32 ≤ b) → IsText b
text_from b (inl e) = (omega arith, λ f. omega arith, λ f. omega arith)
text_from b (inr h) = (omega arith, λ f. omega arith, λ f. omega arith)

above : (low high b : ℕ) → is_within low high b ≡ true → low ≤ b
above low high b h = leb-true low b (and_parts _ _ h).0

plain_text : (b : ℕ) → is_plain b ≡ true → IsText b
unfolding is_plain
plain_text b h = elim (or_cases _ _ h) [ inl tab ↦ text_from b (inl (eqb-true b 9 tab)) | inr printed ↦ text_from b (inr (above 32 126 b printed)) ]

high_text : (b : ℕ) → 128 ≤ b → IsText b
high_text b h = text_from b (inr (omega arith))

two_high : (a b : ℕ) → is_two_bytes a b ≡ true → (128 ≤ a) × (128 ≤ b)
unfolding is_two_bytes
two_high a b h = let p = and_parts _ _ h in let low = above 0xC2 0xDF a p.0 in (omega arith, above 0x80 0xBF b p.1)

three_high : (a b c : ℕ) → is_three_bytes a b c ≡ true → (128 ≤ a) × (128 ≤ b) × (128 ≤ c)
unfolding is_three_bytes
three_high a b c h =
    let p = and_parts _ _ h in
    let last = above 0x80 0xBF c p.1 in
    let q : (128 ≤ a) × (128 ≤ b) = elim (or_cases _ _ p.0) [
      | inl x ↦ let r = and_parts _ _ x in let s = eqb-true a 0xE0 r.0 in let t = above 0xA0 0xBF b r.1 in (omega arith, omega arith)
      | inr more ↦ elim (or_cases _ _ more) [
        | inl x ↦ let r = and_parts _ _ x in let s = above 0xE1 0xEC a r.0 in let t = above 0x80 0xBF b r.1 in (omega arith, omega arith)
        | inr more2 ↦ elim (or_cases _ _ more2) [
          | inl x ↦ let r = and_parts _ _ x in let s = eqb-true a 0xED r.0 in let t = above 0x80 0x9F b r.1 in (omega arith, omega arith)
          | inr x ↦ let r = and_parts _ _ x in let s = above 0xEE 0xEF a r.0 in let t = above 0x80 0xBF b r.1 in (omega arith, omega arith)
        ]
      ]
    ] in
    (q.0, q.1, last)

four_high : (a b c d : ℕ) → is_four_bytes a b c d ≡ true → (128 ≤ a) × (128 ≤ b) × (128 ≤ c) × (128 ≤ d)
unfolding is_four_bytes
four_high a b c d h =
    let p = and_parts _ _ h in
    let tails = and_parts _ _ p.1 in
    let third = above 0x80 0xBF c tails.0 in
    let fourth = above 0x80 0xBF d tails.1 in
    let q : (128 ≤ a) × (128 ≤ b) = elim (or_cases _ _ p.0) [
      | inl x ↦ let r = and_parts _ _ x in let s = eqb-true a 0xF0 r.0 in let t = above 0x90 0xBF b r.1 in (omega arith, omega arith)
      | inr more ↦ elim (or_cases _ _ more) [
        | inl x ↦ let r = and_parts _ _ x in let s = above 0xF1 0xF3 a r.0 in let t = above 0x80 0xBF b r.1 in (omega arith, omega arith)
        | inr x ↦ let r = and_parts _ _ x in let s = eqb-true a 0xF4 r.0 in let t = above 0x80 0x8F b r.1 in (omega arith, omega arith)
      ]
    ] in
    (q.0, q.1, third, fourth)

-- each byte of a character is text, and none but the first is ASCII
abbrev pub IsPart : ℕ → ℕ → Type 0
IsPart k b = IsText b × (0 < k → 128 ≤ b)

high_part : (k b : ℕ) → 128 ≤ b → IsPart k b
high_part k b h = (high_text b h, λ lt. h)

module _ (text : List ℕ) (a : ℕ) where
  AllText : ℕ → Type 0
  AllText n = (k : ℕ) → k < n → IsPart k (get_or text (a + k) 0)

  at_first : IsText (get_or text a 0) → IsPart 0 (get_or text (a + 0) 0)
  at_first h = (subst (λ n. IsText (get_or text n 0)) (let e : a ≡ a + 0 = omega arith in e) h, λ lt. absurd (omega arith))

  one_text : IsText (get_or text a 0) → AllText 1
  unfolding AllText
  one_text h zero lt = at_first h
  one_text h (suc k) lt = absurd (omega arith)

  two_text : (128 ≤ get_or text a 0) × (128 ≤ get_or text (a + 1) 0) → AllText 2
  unfolding AllText
  two_text h zero lt = at_first (high_text _ h.0)
  two_text h (suc zero) lt = high_part _ _ h.1
  two_text h (suc (suc k)) lt = absurd (omega arith)

  three_text : (128 ≤ get_or text a 0) × (128 ≤ get_or text (a + 1) 0) × (128 ≤ get_or text (a + 2) 0) → AllText 3
  unfolding AllText
  three_text h zero lt = at_first (high_text _ h.0)
  three_text h (suc zero) lt = high_part _ _ h.1
  three_text h (suc (suc zero)) lt = high_part _ _ h.2
  three_text h (suc (suc (suc k))) lt = absurd (omega arith)

  four_text : (128 ≤ get_or text a 0) × (128 ≤ get_or text (a + 1) 0) × (128 ≤ get_or text (a + 2) 0) × (128 ≤ get_or text (a + 3) 0) → AllText 4
  unfolding AllText
  four_text h zero lt = at_first (high_text _ h.0)
  four_text h (suc zero) lt = high_part _ _ h.1
  four_text h (suc (suc zero)) lt = high_part _ _ h.2
  four_text h (suc (suc (suc zero))) lt = high_part _ _ h.3
  four_text h (suc (suc (suc (suc k)))) lt = absurd (omega arith)

  none_text : AllText 0
  unfolding AllText
  none_text k lt = absurd (omega arith)

  all_text : AllText (char_len text a)
  unfolding char_len
  all_text = plain (is_plain (get_or text a 0)) refl
    where
      four : (t : Bool) → is_four_bytes (get_or text a 0) (get_or text (a + 1) 0) (get_or text (a + 2) 0) (get_or text (a + 3) 0) ≡ t → AllText (if t then 4 else 0)
      four true e = four_text (four_high _ _ _ _ e)
      four false e = none_text

      three : (t : Bool) → is_three_bytes (get_or text a 0) (get_or text (a + 1) 0) (get_or text (a + 2) 0) ≡ t → AllText (if t then 3 else (if is_four_bytes (get_or text a 0) (get_or text (a + 1) 0) (get_or text (a + 2) 0) (get_or text (a + 3) 0) then 4 else 0))
      three true e = three_text (three_high _ _ _ e)
      three false e = four _ refl

      two : (t : Bool) → is_two_bytes (get_or text a 0) (get_or text (a + 1) 0) ≡ t → AllText (if t then 2 else (if is_three_bytes (get_or text a 0) (get_or text (a + 1) 0) (get_or text (a + 2) 0) then 3 else (if is_four_bytes (get_or text a 0) (get_or text (a + 1) 0) (get_or text (a + 2) 0) (get_or text (a + 3) 0) then 4 else 0)))
      two true e = two_text (two_high _ _ e)
      two false e = three _ refl

      plain : (t : Bool) → is_plain (get_or text a 0) ≡ t → AllText (if t then 1 else (if is_two_bytes (get_or text a 0) (get_or text (a + 1) 0) then 2 else (if is_three_bytes (get_or text a 0) (get_or text (a + 1) 0) (get_or text (a + 2) 0) then 3 else (if is_four_bytes (get_or text a 0) (get_or text (a + 1) 0) (get_or text (a + 2) 0) (get_or text (a + 3) 0) then 4 else 0))))
      plain true e = one_text (plain_text _ e)
      plain false e = two _ refl

  pub char_parts : (k : ℕ) → k < char_len text a → IsPart k (get_or text (a + k) 0)
  unfolding AllText
  char_parts = all_text

-- a byte that is not NUL lies in the text
pub byte_within : (text : List ℕ) (i : ℕ) → 0 < get_or text i 0 → i < length text
byte_within text i some = elim (cases_lt i (length text)) [
  | inl lt ↦ lt
  | inr le ↦ let e = get_or_past text i 0 le in absurd (omega arith)
]

-- ---- slices, from the left
pub slice_first : (text : List ℕ) (a b : ℕ) → a < b → a < length text → slice_range text a b ≡ get_or text a 0 ∷ slice_range text (a + 1) b
slice_first text a b rises lt =
    let n : b - a ≡ suc (b - (a + 1)) = omega arith in
    ap (λ xs. take (b - a) xs) (drop_more text a 0 lt) ∙ ap (λ k. take k (get_or text a 0 ∷ drop (a + 1) text)) n

pub slice_none : (text : List ℕ) (a : ℕ) → slice_range text a a ≡ []
slice_none text a = ap (λ n. take n (drop a text)) (let e : a - a ≡ zero = omega arith in e)

module _ (text : List ℕ) (b : ℕ) where
  -- a known byte at the front
  pub slice_byte : (a n : ℕ) → get_or text a 0 ≡ n → 0 < n → a < b → slice_range text a b ≡ n ∷ slice_range text (a + 1) b
  slice_byte a n e some rises =
      let within = byte_within text a (omega arith) in
      slice_first text a b rises within ∙ ap (λ k. k ∷ slice_range text (a + 1) b) e

  pub slice_pair : (a m n : ℕ) → begins text a m n ≡ true → 0 < m → 0 < n → a + 2 ≤ b → slice_range text a b ≡ m ∷ n ∷ slice_range text (a + 2) b
  unfolding begins
  slice_pair a m n h some_m some_n rises =
      let p = and_parts _ _ h in
      let first = slice_byte a m (eqb-true _ m p.0) some_m (omega arith) in
      let second = slice_byte (a + 1) n (eqb-true _ n p.1) some_n (omega arith) in
      first ∙ ap (λ xs. m ∷ xs) second ∙ ap (λ k. m ∷ n ∷ slice_range text k b) (let e : (a + 1) + 1 ≡ a + 2 = omega arith in e)

pub drop_slice : (text : List ℕ) (n a b : ℕ) → a + n ≤ b → drop n (slice_range text a b) ≡ slice_range text (a + n) b
drop_slice text n a b le =
    let m = b - (a + n) in
    let e : b - a ≡ n + m = omega arith in
    ap (λ k. drop n (take k (drop a text))) e ∙ drop-take n m (drop a text) ∙ ap (λ xs. take m xs) (drop-drop n a text)

-- a function that goes over lists and keeps certain bytes keeps them at the front of a slice
module _ (Kept : ℕ → Type 0) (some : (b : ℕ) → Kept b → 0 < b) (value : List ℕ → List ℕ) (step : (b : ℕ) (bytes : List ℕ) → Kept b → value (b ∷ bytes) ≡ b ∷ value bytes) (text : List ℕ) (b : ℕ) where
  pub kept_front : (n a : ℕ) → ((k : ℕ) → k < n → Kept (get_or text (a + k) 0)) → a + n ≤ b → value (slice_range text a b) ≡ slice_range text a (a + n) ++ value (slice_range text (a + n) b)
  kept_front zero a all le =
      let e : a ≡ a + zero = omega arith in
      let none : [] ≡ slice_range text a (a + zero) = sym (slice_none text a) ∙ ap (λ k. slice_range text a k) e in
      ap (λ k. value (slice_range text k b)) e ∙ ap (λ xs. xs ++ value (slice_range text (a + zero) b)) none
  kept_front (suc n) a all le =
      let same : a + 0 ≡ a = omega arith in
      let here : Kept (get_or text a 0) = subst (λ k. Kept (get_or text k 0)) same (all 0 (omega arith)) in
      let within = byte_within text a (some (get_or text a 0) here) in
      let moved : a + suc n ≡ (a + 1) + n = omega arith in
      let further : (k : ℕ) → k < n → Kept (get_or text ((a + 1) + k) 0) =
      λ k lt. subst (λ i. Kept (get_or text i 0)) (let e : a + suc k ≡ (a + 1) + k = omega arith in e) (all (suc k) (omega arith)) in
      let rest = kept_front n (a + 1) further (omega arith) in
      let front : slice_range text a (a + suc n) ≡ get_or text a 0 ∷ slice_range text (a + 1) ((a + 1) + n) =
      slice_first text a (a + suc n) (omega arith) within ∙ ap (λ k. get_or text a 0 ∷ slice_range text (a + 1) k) moved in
      ap value (slice_first text a b (omega arith) within)
      ∙ step (get_or text a 0) (slice_range text (a + 1) b) here
      ∙ ap (λ xs. get_or text a 0 ∷ xs) rest
      ∙ ap (λ xs. xs ++ value (slice_range text ((a + 1) + n) b)) (sym front)
      ∙ ap (λ k. slice_range text a (a + suc n) ++ value (slice_range text k b)) (sym moved)
