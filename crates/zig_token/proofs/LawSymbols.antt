-- Symbols: the first row that stands at a place is the longest symbol there.
use Rattle.std.proofs.Common.{◌≡◌, ℕ, ◌+◌, ◌-◌, ◌<◌, ◌≤◌, Bool, true, false, not, cond, List, [], ◌∷◌, length, get_or, take, drop, Option, Some, None, refl, sym, ap, subst, ◌∙◌, ◌⊎◌, inl, inr, arith, eqb, ◌&&◌, ◌||◌}
use Rattle.std.specs.Prelude.{nat_eq, slice_range, IfSome}
use Rattle.std.specs.List.{starts_with, list_all}
use Rattle.std.proofs.lemmas.Bool.{cases_Bool, cases_lt, and_parts, not-true, or_parts, ltb-true, true≢false}
use Rattle.std.proofs.lemmas.List.{length-take, length-drop, take-take, get_or-take, get_or-drop}
use Rattle.std.proofs.lemmas.Slice.Eq.{bytes_eq-Decides}
use Rattle.zig_tree.specs.declared.token.TokenKind.{TokenKind}
use Rattle.zig_tree.specs.TokenBytes.{is_digit, is_name_start, is_blank, begins}
use Rattle.zig_tree.specs.TokenTables.{Row, symbols, row_at_front}
use Rattle.zig_tree.specs.Tokens.{IsRow, IsSymbol, symbol}
use Rattle.zig_token.proofs.Pieces.{has_byte, symbols_fit}

-- the bytes begin with the row
abbrev pub Stands : Row → List ℕ → Type 0
Stands row bytes = take (length row.0) bytes ≡ row.0

stands_true : (row : Row) (bytes : List ℕ) → Stands row bytes → starts_with nat_eq bytes row.0 ≡ true
stands_true row bytes e = (bytes_eq-Decides row.0 (take (length row.0) bytes)).1 (sym e)

true_stands : (row : Row) (bytes : List ℕ) → starts_with nat_eq bytes row.0 ≡ true → Stands row bytes
true_stands row bytes h = sym ((bytes_eq-Decides row.0 (take (length row.0) bytes)).0 h)

-- no row is the beginning of a later one
abbrev ordered : List Row → Bool
ordered [] = true
ordered (row ∷ rows) = list_all (λ (later : Row). not (starts_with nat_eq later.0 row.0)) rows && ordered rows

row_passes : (p : Row → Bool) (rows : List Row) (row : Row) → list_all p rows ≡ true → IsRow rows row → p row ≡ true
row_passes p [] row h stands = absurd stands
row_passes p (first ∷ rows) row h (inl e) = subst (λ r. p r ≡ true) e (and_parts _ _ h).0
row_passes p (first ∷ rows) row h (inr there) = row_passes p rows row (and_parts _ _ h).1 there

-- what the first row at the front says of each row that stands there
abbrev pub Longest : List ℕ → Option (ℕ × TokenKind) → Row → Type 0
Longest bytes None row = ⊥
Longest bytes (Some found) row = (length row.0 ≤ found.0) × (length row.0 ≡ found.0 → row.1 ≡ found.1)

later_shorter : (first row : Row) (bytes : List ℕ) → Stands first bytes → Stands row bytes → starts_with nat_eq row.0 first.0 ≡ false → length row.0 < length first.0
later_shorter first row bytes front stands other =
    elim (cases_lt (length row.0) (length first.0)) [
      | inl lt ↦ lt
      | inr le ↦
          let inside : take (length first.0) row.0 ≡ first.0 = ap (take (length first.0)) (sym stands) ∙ take-take (length first.0) (length row.0) bytes le ∙ front in
          absurd (true≢false (sym (stands_true first row.0 inside) ∙ other))
    ]

front_longest : (rows : List Row) (bytes : List ℕ) (row : Row) → ordered rows ≡ true → IsRow rows row → Stands row bytes → Longest bytes (row_at_front rows bytes) row
unfolding row_at_front
front_longest [] bytes row h there stands = absurd there
front_longest (first ∷ rows) bytes row h there stands =
    elim (cases_Bool (starts_with nat_eq bytes first.0)) as (λ _. Longest bytes (cond (starts_with nat_eq bytes first.0) (Some (length first.0, first.1)) (row_at_front rows bytes)) row) [
      | inl same ↦ rw same (here_longest same there)
      | inr other ↦ rw other (on (λ later. front_longest rows bytes row (and_parts _ _ h).1 later stands) other there)
    ]
  where
    here_longest : starts_with nat_eq bytes first.0 ≡ true → (first ≡ row) ⊎ IsRow rows row → (length row.0 ≤ length first.0) × (length row.0 ≡ length first.0 → row.1 ≡ first.1)
    here_longest same (inl e) = (omega (arith, ap (λ (r : Row). length r.0) e), λ _. ap (λ (r : Row). r.1) (sym e))
    here_longest same (inr later) =
        let lt = later_shorter first row bytes (true_stands first bytes same) stands (not-true _ (row_passes (λ (r : Row). not (starts_with nat_eq r.0 first.0)) rows row (and_parts _ _ h).0 later)) in
        (omega arith, λ e. absurd (omega arith))

    on : (IsRow rows row → Longest bytes (row_at_front rows bytes) row) → starts_with nat_eq bytes first.0 ≡ false → (first ≡ row) ⊎ IsRow rows row → Longest bytes (row_at_front rows bytes) row
    on rest_longest other (inl e) = absurd (true≢false (sym (stands_true first bytes (subst (λ (r : Row). Stands r bytes) (sym e) stands)) ∙ other))
    on rest_longest other (inr later) = rest_longest later

-- the first row at the front stands there
front_stands : (rows : List Row) (bytes : List ℕ) → IfSome (row_at_front rows bytes) (λ found. IsRow rows (take found.0 bytes, found.1))
unfolding row_at_front
front_stands [] bytes = tt
front_stands (first ∷ rows) bytes =
    elim (cases_Bool (starts_with nat_eq bytes first.0)) as (λ _. IfSome (cond (starts_with nat_eq bytes first.0) (Some (length first.0, first.1)) (row_at_front rows bytes)) (λ found. IsRow (first ∷ rows) (take found.0 bytes, found.1))) [
      | inl same ↦ rw same (inl (ap (λ (bs : List ℕ). (bs, first.1)) (sym (true_stands first bytes same))))
      | inr other ↦ rw other (later (row_at_front rows bytes) (front_stands rows bytes))
    ]
  where
    later : (o : Option (ℕ × TokenKind)) → IfSome o (λ found. IsRow rows (take found.0 bytes, found.1)) → IfSome o (λ found. IsRow (first ∷ rows) (take found.0 bytes, found.1))
    later None h = tt
    later (Some found) h = inr h

symbols_ordered : ordered symbols ≡ true
symbols_ordered = refl

-- what begins a symbol begins nothing else
abbrev is_head : ℕ → Bool
is_head c = not (is_blank c || (eqb c 13 || (eqb c 34 || (eqb c 39 || (eqb c 92 || (eqb c 64 || (is_digit c || is_name_start c)))))))

symbols_head : list_all (λ (r : Row). is_head (get_or r.0 0 0)) symbols ≡ true
unfolding is_blank is_digit is_name_start
symbols_head = refl

symbols_byte : list_all has_byte symbols ≡ true
symbols_byte = refl

pub record HeadOnly (c : ℕ) : Type 0 where
  pub blank : is_blank c ≡ false
  pub cr : eqb c 13 ≡ false
  pub string : eqb c 34 ≡ false
  pub literal : eqb c 39 ≡ false
  pub slash : eqb c 92 ≡ false
  pub at_sign : eqb c 64 ≡ false
  pub digit : is_digit c ≡ false
  pub name : is_name_start c ≡ false

head_only : (c : ℕ) → is_head c ≡ true → HeadOnly c
head_only c h =
    let a = or_parts _ _ (not-true _ h) in
    let b = or_parts _ _ a.1 in
    let d = or_parts _ _ b.1 in
    let e = or_parts _ _ d.1 in
    let f = or_parts _ _ e.1 in
    let g = or_parts _ _ f.1 in
    let i = or_parts _ _ g.1 in
    record { blank = a.0; cr = b.0; string = d.0; literal = e.0; slash = f.0; at_sign = g.0; digit = i.0; name = i.1 }

module _ (text : List ℕ) (kind : TokenKind) (a b : ℕ) (fits : b ≤ length text) (row : IsRow symbols (slice_range text a b, kind)) where
  slice_long : 0 < length (slice_range text a b)
  slice_long = ltb-true 0 (length (slice_range text a b)) (row_passes has_byte symbols (slice_range text a b, kind) symbols_byte row)

  pub symbol_long : a < b
  symbol_long = omega (arith, slice_long, length-take (b - a) (drop a text))

  slice_length : length (slice_range text a b) ≡ b - a
  slice_length = omega (arith, symbol_long, length-take (b - a) (drop a text), length-drop a text)

  slice_stands : Stands (slice_range text a b, kind) (drop a text)
  slice_stands = ap (λ n. take n (drop a text)) slice_length

  pub symbol_longest : Longest (drop a text) (row_at_front symbols (drop a text)) (slice_range text a b, kind)
  symbol_longest = front_longest symbols (drop a text) (slice_range text a b, kind) symbols_ordered row slice_stands

  pub symbol_length : length (slice_range text a b) ≡ b - a
  symbol_length = slice_length

  pub symbol_head : HeadOnly (get_or text a 0)
  symbol_head =
      let first : get_or (slice_range text a b) 0 0 ≡ get_or text a 0 = get_or-take (b - a) (drop a text) 0 0 (omega (arith, symbol_long)) ∙ get_or-drop a text 0 0 ∙ ap (λ n. get_or text n 0) (omega arith) in
      head_only (get_or text a 0) (subst (λ c. is_head c ≡ true) first (row_passes (λ (r : Row). is_head (get_or r.0 0 0)) symbols (slice_range text a b, kind) symbols_head row))

-- the symbol that is found is one
pub symbol_found : (text : List ℕ) (a : ℕ) (found : ℕ × TokenKind) → a ≤ length text → begins text a 47 47 ≡ false → row_at_front symbols (drop a text) ≡ Some found → IsSymbol text found.1 a (a + found.0)
symbol_found text a found le no_comment e =
    let stands = subst (λ o. IfSome o (λ (f : ℕ × TokenKind). IsRow symbols (take f.0 (drop a text), f.1))) e (front_stands symbols (drop a text)) in
    let fits = subst (λ o. IfSome o (λ (f : ℕ × TokenKind). (0 < f.0) × (f.0 ≤ length (drop a text)))) e (symbols_fit (drop a text)) in
    let n : found.0 ≡ a + found.0 - a = omega arith in
    symbol no_comment (omega (arith, fits.1, length-drop a text)) (subst (λ k. IsRow symbols (take k (drop a text), found.1)) n stands)
