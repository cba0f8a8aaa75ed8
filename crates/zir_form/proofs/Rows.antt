-- The table of primitives is gone over row by row, and a width is read from one or two digits.
use Rattle.std.proofs.Common.{◌≡◌, ℕ, ◌+◌, ◌<◌, ◌≤◌, true, false, List, [], ◌∷◌, length, get_or, drop, Some, None, refl, arith, Bor}
use Rattle.std.specs.Str.{bytes_eq}
use Rattle.std.proofs.lemmas.List.{drop_more, drop_all}
use Rattle.zir_form.specs.declared.primitive.Primitive.{Primitive}
use Rattle.zir_form.specs.Primitives.{word_in, written, one_digit, two_digits, width_of, integer_named, integer_of}

module _ (rows : List (Bor (List ℕ) × Primitive)) (bytes : List ℕ) (i : ℕ) where
  pub word_here : (d : Bor (List ℕ) × Primitive) → i < length rows → bytes_eq (get_or rows i d).0.now bytes ≡ true → word_in (written (drop i rows)) bytes ≡ Some (get_or rows i d).1
  unfolding word_in
  word_here d lt same = rw (drop_more rows i d lt, same) refl

  pub word_further : (d : Bor (List ℕ) × Primitive) → i < length rows → bytes_eq (get_or rows i d).0.now bytes ≡ false → word_in (written (drop i rows)) bytes ≡ word_in (written (drop (i + 1) rows)) bytes
  unfolding word_in
  word_further d lt other = rw (drop_more rows i d lt, other) refl

  pub word_none : length rows ≤ i → word_in (written (drop i rows)) bytes ≡ None
  unfolding word_in
  word_none le = rw (drop_all i rows le) refl

pub width_one : (digits : List ℕ) → length digits ≡ 1 → width_of digits ≡ one_digit (get_or digits 0 0)
unfolding width_of
width_one [] e = absurd (omega arith)
width_one (a ∷ []) e = refl
width_one (a ∷ b ∷ digits) e = absurd (omega arith)

pub width_two : (digits : List ℕ) → length digits ≡ 2 → width_of digits ≡ two_digits (get_or digits 0 0) (get_or digits 1 0)
unfolding width_of
width_two [] e = absurd (omega arith)
width_two (a ∷ []) e = absurd (omega arith)
width_two (a ∷ b ∷ []) e = refl
width_two (a ∷ b ∷ c ∷ digits) e = absurd (omega arith)

pub width_none : (digits : List ℕ) → (length digits ≡ 1 → ⊥) → (length digits ≡ 2 → ⊥) → width_of digits ≡ None
unfolding width_of
width_none [] one two = refl
width_none (a ∷ []) one two = absurd (one refl)
width_none (a ∷ b ∷ []) one two = absurd (two refl)
width_none (a ∷ b ∷ c ∷ digits) one two = refl

pub integer_parts : (name : List ℕ) → integer_of name ≡ integer_named (get_or name 0 0) (width_of (drop 1 name))
unfolding integer_of width_of
integer_parts [] = refl
integer_parts (letter ∷ digits) = refl
