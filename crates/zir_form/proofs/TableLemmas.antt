-- Searches in tables, by number and by row, and of what rows stand for.
use Rattle.std.proofs.Common.{◌≡◌, ℕ, suc, ◌+◌, Bool, true, false, if◌then◌else◌, List, [], ◌∷◌, map, refl, sym, ◌∙◌, ap, subst, arith, Some, None, Option, add-zero, zero-add, length, ◌<◌}
use Rattle.std.specs.Prelude.{slice_get}
use Rattle.std.specs.Option.{option_or, option_map}
use Rattle.zir_form.specs.File.{last_with}
use Rattle.zir_form.specs.Tables.{last_from}

-- a row found has a number
pub record Found {R : Type 0} (k : ℕ) (rows : List R) (r : Option R) (i : ℕ) : Type 0 where
  pub row : R
  pub at : ℕ
  pub number : i ≡ k + at
  pub there : slice_get rows at ≡ Some row
  pub is : r ≡ Some row

abbrev pub Finds : {R : Type 0} → ℕ → List R → Option R → Option ℕ → Type 0
Finds k rows r None = r ≡ None
Finds k rows r (Some i) = Found k rows r i

later_row : {R : Type 0} (k : ℕ) (x : R) (rows : List R) (r : Option R) (b : Bool) (m : Option ℕ) → Finds (k + 1) rows r m
    → Finds k (x ∷ rows) (option_or r (if b then Some x else None)) (option_or m (if b then Some k else None))
later_row k x rows r true None e = record { row = x; at = 0; number = sym (add-zero k); there = refl; is = ap (λ o. option_or o (Some x)) e }
later_row k x rows r false None e = ap (λ o. option_or o None) e
later_row k x rows r b (Some i) f = record {
  row = f.row;
  at = suc f.at;
  number = (let n : i ≡ k + 1 + f.at = f.number in omega arith);
  there = f.there;
  is = ap (λ o. option_or o (if b then Some x else None)) f.is;
}

finds : {R : Type 0} (k : ℕ) (test : R → Bool) (rows : List R) → Finds k rows (last_with test rows) (last_from k test rows)
unfolding last_with last_from
finds k test [] = refl
finds k test (x ∷ rows) = later_row k x rows (last_with test rows) (test x) (last_from (k + 1) test rows) (finds (k + 1) test rows)

-- the row with the number found is the row found
pub found_row : {R : Type 0} (test : R → Bool) (rows : List R) (i : ℕ) → last_from 0 test rows ≡ Some i → slice_get rows i ≡ last_with test rows
found_row test rows i e =
    let f = subst (λ m. Finds 0 rows (last_with test rows) m) e (finds 0 test rows) in
    let same : i ≡ f.at = f.number ∙ zero-add f.at in
    ap (slice_get rows) same ∙ f.there ∙ sym f.is

pub found_none : {R : Type 0} (test : R → Bool) (rows : List R) → last_from 0 test rows ≡ None → None ≡ last_with test rows
found_none test rows e = sym (subst (λ m. Finds 0 rows (last_with test rows) m) e (finds 0 test rows))

-- choices in a row
pub or_again : (a b c : Option ℕ) → option_or (option_or a b) c ≡ option_or a (option_or b c)
or_again None b c = refl
or_again (Some x) b c = refl

pub last_step : {R : Type 0} (k j : ℕ) (test : R → Bool) (x : R) (rows : List R) (had now : Option ℕ) → j ≡ k + 1 → now ≡ option_or (if test x then Some k else None) had
    → option_or (last_from j test rows) now ≡ option_or (last_from k test (x ∷ rows)) had
unfolding last_from
last_step k j test x rows had now s e =
    ap (λ (n : ℕ). option_or (last_from n test rows) now) s ∙ ap (option_or (last_from (k + 1) test rows)) e
    ∙ sym (or_again (last_from (k + 1) test rows) (if test x then Some k else None) had)

pub last_done : {R : Type 0} (k : ℕ) (test : R → Bool) (rows : List R) (had : Option ℕ) → length rows < 1 → option_or (last_from k test rows) had ≡ had
unfolding last_from
last_done k test [] had h = refl
last_done k test (r ∷ rows) had h = absurd (omega (arith, h))

pub or_none : (a : Option ℕ) → option_or a None ≡ a
or_none None = refl
or_none (Some x) = refl

pub last_begun : {R : Type 0} (test : R → Bool) (rows : List R) (had : Option ℕ) → had ≡ None → option_or (last_from 0 test rows) had ≡ last_from 0 test rows
last_begun test rows had e = ap (option_or (last_from 0 test rows)) e ∙ or_none (last_from 0 test rows)

-- of what rows stand for the last is what the last row stands for
mapped_choice : {R D : Type 0} (g : R → D) (a : Option R) (b : Bool) (x : R) → option_or (option_map g a) (if b then Some (g x) else None) ≡ option_map g (option_or a (if b then Some x else None))
mapped_choice g None true x = refl
mapped_choice g None false x = refl
mapped_choice g (Some y) b x = refl

pub last_mapped : {R D : Type 0} (g : R → D) (test : D → Bool) (rows : List R) → last_with test (map g rows) ≡ option_map g (last_with (λ r. test (g r)) rows)
unfolding last_with
last_mapped g test [] = refl
last_mapped g test (x ∷ rows) =
    ap (λ o. option_or o (if test (g x) then Some (g x) else None)) (last_mapped g test rows) ∙ mapped_choice g (last_with (λ r. test (g r)) rows) (test (g x)) x
