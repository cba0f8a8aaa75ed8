-- A table is gone over row by row.
use Rattle.std.proofs.Common.{◌≡◌, ℕ, ◌+◌, ◌<◌, ◌≤◌, true, false, List, length, get_or, drop, Some, None, refl, Bor}
use Rattle.std.specs.Prelude.{nat_eq}
use Rattle.std.specs.Str.{bytes_eq}
use Rattle.std.specs.List.{starts_with}
use Rattle.std.proofs.lemmas.List.{drop_more, drop_all}
use Rattle.zig_tree.specs.declared.token.TokenKind.{TokenKind}
use Rattle.zig_tree.specs.TokenTables.{kind_of_row, row_at_front}
use Rattle.zig_tree.specs.Written.{written}

module _ (rows : List (Bor (List ℕ) × TokenKind)) (bytes : List ℕ) (i : ℕ) where
  pub kind_here : (d : Bor (List ℕ) × TokenKind) → i < length rows → bytes_eq (get_or rows i d).0.now bytes ≡ true → kind_of_row (written (drop i rows)) bytes ≡ Some (get_or rows i d).1
  unfolding kind_of_row
  kind_here d lt same = rw (drop_more rows i d lt, same) refl

  pub kind_further : (d : Bor (List ℕ) × TokenKind) → i < length rows → bytes_eq (get_or rows i d).0.now bytes ≡ false → kind_of_row (written (drop i rows)) bytes ≡ kind_of_row (written (drop (i + 1) rows)) bytes
  unfolding kind_of_row
  kind_further d lt other = rw (drop_more rows i d lt, other) refl

  pub kind_none : length rows ≤ i → kind_of_row (written (drop i rows)) bytes ≡ None
  unfolding kind_of_row
  kind_none le = rw (drop_all i rows le) refl

  pub front_here : (d : Bor (List ℕ) × TokenKind) → i < length rows → starts_with nat_eq bytes (get_or rows i d).0.now ≡ true → row_at_front (written (drop i rows)) bytes ≡ Some (length (get_or rows i d).0.now, (get_or rows i d).1)
  unfolding row_at_front
  front_here d lt same = rw (drop_more rows i d lt, same) refl

  pub front_further : (d : Bor (List ℕ) × TokenKind) → i < length rows → starts_with nat_eq bytes (get_or rows i d).0.now ≡ false → row_at_front (written (drop i rows)) bytes ≡ row_at_front (written (drop (i + 1) rows)) bytes
  unfolding row_at_front
  front_further d lt other = rw (drop_more rows i d lt, other) refl

  pub front_none : length rows ≤ i → row_at_front (written (drop i rows)) bytes ≡ None
  unfolding row_at_front
  front_none le = rw (drop_all i rows le) refl
