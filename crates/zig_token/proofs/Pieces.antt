-- Each piece of a text has a byte, and ends within the text.
use Rattle.std.proofs.Common.{◌≡◌, ℕ, ◌+◌, ◌<◌, ◌≤◌, Bool, true, List, [], ◌∷◌, length, get_or, drop, take, Some, refl, ap, subst, arith, ltb}
use Rattle.std.specs.Prelude.{nat_eq, IfSome}
use Rattle.std.specs.List.{starts_with, list_all}
use Rattle.std.proofs.lemmas.Bool.{or_left, or_right, cond_both, and_parts, ltb-true}
use Rattle.std.proofs.lemmas.Slice.Eq.{bytes_eq-Decides}
use Rattle.std.proofs.lemmas.List.{length-take}
use Rattle.zig_tree.specs.declared.token.TokenKind.{TokenKind}
use Rattle.zig_tree.specs.TokenBytes.{is_name_start, is_name_byte, is_digit}
use Rattle.zig_tree.specs.TokenTables.{Row, symbols, row_at_front}
use Rattle.zig_token.specs.Scan.{name_end, name_from}
use Rattle.zig_token.proofs.Skips.{here}

pub name_from_after : (at : ℕ) (bytes : List ℕ) → at ≤ name_from at bytes
unfolding name_from
name_from_after at [] = omega arith
name_from_after at (b ∷ bytes) = cond_both (is_name_byte b) (name_from (at + 1) bytes) at (λ n. at ≤ n) (λ _. omega (arith, name_from_after (at + 1) bytes)) (λ _. omega arith)

begun : (text : List ℕ) (at : ℕ) → at < length text → is_name_byte (get_or text at 0) ≡ true → at < name_end text at
unfolding name_end name_from
begun text at lt h = rw (here text at lt, h) (omega (arith, name_from_after (at + 1) (drop (at + 1) text)))

pub name_begun : (text : List ℕ) (at : ℕ) → at < length text → is_name_start (get_or text at 0) ≡ true → at < name_end text at
unfolding is_name_byte
name_begun text at lt h = begun text at lt (or_left _ _ h)

pub digit_begun : (text : List ℕ) (at : ℕ) → at < length text → is_digit (get_or text at 0) ≡ true → at < name_end text at
unfolding is_name_byte
digit_begun text at lt h = begun text at lt (or_right _ _ h)

-- every row has a byte
abbrev pub has_byte : Row → Bool
has_byte row = ltb 0 (length row.0)

-- the row at the front has a byte, and all of its bytes stand there
fits_row : (rows : List Row) (bytes : List ℕ) → list_all has_byte rows ≡ true → IfSome (row_at_front rows bytes) (λ found. (0 < found.0) × (found.0 ≤ length bytes))
unfolding row_at_front
fits_row [] bytes h = tt
fits_row (row ∷ rows) bytes h =
    cond_both (starts_with nat_eq bytes row.0) (Some (length row.0, row.1)) (row_at_front rows bytes) (λ o. IfSome o (λ found. (0 < found.0) × (found.0 ≤ length bytes)))
    (λ same. (ltb-true 0 (length row.0) (and_parts _ _ h).0, omega (arith, ap length ((bytes_eq-Decides row.0 (take (length row.0) bytes)).0 same), length-take (length row.0) bytes)))
    (λ _. fits_row rows bytes (and_parts _ _ h).1)

pub symbols_fit : (bytes : List ℕ) → IfSome (row_at_front symbols bytes) (λ found. (0 < found.0) × (found.0 ≤ length bytes))
symbols_fit bytes = fits_row symbols bytes refl

pub symbol_fits : (bytes : List ℕ) (found : ℕ × TokenKind) → row_at_front symbols bytes ≡ Some found → (row_at_front symbols bytes ≡ row_at_front symbols bytes) × ((0 < found.0) × (found.0 ≤ length bytes))
symbol_fits bytes found e = (refl, subst (λ o. IfSome o (λ f. (0 < f.0) × (f.0 ≤ length bytes))) e (symbols_fit bytes))
