-- The file that the last of some lines is in.
use Rattle.std.specs.Prelude.{◌≡◌, ◌≤◌, ℕ, List, [], ◌∷◌, length}
use Rattle.diag_order.specs.declared.line.Line.{Line}
use Rattle.diag_order.specs.declared.place.Place.{Place}
use Rattle.diag_order.specs.Places.{line_at, col_at}
use Rattle.diag_order.specs.Sorted.{Texts, text_in}

abbrev pub last_text : Texts → List Line → List ℕ
last_text texts [] = []
last_text texts (line ∷ []) = text_in texts line.path
last_text texts (line ∷ next ∷ lines) = last_text texts (next ∷ lines)

-- the line and the column are those of the byte
pub record IsPlace (text : List ℕ) (place : Place) : Type 0 where
  pub within : place.offset ≤ length text
  pub line : place.line ≡ line_at text place.offset
  pub col : place.col ≡ col_at text place.offset
