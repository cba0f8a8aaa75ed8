-- Diagnostics in their places.
use Rattle.std.specs.Prelude.{ℕ, ◌+◌, ◌^◌, ◌<◌, ◌≤◌, List, [], ◌∷◌, length, if◌then◌else◌}
use Rattle.std.specs.Str.{bytes_eq}
use Rattle.diag_order.specs.declared.line.Diag.{Diag}
use Rattle.diag_order.specs.declared.line.Line.{Line}
use Rattle.diag_order.specs.Places.{line_at, col_at}

-- files as pairs of a path and a text
abbrev pub Texts : Type 0
Texts = List (List ℕ × List ℕ)

-- the text of a file; a path that is not there reads as an empty file
unfoldable pub text_in : Texts → List ℕ → List ℕ
text_in [] path = []
text_in (file ∷ files) path = if bytes_eq file.0 path then file.1 else text_in files path

-- the byte lies in the file, or at its end, and its line and column are numbers of 32 bits
abbrev pub IsInFile : Texts → Diag → Type 0
IsInFile texts d = (d.offset ≤ length (text_in texts d.path)) × (d.offset + 1 < 2 ^ 32)

-- a diagnostic in its place
abbrev pub line_of : Texts → Diag → Line
line_of texts d = record {
  path = d.path;
  line = line_at (text_in texts d.path) d.offset;
  col = col_at (text_in texts d.path) d.offset;
  code = d.code;
  text = d.text;
}
