-- Diagnostics and the texts of their files.
use Rattle.std.specs.Prelude.{◌≡◌, ℕ, List, min, length, Some}
use Rattle.diag_order.specs.declared.line.Diag.{Diag}
use Rattle.diag_order.specs.Sorted.{text_in}
use Rattle.watch_core.specs.Compile.{Files}
use Rattle.watch_core.specs.Sources.{at_path}

-- what the texts have at a path is the file's
abbrev pub AreTexts : Files → Files → Type 0
AreTexts files texts = (path text : List ℕ) → at_path texts path ≡ Some text → text_in files path ≡ text

-- the texts have that of the diagnostic's file
abbrev pub Shows : Files → Files → Diag → Type 0
Shows files texts d = text_in texts d.path ≡ text_in files d.path

-- a place behind the text is its end
abbrev pub within : Files → Diag → Diag
within files d = record d { offset = min d.offset (length (text_in files d.path)) }
