-- The units that the analysis of a root file begins with.
use Rattle.std.specs.Prelude.{ℕ, zero, suc, ◌+◌, min, List, [], ◌∷◌, ◌++◌, Option, Some, None, map, if◌then◌else◌}
use Rattle.std.specs.Str.{bytes_eq}
use Rattle.zir_form.specs.declared.exports.FileExports.{FileExports}
use Rattle.zir_form.specs.Front.{FileFront, import_answer}
use Rattle.type_form.specs.declared.tree.Ty.{Ty}
use Rattle.type_form.specs.declared.tree.Ty.TheVariants as ty
use Rattle.type_form.specs.declared.tree.DeclPath.TheVariants as path
use Rattle.type_form.specs.declared.unit.Unit.{Unit as AnyUnit}
use Rattle.type_form.specs.declared.unit.Unit.TheVariants as unit
use Rattle.trace_log.specs.Files.{Files}

-- the root is the one file that is there; imports will add to it
abbrev pub root_files : List ℕ → FileFront → Files
root_files root front path = if bytes_eq path root then Some front else None

-- the most units that an analysis may know
abbrev pub most_units : ℕ
most_units = 65536

-- the declaration of a name in a file, by the file's type
abbrev pub declared_in : Ty → List ℕ → AnyUnit
declared_in file name = unit.Decl (path.Named file name)

-- the first so many blocks of the root
abbrev pub block_units : List ℕ → ℕ → List AnyUnit
block_units root zero = []
block_units root (suc n) = block_units root n ++ unit.Comptime root n ∷ []

-- Each function that the root exports, and each block at its top level. Of more blocks than there may be units one
-- too many tells it.
abbrev pub exported_units : List ℕ → FileExports → List AnyUnit
exported_units root e = map (declared_in (ty.File root)) e.functions ++ block_units root (min e.blocks (most_units + 1))

abbrev pub units_of_some : List ℕ → Option FileExports → List AnyUnit
units_of_some root None = []
units_of_some root (Some e) = exported_units root e

unfoldable pub root_units : List ℕ → FileFront → List AnyUnit
root_units root front = units_of_some root (import_answer front)
