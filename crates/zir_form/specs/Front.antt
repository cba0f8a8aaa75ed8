-- What a file is to the layers above, and its answers to what they ask.
use Rattle.std.specs.Prelude.{ℕ, List, [], Option, None, Some}
use Rattle.std.specs.Option.{option_map, option_and_then}
use Rattle.zw_base.specs.declared.diag.Found.{Found}
use Rattle.zir_form.specs.declared.front.Front.{Front}
use Rattle.zir_form.specs.declared.zir.Part.{Part}
use Rattle.zir_form.specs.declared.zir.NameRef.{NameRef}
use Rattle.zir_form.specs.declared.zir.ContainerRef.{ContainerRef}
use Rattle.zir_form.specs.Core.{Core}
use Rattle.zir_form.specs.declared.exports.FileExports.{FileExports}
use Rattle.zir_form.specs.declared.form.Form.{Form}
use Rattle.zir_form.specs.File.{CoreFile, exports_of, name_of, tree_of}
use Rattle.zir_form.specs.Tables.{ZirState, file_in}

-- A file: its diagnostics, and its declarations, containers and blocks with their trees, where its text is a
-- sentence of the language.
pub record FileFront : Type 0 where
  pub found : List Found
  pub core : Option CoreFile

-- the file that a front stands for
unfoldable pub front_in : Front → FileFront
front_in f = record { found = f.found; core = option_map file_in f.zir }

-- the lines that its trees are kept as
abbrev pub lines_by : Option ZirState → List Form
lines_by None = []
lines_by (Some z) = z.lines

abbrev pub lines_in : Front → List Form
lines_in f = lines_by f.zir

-- ---- its answers; a file without a tree has no parts

-- the answer to who asks for the text of a part
abbrev pub text_answer : FileFront → Part → Option Core
text_answer f part = option_and_then (λ c. tree_of c part) f.core

-- the answer to who asks for a name in a container
abbrev pub name_answer : FileFront → ContainerRef → List ℕ → Option NameRef
name_answer f container name = option_and_then (λ c. name_of c container name) f.core

-- the answer to who imports the file
abbrev pub import_answer : FileFront → Option FileExports
import_answer f = option_map exports_of f.core
