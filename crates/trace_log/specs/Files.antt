-- What files answer to those who ask for texts, names and exports.
use Rattle.std.specs.Prelude.{ℕ, List, Option, None}
use Rattle.std.specs.Option.{option_map, option_and_then}
use Rattle.zir_form.specs.declared.zir.ContainerRef.{ContainerRef}
use Rattle.zir_form.specs.declared.zir.NameRef.{NameRef}
use Rattle.zir_form.specs.declared.zir.Part.TheVariants as part
use Rattle.zir_form.specs.declared.exports.FileExports.{FileExports}
use Rattle.zir_form.specs.Core.{Core}
use Rattle.zir_form.specs.File.{CoreFile, container_of, container_of_block}
use Rattle.zir_form.specs.Front.{FileFront, text_answer, name_answer, import_answer}
use Rattle.type_form.specs.declared.tree.Ty.{Ty}
use Rattle.type_form.specs.declared.tree.DeclPath.{DeclPath, out-DeclPath}
use Rattle.type_form.specs.declared.tree.Arg.TheOpen.{Arg-F, DeclPath-F, Ty-F, Value-F}
use Rattle.type_form.specs.declared.tree.Arg.TheOpen as layer
use Rattle.type_form.specs.declared.tree.Arg.TheFolds.{fold-Ty, fold-DeclPath}
use Rattle.type_form.specs.Tree.{DeclLayer}
use Rattle.elab_form.specs.Questions as plain

-- the files that are there, by their paths
abbrev pub Files : Type 0
Files = List ℕ → Option FileFront

-- ---- where containers stand

-- a container of a file
pub record Stand : Type 0 where
  pub file : FileFront
  pub container : ContainerRef

abbrev pub stand_by : FileFront → ContainerRef → Stand
stand_by file container = record { file = file; container = container }

-- a container that is looked up in the core tree of a file
abbrev pub stand_in : (CoreFile → Option ContainerRef) → FileFront → Option Stand
stand_in look_up file = option_map (stand_by file) (option_and_then look_up file.core)

-- the container of an ordinal in a declaration of a container
abbrev pub stand_named : List ℕ → ℕ → Stand → Option Stand
stand_named name ordinal s = stand_in (λ core. container_of core s.container name ordinal) s.file

-- a file is the container 0 of itself
abbrev pub file_stand : FileFront → Stand
file_stand file = stand_by file (record { 0 = 0 })

-- Where the containers of a declaration stand, by their ordinals, and where a type stands, each by where the
-- trees in it stand.
abbrev pub decl_stands : Files → DeclPath-F (Unit {0}) (ℕ → Option Stand) (Option Stand) (Unit {0}) → ℕ → Option Stand
decl_stands files (layer.Named container name) ordinal = option_and_then (stand_named name ordinal) container
decl_stands files (layer.Comptime file number) ordinal = option_and_then (stand_in (λ core. container_of_block core number ordinal)) (files file)

abbrev pub ty_stand : Files → Ty-F (Unit {0}) (ℕ → Option Stand) (Option Stand) (Unit {0}) → Option Stand
ty_stand files (layer.File path) = option_map file_stand (files path)
ty_stand files (layer.Container decl ordinal captures) = decl ordinal
ty_stand files _ = None

abbrev pub arg_stand : Arg-F (Unit {0}) (ℕ → Option Stand) (Option Stand) (Unit {0}) → Unit {0}
arg_stand a = tt

abbrev pub value_stand : Value-F (Unit {0}) (ℕ → Option Stand) (Option Stand) (Unit {0}) → Unit {0}
value_stand v = tt

-- where a container or a file stands, by its type
abbrev pub stand_of : Files → Ty → Option Stand
stand_of files = fold-Ty (Unit {0}) (ℕ → Option Stand) (Option Stand) (Unit {0}) arg_stand (decl_stands files) (ty_stand files) value_stand

-- where the containers of a declaration stand, by their ordinals
abbrev pub declared_stand : Files → DeclPath → ℕ → Option Stand
declared_stand files = fold-DeclPath (Unit {0}) (ℕ → Option Stand) (Option Stand) (Unit {0}) arg_stand (decl_stands files) (ty_stand files) value_stand

-- ---- texts, names and exports

abbrev pub head_at : List ℕ → Stand → Option Core
head_at name s = text_answer s.file (part.Head s.container name)

abbrev pub whole_at : List ℕ → Stand → Option Core
whole_at name s = text_answer s.file (part.Whole s.container name)

abbrev pub fields_at : Stand → Option Core
fields_at s = text_answer s.file (part.Fields s.container)

-- the text of a declaration, by how it is read in its container
abbrev pub decl_text : Files → (List ℕ → Stand → Option Core) → DeclLayer → Option Core
decl_text files text (layer.Named container name) = option_and_then (text name) (stand_of files container)
decl_text files text (layer.Comptime file number) = None

-- the text of a part, if there is such a part
abbrev pub text_in : Files → plain.TextPart → Option Core
text_in files (plain.head d) = decl_text files head_at (out-DeclPath d)
text_in files (plain.whole d) = decl_text files whole_at (out-DeclPath d)
text_in files (plain.TextPart.fields t) = option_and_then fields_at (stand_of files t)
text_in files (plain.block file number) = option_and_then (λ f. text_answer f (part.Block number)) (files file)

-- the declaration of a name in a container, if it has one
abbrev pub name_in : Files → Ty → List ℕ → Option NameRef
name_in files container name = option_and_then (λ s. name_answer s.file s.container name) (stand_of files container)

-- what a file exports, if there is one
abbrev pub exports_in : Files → List ℕ → Option FileExports
exports_in files path = option_and_then import_answer (files path)

-- What the files answer; the result of a unit is not put to them.
unfoldable pub file_answer : Files → plain.Question → plain.Answer
file_answer files (plain.text p) = plain.tree (text_in files p)
file_answer files (plain.name container name) = plain.declaration (name_in files container name)
file_answer files (plain.import path) = plain.exports (exports_in files path)
file_answer files (plain.result u) = plain.failure
