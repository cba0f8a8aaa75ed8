-- Where what a diagnostic points at stands in its file, in bytes from the file's start.
use Rattle.std.specs.Prelude.{ℕ, ◌+◌, List, Option, None, Some, slice_get}
use Rattle.std.specs.Option.{option_map, option_and_then}
use Rattle.zir_form.specs.declared.front.Front.{Front}
use Rattle.zir_form.specs.declared.zir.ContainerRef.{ContainerRef}
use Rattle.zir_form.specs.declared.zir.Part.{Part}
use Rattle.zir_form.specs.declared.zir.Part.TheVariants as part
use Rattle.zir_form.specs.File.{CoreFile, name_start_of, start_of}
use Rattle.zir_form.specs.Front.{FileFront, front_in}
use Rattle.type_form.specs.declared.tree.Arg.TheOpen as layer
use Rattle.type_form.specs.declared.tree.DeclPath.{out-DeclPath}
use Rattle.type_form.specs.Tree.{DeclLayer}
use Rattle.elab_form.specs.Questions as plain
use Rattle.trace_log.specs.declared.answers.Answers.{Answers}
use Rattle.trace_log.specs.declared.places.PartPlace.{PartPlace}
use Rattle.trace_log.specs.declared.replies.Extent.{Extent}
use Rattle.trace_log.specs.Files.{Files, Stand, stand_of}
use Rattle.trace_log.specs.Snapshots.{declared_part, front_get}

-- ---- parts in files

-- a part of a file
pub record FilePart : Type 0 where
  pub file : FileFront
  pub part : Part

abbrev pub part_by : FileFront → Part → FilePart
part_by file p = record { file = file; part = p }

-- a part of a declaration, where its container stands
abbrev pub head_part : List ℕ → Stand → FilePart
head_part name s = part_by s.file (part.Head s.container name)

abbrev pub whole_part : List ℕ → Stand → FilePart
whole_part name s = part_by s.file (part.Whole s.container name)

abbrev pub fields_part : Stand → FilePart
fields_part s = part_by s.file (part.Fields s.container)

-- the part of a declaration, by which one it is in its container; a block is no declaration of a container
abbrev pub decl_part : Files → (List ℕ → Stand → FilePart) → DeclLayer → Option FilePart
decl_part files of (layer.Named container name) = option_map (of name) (stand_of files container)
decl_part files of (layer.Comptime file number) = None

-- the file of a part and the part there, if there is such a file or container
abbrev pub file_part : Files → plain.TextPart → Option FilePart
file_part files (plain.head d) = decl_part files head_part (out-DeclPath d)
file_part files (plain.whole d) = decl_part files whole_part (out-DeclPath d)
file_part files (plain.TextPart.fields t) = option_map fields_part (stand_of files t)
file_part files (plain.block file number) = option_map (λ f. part_by f (part.Block number)) (files file)

-- ---- where texts and names begin; in a file without a tree none does

-- where the text of a part begins
abbrev pub start_answer : FilePart → Option ℕ
start_answer p = option_and_then (λ c. start_of c p.part) p.file.core

-- where the name of a declaration begins
abbrev pub name_start_answer : FileFront → ContainerRef → List ℕ → Option ℕ
name_start_answer f container name = option_and_then (λ c. name_start_of c container name) f.core

-- where the word `comptime` of a block begins
unfoldable pub word_start_of : CoreFile → ℕ → Option ℕ
word_start_of c number = option_map (λ b. b.word_start) (slice_get c.blocks number)

abbrev pub word_start_answer : FileFront → ℕ → Option ℕ
word_start_answer f number = option_and_then (λ c. word_start_of c number) f.core

-- where a declaration is shown: at its name, and a block at its word
abbrev pub stand_name_start : List ℕ → Stand → Option ℕ
stand_name_start name s = name_start_answer s.file s.container name

abbrev pub decl_start : Files → DeclLayer → Option ℕ
decl_start files (layer.Named container name) = option_and_then (stand_name_start name) (stand_of files container)
decl_start files (layer.Comptime file number) = option_and_then (λ f. word_start_answer f number) (files file)

-- ---- spots

-- where a spot stands, if there is such a part, or such a name
unfoldable pub spot_offset : Files → plain.Spot → Option ℕ
spot_offset files (plain.within p place) = option_map (λ start. start + place) (option_and_then start_answer (file_part files p))
spot_offset files (plain.named d) = decl_start files (out-DeclPath d)

-- ---- by the numbers of fronts

-- the part of a declaration of this extent
abbrev pub extent_part : Extent → List ℕ → Stand → FilePart
extent_part e name s = part_by s.file (declared_part e s.container name)

-- what the place of a part is
abbrev pub part_in : Answers → Option PartPlace → Option FilePart
part_in a None = None
part_in a (Some place) = option_map (λ f. part_by (front_in f) place.part) (front_get a place.front)
