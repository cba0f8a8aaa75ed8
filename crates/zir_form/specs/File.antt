-- The core tree of a file, and what is asked of it: the tree of a part, and a name in a container. A container
-- goes by its keyword's token, a declaration by its name's and a block by its first one; the file itself is the
-- container 0.
use Rattle.std.specs.Prelude.{ℕ, Bool, ◌&&◌, nat_eq, List, [], ◌∷◌, length, map, slice_get, Option, Some, None, if◌then◌else◌}
use Rattle.std.specs.Option.{option_or, option_map}
use Rattle.std.specs.List.{filter}
use Rattle.std.specs.Str.{bytes_eq}
use Rattle.zir_form.specs.declared.zir.Part.{Part}
use Rattle.zir_form.specs.declared.zir.Part.TheVariants as part
use Rattle.zir_form.specs.declared.zir.NameRef.{NameRef}
use Rattle.zir_form.specs.declared.zir.ContainerRef.{ContainerRef}
use Rattle.zir_form.specs.declared.exports.FileExports.{FileExports}
use Rattle.zir_form.specs.Core.{Core}

-- A declaration: the container that it is a member of, the token of its name, the name, whether other files
-- may use it, whether the module exports it, where its text and its name begin in the file, its containers by
-- their ordinals, and the trees of its head, where it has one, and of its whole text.
pub record Declaration : Type 0 where
  pub container : ℕ
  pub token : ℕ
  pub name : List ℕ
  pub is_pub : Bool
  pub is_export : Bool
  pub start : ℕ
  pub name_start : ℕ
  pub containers : List ℕ
  pub head : Option Core
  pub whole : Core

-- A container: its keyword's token and where that begins in the file, and the tree of its fields.
pub record Container : Type 0 where
  pub token : ℕ
  pub start : ℕ
  pub fields : Core

-- A block of the file that is evaluated at comptime: its first token, where its text and that token begin, its
-- containers by their ordinals, and its tree.
pub record Block : Type 0 where
  pub token : ℕ
  pub start : ℕ
  pub word_start : ℕ
  pub containers : List ℕ
  pub tree : Core

-- An `@import`: where it begins in the file, and the path that it names.
pub record Import : Type 0 where
  pub start : ℕ
  pub path : List ℕ

pub record CoreFile : Type 0 where
  pub declarations : List Declaration
  pub containers : List Container
  pub blocks : List Block
  pub imports : List Import

-- ---- what is asked of a file

-- whether a declaration is the one of a container that has a name
abbrev pub is_named : ℕ → List ℕ → Declaration → Bool
is_named container name d = nat_eq d.container container && bytes_eq d.name name

-- the last of a list that a test takes
unfoldable pub last_with : {R : Type 0} → (R → Bool) → List R → Option R
last_with test [] = None
last_with test (r ∷ more) = option_or (last_with test more) (if test r then Some r else None)

-- The declaration of a container that has a name; fields have none. A file in which two have it is wrong, and
-- the last is taken.
abbrev pub declaration_named : List Declaration → ℕ → List ℕ → Option Declaration
declaration_named declarations container name = last_with (is_named container name) declarations

-- the container with a keyword
abbrev pub is_container : ℕ → Container → Bool
is_container token c = nat_eq c.token token

abbrev pub container_with : List Container → ℕ → Option Container
container_with containers token = last_with (is_container token) containers

-- A part in its file: its core tree, and where its text begins.
pub record PartText : Type 0 where
  pub start : ℕ
  pub tree : Core

abbrev pub text_at : ℕ → Core → PartText
text_at start tree = record { start = start; tree = tree }

abbrev pub head_text : Option Declaration → Option PartText
head_text None = None
head_text (Some d) = option_map (text_at d.start) d.head

abbrev pub whole_text : Option Declaration → Option PartText
whole_text None = None
whole_text (Some d) = Some (text_at d.start d.whole)

abbrev pub fields_text : Option Container → Option PartText
fields_text None = None
fields_text (Some c) = Some (text_at c.start c.fields)

abbrev pub block_text : Option Block → Option PartText
block_text None = None
block_text (Some b) = Some (text_at b.start b.tree)

-- a part in its file, if there is such a part
abbrev pub part_of : CoreFile → Part → Option PartText
part_of f (part.Head container name) = head_text (declaration_named f.declarations container.0 name)
part_of f (part.Whole container name) = whole_text (declaration_named f.declarations container.0 name)
part_of f (part.Fields container) = fields_text (container_with f.containers container.0)
part_of f (part.Block number) = block_text (slice_get f.blocks number)

-- The answer to who asks for the text of a part: its tree, if there is such a part. Nothing of it tells where
-- the part stands in the file.
unfoldable pub tree_of : CoreFile → Part → Option Core
tree_of f part = option_map (λ t. t.tree) (part_of f part)

-- where a part begins in the file, which places the diagnostics of the part
unfoldable pub start_of : CoreFile → Part → Option ℕ
start_of f part = option_map (λ t. t.start) (part_of f part)

-- The answer to who asks for a name in a container: the container has a declaration of this name, and whether
-- other files may use it. Nothing of it tells where the declaration stands.
abbrev pub name_ref : Declaration → NameRef
name_ref d = record { is_pub = d.is_pub }

unfoldable pub name_of : CoreFile → ContainerRef → List ℕ → Option NameRef
name_of f container name = option_map name_ref (declaration_named f.declarations container.0 name)

-- where the name of a declaration begins in the file, which places the diagnostics of the declaration
unfoldable pub name_start_of : CoreFile → ContainerRef → List ℕ → Option ℕ
name_start_of f container name = option_map (λ d. d.name_start) (declaration_named f.declarations container.0 name)

-- the container of an ordinal in a declaration, or in a block
abbrev pub ordinal_in : List ℕ → ℕ → Option ContainerRef
ordinal_in containers ordinal = option_map (λ token. record { 0 = token }) (slice_get containers ordinal)

abbrev pub declared_containers : Option Declaration → List ℕ
declared_containers None = []
declared_containers (Some d) = d.containers

abbrev pub block_containers : Option Block → List ℕ
block_containers None = []
block_containers (Some b) = b.containers

unfoldable pub container_of : CoreFile → ContainerRef → List ℕ → ℕ → Option ContainerRef
container_of f container name ordinal = ordinal_in (declared_containers (declaration_named f.declarations container.0 name)) ordinal

unfoldable pub container_of_block : CoreFile → ℕ → ℕ → Option ContainerRef
container_of_block f number ordinal = ordinal_in (block_containers (slice_get f.blocks number)) ordinal

-- The answer to who imports a file: the functions that it exports at its top level, and how many blocks it has there
-- that are evaluated at comptime.
abbrev pub is_exported : Declaration → Bool
is_exported d = nat_eq d.container 0 && d.is_export

unfoldable pub exports_of : CoreFile → FileExports
exports_of f = record { functions = map (λ d. d.name) (filter is_exported f.declarations); blocks = length f.blocks }
