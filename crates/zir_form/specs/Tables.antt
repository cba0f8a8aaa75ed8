-- What the tables of a file stand for, and how they are searched.
use Rattle.std.specs.Prelude.{◌≡◌, ℕ, ◌+◌, Bool, ◌&&◌, nat_eq, List, [], ◌∷◌, map, slice_get, Option, None, Some, Vec, if◌then◌else◌}
use Rattle.std.specs.Option.{option_or, option_map}
use Rattle.std.specs.List.{filter}
use Rattle.std.specs.Str.{bytes_eq}
use Rattle.std.specs.Ordering.{nat_cmp}
use Rattle.std.specs.BTreeMap.{BTreeMap, get}
use Rattle.std.specs.declared.alloc.Global.{Global}
use Rattle.zir_form.specs.declared.table.DeclarationRow.{DeclarationRow}
use Rattle.zir_form.specs.declared.table.ContainerRow.{ContainerRow}
use Rattle.zir_form.specs.declared.table.BlockRow.{BlockRow}
use Rattle.zir_form.specs.declared.table.ImportRow.{ImportRow}
use Rattle.zir_form.specs.Core.{Core}
use Rattle.zir_form.specs.declared.form.Form.{Form}
use Rattle.zir_form.specs.declared.zir.Part.{Part}
use Rattle.zir_form.specs.declared.zir.Part.TheVariants as part
use Rattle.zir_form.specs.declared.zir.PartRef.{PartRef}
use Rattle.zir_form.specs.declared.zir.PartRow.{PartRow}
use Rattle.zir_form.specs.declared.zir.ContainerRef.{ContainerRef}
use Rattle.zir_form.specs.File.{CoreFile, Declaration, Container, Block, Import, PartText, last_with, text_at, ordinal_in}
use Rattle.zir_form.specs.Lines.{tree_at, trees_of, core_at}
use Rattle.zir_form.specs.Places.{place_in}

-- ---- what a row stands for

abbrev pub declaration_of : List Core → DeclarationRow → Declaration
declaration_of trees r = record {
  container = r.container;
  token = r.token;
  name = r.name;
  is_pub = r.is_pub;
  is_export = r.is_export;
  start = r.start;
  name_start = r.name_start;
  containers = r.containers;
  head = option_map (tree_at trees) r.head;
  whole = tree_at trees r.whole;
}

abbrev pub container_of : List Core → ContainerRow → Container
container_of trees r = record { token = r.token; start = r.start; fields = tree_at trees r.fields }

abbrev pub block_of : List Core → BlockRow → Block
block_of trees r = record { token = r.token; start = r.start; word_start = r.word_start; containers = r.containers; tree = tree_at trees r.line }

abbrev pub import_of : ImportRow → Import
import_of r = record { start = r.start; path = r.path }

-- A Zir, as contracts see it: lines, and rows that name them.
pub record ZirState : Type 0 where
  pub lines : List Form
  pub declarations : List DeclarationRow
  pub containers : List ContainerRow
  pub blocks : List BlockRow
  pub imports : List ImportRow

-- the file that it stands for
unfoldable pub file_in : ZirState → CoreFile
file_in z = record {
  declarations = map (declaration_of (trees_of z.lines)) z.declarations;
  containers = map (container_of (trees_of z.lines)) z.containers;
  blocks = map (block_of (trees_of z.lines)) z.blocks;
  imports = map import_of z.imports;
}

-- ---- how it is searched

-- the last declaration of a container that has a name
unfoldable pub is_row : ℕ → List ℕ → DeclarationRow → Bool
is_row container name r = nat_eq r.container container && bytes_eq r.name name

abbrev pub row_named : List DeclarationRow → ℕ → List ℕ → Option DeclarationRow
row_named rows container name = last_with (is_row container name) rows

-- the last container with a keyword
unfoldable pub is_container_row : ℕ → ContainerRow → Bool
is_container_row token r = nat_eq r.token token

abbrev pub row_with : List ContainerRow → ℕ → Option ContainerRow
row_with rows token = last_with (is_container_row token) rows

abbrev pub part_row : ℕ → ℕ → PartRow
part_row line start = record { line = line; start = start }

abbrev pub head_by : DeclarationRow → Option ℕ → Option PartRow
head_by r None = None
head_by r (Some line) = Some (part_row line r.start)

abbrev pub head_row : Option DeclarationRow → Option PartRow
head_row None = None
head_row (Some r) = head_by r r.head

abbrev pub whole_row : Option DeclarationRow → Option PartRow
whole_row None = None
whole_row (Some r) = Some (part_row r.whole r.start)

abbrev pub fields_row : Option ContainerRow → Option PartRow
fields_row None = None
fields_row (Some r) = Some (part_row r.fields r.start)

abbrev pub block_row : Option BlockRow → Option PartRow
block_row None = None
block_row (Some r) = Some (part_row r.line r.start)

-- where a part's tree is, and where its text begins
unfoldable pub part_in : ZirState → Part → Option PartRow
part_in z (part.Head container name) = head_row (row_named z.declarations container.0 name)
part_in z (part.Whole container name) = whole_row (row_named z.declarations container.0 name)
part_in z (part.Fields container) = fields_row (row_with z.containers container.0)
part_in z (part.Block number) = block_row (slice_get z.blocks number)

-- the containers of a declaration, and of a block
abbrev pub containers_declared : Option DeclarationRow → List ℕ
containers_declared None = []
containers_declared (Some r) = r.containers

abbrev pub containers_of_block : Option BlockRow → List ℕ
containers_of_block None = []
containers_of_block (Some r) = r.containers

-- the part that a line and a place stand for
abbrev pub text_of : List Form → Option PartRow → Option PartText
text_of lines None = None
text_of lines (Some r) = Some (text_at r.start (core_at lines r.line))

-- the tree that an answer stands for
abbrev pub tree_by : List Form → Option PartRef → Option Core
tree_by lines answer = option_map (λ r. core_at lines r.line) answer

-- the names of the rows that are exported at the top level
abbrev pub is_exported_row : DeclarationRow → Bool
is_exported_row r = nat_eq r.container 0 && r.is_export

unfoldable pub exported_names : List DeclarationRow → List (List ℕ)
exported_names rows = map (λ (r : DeclarationRow). r.name) (filter is_exported_row rows)

-- ---- the maps beside the tables

-- the number of the last that a test takes, from this number on
unfoldable pub last_from : {R : Type 0} → ℕ → (R → Bool) → List R → Option ℕ
last_from i test [] = None
last_from i test (r ∷ more) = option_or (last_from (i + 1) test more) (if test r then Some i else None)

-- what the maps have
abbrev pub in_members : Option (BTreeMap (Vec ℕ Global) ℕ) → List ℕ → Option ℕ
in_members None name = None
in_members (Some members) name = place_in members name

unfoldable pub member_in : BTreeMap ℕ (BTreeMap (Vec ℕ Global) ℕ) → ℕ → List ℕ → Option ℕ
member_in members container name = in_members (get nat_cmp members container) name

unfoldable pub number_in : BTreeMap ℕ ℕ → ℕ → Option ℕ
number_in places token = get nat_cmp places token

-- the maps have what the tables have
pub record AgreeTables (declarations : List DeclarationRow) (containers : List ContainerRow) (members : BTreeMap ℕ (BTreeMap (Vec ℕ Global) ℕ)) (places : BTreeMap ℕ ℕ) : Type 0 where
  pub members_agree : (container : ℕ) (name : List ℕ) → member_in members container name ≡ last_from 0 (is_row container name) declarations
  pub places_agree : (token : ℕ) → number_in places token ≡ last_from 0 (is_container_row token) containers
