-- What a Zir answers, by the file that it stands for.
use Rattle.std.proofs.Common.{◌≡◌, ℕ, zero, suc, List, [], ◌∷◌, map, refl, sym, ◌∙◌, ap, Some, None, Option}
use Rattle.std.specs.Prelude.{slice_get, length, Bool, true, false, cond, nat_eq, ◌&&◌}
use Rattle.std.specs.List.{filter}
use Rattle.std.specs.Option.{option_map}
use Rattle.std.proofs.lemmas.List.{length-map}
use Rattle.zir_form.specs.declared.exports.FileExports.{FileExports}
use Rattle.zir_form.specs.declared.table.DeclarationRow.{DeclarationRow}
use Rattle.zir_form.specs.declared.table.ContainerRow.{ContainerRow}
use Rattle.zir_form.specs.declared.table.BlockRow.{BlockRow}
use Rattle.zir_form.specs.declared.zir.Part.{Part}
use Rattle.zir_form.specs.declared.zir.Part.TheVariants as part
use Rattle.zir_form.specs.declared.zir.ContainerRef.{ContainerRef}
use Rattle.zir_form.specs.declared.form.Form.{Form}
use Rattle.zir_form.specs.Core.{Core}
use Rattle.zir_form.specs.File as file
use Rattle.zir_form.specs.declared.zir.PartRow.{PartRow}
use Rattle.zir_form.specs.declared.zir.NameRef.{NameRef}
use Rattle.zir_form.specs.File.{CoreFile, Declaration, Container, Block, PartText, declaration_named, container_with, text_at, ordinal_in}
use Rattle.zir_form.specs.Lines.{tree_at, trees_of, core_at}
use Rattle.zir_form.specs.Tables.{ZirState, file_in, is_row, is_container_row, row_named, row_with, declaration_of, container_of, block_of, part_in, text_of, head_row, head_by, whole_row, fields_row, block_row, containers_declared, containers_of_block, exported_names, is_exported_row}
use Rattle.zir_form.proofs.TableLemmas.{last_mapped}

declared_row : (trees : List Core) (rows : List DeclarationRow) (c : ℕ) (name : List ℕ)
    → option_map (declaration_of trees) (row_named rows c name) ≡ declaration_named (map (declaration_of trees) rows) c name
unfolding is_row
declared_row trees rows c name = sym (last_mapped (declaration_of trees) (file.is_named c name) rows)

contained_row : (trees : List Core) (rows : List ContainerRow) (c : ℕ)
    → option_map (container_of trees) (row_with rows c) ≡ container_with (map (container_of trees) rows) c
unfolding is_container_row
contained_row trees rows c = sym (last_mapped (container_of trees) (file.is_container c) rows)

mapped_get : {A B : Type 0} (g : A → B) (xs : List A) (i : ℕ) → option_map g (slice_get xs i) ≡ slice_get (map g xs) i
mapped_get g [] i = refl
mapped_get g (x ∷ xs) zero = refl
mapped_get g (x ∷ xs) (suc i) = mapped_get g xs i

head_line : (lines : List Form) (r : DeclarationRow) (h : Option ℕ) → text_of lines (head_by r h) ≡ option_map (text_at r.start) (option_map (tree_at (trees_of lines)) h)
unfolding core_at
head_line lines r None = refl
head_line lines r (Some line) = refl

head_text : (lines : List Form) (o : Option DeclarationRow) → text_of lines (head_row o) ≡ file.head_text (option_map (declaration_of (trees_of lines)) o)
head_text lines None = refl
head_text lines (Some r) = head_line lines r r.head

whole_text : (lines : List Form) (o : Option DeclarationRow) → text_of lines (whole_row o) ≡ file.whole_text (option_map (declaration_of (trees_of lines)) o)
unfolding core_at
whole_text lines None = refl
whole_text lines (Some r) = refl

fields_text : (lines : List Form) (o : Option ContainerRow) → text_of lines (fields_row o) ≡ file.fields_text (option_map (container_of (trees_of lines)) o)
unfolding core_at
fields_text lines None = refl
fields_text lines (Some r) = refl

block_text : (lines : List Form) (o : Option BlockRow) → text_of lines (block_row o) ≡ file.block_text (option_map (block_of (trees_of lines)) o)
unfolding core_at
block_text lines None = refl
block_text lines (Some r) = refl

part_law : (z : ZirState) (p : Part) → text_of z.lines (part_in z p) ≡ file.part_of (file_in z) p
unfolding part_in file_in
part_law z (part.Head c name) = head_text z.lines (row_named z.declarations c.0 name) ∙ ap file.head_text (declared_row (trees_of z.lines) z.declarations c.0 name)
part_law z (part.Whole c name) = whole_text z.lines (row_named z.declarations c.0 name) ∙ ap file.whole_text (declared_row (trees_of z.lines) z.declarations c.0 name)
part_law z (part.Fields c) = fields_text z.lines (row_with z.containers c.0) ∙ ap file.fields_text (contained_row (trees_of z.lines) z.containers c.0)
part_law z (part.Block number) = block_text z.lines (slice_get z.blocks number) ∙ ap file.block_text (mapped_get (block_of (trees_of z.lines)) z.blocks number)

row_tree : (lines : List Form) (o : Option PartRow) → option_map (λ t. t.tree) (text_of lines o) ≡ option_map (λ r. core_at lines r.line) o
row_tree lines None = refl
row_tree lines (Some r) = refl

row_start : (lines : List Form) (o : Option PartRow) → option_map (λ t. t.start) (text_of lines o) ≡ option_map (λ r. r.start) o
row_start lines None = refl
row_start lines (Some r) = refl

-- the tree of a part, and where it begins, by its row
pub tree_law : (z : ZirState) (p : Part) → file.tree_of (file_in z) p ≡ option_map (λ r. core_at z.lines r.line) (part_in z p)
unfolding file.tree_of
tree_law z p = ap (option_map (λ t. t.tree)) (sym (part_law z p)) ∙ row_tree z.lines (part_in z p)

pub start_law : (z : ZirState) (p : Part) → file.start_of (file_in z) p ≡ option_map (λ r. r.start) (part_in z p)
unfolding file.start_of
start_law z p = ap (option_map (λ t. t.start)) (sym (part_law z p)) ∙ row_start z.lines (part_in z p)

-- what a name is in a container, by its row
abbrev pub named_by : DeclarationRow → NameRef
named_by r = record { is_pub = r.is_pub }

name_row : (trees : List Core) (o : Option DeclarationRow)
    → option_map file.name_ref (option_map (declaration_of trees) o) ≡ option_map named_by o
name_row trees None = refl
name_row trees (Some r) = refl

pub name_law : (z : ZirState) (c : ContainerRef) (name : List ℕ)
    → file.name_of (file_in z) c name ≡ option_map named_by (row_named z.declarations c.0 name)
unfolding file.name_of file_in
name_law z c name = ap (option_map file.name_ref) (sym (declared_row (trees_of z.lines) z.declarations c.0 name)) ∙ name_row (trees_of z.lines) (row_named z.declarations c.0 name)

name_start_row : (trees : List Core) (o : Option DeclarationRow)
    → option_map (λ d. d.name_start) (option_map (declaration_of trees) o) ≡ option_map (λ (r : DeclarationRow). r.name_start) o
name_start_row trees None = refl
name_start_row trees (Some r) = refl

pub name_start_law : (z : ZirState) (c : ContainerRef) (name : List ℕ)
    → file.name_start_of (file_in z) c name ≡ option_map (λ (r : DeclarationRow). r.name_start) (row_named z.declarations c.0 name)
unfolding file.name_start_of file_in
name_start_law z c name = ap (option_map (λ d. d.name_start)) (sym (declared_row (trees_of z.lines) z.declarations c.0 name)) ∙ name_start_row (trees_of z.lines) (row_named z.declarations c.0 name)

containers_text : (trees : List Core) (o : Option DeclarationRow) → containers_declared o ≡ file.declared_containers (option_map (declaration_of trees) o)
containers_text trees None = refl
containers_text trees (Some r) = refl

-- the container of an ordinal, by the row of its declaration or block
pub container_law : (z : ZirState) (c : ContainerRef) (name : List ℕ) (ordinal : ℕ)
    → file.container_of (file_in z) c name ordinal ≡ ordinal_in (containers_declared (row_named z.declarations c.0 name)) ordinal
unfolding file.container_of file_in
container_law z c name ordinal =
    ap (λ l. ordinal_in l ordinal)
    (sym (containers_text (trees_of z.lines) (row_named z.declarations c.0 name) ∙ ap file.declared_containers (declared_row (trees_of z.lines) z.declarations c.0 name)))

block_containers : (trees : List Core) (o : Option BlockRow) → containers_of_block o ≡ file.block_containers (option_map (block_of trees) o)
block_containers trees None = refl
block_containers trees (Some r) = refl

pub block_law : (z : ZirState) (number ordinal : ℕ)
    → file.container_of_block (file_in z) number ordinal ≡ ordinal_in (containers_of_block (slice_get z.blocks number)) ordinal
unfolding file.container_of_block file_in
block_law z number ordinal =
    ap (λ l. ordinal_in l ordinal)
    (sym (block_containers (trees_of z.lines) (slice_get z.blocks number) ∙ ap file.block_containers (mapped_get (block_of (trees_of z.lines)) z.blocks number)))

-- what a file exports, by its rows
names_row : (trees : List Core) (r : DeclarationRow) (rest : List DeclarationRow) (b : Bool)
    → map (λ (q : DeclarationRow). q.name) (filter is_exported_row rest) ≡ map (λ (d : Declaration). d.name) (filter file.is_exported (map (declaration_of trees) rest))
    → map (λ (q : DeclarationRow). q.name) (cond b (r ∷ filter is_exported_row rest) (filter is_exported_row rest)) ≡ map (λ (d : Declaration). d.name) (cond b (declaration_of trees r ∷ filter file.is_exported (map (declaration_of trees) rest)) (filter file.is_exported (map (declaration_of trees) rest)))
names_row trees r rest true h = ap (λ (l : List (List ℕ)). r.name ∷ l) h
names_row trees r rest false h = h

names_rows : (trees : List Core) (rows : List DeclarationRow)
    → map (λ (q : DeclarationRow). q.name) (filter is_exported_row rows) ≡ map (λ (d : Declaration). d.name) (filter file.is_exported (map (declaration_of trees) rows))
names_rows trees [] = refl
names_rows trees (r ∷ rest) = names_row trees r rest (nat_eq r.container 0 && r.is_export) (names_rows trees rest)

exports_by : List (List ℕ) → ℕ → FileExports
exports_by functions blocks = record { functions = functions; blocks = blocks }

pub exports_law : (z : ZirState) → file.exports_of (file_in z) ≡ record { functions = exported_names z.declarations; blocks = length z.blocks }
unfolding file.exports_of file_in exported_names exports_by
exports_law z =
    sym (ap (λ (l : List (List ℕ)). exports_by l (length (map (block_of (trees_of z.lines)) z.blocks))) (names_rows (trees_of z.lines) z.declarations))
    ∙ ap (exports_by (map (λ (q : DeclarationRow). q.name) (filter is_exported_row z.declarations))) (length-map z.blocks (block_of (trees_of z.lines)))
