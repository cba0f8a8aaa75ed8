-- Which tree a line of instructions stands for.
use Rattle.std.specs.Prelude.{ℕ, List, [], ◌∷◌, ◌++◌, map, slice_index_or, Option, None, Some}
use Rattle.zir_form.specs.declared.form.Form.{Form}
use Rattle.zir_form.specs.declared.form.Form.TheVariants as form
use Rattle.zir_form.specs.Core.{Core, cores_of}
use Rattle.zir_form.specs.Core as core

-- a form with a tree for each child
unfoldable pub over_cores : (ℕ → Core) → Form → Core
over_cores at form.Missing = core.missing
over_cores at form.Absent = core.absent
over_cores at (form.Local place number) = core.local place number
over_cores at (form.Captured place number) = core.captured place number
over_cores at (form.Declared place depth name) = core.declared place depth name
over_cores at (form.Primitive place primitive) = core.primitive place primitive
over_cores at (form.Integer place value) = core.integer place value
over_cores at (form.Text place bytes) = core.text place bytes
over_cores at (form.Lines place bytes) = core.lines place bytes
over_cores at (form.Unreachable place) = core.unreachable place
over_cores at (form.EnumLiteral place name) = core.enum_literal place name
over_cores at (form.ErrorValue place name) = core.error_value place name
over_cores at (form.ErrorSet place names) = core.error_set place names
over_cores at (form.Container place ordinal captures) = core.container place ordinal (cores_of (map at captures))
over_cores at (form.Builtin place builtin arguments) = core.builtin place builtin (cores_of (map at arguments))
over_cores at (form.Import place path) = core.import place path
over_cores at (form.Grouped place inner) = core.grouped place (at inner)
over_cores at (form.Member place name_place object name) = core.member place name_place (at object) name
over_cores at (form.Dereference place object) = core.dereference place (at object)
over_cores at (form.Unwrap place object) = core.unwrap place (at object)
over_cores at (form.Index place object index) = core.index place (at object) (at index)
over_cores at (form.Slice place object start end) = core.slice place (at object) (at start) (at end)
over_cores at (form.Call place callee arguments) = core.call place (at callee) (cores_of (map at arguments))
over_cores at (form.Unary place operator operand) = core.unary place operator (at operand)
over_cores at (form.Address place operand) = core.address place (at operand)
over_cores at (form.Try place operand leaves) = core.try place (at operand) (cores_of (map at leaves))
over_cores at (form.Binary place operator_place operator left right) = core.binary place operator_place operator (at left) (at right)
over_cores at (form.And place operator_place left right) = core.and place operator_place (at left) (at right)
over_cores at (form.Or place operator_place left right) = core.or place operator_place (at left) (at right)
over_cores at (form.Orelse place operator_place left right) = core.orelse place operator_place (at left) (at right)
over_cores at (form.Catch place operator_place left capture right) = core.catch place operator_place (at left) (at capture) (at right)
over_cores at (form.Comptime place inner) = core.comptime place (at inner)
over_cores at (form.Optional place child) = core.optional place (at child)
over_cores at (form.Pointer place is_const child) = core.pointer place is_const (at child)
over_cores at (form.SliceType place is_const child) = core.slice_type place is_const (at child)
over_cores at (form.ArrayType place length child) = core.array_type place (at length) (at child)
over_cores at (form.ErrorUnion place errors payload) = core.error_union place (at errors) (at payload)
over_cores at (form.Initializer place ty values) = core.initializer place (at ty) (at values)
over_cores at form.NoValues = core.no_values
over_cores at (form.NamedValues values) = core.named_values (cores_of (map at values))
over_cores at (form.NamedValue name value) = core.named_value name (at value)
over_cores at (form.ListedValues values) = core.listed_values (cores_of (map at values))
over_cores at (form.Block place statements leaves) = core.block place (cores_of (map at statements)) (at leaves)
over_cores at (form.Labelled place block) = core.labelled place (at block)
over_cores at (form.If place condition capture branches) = core.if place (at condition) (at capture) (at branches)
over_cores at (form.Branches body capture otherwise) = core.branches (at body) (at capture) (at otherwise)
over_cores at (form.Loop place head turn branches) = core.loop place (at head) (at turn) (at branches)
over_cores at (form.WhileHead condition capture) = core.while_head (at condition) (at capture)
over_cores at (form.ForHead operands captures) = core.for_head (cores_of (map at operands)) (at captures)
over_cores at (form.Range place start end) = core.range place (at start) (at end)
over_cores at (form.Captures captures) = core.captures (cores_of (map at captures))
over_cores at (form.Capture place local) = core.capture place local
over_cores at (form.PointerCapture capture) = core.pointer_capture (at capture)
over_cores at (form.Switch place operand prongs) = core.switch place (at operand) (cores_of (map at prongs))
over_cores at (form.Prong items capture body) = core.prong (cores_of (map at items)) (at capture) (at body)
over_cores at (form.ElseProng place capture body) = core.else_prong place (at capture) (at body)
over_cores at (form.Interval place first last) = core.interval place (at first) (at last)
over_cores at (form.Break place target value leaves) = core.break place target (at value) (cores_of (map at leaves))
over_cores at (form.Continue place target leaves) = core.continue place target (cores_of (map at leaves))
over_cores at (form.Return place value leaves) = core.return place (at value) (cores_of (map at leaves))
over_cores at (form.Runs first then) = core.runs (at first) (at then)
over_cores at (form.OnError capture body) = core.on_error (at capture) (at body)
over_cores at (form.Assign place operator_place target value) = core.assign place operator_place (at target) (at value)
over_cores at (form.AssignWith place operator_place operator target value) = core.assign_with place operator_place operator (at target) (at value)
over_cores at (form.Discard place value) = core.discard place (at value)
over_cores at (form.Ignored place value) = core.ignored place (at value)
over_cores at (form.Constant name_place local ty value) = core.constant name_place local (at ty) (at value)
over_cores at (form.Variable name_place local ty value) = core.variable name_place local (at ty) (at value)
over_cores at (form.Function head body) = core.function (at head) (at body)
over_cores at (form.Head name_place linkage parameters inferred result) = core.head name_place (at linkage) (cores_of (map at parameters)) (at inferred) (at result)
over_cores at form.Exported = core.exported
over_cores at (form.External library) = core.external library
over_cores at (form.Inferred place) = core.inferred place
over_cores at (form.Parameter local is_comptime ty) = core.parameter local is_comptime (at ty)
over_cores at (form.Anytype place) = core.anytype place
over_cores at (form.Struct place fields) = core.struct place (at fields)
over_cores at (form.Enum place tag fields) = core.enum place (at tag) (at fields)
over_cores at (form.Union place tag fields) = core.union place (at tag) (at fields)
over_cores at form.OwnTag = core.own_tag
over_cores at (form.Fields fields) = core.fields (cores_of (map at fields))
over_cores at (form.Field name_place name ty value) = core.field name_place name (at ty) (at value)

-- the tree with this number among some
abbrev pub tree_at : List Core → ℕ → Core
tree_at trees n = slice_index_or trees n core.missing

-- the trees of lines, in order, each over the trees of the lines before it
abbrev pub trees_after : List Core → List Form → List Core
trees_after trees [] = trees
trees_after trees (f ∷ more) = trees_after (trees ++ over_cores (tree_at trees) f ∷ []) more

unfoldable pub trees_of : List Form → List Core
trees_of lines = trees_after [] lines

-- the tree of the line with this number
unfoldable pub core_at : List Form → ℕ → Core
core_at lines n = tree_at (trees_of lines) n

-- the tree of the form of a line, where the line is there
abbrev pub form_tree : (ℕ → Core) → Option Form → Core
form_tree at None = core.missing
form_tree at (Some f) = over_cores at f
