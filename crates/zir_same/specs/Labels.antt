-- What tells trees apart: the label of a tree, and the trees directly below it.
use Rattle.std.specs.Prelude.{ℕ, ◌+◌, ◌%◌, ◌/◌, ◌^◌, Bool, true, false, List, [], ◌∷◌, ◌++◌, length, map, Option, Some, None}
use Rattle.zir_form.specs.declared.form.Form.{Form}
use Rattle.zir_form.specs.declared.form.Form.TheVariants as form
use Rattle.zir_form.specs.declared.primitive.Primitive.{Primitive}
use Rattle.zir_form.specs.declared.primitive.Primitive.TheVariants as primitive
use Rattle.zir_form.specs.declared.operator.BinaryOperator.{BinaryOperator}
use Rattle.zir_form.specs.declared.operator.BinaryOperator.TheVariants as binary
use Rattle.zir_form.specs.declared.operator.UnaryOperator.{UnaryOperator}
use Rattle.zir_form.specs.declared.operator.UnaryOperator.TheVariants as unary
use Rattle.zir_form.specs.declared.builtin.Builtin.{Builtin}
use Rattle.zir_form.specs.declared.builtin.Builtin.TheVariants as builtin
use Rattle.zir_form.specs.Core.{Core, Cores, none, more}
use Rattle.zir_form.specs.Core as core
use Rattle.zir_form.specs.Lines.{over_cores}

-- ---- words

abbrev pub bool_word : Bool → ℕ
bool_word true = 1
bool_word false = 0

abbrev pub is_some_word : Option ℕ → ℕ
is_some_word None = 0
is_some_word (Some n) = 1

abbrev pub some_word : Option ℕ → ℕ
some_word None = 0
some_word (Some n) = n

-- names in a row: each byte as one more than it, and 0 behind each name
unfoldable pub name_words : List ℕ → List ℕ
name_words [] = 0 ∷ []
name_words (b ∷ rest) = (b + 1) ∷ name_words rest

unfoldable pub names_words : List (List ℕ) → List ℕ
names_words [] = []
names_words (name ∷ rest) = name_words name ++ names_words rest

-- where an operator, a builtin or a primitive stands in the list of them, from 0
unfoldable pub primitive_number : Primitive → ℕ
primitive_number (primitive.Unsigned width) = 0
primitive_number (primitive.Signed width) = 1
primitive_number primitive.Usize = 2
primitive_number primitive.Isize = 3
primitive_number primitive.Bool = 4
primitive_number primitive.Void = 5
primitive_number primitive.Noreturn = 6
primitive_number primitive.Type = 7
primitive_number primitive.ComptimeInt = 8
primitive_number primitive.AnyError = 9
primitive_number primitive.True = 10
primitive_number primitive.False = 11
primitive_number primitive.Null = 12
primitive_number primitive.Undefined = 13

abbrev pub primitive_width : Primitive → ℕ
primitive_width (primitive.Unsigned width) = width
primitive_width (primitive.Signed width) = width
primitive_width _ = 0

unfoldable pub binary_number : BinaryOperator → ℕ
binary_number binary.Add = 0
binary_number binary.AddWrap = 1
binary_number binary.AddSaturate = 2
binary_number binary.Subtract = 3
binary_number binary.SubtractWrap = 4
binary_number binary.SubtractSaturate = 5
binary_number binary.Multiply = 6
binary_number binary.MultiplyWrap = 7
binary_number binary.MultiplySaturate = 8
binary_number binary.Divide = 9
binary_number binary.Remainder = 10
binary_number binary.Concatenate = 11
binary_number binary.Repeat = 12
binary_number binary.MergeErrors = 13
binary_number binary.ShiftLeft = 14
binary_number binary.ShiftLeftSaturate = 15
binary_number binary.ShiftRight = 16
binary_number binary.BitAnd = 17
binary_number binary.BitXor = 18
binary_number binary.BitOr = 19
binary_number binary.Equal = 20
binary_number binary.NotEqual = 21
binary_number binary.Less = 22
binary_number binary.LessOrEqual = 23
binary_number binary.Greater = 24
binary_number binary.GreaterOrEqual = 25

unfoldable pub unary_number : UnaryOperator → ℕ
unary_number unary.Not = 0
unary_number unary.Negate = 1
unary_number unary.NegateWrap = 2
unary_number unary.Complement = 3

unfoldable pub builtin_number : Builtin → ℕ
builtin_number builtin.Import = 0
builtin_number builtin.This = 1
builtin_number builtin.TypeOf = 2
builtin_number builtin.As = 3
builtin_number builtin.SizeOf = 4
builtin_number builtin.AlignOf = 5
builtin_number builtin.BitSizeOf = 6
builtin_number builtin.HasDecl = 7
builtin_number builtin.HasField = 8
builtin_number builtin.Field = 9
builtin_number builtin.CompileError = 10
builtin_number builtin.SetEvalBranchQuota = 11
builtin_number builtin.Panic = 12
builtin_number builtin.Trap = 13
builtin_number builtin.IntFromBool = 14
builtin_number builtin.IntFromEnum = 15
builtin_number builtin.DivTrunc = 16
builtin_number builtin.DivFloor = 17
builtin_number builtin.Rem = 18
builtin_number builtin.Mod = 19
builtin_number builtin.Min = 20
builtin_number builtin.Max = 21
builtin_number builtin.Clz = 22
builtin_number builtin.Ctz = 23
builtin_number builtin.PopCount = 24
builtin_number builtin.IntCast = 25
builtin_number builtin.Truncate = 26
builtin_number builtin.BitCast = 27
builtin_number builtin.EnumFromInt = 28

-- ---- trees

-- what a tree is but for the trees below it: its form, by its place among the forms, and what that holds
unfoldable pub label : Core → List ℕ
label core.missing = 0 ∷ []
label core.absent = 1 ∷ []
label (core.local place number) = 2 ∷ place ∷ number ∷ []
label (core.captured place number) = 3 ∷ place ∷ number ∷ []
label (core.declared place depth name) = 4 ∷ place ∷ depth ∷ name
label (core.primitive place primitive) = 5 ∷ place ∷ primitive_number primitive ∷ primitive_width primitive ∷ []
label (core.integer place value) = 6 ∷ place ∷ (value % 2 ^ 64) ∷ (value / 2 ^ 64) ∷ []
label (core.text place bytes) = 7 ∷ place ∷ bytes
label (core.lines place bytes) = 8 ∷ place ∷ bytes
label (core.unreachable place) = 9 ∷ place ∷ []
label (core.enum_literal place name) = 10 ∷ place ∷ name
label (core.error_value place name) = 11 ∷ place ∷ name
label (core.error_set place names) = 12 ∷ place ∷ names_words names
label (core.container place ordinal bars) = 13 ∷ place ∷ ordinal ∷ []
label (core.builtin place builtin arguments) = 14 ∷ place ∷ builtin_number builtin ∷ []
label (core.import place path) = 15 ∷ place ∷ path
label (core.grouped place inner) = 16 ∷ place ∷ []
label (core.member place name_place object name) = 17 ∷ place ∷ name_place ∷ name
label (core.dereference place object) = 18 ∷ place ∷ []
label (core.unwrap place object) = 19 ∷ place ∷ []
label (core.index place object subscript) = 20 ∷ place ∷ []
label (core.slice place object start end) = 21 ∷ place ∷ []
label (core.call place callee arguments) = 22 ∷ place ∷ []
label (core.unary place operator operand) = 23 ∷ place ∷ unary_number operator ∷ []
label (core.address place operand) = 24 ∷ place ∷ []
label (core.try place operand leaves) = 25 ∷ place ∷ []
label (core.binary place operator_place operator left right) = 26 ∷ place ∷ operator_place ∷ binary_number operator ∷ []
label (core.and place operator_place left right) = 27 ∷ place ∷ operator_place ∷ []
label (core.or place operator_place left right) = 28 ∷ place ∷ operator_place ∷ []
label (core.orelse place operator_place left right) = 29 ∷ place ∷ operator_place ∷ []
label (core.catch place operator_place left bar right) = 30 ∷ place ∷ operator_place ∷ []
label (core.comptime place inner) = 31 ∷ place ∷ []
label (core.optional place child) = 32 ∷ place ∷ []
label (core.pointer place is_const child) = 33 ∷ place ∷ bool_word is_const ∷ []
label (core.slice_type place is_const child) = 34 ∷ place ∷ bool_word is_const ∷ []
label (core.array_type place length child) = 35 ∷ place ∷ []
label (core.error_union place errors payload) = 36 ∷ place ∷ []
label (core.initializer place ty held) = 37 ∷ place ∷ []
label core.no_values = 38 ∷ []
label (core.named_values held) = 39 ∷ []
label (core.named_value name value) = 40 ∷ name
label (core.listed_values held) = 41 ∷ []
label (core.block place statements leaves) = 42 ∷ place ∷ []
label (core.labelled place body) = 43 ∷ place ∷ []
label (core.if place condition bar arms) = 44 ∷ place ∷ []
label (core.branches body bar otherwise) = 45 ∷ []
label (core.loop place lead turn arms) = 46 ∷ place ∷ []
label (core.while_head condition bar) = 47 ∷ []
label (core.for_head operands bars) = 48 ∷ []
label (core.range place start end) = 49 ∷ place ∷ []
label (core.captures bars) = 50 ∷ []
label (core.capture place local) = 51 ∷ place ∷ is_some_word local ∷ some_word local ∷ []
label (core.pointer_capture bar) = 52 ∷ []
label (core.switch place operand prongs) = 53 ∷ place ∷ []
label (core.prong items bar body) = 54 ∷ []
label (core.else_prong place bar body) = 55 ∷ place ∷ []
label (core.interval place first last) = 56 ∷ place ∷ []
label (core.break place target value leaves) = 57 ∷ place ∷ target ∷ []
label (core.continue place target leaves) = 58 ∷ place ∷ target ∷ []
label (core.return place value leaves) = 59 ∷ place ∷ []
label (core.runs first after) = 60 ∷ []
label (core.on_error bar body) = 61 ∷ []
label (core.assign place operator_place target value) = 62 ∷ place ∷ operator_place ∷ []
label (core.assign_with place operator_place operator target value) = 63 ∷ place ∷ operator_place ∷ binary_number operator ∷ []
label (core.discard place value) = 64 ∷ place ∷ []
label (core.ignored place value) = 65 ∷ place ∷ []
label (core.constant name_place local ty value) = 66 ∷ name_place ∷ is_some_word local ∷ some_word local ∷ []
label (core.variable name_place local ty value) = 67 ∷ name_place ∷ is_some_word local ∷ some_word local ∷ []
label (core.function lead body) = 68 ∷ []
label (core.head name_place linkage parameters mark result) = 69 ∷ name_place ∷ []
label core.exported = 70 ∷ []
label (core.external library) = 71 ∷ library
label (core.inferred place) = 72 ∷ place ∷ []
label (core.parameter local is_comptime ty) = 73 ∷ is_some_word local ∷ some_word local ∷ bool_word is_comptime ∷ []
label (core.anytype place) = 74 ∷ place ∷ []
label (core.struct place members) = 75 ∷ place ∷ []
label (core.enum place tag members) = 76 ∷ place ∷ []
label (core.union place tag members) = 77 ∷ place ∷ []
label core.own_tag = 78 ∷ []
label (core.fields members) = 79 ∷ []
label (core.field name_place name ty value) = 80 ∷ name_place ∷ name

-- trees in a row, as a list
unfoldable pub list_of : Cores → List Core
list_of none = []
list_of (more c cs) = c ∷ list_of cs

-- the trees directly below one
unfoldable pub below : Core → List Core
below (core.container place ordinal bars) = list_of bars
below (core.builtin place builtin arguments) = list_of arguments
below (core.grouped place inner) = inner ∷ []
below (core.member place name_place object name) = object ∷ []
below (core.dereference place object) = object ∷ []
below (core.unwrap place object) = object ∷ []
below (core.index place object subscript) = object ∷ subscript ∷ []
below (core.slice place object start end) = object ∷ start ∷ end ∷ []
below (core.call place callee arguments) = callee ∷ list_of arguments
below (core.unary place operator operand) = operand ∷ []
below (core.address place operand) = operand ∷ []
below (core.try place operand leaves) = operand ∷ list_of leaves
below (core.binary place operator_place operator left right) = left ∷ right ∷ []
below (core.and place operator_place left right) = left ∷ right ∷ []
below (core.or place operator_place left right) = left ∷ right ∷ []
below (core.orelse place operator_place left right) = left ∷ right ∷ []
below (core.catch place operator_place left bar right) = left ∷ bar ∷ right ∷ []
below (core.comptime place inner) = inner ∷ []
below (core.optional place child) = child ∷ []
below (core.pointer place is_const child) = child ∷ []
below (core.slice_type place is_const child) = child ∷ []
below (core.array_type place length child) = length ∷ child ∷ []
below (core.error_union place errors payload) = errors ∷ payload ∷ []
below (core.initializer place ty held) = ty ∷ held ∷ []
below (core.named_values held) = list_of held
below (core.named_value name value) = value ∷ []
below (core.listed_values held) = list_of held
below (core.block place statements leaves) = leaves ∷ list_of statements
below (core.labelled place body) = body ∷ []
below (core.if place condition bar arms) = condition ∷ bar ∷ arms ∷ []
below (core.branches body bar otherwise) = body ∷ bar ∷ otherwise ∷ []
below (core.loop place lead turn arms) = lead ∷ turn ∷ arms ∷ []
below (core.while_head condition bar) = condition ∷ bar ∷ []
below (core.for_head operands bars) = bars ∷ list_of operands
below (core.range place start end) = start ∷ end ∷ []
below (core.captures bars) = list_of bars
below (core.pointer_capture bar) = bar ∷ []
below (core.switch place operand prongs) = operand ∷ list_of prongs
below (core.prong items bar body) = bar ∷ body ∷ list_of items
below (core.else_prong place bar body) = bar ∷ body ∷ []
below (core.interval place first last) = first ∷ last ∷ []
below (core.break place target value leaves) = value ∷ list_of leaves
below (core.continue place target leaves) = list_of leaves
below (core.return place value leaves) = value ∷ list_of leaves
below (core.runs first after) = first ∷ after ∷ []
below (core.on_error bar body) = bar ∷ body ∷ []
below (core.assign place operator_place target value) = target ∷ value ∷ []
below (core.assign_with place operator_place operator target value) = target ∷ value ∷ []
below (core.discard place value) = value ∷ []
below (core.ignored place value) = value ∷ []
below (core.constant name_place local ty value) = ty ∷ value ∷ []
below (core.variable name_place local ty value) = ty ∷ value ∷ []
below (core.function lead body) = lead ∷ body ∷ []
below (core.head name_place linkage parameters mark result) = linkage ∷ mark ∷ result ∷ list_of parameters
below (core.parameter local is_comptime ty) = ty ∷ []
below (core.struct place members) = members ∷ []
below (core.enum place tag members) = tag ∷ members ∷ []
below (core.union place tag members) = tag ∷ members ∷ []
below (core.fields members) = list_of members
below (core.field name_place name ty value) = ty ∷ value ∷ []
below _ = []

-- the lines below a form
unfoldable pub children : Form → List ℕ
children (form.Container place ordinal bars) = bars
children (form.Builtin place builtin arguments) = arguments
children (form.Grouped place inner) = inner ∷ []
children (form.Member place name_place object name) = object ∷ []
children (form.Dereference place object) = object ∷ []
children (form.Unwrap place object) = object ∷ []
children (form.Index place object subscript) = object ∷ subscript ∷ []
children (form.Slice place object start end) = object ∷ start ∷ end ∷ []
children (form.Call place callee arguments) = callee ∷ arguments
children (form.Unary place operator operand) = operand ∷ []
children (form.Address place operand) = operand ∷ []
children (form.Try place operand leaves) = operand ∷ leaves
children (form.Binary place operator_place operator left right) = left ∷ right ∷ []
children (form.And place operator_place left right) = left ∷ right ∷ []
children (form.Or place operator_place left right) = left ∷ right ∷ []
children (form.Orelse place operator_place left right) = left ∷ right ∷ []
children (form.Catch place operator_place left bar right) = left ∷ bar ∷ right ∷ []
children (form.Comptime place inner) = inner ∷ []
children (form.Optional place child) = child ∷ []
children (form.Pointer place is_const child) = child ∷ []
children (form.SliceType place is_const child) = child ∷ []
children (form.ArrayType place length child) = length ∷ child ∷ []
children (form.ErrorUnion place errors payload) = errors ∷ payload ∷ []
children (form.Initializer place ty held) = ty ∷ held ∷ []
children (form.NamedValues held) = held
children (form.NamedValue name value) = value ∷ []
children (form.ListedValues held) = held
children (form.Block place statements leaves) = leaves ∷ statements
children (form.Labelled place body) = body ∷ []
children (form.If place condition bar arms) = condition ∷ bar ∷ arms ∷ []
children (form.Branches body bar otherwise) = body ∷ bar ∷ otherwise ∷ []
children (form.Loop place lead turn arms) = lead ∷ turn ∷ arms ∷ []
children (form.WhileHead condition bar) = condition ∷ bar ∷ []
children (form.ForHead operands bars) = bars ∷ operands
children (form.Range place start end) = start ∷ end ∷ []
children (form.Captures bars) = bars
children (form.PointerCapture bar) = bar ∷ []
children (form.Switch place operand prongs) = operand ∷ prongs
children (form.Prong items bar body) = bar ∷ body ∷ items
children (form.ElseProng place bar body) = bar ∷ body ∷ []
children (form.Interval place first last) = first ∷ last ∷ []
children (form.Break place target value leaves) = value ∷ leaves
children (form.Continue place target leaves) = leaves
children (form.Return place value leaves) = value ∷ leaves
children (form.Runs first after) = first ∷ after ∷ []
children (form.OnError bar body) = bar ∷ body ∷ []
children (form.Assign place operator_place target value) = target ∷ value ∷ []
children (form.AssignWith place operator_place operator target value) = target ∷ value ∷ []
children (form.Discard place value) = value ∷ []
children (form.Ignored place value) = value ∷ []
children (form.Constant name_place local ty value) = ty ∷ value ∷ []
children (form.Variable name_place local ty value) = ty ∷ value ∷ []
children (form.Function lead body) = lead ∷ body ∷ []
children (form.Head name_place linkage parameters mark result) = linkage ∷ mark ∷ result ∷ parameters
children (form.Parameter local is_comptime ty) = ty ∷ []
children (form.Struct place members) = members ∷ []
children (form.Enum place tag members) = tag ∷ members ∷ []
children (form.Union place tag members) = tag ∷ members ∷ []
children (form.Fields members) = members
children (form.Field name_place name ty value) = ty ∷ value ∷ []
children _ = []

-- the label of the trees of a form
abbrev pub label_of : Form → List ℕ
label_of f = label (over_cores (λ n. core.missing) f)

-- a label and the numbers of the trees below it, as the key of a tree
abbrev pub packed : List ℕ → List ℕ → List ℕ
packed words numbers = length words ∷ words ++ numbers

-- the key of a form by the numbers of its children
unfoldable pub key : (ℕ → ℕ) → Form → List ℕ
key number f = packed (label_of f) (map number (children f))
