-- A tree is what its label and the trees below it say.
use Rattle.std.proofs.Common.{◌≡◌, ℕ, zero, suc, ◌+◌, ◌*◌, ◌-◌, Bool, true, false, List, [], ◌∷◌, ◌++◌, length, map, drop, append_assoc, refl, sym, ◌∙◌, ap, Option, Some, None, arith}
use Rattle.std.proofs.Math.Nat.{mod-add-div}
use Rattle.std.proofs.lemmas.List.{append-nil}
use Rattle.std.specs.Prelude.{◌%◌, ◌/◌, ◌^◌, ◌==◌, slice_index, slice_index_or, if◌then◌else◌}
use Rattle.zir_form.specs.declared.form.Form.{Form}
use Rattle.zir_form.specs.declared.form.Form.TheVariants as form
use Rattle.zir_form.specs.declared.primitive.Primitive.{Primitive}
use Rattle.zir_form.specs.declared.primitive.Primitive.TheVariants as primitive
use Rattle.zir_form.specs.declared.operator.BinaryOperator.{BinaryOperator}
use Rattle.zir_form.specs.declared.operator.BinaryOperator.TheVariants as binary
use Rattle.zir_form.specs.declared.operator.UnaryOperator.{UnaryOperator}
use Rattle.zir_form.specs.declared.operator.UnaryOperator.TheVariants as unary
use Rattle.zir_form.specs.declared.builtin.Builtin.{Builtin}
use Rattle.zir_form.specs.declared.builtin.Builtin.TheVariants as builtin
use Rattle.zir_form.specs.Core.{Core, Cores, cores_of, none, more}
use Rattle.zir_form.specs.Core as core
use Rattle.zir_form.specs.Lines.{over_cores, tree_at}
use Rattle.zir_same.specs.Labels.{bool_word, is_some_word, some_word, name_words, names_words, primitive_number, primitive_width, binary_number, unary_number, builtin_number, label, label_of, children, list_of, below}

-- ---- words and back

option_by : ℕ → ℕ → Option ℕ
option_by there n = if there == 0 then None else Some n

option_back : (o : Option ℕ) → option_by (is_some_word o) (some_word o) ≡ o
unfolding option_by
option_back None = refl
option_back (Some n) = refl

bool_back : (b : Bool) → bool_word b == 1 ≡ b
bool_back true = refl
bool_back false = refl

names_from : List ℕ → List ℕ → List (List ℕ)
names_from name [] = []
names_from name (w ∷ ws) = if w == 0 then name ∷ names_from [] ws else names_from (name ++ (w - 1) ∷ []) ws

abbrev binarys : List BinaryOperator
binarys = binary.Add ∷ binary.AddWrap ∷ binary.AddSaturate ∷ binary.Subtract ∷ binary.SubtractWrap ∷ binary.SubtractSaturate ∷ binary.Multiply ∷ binary.MultiplyWrap ∷ binary.MultiplySaturate ∷ binary.Divide ∷ binary.Remainder ∷ binary.Concatenate ∷ binary.Repeat ∷ binary.MergeErrors ∷ binary.ShiftLeft ∷ binary.ShiftLeftSaturate ∷ binary.ShiftRight ∷ binary.BitAnd ∷ binary.BitXor ∷ binary.BitOr ∷ binary.Equal ∷ binary.NotEqual ∷ binary.Less ∷ binary.LessOrEqual ∷ binary.Greater ∷ binary.GreaterOrEqual ∷ []

binary_by : ℕ → BinaryOperator
binary_by n = slice_index_or binarys n binary.Add

binary_back : (o : BinaryOperator) → binary_by (binary_number o) ≡ o
unfolding binary_by binary_number
binary_back binary.Add = refl
binary_back binary.AddWrap = refl
binary_back binary.AddSaturate = refl
binary_back binary.Subtract = refl
binary_back binary.SubtractWrap = refl
binary_back binary.SubtractSaturate = refl
binary_back binary.Multiply = refl
binary_back binary.MultiplyWrap = refl
binary_back binary.MultiplySaturate = refl
binary_back binary.Divide = refl
binary_back binary.Remainder = refl
binary_back binary.Concatenate = refl
binary_back binary.Repeat = refl
binary_back binary.MergeErrors = refl
binary_back binary.ShiftLeft = refl
binary_back binary.ShiftLeftSaturate = refl
binary_back binary.ShiftRight = refl
binary_back binary.BitAnd = refl
binary_back binary.BitXor = refl
binary_back binary.BitOr = refl
binary_back binary.Equal = refl
binary_back binary.NotEqual = refl
binary_back binary.Less = refl
binary_back binary.LessOrEqual = refl
binary_back binary.Greater = refl
binary_back binary.GreaterOrEqual = refl

abbrev unarys : List UnaryOperator
unarys = unary.Not ∷ unary.Negate ∷ unary.NegateWrap ∷ unary.Complement ∷ []

unary_by : ℕ → UnaryOperator
unary_by n = slice_index_or unarys n unary.Not

unary_back : (o : UnaryOperator) → unary_by (unary_number o) ≡ o
unfolding unary_by unary_number
unary_back unary.Not = refl
unary_back unary.Negate = refl
unary_back unary.NegateWrap = refl
unary_back unary.Complement = refl

abbrev builtins : List Builtin
builtins = builtin.Import ∷ builtin.This ∷ builtin.TypeOf ∷ builtin.As ∷ builtin.SizeOf ∷ builtin.AlignOf ∷ builtin.BitSizeOf ∷ builtin.HasDecl ∷ builtin.HasField ∷ builtin.Field ∷ builtin.CompileError ∷ builtin.SetEvalBranchQuota ∷ builtin.Panic ∷ builtin.Trap ∷ builtin.IntFromBool ∷ builtin.IntFromEnum ∷ builtin.DivTrunc ∷ builtin.DivFloor ∷ builtin.Rem ∷ builtin.Mod ∷ builtin.Min ∷ builtin.Max ∷ builtin.Clz ∷ builtin.Ctz ∷ builtin.PopCount ∷ builtin.IntCast ∷ builtin.Truncate ∷ builtin.BitCast ∷ builtin.EnumFromInt ∷ []

builtin_by : ℕ → Builtin
builtin_by n = slice_index_or builtins n builtin.Import

builtin_back : (o : Builtin) → builtin_by (builtin_number o) ≡ o
unfolding builtin_by builtin_number
builtin_back builtin.Import = refl
builtin_back builtin.This = refl
builtin_back builtin.TypeOf = refl
builtin_back builtin.As = refl
builtin_back builtin.SizeOf = refl
builtin_back builtin.AlignOf = refl
builtin_back builtin.BitSizeOf = refl
builtin_back builtin.HasDecl = refl
builtin_back builtin.HasField = refl
builtin_back builtin.Field = refl
builtin_back builtin.CompileError = refl
builtin_back builtin.SetEvalBranchQuota = refl
builtin_back builtin.Panic = refl
builtin_back builtin.Trap = refl
builtin_back builtin.IntFromBool = refl
builtin_back builtin.IntFromEnum = refl
builtin_back builtin.DivTrunc = refl
builtin_back builtin.DivFloor = refl
builtin_back builtin.Rem = refl
builtin_back builtin.Mod = refl
builtin_back builtin.Min = refl
builtin_back builtin.Max = refl
builtin_back builtin.Clz = refl
builtin_back builtin.Ctz = refl
builtin_back builtin.PopCount = refl
builtin_back builtin.IntCast = refl
builtin_back builtin.Truncate = refl
builtin_back builtin.BitCast = refl
builtin_back builtin.EnumFromInt = refl

abbrev primitives : List Primitive
primitives = primitive.Usize ∷ primitive.Isize ∷ primitive.Bool ∷ primitive.Void ∷ primitive.Noreturn ∷ primitive.Type ∷ primitive.ComptimeInt ∷ primitive.AnyError ∷ primitive.True ∷ primitive.False ∷ primitive.Null ∷ primitive.Undefined ∷ []

primitive_by : ℕ → ℕ → Primitive
primitive_by n width =
    if n == 0 then primitive.Unsigned width else (if n == 1 then primitive.Signed width else slice_index_or primitives (n - 2) primitive.Usize)

primitive_back : (p : Primitive) → primitive_by (primitive_number p) (primitive_width p) ≡ p
unfolding primitive_by primitive_number
primitive_back (primitive.Unsigned width) = refl
primitive_back (primitive.Signed width) = refl
primitive_back primitive.Usize = refl
primitive_back primitive.Isize = refl
primitive_back primitive.Bool = refl
primitive_back primitive.Void = refl
primitive_back primitive.Noreturn = refl
primitive_back primitive.Type = refl
primitive_back primitive.ComptimeInt = refl
primitive_back primitive.AnyError = refl
primitive_back primitive.True = refl
primitive_back primitive.False = refl
primitive_back primitive.Null = refl
primitive_back primitive.Undefined = refl

-- ---- trees and back

built_as : List ℕ → List Core → ℕ → Core
built_as ws cs tag =
    if tag == 0 then core.missing else
    (if tag == 1 then core.absent else
    (if tag == 2 then core.local (slice_index ws 1) (slice_index ws 2) else
    (if tag == 3 then core.captured (slice_index ws 1) (slice_index ws 2) else
    (if tag == 4 then core.declared (slice_index ws 1) (slice_index ws 2) (drop 3 ws) else
    (if tag == 5 then core.primitive (slice_index ws 1) (primitive_by (slice_index ws 2) (slice_index ws 3)) else
    (if tag == 6 then core.integer (slice_index ws 1) (slice_index ws 2 + 2 ^ 64 * slice_index ws 3) else
    (if tag == 7 then core.text (slice_index ws 1) (drop 2 ws) else
    (if tag == 8 then core.lines (slice_index ws 1) (drop 2 ws) else
    (if tag == 9 then core.unreachable (slice_index ws 1) else
    (if tag == 10 then core.enum_literal (slice_index ws 1) (drop 2 ws) else
    (if tag == 11 then core.error_value (slice_index ws 1) (drop 2 ws) else
    (if tag == 12 then core.error_set (slice_index ws 1) (names_from [] (drop 2 ws)) else
    (if tag == 13 then core.container (slice_index ws 1) (slice_index ws 2) (cores_of (drop 0 cs)) else
    (if tag == 14 then core.builtin (slice_index ws 1) (builtin_by (slice_index ws 2)) (cores_of (drop 0 cs)) else
    (if tag == 15 then core.import (slice_index ws 1) (drop 2 ws) else
    (if tag == 16 then core.grouped (slice_index ws 1) (tree_at cs 0) else
    (if tag == 17 then core.member (slice_index ws 1) (slice_index ws 2) (tree_at cs 0) (drop 3 ws) else
    (if tag == 18 then core.dereference (slice_index ws 1) (tree_at cs 0) else
    (if tag == 19 then core.unwrap (slice_index ws 1) (tree_at cs 0) else
    (if tag == 20 then core.index (slice_index ws 1) (tree_at cs 0) (tree_at cs 1) else
    (if tag == 21 then core.slice (slice_index ws 1) (tree_at cs 0) (tree_at cs 1) (tree_at cs 2) else
    (if tag == 22 then core.call (slice_index ws 1) (tree_at cs 0) (cores_of (drop 1 cs)) else
    (if tag == 23 then core.unary (slice_index ws 1) (unary_by (slice_index ws 2)) (tree_at cs 0) else
    (if tag == 24 then core.address (slice_index ws 1) (tree_at cs 0) else
    (if tag == 25 then core.try (slice_index ws 1) (tree_at cs 0) (cores_of (drop 1 cs)) else
    (if tag == 26 then core.binary (slice_index ws 1) (slice_index ws 2) (binary_by (slice_index ws 3)) (tree_at cs 0) (tree_at cs 1) else
    (if tag == 27 then core.and (slice_index ws 1) (slice_index ws 2) (tree_at cs 0) (tree_at cs 1) else
    (if tag == 28 then core.or (slice_index ws 1) (slice_index ws 2) (tree_at cs 0) (tree_at cs 1) else
    (if tag == 29 then core.orelse (slice_index ws 1) (slice_index ws 2) (tree_at cs 0) (tree_at cs 1) else
    (if tag == 30 then core.catch (slice_index ws 1) (slice_index ws 2) (tree_at cs 0) (tree_at cs 1) (tree_at cs 2) else
    (if tag == 31 then core.comptime (slice_index ws 1) (tree_at cs 0) else
    (if tag == 32 then core.optional (slice_index ws 1) (tree_at cs 0) else
    (if tag == 33 then core.pointer (slice_index ws 1) (slice_index ws 2 == 1) (tree_at cs 0) else
    (if tag == 34 then core.slice_type (slice_index ws 1) (slice_index ws 2 == 1) (tree_at cs 0) else
    (if tag == 35 then core.array_type (slice_index ws 1) (tree_at cs 0) (tree_at cs 1) else
    (if tag == 36 then core.error_union (slice_index ws 1) (tree_at cs 0) (tree_at cs 1) else
    (if tag == 37 then core.initializer (slice_index ws 1) (tree_at cs 0) (tree_at cs 1) else
    (if tag == 38 then core.no_values else
    (if tag == 39 then core.named_values (cores_of (drop 0 cs)) else
    (if tag == 40 then core.named_value (drop 1 ws) (tree_at cs 0) else
    (if tag == 41 then core.listed_values (cores_of (drop 0 cs)) else
    (if tag == 42 then core.block (slice_index ws 1) (cores_of (drop 1 cs)) (tree_at cs 0) else
    (if tag == 43 then core.labelled (slice_index ws 1) (tree_at cs 0) else
    (if tag == 44 then core.if (slice_index ws 1) (tree_at cs 0) (tree_at cs 1) (tree_at cs 2) else
    (if tag == 45 then core.branches (tree_at cs 0) (tree_at cs 1) (tree_at cs 2) else
    (if tag == 46 then core.loop (slice_index ws 1) (tree_at cs 0) (tree_at cs 1) (tree_at cs 2) else
    (if tag == 47 then core.while_head (tree_at cs 0) (tree_at cs 1) else
    (if tag == 48 then core.for_head (cores_of (drop 1 cs)) (tree_at cs 0) else
    (if tag == 49 then core.range (slice_index ws 1) (tree_at cs 0) (tree_at cs 1) else
    (if tag == 50 then core.captures (cores_of (drop 0 cs)) else
    (if tag == 51 then core.capture (slice_index ws 1) (option_by (slice_index ws 2) (slice_index ws 3)) else
    (if tag == 52 then core.pointer_capture (tree_at cs 0) else
    (if tag == 53 then core.switch (slice_index ws 1) (tree_at cs 0) (cores_of (drop 1 cs)) else
    (if tag == 54 then core.prong (cores_of (drop 2 cs)) (tree_at cs 0) (tree_at cs 1) else
    (if tag == 55 then core.else_prong (slice_index ws 1) (tree_at cs 0) (tree_at cs 1) else
    (if tag == 56 then core.interval (slice_index ws 1) (tree_at cs 0) (tree_at cs 1) else
    (if tag == 57 then core.break (slice_index ws 1) (slice_index ws 2) (tree_at cs 0) (cores_of (drop 1 cs)) else
    (if tag == 58 then core.continue (slice_index ws 1) (slice_index ws 2) (cores_of (drop 0 cs)) else
    (if tag == 59 then core.return (slice_index ws 1) (tree_at cs 0) (cores_of (drop 1 cs)) else
    (if tag == 60 then core.runs (tree_at cs 0) (tree_at cs 1) else
    (if tag == 61 then core.on_error (tree_at cs 0) (tree_at cs 1) else
    (if tag == 62 then core.assign (slice_index ws 1) (slice_index ws 2) (tree_at cs 0) (tree_at cs 1) else
    (if tag == 63 then core.assign_with (slice_index ws 1) (slice_index ws 2) (binary_by (slice_index ws 3)) (tree_at cs 0) (tree_at cs 1) else
    (if tag == 64 then core.discard (slice_index ws 1) (tree_at cs 0) else
    (if tag == 65 then core.ignored (slice_index ws 1) (tree_at cs 0) else
    (if tag == 66 then core.constant (slice_index ws 1) (option_by (slice_index ws 2) (slice_index ws 3)) (tree_at cs 0) (tree_at cs 1) else
    (if tag == 67 then core.variable (slice_index ws 1) (option_by (slice_index ws 2) (slice_index ws 3)) (tree_at cs 0) (tree_at cs 1) else
    (if tag == 68 then core.function (tree_at cs 0) (tree_at cs 1) else
    (if tag == 69 then core.head (slice_index ws 1) (tree_at cs 0) (cores_of (drop 3 cs)) (tree_at cs 1) (tree_at cs 2) else
    (if tag == 70 then core.exported else
    (if tag == 71 then core.external (drop 1 ws) else
    (if tag == 72 then core.inferred (slice_index ws 1) else
    (if tag == 73 then core.parameter (option_by (slice_index ws 1) (slice_index ws 2)) (slice_index ws 3 == 1) (tree_at cs 0) else
    (if tag == 74 then core.anytype (slice_index ws 1) else
    (if tag == 75 then core.struct (slice_index ws 1) (tree_at cs 0) else
    (if tag == 76 then core.enum (slice_index ws 1) (tree_at cs 0) (tree_at cs 1) else
    (if tag == 77 then core.union (slice_index ws 1) (tree_at cs 0) (tree_at cs 1) else
    (if tag == 78 then core.own_tag else
    (if tag == 79 then core.fields (cores_of (drop 0 cs)) else
    (core.field (slice_index ws 1) (drop 2 ws) (tree_at cs 0) (tree_at cs 1)))))))))))))))))))))))))))))))))))))))))))))))))))))))))))))))))))))))))))))))))

built : List ℕ → List Core → Core
built ws cs = built_as ws cs (slice_index ws 0)

not_zero : (n : ℕ) → (n + 1 == 0) ≡ false
not_zero n = grind arith

byte_back : (b : ℕ) (front ws : List ℕ) → names_from front ((b + 1) ∷ ws) ≡ names_from (front ++ b ∷ []) ws
unfolding names_from
byte_back b front ws =
    let same : b + 1 - 1 ≡ b = omega arith in
    ap (λ (v : Bool). if v then front ∷ names_from [] ws else names_from (front ++ (b + 1 - 1) ∷ []) ws) (not_zero b)
    ∙ ap (λ (n : ℕ). names_from (front ++ n ∷ []) ws) same

name_back : (name front rest : List ℕ) → names_from front (name_words name ++ rest) ≡ (front ++ name) ∷ names_from [] rest
unfolding names_from name_words
name_back [] front rest = ap (λ (l : List ℕ). l ∷ names_from [] rest) (sym (append-nil front))
name_back (b ∷ bs) front rest =
    byte_back b front (name_words bs ++ rest)
    ∙ name_back bs (front ++ b ∷ []) rest ∙ ap (λ (l : List ℕ). l ∷ names_from [] rest) (append_assoc front (b ∷ []) bs)

names_back : (names : List (List ℕ)) → names_from [] (names_words names) ≡ names
unfolding names_from names_words
names_back [] = refl
names_back (name ∷ others) = name_back name [] (names_words others) ∙ ap (λ (l : List (List ℕ)). name ∷ l) (names_back others)

cores_back : (cs : Cores) → cores_of (list_of cs) ≡ cs
unfolding list_of
cores_back none = refl
cores_back (more c cs) = ap (more c) (cores_back cs)

list_back : (l : List Core) → list_of (cores_of l) ≡ l
unfolding list_of
list_back [] = refl
list_back (c ∷ cs) = ap (λ (l : List Core). c ∷ l) (list_back cs)

-- a tree is built of its label and of the trees below it
built_back : (c : Core) → built (label c) (below c) ≡ c
unfolding built built_as label below
built_back (core.primitive place primitive) = ap (λ (x : Primitive). core.primitive place x) (primitive_back primitive)
built_back (core.integer place value) = ap (λ (x : ℕ). core.integer place x) (mod-add-div value (2 ^ 64))
built_back (core.error_set place names) = ap (λ (x : List (List ℕ)). core.error_set place x) (names_back names)
built_back (core.container place ordinal bars) = ap (λ (x : Cores). core.container place ordinal x) (cores_back bars)
built_back (core.builtin place builtin arguments) = ap (λ (x : Builtin). core.builtin place x (cores_of (list_of arguments))) (builtin_back builtin) ∙ ap (λ (x : Cores). core.builtin place builtin x) (cores_back arguments)
built_back (core.call place callee arguments) = ap (λ (x : Cores). core.call place callee x) (cores_back arguments)
built_back (core.unary place operator operand) = ap (λ (x : UnaryOperator). core.unary place x operand) (unary_back operator)
built_back (core.try place operand leaves) = ap (λ (x : Cores). core.try place operand x) (cores_back leaves)
built_back (core.binary place operator_place operator left right) = ap (λ (x : BinaryOperator). core.binary place operator_place x left right) (binary_back operator)
built_back (core.pointer place is_const child) = ap (λ (x : Bool). core.pointer place x child) (bool_back is_const)
built_back (core.slice_type place is_const child) = ap (λ (x : Bool). core.slice_type place x child) (bool_back is_const)
built_back (core.named_values held) = ap (λ (x : Cores). core.named_values x) (cores_back held)
built_back (core.listed_values held) = ap (λ (x : Cores). core.listed_values x) (cores_back held)
built_back (core.block place statements leaves) = ap (λ (x : Cores). core.block place x leaves) (cores_back statements)
built_back (core.for_head operands bars) = ap (λ (x : Cores). core.for_head x bars) (cores_back operands)
built_back (core.captures bars) = ap (λ (x : Cores). core.captures x) (cores_back bars)
built_back (core.capture place local) = ap (λ (x : Option ℕ). core.capture place x) (option_back local)
built_back (core.switch place operand prongs) = ap (λ (x : Cores). core.switch place operand x) (cores_back prongs)
built_back (core.prong items bar body) = ap (λ (x : Cores). core.prong x bar body) (cores_back items)
built_back (core.break place target value leaves) = ap (λ (x : Cores). core.break place target value x) (cores_back leaves)
built_back (core.continue place target leaves) = ap (λ (x : Cores). core.continue place target x) (cores_back leaves)
built_back (core.return place value leaves) = ap (λ (x : Cores). core.return place value x) (cores_back leaves)
built_back (core.assign_with place operator_place operator target value) = ap (λ (x : BinaryOperator). core.assign_with place operator_place x target value) (binary_back operator)
built_back (core.constant name_place local ty value) = ap (λ (x : Option ℕ). core.constant name_place x ty value) (option_back local)
built_back (core.variable name_place local ty value) = ap (λ (x : Option ℕ). core.variable name_place x ty value) (option_back local)
built_back (core.head name_place linkage parameters mark result) = ap (λ (x : Cores). core.head name_place linkage x mark result) (cores_back parameters)
built_back (core.parameter local is_comptime ty) = ap (λ (x : Option ℕ). core.parameter x (bool_word is_comptime == 1) ty) (option_back local) ∙ ap (λ (x : Bool). core.parameter local x ty) (bool_back is_comptime)
built_back (core.fields members) = ap (λ (x : Cores). core.fields x) (cores_back members)
built_back _ = refl

-- trees with one label, over the same trees, are the same
pub told : (c d : Core) → label c ≡ label d → below c ≡ below d → c ≡ d
told c d l b = sym (built_back c) ∙ ap (λ (ws : List ℕ). built ws (below c)) l ∙ ap (built (label d)) b ∙ built_back d

-- ---- a form over trees

pub label_same : (at : ℕ → Core) (f : Form) → label (over_cores at f) ≡ label_of f
unfolding label over_cores
label_same at form.Missing = refl
label_same at _ = refl

pub below_is : (at : ℕ → Core) (f : Form) → below (over_cores at f) ≡ map at (children f)
unfolding below over_cores children
below_is at (form.Container place ordinal bars) = list_back (map at bars)
below_is at (form.Builtin place builtin arguments) = list_back (map at arguments)
below_is at (form.Call place callee arguments) = ap (λ (l : List Core). at callee ∷ l) (list_back (map at arguments))
below_is at (form.Try place operand leaves) = ap (λ (l : List Core). at operand ∷ l) (list_back (map at leaves))
below_is at (form.NamedValues held) = list_back (map at held)
below_is at (form.ListedValues held) = list_back (map at held)
below_is at (form.Block place statements leaves) = ap (λ (l : List Core). at leaves ∷ l) (list_back (map at statements))
below_is at (form.ForHead operands bars) = ap (λ (l : List Core). at bars ∷ l) (list_back (map at operands))
below_is at (form.Captures bars) = list_back (map at bars)
below_is at (form.Switch place operand prongs) = ap (λ (l : List Core). at operand ∷ l) (list_back (map at prongs))
below_is at (form.Prong items bar body) = ap (λ (l : List Core). at bar ∷ at body ∷ l) (list_back (map at items))
below_is at (form.Break place target value leaves) = ap (λ (l : List Core). at value ∷ l) (list_back (map at leaves))
below_is at (form.Continue place target leaves) = list_back (map at leaves)
below_is at (form.Return place value leaves) = ap (λ (l : List Core). at value ∷ l) (list_back (map at leaves))
below_is at (form.Head name_place linkage parameters mark result) = ap (λ (l : List Core). at linkage ∷ at mark ∷ at result ∷ l) (list_back (map at parameters))
below_is at (form.Fields members) = list_back (map at members)
below_is at _ = refl
