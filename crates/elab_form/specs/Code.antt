-- The code of typed bodies (WebAssembly Core 1.0, section 5.4), by a template for each form. The templates so far:
-- bodies that return a known integer, a known truth value, or nothing.
use Rattle.std.specs.Prelude.{ℕ, nat_le, pos, if◌then◌else◌, List, [], ◌∷◌, ◌++◌, Option, Some, None, ℤ}
use Rattle.std.specs.Int.{w32, w64, int_wrap}
use Rattle.std.specs.Option.{option_map, option_and_then}
use Rattle.wasm_form.specs.declared.instr.Instr.{Instr}
use Rattle.wasm_form.specs.declared.instr.Instr.TheVariants as instr
use Rattle.wasm_form.specs.declared.linked.FnCode.{FnCode}
use Rattle.wasm_form.specs.declared.module.FnType.{FnType}
use Rattle.wasm_form.specs.declared.module.ValType.{ValType}
use Rattle.wasm_form.specs.declared.module.ValType.TheVariants.{I32, I64}
use Rattle.type_form.specs.declared.tree.Ty.{Ty, out-Ty}
use Rattle.type_form.specs.declared.tree.Value.{Value, out-Value}
use Rattle.type_form.specs.declared.tree.Arg.TheOpen as layer
use Rattle.type_form.specs.declared.tree.SimpleTy.TheVariants as simple
use Rattle.type_form.specs.declared.tree.SimpleValue.TheVariants as word
use Rattle.type_form.specs.Tree.{TyLayer, ValueLayer}
use Rattle.air_form.specs.Typed.{Scalar, Statement, Statements, TypedBody}
use Rattle.air_form.specs.Typed as typed

-- ---- classes of types

-- the type of numbers that holds the values of a type
abbrev pub class_in : TyLayer → Option ValType
class_in (layer.Ty::Int is_signed bits) = Some (if nat_le bits 32 then I32 else I64)
class_in (layer.Ty::Simple simple.Usize) = Some I32
class_in (layer.Ty::Simple simple.Isize) = Some I32
class_in (layer.Ty::Simple simple.Bool) = Some I32
class_in _ = None

unfoldable pub class_of : Ty → Option ValType
class_of t = class_in (out-Ty t)

-- ---- constants

-- an integer in its class: unsigned ones by their two's complement
abbrev pub number_code : ℤ → ValType → Instr
number_code z I32 = instr.I32Const (int_wrap w32 z)
number_code z I64 = instr.I64Const (int_wrap w64 z)

abbrev pub constant_in : ValueLayer → Option Instr
constant_in (layer.Value::Int t z) = option_map (number_code z) (class_of t)
constant_in (layer.Value::Simple t word.True) = Some (instr.I32Const (pos 1))
constant_in (layer.Value::Simple t word.False) = Some (instr.I32Const (pos 0))
constant_in _ = None

unfoldable pub constant_code : Value → Option Instr
constant_code v = constant_in (out-Value v)

-- ---- expressions and statements

abbrev pub scalar_code : Scalar → Option (List Instr)
scalar_code (typed.constant v) = option_map (λ i. i ∷ []) (constant_code v)
scalar_code _ = None

-- code of a value, and `return` behind it
abbrev pub and_return : List Instr → List Instr
and_return code = code ++ instr.Return ∷ []

abbrev pub statement_code : Statement → Option (List Instr)
statement_code typed.return = Some (instr.Return ∷ [])
statement_code (typed.return_value e) = option_map and_return (scalar_code e)
statement_code _ = None

-- code, and other code behind it where there is some
abbrev pub then_code : Option (List Instr) → List Instr → Option (List Instr)
then_code None code = None
then_code (Some more) code = Some (code ++ more)

abbrev pub statements_code : Statements → Option (List Instr)
statements_code typed.no_statement = Some []
statements_code (typed.more_statements s more) = option_and_then (then_code (statements_code more)) (statement_code s)

-- ---- functions

-- the type of a function without parameters, whose result is held by no number where the type has no class
abbrev pub function_type : Ty → FnType
function_type result = record { params = []; result = class_of result }

abbrev pub function_code : Ty → List Instr → FnCode
function_code result body = record { kind = function_type result; locals = []; body = body; relocs = [] }

-- a body that has slots has no template yet
abbrev pub slotless_code : TypedBody → List Ty → Option FnCode
slotless_code b [] = option_map (function_code b.result) (statements_code b.statements)
slotless_code b (t ∷ ts) = None

-- The code of a typed body, where its forms have templates.
unfoldable pub body_code : TypedBody → Option FnCode
body_code b = slotless_code b b.slots
