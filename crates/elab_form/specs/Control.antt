-- Blocks, and what leaves a function (Zig Language Reference 0.14, "Blocks", "Functions").
use Rattle.std.specs.Prelude.{ℕ, Bool, true, false, List, [], ◌∷◌, ◌++◌, Option, Some, None, if◌then◌else◌}
use Rattle.zw_base.specs.declared.diag.DiagCode.{DiagCode}
use Rattle.zw_base.specs.declared.diag.DiagCode.TheVariants as code
use Rattle.zir_form.specs.Core.{Core, Cores}
use Rattle.zir_form.specs.Core as core
use Rattle.type_form.specs.declared.tree.Ty.{Ty, out-Ty}
use Rattle.type_form.specs.declared.tree.Ty.TheVariants as ty
use Rattle.type_form.specs.declared.tree.Value.{Value, out-Value}
use Rattle.type_form.specs.declared.tree.Value.TheVariants as value
use Rattle.type_form.specs.declared.tree.Arg.TheOpen as layer
use Rattle.type_form.specs.declared.tree.SimpleTy.{SimpleTy}
use Rattle.type_form.specs.declared.tree.SimpleTy.TheVariants as simple
use Rattle.type_form.specs.declared.tree.SimpleValue.TheVariants as word
use Rattle.type_form.specs.Tree.{TyLayer, ValueLayer}
use Rattle.air_form.specs.Typed.{Statement, Scalar, Scalars, statements_of}
use Rattle.air_form.specs.Typed as typed
use Rattle.air_form.specs.Denote.{scalar_air}
use Rattle.elab_form.specs.State.{Frame, Operand, known, run}
use Rattle.elab_form.specs.Asking.{returns, Elab, pure, seq, wrong, not_built, acts}
use Rattle.elab_form.specs.Places.{is_absent}
use Rattle.elab_form.specs.Coercion.{is_noreturn, is_void}
use Rattle.question_runs.specs.Programs.{done}

-- ---- types by how a body holds their values

-- how a body holds the values of a type
pub data Holding : Type 0 where
  -- an instruction can hold one
  scalar : Holding
  -- none is left at run time
  nothing : Holding
  -- no rule yet
  later : Holding

abbrev pub simple_holding : SimpleTy → Holding
simple_holding simple.Usize = scalar
simple_holding simple.Isize = scalar
simple_holding simple.Bool = scalar
simple_holding simple.AnyError = scalar
simple_holding _ = nothing

abbrev pub holding_in : TyLayer → Holding
holding_in (layer.Ty::Simple s) = simple_holding s
holding_in (layer.Ty::Int is_signed bits) = scalar
holding_in (layer.ErrorSet names) = scalar
holding_in (layer.Pointer is_const child) = scalar
holding_in _ = later

unfoldable pub holding : Ty → Holding
holding t = holding_in (out-Ty t)

-- ---- statements of the body

-- a value behind the statements that belong to it
unfoldable pub behind : List Statement → Scalar → Scalar
behind [] e = e
behind (s ∷ more) e = typed.sequence (statements_of (s ∷ more)) e

-- what never ends gives nothing; its statements stand in the list that is being written
abbrev pub never : Operand
never = run (ty.Simple simple.Noreturn) (scalar_air (typed.never typed.no_statement))

-- the value of `void`
abbrev pub void_value : Value
void_value = value.Simple (ty.Simple simple.Void) word.Void

-- these statements, the last of which never ends
unfoldable pub acts_for_good : List Statement → Elab Operand
acts_for_good statements = seq (acts statements) (λ _. pure never)

-- ---- return

-- the value of a function's result goes out by how a body holds it
unfoldable pub return_held : Frame → (place : ℕ) → List Statement → Scalar → Holding → Elab Operand
return_held f place statements e scalar = acts_for_good (typed.return_value (behind statements e) ∷ [])
return_held f place statements e nothing = acts_for_good (statements ++ typed.return ∷ [])
return_held f place statements e later = not_built f place

unfoldable pub holding_of : Option Ty → Holding
holding_of None = later
holding_of (Some t) = holding t

-- `return` in a typed body, with the statements that belong to the value; behind a value that never ends it is not reached
unfoldable pub return_run : Frame → (place : ℕ) → List Statement × Operand → Elab Operand
return_run f place (statements, known v) = return_held f place statements (typed.constant v) (holding_of f.result)
return_run f place (statements, run t e) = if is_noreturn t then acts_for_good statements else not_built f place

-- at comptime `return` leaves what is around it
unfoldable pub leaves_with : Operand → Elab Operand
leaves_with o st = done (returns st o)

-- `return` leaves the function with a value of its result type
unfoldable pub return_with : Frame → (place : ℕ) → List Statement × Operand → Elab Operand
return_with f place (statements, o) = if f.is_comptime then leaves_with o else return_run f place (statements, o)

-- ---- blocks

-- whether an operand never ends
abbrev pub is_never : Operand → Bool
is_never (known v) = false
is_never (run t e) = is_noreturn t

-- statements behind one: they are dropped where it never ends
unfoldable pub behind_statement : Elab Operand → Operand → Elab Operand
behind_statement rest o = if is_never o then pure o else rest

-- ---- statements whose value is dropped

-- a value of type `void` says nothing
abbrev pub gives_nothing_in : ValueLayer → Bool
gives_nothing_in (layer.Value::Simple t v) = is_void (out-Ty t)
gives_nothing_in _ = false

unfoldable pub gives_nothing : Value → Bool
gives_nothing v = gives_nothing_in (out-Value v)

-- whether a statement may drop what its expression gave
abbrev pub may_drop : Operand → Bool
may_drop (known v) = gives_nothing v
may_drop (run t e) = is_noreturn t

-- What is told of an operand that may not be dropped. One of type `void` is evaluated at run time, which has no
-- rule yet; the value of any other is lost.
abbrev pub dropping_code : Operand → DiagCode
dropping_code (known v) = code.ValueIgnored
dropping_code (run t e) = if is_void (out-Ty t) then code.NotBuilt else code.ValueIgnored

-- a statement that is an expression; one that never ends is told by its operand
unfoldable pub dropped : Frame → (place : ℕ) → Operand → Elab Operand
dropped f place o = if may_drop o then pure o else wrong f place (dropping_code o)

-- ---- the ends of blocks

-- What runs as a block or a function is left has no rule yet.
unfoldable pub leaving : {A : Type 0} → Frame → (place : ℕ) → Core → Elab A → Elab A
leaving f place leaves m = if is_absent leaves then m else not_built f place

abbrev pub is_none : Cores → Bool
is_none core.none = true
is_none (core.more c rest) = false

unfoldable pub leaving_all : {A : Type 0} → Frame → (place : ℕ) → Cores → Elab A → Elab A
leaving_all f place leaves m = if is_none leaves then m else not_built f place

-- the end of a block's statements: where it is reached, what runs as the block is left, and the value of `void`
unfoldable pub block_end : Frame → (place : ℕ) → Core → Operand → Elab Operand
block_end f place leaves o = if is_never o then pure o else leaving f place leaves (pure (known void_value))
