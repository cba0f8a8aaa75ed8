-- How calls of units meet what elaboration gives.
use Rattle.std.specs.Prelude.{ℕ, [], Option, Some, None, Result, Ok, Err}
use Rattle.zw_base.specs.declared.diag.DiagCode.TheVariants as code
use Rattle.type_form.specs.declared.index.Index.{Index}
use Rattle.type_form.specs.declared.tree.Ty.{Ty}
use Rattle.type_form.specs.declared.tree.Value.{Value}
use Rattle.type_form.specs.declared.tree.Arg.TheOpen as layer
use Rattle.type_form.specs.Tree.{ValueLayer}
use Rattle.type_form.specs.Known.{Known}
use Rattle.type_form.specs.Means.{IsTy, ty_at, IsValue, value_at}
use Rattle.elab_form.specs.Questions as plain
use Rattle.elab_form.specs.Standing.{Course}
use Rattle.elab_form.specs.State.{State}
use Rattle.air_form.specs.Nodes.{AirState}
use Rattle.air_form.specs.Typed.{statements_of}
use Rattle.trace_log.specs.declared.answers.Answers.{Answers}
use Rattle.trace_log.specs.declared.result.Spot.TheVariants as spot
use Rattle.trace_log.specs.declared.result.UnitValue.{UnitValue}
use Rattle.trace_log.specs.Readings.{IsUnitValue, unit_value_at}
use Rattle.sema_body.specs.declared.frame.Frame.{Frame}
use Rattle.sema_body.specs.declared.halt.Operand.{Operand}
use Rattle.sema_body.specs.declared.halt.Halt.{Halt}
use Rattle.sema_body.specs.declared.halt.Halt.TheVariants as halt
use Rattle.sema_body.specs.declared.work.Work.{Work}
use Rattle.sema_body.specs.Meets.{Meets, state_at}

-- a call that gives a known value
abbrev pub MeetsValue : Known → Answers → Work → Result Index Halt → Course Value → Type 0
MeetsValue k cx s r run = Meets k cx s (IsValue k) (value_at k) r run

-- a call that gives a type
abbrev pub MeetsType : Known → Answers → Work → Result Index Halt → Course Ty → Type 0
MeetsType k cx s r run = Meets k cx s (IsTy k) (ty_at k) r run

-- a call that gives what a unit gives
abbrev pub MeetsUnitValue : Known → Answers → Work → Result UnitValue Halt → Course plain.UnitValue → Type 0
MeetsUnitValue k cx s r run = Meets k cx s (IsUnitValue k) (unit_value_at k) r run

-- what an expression gives that `return` may not leave
abbrev pub kept : Frame → (place : ℕ) → Result Operand Halt → Result Operand Halt
kept f place (Ok o) = Ok o
kept f place (Err (halt.Returns o)) = Err (halt.Wrong (record { spot = spot.Within f.part place; code = code.NotComptimeKnown; text = [] }))
kept f place (Err (halt.Wrong d)) = Err (halt.Wrong d)
kept f place (Err (halt.Needs q)) = Err (halt.Needs q)
kept f place (Err halt.Failed) = Err halt.Failed
kept f place (Err (halt.Full shard)) = Err (halt.Full shard)
kept f place (Err halt.OutOfMemory) = Err halt.OutOfMemory

-- the type that a value is, if it is one
abbrev pub type_in : ValueLayer → Option Ty
type_in (layer.OfType t) = Some t
type_in _ = None

-- a call that gives nothing
abbrev pub MeetsNothing : Known → Answers → Work → Result (Unit {0}) Halt → Course (Unit {0}) → Type 0
MeetsNothing k cx s r run = Meets k cx s (λ _. Unit {0}) (λ _. tt) r run

-- the typed body that is written in a state, of a function with this result type
abbrev pub written : Ty → State → plain.UnitValue
written t st = plain.body (record { params = 0; result = t; slots = st.slots; statements = statements_of st.statements; errors = st.errors; refers = st.calls })

abbrev pub written_in : Known → AirState → Index → plain.UnitValue
written_in k b t = written (ty_at k t) (state_at k b)

-- a call that gives the result type of a function whose typed body is written
abbrev pub MeetsWritten : Known → Answers → Work → Result Index Halt → Course plain.UnitValue → Type 0
MeetsWritten k cx s r run = Meets k cx s (IsTy k) (written_in k s.body) r run
