-- How attempts come of the calls of units.
use Rattle.std.specs.Prelude.{◌≡◌, Bool, true, false, List, [], Some, None, Result, Ok, Err}
use Rattle.type_form.specs.declared.index.Index.{Index}
use Rattle.type_form.specs.Known.{Known}
use Rattle.air_form.specs.Nodes.{AirState}
use Rattle.question_runs.specs.Runs.{run}
use Rattle.elab_form.specs.Asking.{Elab}
use Rattle.elab_form.specs.Questions as plain
use Rattle.elab_form.specs.Units.{concluded}
use Rattle.trace_log.specs.declared.answers.Answers.{Answers}
use Rattle.trace_log.specs.declared.attempt.Attempt.{Attempt}
use Rattle.trace_log.specs.declared.attempt.Outcome.TheVariants as outcome
use Rattle.trace_log.specs.declared.question.Question.TheVariants as question
use Rattle.trace_log.specs.declared.question.UnitIndex.{UnitIndex}
use Rattle.trace_log.specs.declared.question.UnitIndex.TheVariants as index
use Rattle.trace_log.specs.declared.result.UnitResult.TheVariants as result
use Rattle.trace_log.specs.declared.result.UnitValue.{UnitValue}
use Rattle.trace_log.specs.declared.trace.Move.{Move}
use Rattle.trace_log.specs.Attempts.{UnitRun}
use Rattle.trace_log.specs.Readings.{IsUnitValue, unit_value_at}
use Rattle.trace_log.specs.Snapshots.{given_at}
use Rattle.sema_body.specs.declared.halt.Halt.{Halt}
use Rattle.sema_body.specs.declared.halt.Halt.TheVariants as halt
use Rattle.sema_body.specs.Units.{written_in}

-- the run of a unit with the answers at hand
unfoldable pub course : Known → Answers → Elab plain.UnitValue → UnitRun
course k cx m = run plain.setting (given_at k cx) [] (concluded m)

-- the unit is one of code
abbrev pub is_code : UnitIndex → Bool
is_code (index.Code i) = true
is_code _ = false

-- what is asked for, where a question has no answer, is the result of a unit
abbrev pub NeedsResult : Result UnitValue Halt → Type 0
NeedsResult (Err (halt.Needs (question.Text p))) = ⊥
NeedsResult (Err (halt.Needs (question.Name c n))) = ⊥
NeedsResult (Err (halt.Needs (question.Import path))) = ⊥
NeedsResult _ = Unit {0}

-- the attempt of a call that ended so with these moves
abbrev pub AttemptBy : Result UnitValue Halt → List Move → Attempt → Type 0
AttemptBy (Ok v) t a = (a.trace ≡ t) × (a.outcome ≡ outcome.Done (result.Good v))
AttemptBy (Err (halt.Returns o)) t a = (a.trace ≡ t) × (a.outcome ≡ outcome.Done (result.Failed None))
AttemptBy (Err (halt.Wrong d)) t a = (a.trace ≡ t) × (a.outcome ≡ outcome.Done (result.Failed (Some d)))
AttemptBy (Err (halt.Needs (question.Result u))) t a = (a.trace ≡ t) × (a.outcome ≡ outcome.Needs u)
AttemptBy (Err (halt.Needs (question.Text p))) t a = ⊥
AttemptBy (Err (halt.Needs (question.Name c n))) t a = ⊥
AttemptBy (Err (halt.Needs (question.Import path))) t a = ⊥
AttemptBy (Err halt.Failed) t a = (a.trace ≡ t) × (a.outcome ≡ outcome.Done (result.Failed None))
AttemptBy (Err (halt.Full shard)) t a = ⊥
AttemptBy (Err halt.OutOfMemory) t a = ⊥

-- the attempt of a unit that wrote this body, of a function with this result type, with these moves
pub record WrittenAttempt (k l : Known) (b : AirState) (t : Index) (ms : List Move) (a : Attempt) : Type 0 where
  pub value : UnitValue
  pub is : IsUnitValue l value
  pub same : unit_value_at l value ≡ written_in k b t
  pub by : AttemptBy (Ok value) ms a
