-- What is put where an attempt has ended.
use Rattle.std.specs.Prelude.{◌≡◌, ℕ, ◌<◌, ◌≤◌, List, Option, None, Some, length, set, slice_get}
use Rattle.trace_log.specs.declared.answers.Answers.{Answers}
use Rattle.trace_log.specs.declared.attempt.Outcome.{Outcome}
use Rattle.trace_log.specs.declared.attempt.Outcome.TheVariants as outcome
use Rattle.trace_log.specs.declared.question.UnitIndex.{UnitIndex}
use Rattle.trace_log.specs.declared.result.UnitResult.{UnitResult}
use Rattle.trace_log.specs.Snapshots.{result_get}
use Rattle.trace_log.specs.TableStates.{PutsUnit}
use Rattle.unit_rounds.specs.declared.settle.Tried.{Tried}
use Rattle.unit_rounds.specs.declared.settle.Tried.TheVariants as tried

-- the attempt ended with a result, which is put, and the unit waits for nothing
pub record PutsResult (unit : UnitIndex) (end : Outcome) (number : ℕ) (known : List UnitIndex) (before after : List (Option ℕ)) (next next' : Answers) : Type 0 where
  pub few : length known ≤ 65536
  pub result : UnitResult
  pub ended : end ≡ outcome.Done result
  pub puts : PutsUnit (result_get next) (result_get next') unit result
  pub waits : after ≡ set before number None

-- the attempt ended at a known unit, which the unit waits for, by its number
pub record PutsWait (end : Outcome) (number : ℕ) (known : List UnitIndex) (before after : List (Option ℕ)) (next next' : Answers) : Type 0 where
  pub few : length known ≤ 65536
  pub needed : UnitIndex
  pub ended : end ≡ outcome.Needs needed
  pub place : ℕ
  pub there : slice_get known place ≡ Some needed
  pub same : next' ≡ next
  pub waits : after ≡ set before number (Some place)

abbrev pub SettlesSo : Tried → UnitIndex → Outcome → ℕ → List UnitIndex → List (Option ℕ) → List (Option ℕ) → Answers → Answers → Type 0
SettlesSo tried.Done unit end number known waits waits' next next' = PutsResult unit end number known waits waits' next next'
SettlesSo tried.Waits unit end number known waits waits' next next' = PutsWait end number known waits waits' next next'
SettlesSo tried.TooMany unit end number known waits waits' next next' = 65536 < length known
