-- How far units come with what a snapshot answers.
use Rattle.std.specs.Prelude.{◌≡◌, Some}
use Rattle.type_form.specs.declared.unit.Unit.{Unit as AnyUnit}
use Rattle.type_form.specs.Known.{Known}
use Rattle.question_runs.specs.Runs.{Run, trace_of}
use Rattle.question_runs.specs.Rounds.{run_by, result_of, needs}
use Rattle.elab_form.specs.Questions as plain
use Rattle.elab_form.specs.Units.{language}
use Rattle.trace_log.specs.declared.answers.Answers.{Answers}
use Rattle.trace_log.specs.declared.attempt.Attempt.{Attempt}
use Rattle.trace_log.specs.declared.attempt.Outcome.{Outcome}
use Rattle.trace_log.specs.declared.attempt.Outcome.TheVariants as outcome
use Rattle.trace_log.specs.Files.{file_answer}
use Rattle.trace_log.specs.Readings.{AreMoves, moves_at, IsUnit, unit_at, IsUnitResult, unit_result_at}
use Rattle.trace_log.specs.Snapshots.{files_at, lines_of, results_at}

-- a run of a unit
abbrev pub UnitRun : Type 0
UnitRun = Run plain.Question plain.Answer AnyUnit plain.UnitResult

-- what the files of a snapshot answer
abbrev pub file_answers : Known → Answers → plain.Question → plain.Answer
file_answers k a = file_answer (files_at k a)

-- the run of a unit with what a snapshot answers
unfoldable pub unit_run : Known → Answers → AnyUnit → UnitRun
unit_run k a u = run_by language (file_answers k a) (results_at k a) u

-- the run ends with the result, or stops for the result of the unit
abbrev pub EndsSo : Known → Outcome → UnitRun → Type 0
EndsSo k (outcome.Done r) run = IsUnitResult k r × (result_of language run ≡ Some (unit_result_at k r))
EndsSo k (outcome.Needs u) run = IsUnit k u × (needs language run ≡ Some (unit_at k u))

-- the attempt is the run: it made the run's moves, and ends as the run does
pub record IsAttempt (k : Known) (a : Answers) (attempt : Attempt) (run : UnitRun) : Type 0 where
  pub moves : AreMoves k attempt.trace
  pub trace : trace_of run ≡ moves_at k (lines_of a) attempt.trace
  pub outcome : EndsSo k attempt.outcome run
