-- A round of analysis: what it begins with, and what it comes to.
use Rattle.std.specs.Prelude.{◌≡◌, ℕ, ◌<◌, ◌≤◌, List, ◌⊎◌, Option, None, Some, length, map, slice_get, flat_map, if◌then◌else◌}
use Rattle.std.specs.List.{All, Contains}
use Rattle.type_form.specs.declared.unit.Unit.{Unit as AnyUnit}
use Rattle.type_form.specs.Known.{Known, IsInjective}
use Rattle.question_runs.specs.Rounds.{result_of}
use Rattle.elab_form.specs.Questions as plain
use Rattle.elab_form.specs.Units.{language}
use Rattle.trace_log.specs.declared.answers.Answers.{Answers}
use Rattle.trace_log.specs.declared.question.UnitIndex.{UnitIndex}
use Rattle.trace_log.specs.Attempts.{file_answers, unit_run}
use Rattle.trace_log.specs.Readings.{IsUnit, unit_at}
use Rattle.trace_log.specs.Snapshots.{AreAnswers, results_at}
use Rattle.unit_levels.specs.Levels.{has_unit, with_units, met_in}
use Rattle.unit_rounds.specs.RoundSteps.{WaitsSo, StandSo}
use Rattle.unit_rounds.specs.Standing.{SameFiles}
use Rattle.unit_rounds.specs.declared.round.Round.{Round}
use Rattle.unit_rounds.specs.declared.round.Round.TheVariants as round

-- what known units stand for
abbrev pub units_of : Known → List UnitIndex → List AnyUnit
units_of k units = map (unit_at k) units

-- the units that are known behind a round: also those that the runs of known ones meet
unfoldable pub next_units : Known → Answers → List UnitIndex → List AnyUnit
next_units k a units = with_units language (units_of k units) (flat_map (λ u. met_in language (unit_run k a u)) (units_of k units))

-- the results that are there behind it: those that the runs of known units give
unfoldable pub next_results : Known → Answers → List UnitIndex → AnyUnit → Option plain.UnitResult
next_results k a units u = if has_unit language (units_of k units) u then result_of language (unit_run k a u) else results_at k a u

-- known units, what each waits for, and a snapshot with their results, as a round begins with them
pub record IsBegun (k : Known) (a : Answers) (units : List UnitIndex) (waits : List (Option ℕ)) : Type 0 where
  pub one : IsInjective k
  pub are : All (IsUnit k) units
  pub few : length units ≤ 65536
  pub long : length waits ≡ length units
  pub answers : AreAnswers k a
  pub stands : StandSo language (file_answers k a) (results_at k a) (units_of k units) waits

-- each known unit waits as its run tells
pub record WaitAll (k : Known) (a : Answers) (units : List AnyUnit) (waits : List (Option ℕ)) : Type 0 where
  pub each : (i : ℕ) (u : AnyUnit) → slice_get units i ≡ Some u → (w : Option ℕ) × (slice_get waits i ≡ Some w) × WaitsSo language units (unit_run k a u) w

-- nothing came: no unit, and no result of a known one
pub record IsSettledRound (k now : Known) (a : Answers) (units known : List UnitIndex) (waiting : List (Option ℕ)) : Type 0 where
  pub same : units_of now known ≡ units_of k units
  pub met : next_units k a units ≡ units_of k units
  pub given : (u : AnyUnit) → Contains (units_of k units) u → result_of language (unit_run k a u) ≡ results_at k a u
  pub are : All (IsUnit now) known
  pub long : length waiting ≡ length known
  pub waits : WaitAll k a (units_of k units) waiting

-- a known unit without a result gets one
pub record GetsOne (k : Known) (a : Answers) (units : List UnitIndex) : Type 0 where
  pub unit : AnyUnit
  pub known : Contains (units_of k units) unit
  pub none : results_at k a unit ≡ None
  pub result : plain.UnitResult
  pub gives : result_of language (unit_run k a unit) ≡ Some result

-- a unit came, or the result of a known one
pub record IsMovedRound (k now : Known) (a next : Answers) (before known : List UnitIndex) (waits : List (Option ℕ)) : Type 0 where
  pub units : units_of now known ≡ next_units k a before
  pub results : (u : AnyUnit) → results_at now next u ≡ next_results k a before u
  pub begun : IsBegun now next known waits
  pub files : SameFiles a next
  pub moved : (length before < length known) ⊎ GetsOne k a before

-- what a round comes to
abbrev pub RoundSo : Round → Known → Known → Answers → List UnitIndex → List UnitIndex → List (Option ℕ) → Type 0
RoundSo round.Settled k now a units known waits = IsSettledRound k now a units known waits
RoundSo (round.Moved next) k now a units known waits = IsMovedRound k now a next units known waits
RoundSo round.TooMany k now a units known waits = 65536 < length (next_units k a units)
