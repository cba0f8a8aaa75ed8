-- What analysis from root units comes to.
use Rattle.std.specs.Prelude.{◌≡◌, ℕ, ◌<◌, ◌≤◌, List, Option, None, Some, IsSome, length, map, slice_get}
use Rattle.std.specs.List.{All}
use Rattle.type_form.specs.declared.unit.Unit.{Unit as AnyUnit}
use Rattle.type_form.specs.Known.{Known}
use Rattle.question_runs.specs.Rounds.{needs}
use Rattle.elab_form.specs.Questions as plain
use Rattle.elab_form.specs.Units.{language}
use Rattle.trace_log.specs.declared.answers.Answers.{Answers}
use Rattle.trace_log.specs.Readings.{IsUnit, unit_at}
use Rattle.trace_log.specs.Snapshots.{AreAnswers, results_at}
use Rattle.unit_levels.specs.Levels.{units_at, result_at, run_at_level, IsSettled}
use Rattle.unit_rounds.specs.Standing.{SameFiles}
use Rattle.unit_rounds.specs.declared.analyse.Rest.{Rest}
use Rattle.unit_rounds.specs.declared.analyse.Rounds.{Rounds}
use Rattle.unit_rounds.specs.declared.analyse.Rounds.TheVariants as rounds

module _ (files : plain.Question → plain.Answer) (roots : List AnyUnit) (level : ℕ) where
  -- a unit waits for nothing where it has a result, and else for the unit with this number: the one that its run needs
  abbrev pub WaitsFor : AnyUnit → Option ℕ → Type 0
  WaitsFor u None = IsSome (result_at language files roots level u)
  WaitsFor u (Some j) = (v : AnyUnit) × (slice_get (units_at language files roots level) j ≡ Some v) × (result_at language files roots level u ≡ None) × (needs language (run_at_level language files roots level u) ≡ Some v)

-- The units, results and files of a settled level, and what each unit waits for
pub record IsRest (k : Known) (files : plain.Question → plain.Answer) (roots : List AnyUnit) (start : Answers) (r : Rest) : Type 0 where
  pub level : ℕ
  pub settled : IsSettled language files roots level
  pub units : map (unit_at k) r.units.items ≡ units_at language files roots level
  pub few : length r.units.items ≤ 65536
  pub results : (u : AnyUnit) → results_at k r.answers u ≡ result_at language files roots level u
  pub are : All (IsUnit k) r.units.items
  pub answers : AreAnswers k r.answers
  pub same_files : SameFiles start r.answers
  pub long : length r.waits.items ≡ length r.units.items
  pub waits : (i : ℕ) (u : AnyUnit) → slice_get (units_at language files roots level) i ≡ Some u → (w : Option ℕ) × (slice_get r.waits.items i ≡ Some w) × WaitsFor files roots level u w

-- at some level more units are known than may be
pub record IsMany (files : plain.Question → plain.Answer) (roots : List AnyUnit) : Type 0 where
  pub level : ℕ
  pub many : 65536 < length (units_at language files roots level)

abbrev pub ComesTo : Known → (plain.Question → plain.Answer) → List AnyUnit → Answers → Rounds → Type 0
ComesTo k files roots start (rounds.Rest r) = IsRest k files roots start r
ComesTo k files roots start rounds.TooMany = IsMany files roots
