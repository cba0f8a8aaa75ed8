-- What the analysis of a root file comes to.
use Rattle.std.specs.Prelude.{ℕ, nat_lt, List, Option, Some, None, length, map, if◌then◌else◌}
use Rattle.std.specs.List.{position_or_len}
use Rattle.zir_form.specs.Front.{FileFront}
use Rattle.type_form.specs.declared.unit.Unit.{Unit as AnyUnit}
use Rattle.question_runs.specs.Rounds.{needs}
use Rattle.elab_form.specs.Questions as plain
use Rattle.elab_form.specs.Questions.{same_unit}
use Rattle.elab_form.specs.Units.{language}
use Rattle.trace_log.specs.Files.{file_answer}
use Rattle.unit_levels.specs.Levels.{units_at, result_at, run_at_level, last_level}
use Rattle.unit_reports.specs.declared.report.UnitReport.{UnitReport}
use Rattle.unit_reports.specs.Told.{told_founds, told_functions}
use Rattle.unit_outcomes.specs.Reports.{report_by}
use Rattle.root_analysis.specs.declared.analysis.RootAnalysis.{RootAnalysis}
use Rattle.root_analysis.specs.declared.analysis.RootAnalysis.TheVariants as outcome
use Rattle.root_analysis.specs.Roots.{most_units, root_files, root_units}

-- ---- the units of a root, and their results, at the level at which nothing changes any more

abbrev pub files_of : List ℕ → FileFront → plain.Question → plain.Answer
files_of root front = file_answer (root_files root front)

-- the demanded units, in the order in which they come to be known
unfoldable pub demanded_units : List ℕ → FileFront → List AnyUnit
demanded_units root front = units_at language (files_of root front) (root_units root front) (last_level most_units)

unfoldable pub unit_result : List ℕ → FileFront → AnyUnit → Option plain.UnitResult
unit_result root front u = result_at language (files_of root front) (root_units root front) (last_level most_units) u

-- the unit whose result the run of a unit stops for
unfoldable pub needed_unit : List ℕ → FileFront → AnyUnit → Option AnyUnit
needed_unit root front u = needs language (run_at_level language (files_of root front) (root_units root front) (last_level most_units) u)

-- ---- reports

-- the number of the unit that is needed, among the demanded ones
abbrev pub number_of : List AnyUnit → Option AnyUnit → Option ℕ
number_of units None = None
number_of units (Some v) = Some (position_or_len (same_unit v) units)

unfoldable pub unit_report : List ℕ → FileFront → AnyUnit → UnitReport
unit_report root front u =
    report_by root (root_files root front) u (unit_result root front u) (number_of (demanded_units root front) (needed_unit root front u))

unfoldable pub unit_reports : List ℕ → FileFront → List UnitReport
unit_reports root front = map (unit_report root front) (demanded_units root front)

-- ---- the analysis

-- The analysis of a root: the number of its units, what is wrong with them, and the functions that are linked.
unfoldable pub analysis : List ℕ → FileFront → RootAnalysis
analysis root front =
    if nat_lt most_units (length (demanded_units root front)) then outcome.TooMany
    else outcome.Told (length (demanded_units root front)) (told_founds (unit_reports root front)) (told_functions (unit_reports root front))
