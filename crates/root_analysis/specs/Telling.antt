-- What units tell, by their results and by what each waits for.
use Rattle.std.specs.Prelude.{ℕ, List, Option, length}
use Rattle.type_form.specs.declared.unit.Unit.{Unit as AnyUnit}
use Rattle.elab_form.specs.Questions as plain
use Rattle.trace_log.specs.Files.{Files}
use Rattle.unit_reports.specs.Told.{told_founds, told_functions}
use Rattle.unit_outcomes.specs.Reports.{reports_by}
use Rattle.root_analysis.specs.declared.analysis.RootAnalysis.{RootAnalysis}
use Rattle.root_analysis.specs.declared.analysis.RootAnalysis.TheVariants as outcome

abbrev pub told_by : List ℕ → Files → (AnyUnit → Option plain.UnitResult) → List AnyUnit → List (Option ℕ) → RootAnalysis
told_by root files results units waits =
    outcome.Told (length units) (told_founds (reports_by root files results units waits)) (told_functions (reports_by root files results units waits))
