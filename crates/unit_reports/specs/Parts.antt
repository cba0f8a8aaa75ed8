-- Reports by what each tells, and the cycles among those that wait by their marks.
use Rattle.std.specs.Prelude.{Bool, List, Option, Some, None, filter_map, if◌then◌else◌}
use Rattle.std.specs.List.{zip}
use Rattle.zw_base.specs.declared.diag.Found.{Found}
use Rattle.unit_reports.specs.declared.report.UnitReport.{UnitReport}
use Rattle.unit_reports.specs.declared.report.UnitReport.TheVariants as report

-- what is told of a unit that waits, where it is the least of a cycle
abbrev pub waiting_found : UnitReport → Option Found
waiting_found (report.Waits w) = Some w.found
waiting_found _ = None

-- what is told of a unit, by its mark
abbrev pub by_mark : Option Found × Bool → Option Found
by_mark p = if p.1 then p.0 else None

-- what is told of the marked units
abbrev pub marked_founds : List (Option Found) → List Bool → List Found
marked_founds loops marks = filter_map by_mark (zip loops marks)
