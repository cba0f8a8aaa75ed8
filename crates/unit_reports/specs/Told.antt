-- What the reports of units tell.
use Rattle.std.specs.Prelude.{ℕ, suc, Bool, List, [], ◌∷◌, ◌++◌, Option, Some, None, length, slice_get, flat_map, nat_lt, if◌then◌else◌}
use Rattle.std.specs.Option.{option_and_then}
use Rattle.zw_base.specs.declared.diag.Found.{Found}
use Rattle.wasm_link.specs.declared.named.Function.{Function}
use Rattle.pointer_cycles.specs.Shown.{is_shown}
use Rattle.unit_reports.specs.declared.report.UnitReport.{UnitReport}
use Rattle.unit_reports.specs.declared.report.UnitReport.TheVariants as report

-- ---- failed units, and the code of others

abbrev pub failure_in : UnitReport → List Found
failure_in (report.Failed f) = f ∷ []
failure_in _ = []

abbrev pub function_in : UnitReport → List Function
function_in (report.Code f) = f ∷ []
function_in _ = []

-- ---- units that wait

-- the number of the unit that a unit waits for
abbrev pub next_in : UnitReport → Option ℕ
next_in (report.Waits w) = Some w.next
next_in _ = None

-- the spelling of a unit that waits
abbrev pub text_in : UnitReport → List ℕ
text_in (report.Waits w) = w.text
text_in _ = []

-- what is told of it where it is the least of a cycle
abbrev pub loop_in : UnitReport → List Found
loop_in (report.Waits w) = w.found ∷ []
loop_in _ = []

-- the number of a unit, where there are so many units that it names one
abbrev pub known_unit : ℕ → ℕ → Option ℕ
known_unit count unit = if nat_lt unit count then Some unit else None

-- by the number of a unit: a number beyond the reports names no unit, so who waits for it counts as waiting for none
unfoldable pub next_at : List UnitReport → ℕ → Option ℕ
next_at reports i = option_and_then (known_unit (length reports)) (option_and_then next_in (slice_get reports i))

abbrev pub text_of_some : Option UnitReport → List ℕ
text_of_some None = []
text_of_some (Some r) = text_in r

unfoldable pub text_at : List UnitReport → ℕ → List ℕ
text_at reports i = text_of_some (slice_get reports i)

-- the unit with this number is the one of least spelling on a cycle of units that wait for each other
unfoldable pub is_least_of_loop : List UnitReport → ℕ → Bool
is_least_of_loop reports i = is_shown (next_at reports) (text_at reports) (length reports) i

-- the cycles at their least units, from the unit with a number on
abbrev pub loops_from : List UnitReport → ℕ → List UnitReport → List Found
loops_from all i [] = []
loops_from all i (r ∷ rs) = (if is_least_of_loop all i then loop_in r else []) ++ loops_from all (suc i) rs

-- ---- all of it

-- the diagnostics of the failed units, and one for each cycle
unfoldable pub told_founds : List UnitReport → List Found
told_founds reports = flat_map failure_in reports ++ loops_from reports 0 reports

unfoldable pub told_functions : List UnitReport → List Function
told_functions reports = flat_map function_in reports
