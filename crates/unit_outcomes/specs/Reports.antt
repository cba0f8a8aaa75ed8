-- What is told of a unit, by its result and by what it waits for.
use Rattle.std.specs.Prelude.{◌≡◌, ℕ, ◌-◌, ◌^◌, true, min, List, [], ◌∷◌, Option, Some, None}
use Rattle.std.specs.List.{Contains}
use Rattle.zw_base.specs.declared.diag.DiagCode.{DiagCode}
use Rattle.zw_base.specs.declared.diag.DiagCode.TheVariants as code
use Rattle.zw_base.specs.declared.diag.Found.{Found}
use Rattle.zir_form.specs.Core.{Core}
use Rattle.zir_form.specs.Core as core
use Rattle.type_form.specs.declared.unit.Instance.{Instance}
use Rattle.type_form.specs.declared.unit.Unit.{Unit as AnyUnit}
use Rattle.type_form.specs.declared.unit.Unit.TheVariants as unit
use Rattle.type_form.specs.Spelling.{instance_text, unit_text}
use Rattle.wasm_form.specs.declared.linked.FnCode.{FnCode}
use Rattle.wasm_link.specs.declared.named.Function.{Function}
use Rattle.elab_form.specs.Questions as plain
use Rattle.elab_form.specs.Units.{decl_of, failed_with, is_too_long, name_of}
use Rattle.trace_log.specs.Files.{Files, text_in}
use Rattle.trace_log.specs.Places.{spot_offset}
use Rattle.unit_reports.specs.declared.report.UnitReport.{UnitReport}
use Rattle.unit_reports.specs.declared.report.UnitReport.TheVariants as report

-- ---- places

-- a byte of the root; what stands nowhere is shown at the start, and no file has more bytes than 32 bits count
abbrev pub offset_by : Option ℕ → ℕ
offset_by None = 0
offset_by (Some n) = min n (2 ^ 32 - 1)

unfoldable pub spot_at : Files → plain.Spot → ℕ
spot_at files s = offset_by (spot_offset files s)

-- ---- diagnostics

-- a diagnostic of one place
abbrev pub found_at : DiagCode → ℕ → List ℕ → Found
found_at c offset text = record { code = c; span = record { start = offset; end = offset }; text = text }

-- a diagnostic of a unit, in its place
abbrev pub found_of : Files → plain.Diagnostic → Found
found_of files d = found_at d.code (spot_at files d.spot) d.text

-- that units wait for each other, shown at the declaration of one
abbrev pub loop_found : Files → AnyUnit → Found
loop_found files u = found_of files (record { spot = plain.named (decl_of u); code = code.DeclarationLoop; text = [] })

-- ---- functions

-- the name under which a function is exported, by its head
abbrev pub export_by : List ℕ → Option Core → Option (List ℕ)
export_by name (Some (core.head place core.exported parameters mark result)) = Some name
export_by name _ = None

-- the code of an instance, as a function of the root
abbrev pub function_of : List ℕ → Files → Instance → FnCode → Function
function_of root files i c = record {
  spelling = instance_text i;
  export = export_by (name_of i.decl) (text_in files (plain.head i.decl));
  place = record { path = root; offset = spot_at files (plain.named i.decl) };
  code = c;
}

-- ---- reports

-- what is told of a unit that did not fail: of code the function
abbrev pub good_report : List ℕ → Files → AnyUnit → plain.UnitValue → UnitReport
good_report root files (unit.Code i) (plain.code c) = report.Code (function_of root files i c)
good_report root files _ _ = report.Silent

abbrev pub failed_report : Files → Option plain.Diagnostic → UnitReport
failed_report files None = report.Silent
failed_report files (Some d) = report.Failed (found_of files d)

-- and of one without a result, which waits for the unit with a number
abbrev pub waiting_report : Files → AnyUnit → Option ℕ → UnitReport
waiting_report files u None = report.Silent
waiting_report files u (Some next) = report.Waits (record { next = next; text = unit_text u; found = loop_found files u })

abbrev pub report_by : List ℕ → Files → AnyUnit → Option plain.UnitResult → Option ℕ → UnitReport
report_by root files u (Some (plain.good v)) wait = good_report root files u v
report_by root files u (Some (plain.failed d)) wait = failed_report files d
report_by root files u None wait = waiting_report files u wait

-- the reports of units in a row, by what each waits for
abbrev pub reports_by : List ℕ → Files → (AnyUnit → Option plain.UnitResult) → List AnyUnit → List (Option ℕ) → List UnitReport
reports_by root files results [] waits = []
reports_by root files results (u ∷ us) [] = []
reports_by root files results (u ∷ us) (w ∷ ws) = report_by root files u (results u) w ∷ reports_by root files results us ws

-- ---- spellings

-- a unit whose spelling is too long fails for that
abbrev pub IsSpelled : Option plain.UnitResult → AnyUnit → Type 0
IsSpelled result u = is_too_long u ≡ true → result ≡ Some (failed_with u code.NameTooLong)

abbrev pub AreSpelled : (AnyUnit → Option plain.UnitResult) → List AnyUnit → Type 0
AreSpelled results units = (u : AnyUnit) → Contains units u → IsSpelled (results u) u
