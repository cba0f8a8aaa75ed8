-- The linker's answer, in diagnostics.
use Rattle.std.specs.Prelude.{ℕ, List, [], ◌∷◌, map, Result, Ok, Err}
use Rattle.zw_base.specs.declared.diag.DiagCode.{DiagCode}
use Rattle.zw_base.specs.declared.diag.DiagCode.TheVariants as code
use Rattle.diag_order.specs.declared.line.Diag.{Diag}
use Rattle.wasm_link.specs.declared.fault.LinkFault.{LinkFault}
use Rattle.wasm_link.specs.declared.fault.LinkFault.TheVariants.{DuplicateExport, DataTooLarge, ModuleTooLarge, OutOfMemory}
use Rattle.wasm_link.specs.declared.named.Place.{Place}
use Rattle.unit_reports.specs.declared.answer.LinkAnswer.{LinkAnswer}
use Rattle.unit_reports.specs.declared.answer.LinkAnswer.TheVariants as answer

abbrev pub diag_at : DiagCode → Place → Diag
diag_at c place = record { path = place.path; offset = place.offset; code = c; text = [] }

-- at the start of a file
abbrev pub diag_at_start : DiagCode → List ℕ → Diag
diag_at_start c path = diag_at c (record { path = path; offset = 0 })

-- why there is no module; want of memory is no answer of the definition
abbrev pub fault_diags : List ℕ → LinkFault → List Diag
fault_diags root (DuplicateExport name places) = map (diag_at code.ExportTwice) places
fault_diags root DataTooLarge = diag_at_start code.DataTooLarge root ∷ []
fault_diags root ModuleTooLarge = diag_at_start code.ModuleTooLarge root ∷ []
fault_diags root OutOfMemory = []

abbrev pub link_answer : List ℕ → Result (List ℕ) LinkFault → LinkAnswer
link_answer root (Ok bytes) = answer.Module bytes
link_answer root (Err fault) = answer.Refused (fault_diags root fault)
