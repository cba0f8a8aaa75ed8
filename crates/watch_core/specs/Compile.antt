-- What a compilation answers: the files as they stand, from the root on.
use Rattle.std.specs.Prelude.{ℕ, ◌++◌, List, [], ◌∷◌, map, Option, None, Some}
use Rattle.std.specs.List.{flat_map}
use Rattle.zw_base.specs.Outside.{file_at}
use Rattle.zw_base.specs.declared.diag.DiagCode.{DiagCode}
use Rattle.zw_base.specs.declared.diag.DiagCode.TheVariants.{RootMissing, TooManyUnits}
use Rattle.zw_base.specs.declared.diag.Found.{Found}
use Rattle.diag_order.specs.declared.line.Diag.{Diag}
use Rattle.diag_order.specs.declared.line.Line.{Line}
use Rattle.diag_order.specs.Sorted.{text_in, line_of}
use Rattle.wasm_link.specs.declared.named.Function.{Function}
use Rattle.wasm_link.specs.Link.{linked}
use Rattle.unit_reports.specs.declared.answer.LinkAnswer.{LinkAnswer}
use Rattle.unit_reports.specs.declared.answer.LinkAnswer.TheVariants as answer
use Rattle.unit_reports.specs.LinkAnswers.{link_answer}
use Rattle.root_analysis.specs.declared.analysis.RootAnalysis.{RootAnalysis}
use Rattle.root_analysis.specs.declared.analysis.RootAnalysis.TheVariants as analysed
use Rattle.root_analysis.specs.Analysis.{analysis}
use Rattle.watch_core.specs.Front.{front_of, found_at}
use Rattle.watch_core.specs.InOrder.{in_order}

-- pairs of path and bytes; a path that is not there reads as an empty file, by `text_in`
abbrev pub Files : Type 0
Files = List (List ℕ × List ℕ)

-- the paths of the files that the root reaches; imports will add to them
abbrev pub reach : List ℕ → Files → List (List ℕ)
reach root files = root ∷ []

-- ---- diagnostics

-- a diagnostic of a file
abbrev pub diag_of : List ℕ → Found → Diag
diag_of path f = record { path = path; offset = f.span.start; code = f.code; text = f.text }

abbrev pub diag_at_start : List ℕ → DiagCode → Diag
diag_at_start path code = diag_of path (found_at code 0)

-- diagnostics in their places, sorted, each once
abbrev pub placed : Files → List Diag → List Line
placed files diags = in_order (map (line_of files) diags)

-- ---- the diagnostics of each case

-- the root is absent
abbrev pub absence_diags : List ℕ → Option (List ℕ) → List Diag
absence_diags path None = diag_at_start path RootMissing ∷ []
absence_diags path (Some text) = []

unfoldable pub root_diags : List ℕ → Files → List Diag
root_diags root files = absence_diags root (file_at files root)

-- a file that is reached has a fault: of its text, its names and builtins, or else a form that is not built
unfoldable pub file_diags : Files → List ℕ → List Diag
file_diags files path = map (diag_of path) (front_of (text_in files path)).found

abbrev pub front_diags : List ℕ → Files → List Diag
front_diags root files = flat_map (file_diags files) (reach root files)

-- more units are demanded than may be
abbrev pub many_diags : List ℕ → RootAnalysis → List Diag
many_diags root analysed.TooMany = diag_at_start root TooManyUnits ∷ []
many_diags root (analysed.Told units founds functions) = []

-- a demanded unit failed, or units wait for each other
abbrev pub unit_diags : List ℕ → RootAnalysis → List Diag
unit_diags root analysed.TooMany = []
unit_diags root (analysed.Told units founds functions) = map (diag_of root) founds

-- the functions that are linked
abbrev pub functions_in : RootAnalysis → List Function
functions_in analysed.TooMany = []
functions_in (analysed.Told units founds functions) = functions

-- ---- the answer

-- the cases before any unit is analysed, in their order
abbrev pub early_cases : List ℕ → Files → List (List Diag)
early_cases root files =
    root_diags root files
    ∷ front_diags root files
    ∷ []

-- and those of the units
abbrev pub late_cases : List ℕ → RootAnalysis → List (List Diag)
late_cases root a =
    many_diags root a
    ∷ unit_diags root a
    ∷ []

-- the first that has a diagnostic
abbrev pub first_of : List (List Diag) → List Diag
first_of [] = []
first_of ([] ∷ more) = first_of more
first_of ((d ∷ ds) ∷ more) = d ∷ ds

-- diagnostics in their places, or the bytes of a module
pub data Compiled : Type 0 where
  Refused : List Line → Compiled
  Linked : List ℕ → Compiled

-- the diagnostics of the case that applies, or the linker's answer where none does
abbrev pub compiled : Files → List Diag → LinkAnswer → Compiled
compiled files (d ∷ ds) a = Refused (placed files (d ∷ ds))
compiled files [] (answer.Refused diags) = Refused (placed files diags)
compiled files [] (answer.Module bytes) = Linked bytes

-- the analysis of the root as it stands
unfoldable pub analysis_of : List ℕ → Files → RootAnalysis
analysis_of root files = analysis root (front_of (text_in files root))

-- what the linker answers to its functions
abbrev pub link_of : List ℕ → RootAnalysis → LinkAnswer
link_of root a = link_answer root (linked (functions_in a) [] [])

-- the answer for the files, from the root on
unfoldable pub compile : List ℕ → Files → Compiled
compile root files =
    compiled files (first_of (early_cases root files ++ late_cases root (analysis_of root files)))
    (link_of root (analysis_of root files))
