-- How many units an update analysed, and how many it reused.
use Rattle.std.specs.Prelude.{ℕ, List, [], ◌∷◌}
use Rattle.diag_order.specs.declared.line.Diag.{Diag}
use Rattle.root_analysis.specs.declared.analysis.RootAnalysis.{RootAnalysis}
use Rattle.root_analysis.specs.declared.analysis.RootAnalysis.TheVariants as analysed
use Rattle.watch_core.specs.declared.session.Update.{Update}
use Rattle.watch_core.specs.declared.session.Update.TheVariants as update
use Rattle.watch_core.specs.Compile.{Files, Compiled, Refused, Linked, analysis_of, early_cases, first_of}

pub record Counts : Type 0 where
  pub analysed : ℕ
  pub reused : ℕ

-- the results that stay from one update to the next: none so far
pub data Kept : Type 0 where
  Nothing : Kept

-- all demanded units are analysed; of too many none counts
abbrev pub counts_by : RootAnalysis → Counts
counts_by analysed.TooMany = record { analysed = 0; reused = 0 }
counts_by (analysed.Told units founds functions) = record { analysed = units; reused = 0 }

-- no unit is, where a diagnostic comes before
abbrev pub counts_after : List Diag → RootAnalysis → Counts
counts_after [] a = counts_by a
counts_after (d ∷ ds) a = record { analysed = 0; reused = 0 }

unfoldable pub counts : List ℕ → Files → Kept → Counts
counts root files Nothing = counts_after (first_of (early_cases root files)) (analysis_of root files)

-- the answer of an update
abbrev pub update_of : Compiled → Counts → Update
update_of (Refused lines) c = update.Errors lines c.analysed c.reused
update_of (Linked bytes) c = update.Module bytes c.analysed c.reused

-- what is kept after an answer
abbrev pub kept_after : Update → Kept
kept_after answer = Nothing
