-- The answer of an update by its root's analysis.
use Rattle.std.specs.Prelude.{ℕ, List}
use Rattle.root_analysis.specs.declared.analysis.RootAnalysis.{RootAnalysis}
use Rattle.watch_core.specs.declared.session.Update.{Update}
use Rattle.watch_core.specs.Compile.{Files, compiled, first_of, late_cases, link_of}
use Rattle.watch_core.specs.Counts.{counts_by, update_of}

-- the answer where nothing is wrong before any unit is analysed
unfoldable pub analysis_answer : List ℕ → Files → RootAnalysis → Update
analysis_answer root files a = update_of (compiled files (first_of (late_cases root a)) (link_of root a)) (counts_by a)
