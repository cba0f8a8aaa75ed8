use Rattle.std.proofs.Common.{take}
use Rattle.watch_core.specs.Placing.{AreTexts}
use Rattle.watch_core.proofs.PlaceLemmas.{AreThere}
use Rattle.watch_core.proofs.placing.texts_of.Given as goal

-- the texts are those of the files, and the files of the diagnostics so far are there
abbrev pub invariant-loop-diag : goal.invariant-loop-diag
invariant-loop-diag l = record {
  texts : AreTexts l.files.entries l.texts.entries;
  there : AreThere l.texts.entries (take l.diag-index l.diags);
}
