use Rattle.zir_form.specs.Lines.{trees_of}
use Rattle.zir_astgen.proofs.AddLemmas.{grown}
use Rattle.zir_astgen.proofs.RowLemmas.{rows_stay}
use Rattle.zir_astgen.proofs.file.FileSource.put_block.Goals as goal

pub enter_block-requires-clause-rows : goal.enter_block-requires-clause-rows
enter_block-requires-clause-rows c =
    rows_stay (trees_of c.args.tables.sheet.lines) (trees_of c.in_ok-sheet.field-0.sheet.lines) _ _ _ (grown _ _ _ _ c.in_ok-sheet.ensures) c.requires.within
