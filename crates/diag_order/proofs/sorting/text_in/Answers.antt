use Rattle.std.proofs.Common.{◌∙◌}
use Rattle.diag_order.proofs.Files.{file_here, file_further, file_none}
use Rattle.diag_order.proofs.sorting.text_in.Goals as goal

pub returns-then-eq : goal.returns-then-eq
returns-then-eq c =
    c.as_slice.ensures ∙ file_here c.args.texts.now c.args.path.now c.loop-file.file-index c.file-item.result c.loop-file-test.true c.file-item.is c.if-eq.ensures ∙ c.loop-file.invariant

pub loop-file-preserved : goal.loop-file-preserved
loop-file-preserved c =
    file_further c.args.texts.now c.args.path.now c.loop-file.file-index c.file-item.result c.loop-file-test.true c.file-item.is c.if-eq.ensures ∙ c.loop-file.invariant

pub returns : goal.returns
returns c = file_none c.args.texts.now c.args.path.now c.loop-file.file-index c.loop-file-test.false ∙ c.loop-file.invariant
