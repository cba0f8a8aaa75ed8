use Rattle.std.proofs.Common.{sym, ◌∙◌}
use Rattle.zir_form.proofs.Rows.{word_here, word_further}
use Rattle.zir_form.proofs.primitive.word_in.Goals as goal

pub returns-then-eq : goal.returns-then-eq
returns-then-eq c =
    sym (word_here c.args.rows.now c.args.name.now c.loop-text.text-index _ c.loop-text-test.true (sym (rw c.as_bytes.ensures.value at c.if-eq.ensures))) ∙ c.loop-text.invariant

pub loop-text-preserved : goal.loop-text-preserved
loop-text-preserved c =
    sym (word_further c.args.rows.now c.args.name.now c.loop-text.text-index _ c.loop-text-test.true (sym (rw c.as_bytes.ensures.value at c.if-eq.ensures))) ∙ c.loop-text.invariant
