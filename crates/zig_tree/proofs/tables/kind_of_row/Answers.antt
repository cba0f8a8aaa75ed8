use Rattle.std.proofs.Common.{sym, ◌∙◌}
use Rattle.zig_tree.proofs.Rows.{kind_here, kind_further}
use Rattle.zig_tree.proofs.tables.kind_of_row.Goals as goal

pub returns-then-eq : goal.returns-then-eq
returns-then-eq c =
    sym (kind_here c.args.rows.now c.args.word.now c.loop-text.text-index _ c.loop-text-test.true (sym (rw c.as_bytes.ensures.value at c.if-eq.ensures))) ∙ c.loop-text.invariant

pub loop-text-preserved : goal.loop-text-preserved
loop-text-preserved c =
    sym (kind_further c.args.rows.now c.args.word.now c.loop-text.text-index _ c.loop-text-test.true (sym (rw c.as_bytes.ensures.value at c.if-eq.ensures))) ∙ c.loop-text.invariant
