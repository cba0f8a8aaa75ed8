use Rattle.std.proofs.Common.{sym, ◌∙◌}
use Rattle.zig_parse.proofs.Slices.{result_here, result_next}
use Rattle.zig_parse.proofs.survey.result_for.Goals as goal

pub returns-then-same_part : goal.returns-then-same_part
returns-then-same_part c = sym (result_here _ _ _ _ c.loop-finished-test.true c.finished-item.is (sym c.same_part.ensures ∙ c.if-same_part.true)) ∙ c.loop-finished.invariant

pub loop-finished-preserved : goal.loop-finished-preserved
loop-finished-preserved c = sym (result_next _ _ _ _ c.loop-finished-test.true c.finished-item.is (sym c.same_part.ensures ∙ c.if-same_part.false)) ∙ c.loop-finished.invariant
