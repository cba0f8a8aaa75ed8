use Rattle.std.proofs.Common.{sym, ◌∙◌}
use Rattle.zig_parse.proofs.Slices.{deep_stop, deep_next}
use Rattle.zig_parse.proofs.survey.all_deep.Goals as goal

pub returns-then-not-thread : goal.returns-then-not-thread
returns-then-not-thread c = sym (deep_stop _ _ _ c.loop-thread-test.true c.thread-item.is c.if-not-thread.true) ∙ c.loop-thread.invariant

pub loop-thread-preserved : goal.loop-thread-preserved
loop-thread-preserved c = sym (deep_next _ _ _ c.loop-thread-test.true c.thread-item.is c.if-not-thread.false) ∙ c.loop-thread.invariant
