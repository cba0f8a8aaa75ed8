use Rattle.std.proofs.Common.{sym, ◌∙◌}
use Rattle.zig_parse.proofs.Slices.{among_here, among_next}
use Rattle.zig_parse.proofs.survey.is_among.Goals as goal

pub returns-then-goes_as_far : goal.returns-then-goes_as_far
returns-then-goes_as_far c = sym (among_here _ _ _ _ c.loop-other-test.true c.other-item.is (sym c.goes_as_far.ensures ∙ c.if-goes_as_far.true)) ∙ c.loop-other.invariant

pub loop-other-preserved : goal.loop-other-preserved
loop-other-preserved c = sym (among_next _ _ _ _ c.loop-other-test.true c.other-item.is (sym c.goes_as_far.ensures ∙ c.if-goes_as_far.false)) ∙ c.loop-other.invariant
