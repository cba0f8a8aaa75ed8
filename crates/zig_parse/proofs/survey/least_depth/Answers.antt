use Rattle.std.proofs.Common.{sym, ◌∙◌, ap, ℕ, Some}
use Rattle.zig_parse.specs.Passes.{least_with}
use Rattle.zig_parse.proofs.Slices.{least_more, least_next}
use Rattle.zig_parse.proofs.survey.least_depth.Goals as goal
use Rattle.zig_parse.proofs.survey.least_depth.Goals.{then-wants, else-wants}

pub loop-thread-preserved : goal.loop-thread-preserved
loop-thread-preserved c = elim c.if-wants.branch [
    then-wants w ↦ sym (least_more _ _ _ _ _ _ c.loop-thread-test.true c.thread-item.is (sym c.wants.ensures ∙ w.if-wants.true) (w.least-is ∙ ap (λ (d : ℕ). Some d) (w.least_with.ensures ∙ ap (λ (d : ℕ). least_with d c.loop-thread.least) w.depth_for.ensures))) ∙ c.loop-thread.invariant
  | else-wants w ↦ sym (least_next _ _ _ _ _ _ c.loop-thread-test.true c.thread-item.is (sym c.wants.ensures ∙ w.if-wants.false) w.least-is) ∙ c.loop-thread.invariant ]
