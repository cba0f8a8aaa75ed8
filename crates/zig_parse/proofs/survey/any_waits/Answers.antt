use Rattle.std.proofs.Common.{◌≡◌, sym, ◌∙◌, true, false}
use Rattle.std.specs.Prelude.{is_some}
use Rattle.zig_parse.specs.Moves.{waits_for}
use Rattle.zig_parse.proofs.Slices.{any_here, any_next}
use Rattle.zig_parse.proofs.survey.any_waits.Goals as goal

pub returns-then-is_some : goal.returns-then-is_some
returns-then-is_some c = let e : is_some (waits_for c.thread-item.result) ≡ true = cc in sym (any_here _ _ _ c.loop-thread-test.true c.thread-item.is e) ∙ c.loop-thread.invariant

pub loop-thread-preserved : goal.loop-thread-preserved
loop-thread-preserved c = let e : is_some (waits_for c.thread-item.result) ≡ false = cc in sym (any_next _ _ _ c.loop-thread-test.true c.thread-item.is e) ∙ c.loop-thread.invariant
