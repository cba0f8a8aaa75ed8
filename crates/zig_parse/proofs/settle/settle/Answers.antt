use Rattle.zig_parse.proofs.Costs.{settled_next, settled_end, settled_less}
use Rattle.zig_parse.proofs.settle.settle.Goals as goal

pub loop-thread-smaller : goal.loop-thread-smaller
loop-thread-smaller c = settled_less c.args.look c.args.at _ _ _ c.in-Some.thread c.in-Some.ensures c.in_ok-advance.ensures.go_on

pub loop-thread-preserved : goal.loop-thread-preserved
loop-thread-preserved c = settled_next _ _ _ _ _ _ _ _ c.in-Some.thread c.in-Some.ensures c.in_ok-advance.ensures.go_on c.in_ok-advance.ensures.may_read c.loop-thread.invariant

pub returns : goal.returns
returns c = settled_end _ _ _ _ _ c.in_default.ensures.0 c.loop-thread.invariant
