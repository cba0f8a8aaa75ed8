use Rattle.std.proofs.Common.{sym, ◌∙◌, arith}
use Rattle.zig_parse.proofs.Steps.{same_done}
use Rattle.zig_parse.proofs.thread.same_items.Goals as goal

pub returns : goal.returns
returns c = sym (same_done c.args.a.now c.args.b.now c.loop-i.i (omega arith) c.loop-i.invariant.1) ∙ c.loop-i.invariant.0
