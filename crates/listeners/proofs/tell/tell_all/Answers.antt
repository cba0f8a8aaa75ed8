use Rattle.std.proofs.Common.{arith, ◌∙◌}
use Rattle.listeners.proofs.Turns.{turn}
use Rattle.listeners.proofs.tell.tell_all.Goals as goal

pub loop-preserved : goal.loop-preserved
loop-preserved g c = record {
  told = turn _ _ _ _ c.args.list.now.items c.loop.counter _ _ _ _ _ (omega arith) c.loop.invariant.told c.tell_next.ensures.told;
  count = omega arith;
  few = omega arith;
  capacity = c.tell_next.ensures.capacity ∙ c.loop.invariant.capacity;
}
