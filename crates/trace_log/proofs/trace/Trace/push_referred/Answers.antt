use Rattle.trace_log.proofs.TraceLemmas.{places-referred}
use Rattle.trace_log.proofs.trace.Trace.push_referred.Goals as goal

pub invariant_of-self-2 : goal.invariant_of-self-2
invariant_of-self-2 c = rw c.in_ok-push.ensures.items (places-referred _ _ c.args.unit c.self.invariant)
