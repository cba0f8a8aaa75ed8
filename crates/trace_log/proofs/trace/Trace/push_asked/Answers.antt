use Rattle.std.proofs.Common.{arith}
use Rattle.trace_log.proofs.TraceLemmas.{places-asked}
use Rattle.trace_log.proofs.trace.Trace.push_asked.Goals as goal

pub invariant_of-self-in-Ok : goal.invariant_of-self-in-Ok
invariant_of-self-in-Ok c =
    rw c.in_ok-push.ensures.items
    (places-asked _ _ _ c.args.question c.args.answer c.in_ok-number.number c.self.invariant (rw (← c.self.view_is) at c.requires)
    (omega (arith, c.in_ok-number.ensures, c.len.ensures, c.self.inside.moves.ok)) c.in-Ok.ensures.ok)
