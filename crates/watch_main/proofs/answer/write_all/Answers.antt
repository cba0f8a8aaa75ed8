use Rattle.std.proofs.Common.{◌≡◌, arith}
use Rattle.watch_main.proofs.WriteLemmas.{moved}
use Rattle.watch_main.proofs.answer.write_all.Goals as goal

pub loop-rest-preserved : goal.loop-rest-preserved
loop-rest-preserved g c =
    let step = moved c.args.bytes.now c.loop-rest.invariant.0 c.loop-rest.rest.now c.split_at.result.1.now c.in_ok-n.n _ _ _ c.loop-rest.invariant.1 c.loop-rest.invariant.2 c.split_at.ensures.back c.in_ok-n.ensures.taken in
    (_, step.0, step.1, omega (arith, c.loop-rest.invariant.3, c.in_ok-n.ensures.faults))
