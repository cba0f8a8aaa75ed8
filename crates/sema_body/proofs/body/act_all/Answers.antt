use Rattle.sema_body.proofs.BodyLemmas.{below-at}
use Rattle.sema_body.proofs.body.act_all.Goals as goal

pub act-requires : goal.act-requires
act-requires c = below-at _ c.args.statements.now c.loop-statement.statement-index _ c.loop-statement-test.true c.loop-statement.invariant.below
