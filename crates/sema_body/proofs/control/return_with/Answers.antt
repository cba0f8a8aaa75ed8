use Rattle.sema_body.proofs.ControlLemmas.{with-comptime, with-run, leaves-meets}
use Rattle.sema_body.proofs.Reaching.{reach-first, reach-ends}
use Rattle.sema_body.proofs.control.return_with.Goals as goal

pub returns-then-f-clause-meets : goal.returns-then-f-clause-meets
returns-then-f-clause-meets g c = reach-ends (reach-first (with-comptime _ _ _ _ c.if-f.true) c.requires.stands) (leaves-meets c.args.o c.requires.stands c.requires.operand)

pub returns-else-f-clause-meets : goal.returns-else-f-clause-meets
returns-else-f-clause-meets g c = reach-ends (reach-first (with-run _ _ _ _ c.if-f.false) c.requires.stands) c.return_run.ensures.meets
