use Rattle.zw_base.specs.declared.diag.DiagCode.TheVariants as code
use Rattle.sema_body.proofs.ControlLemmas.{held-is, held-none, held-scalar, held-nothing, held-later}
use Rattle.sema_body.proofs.Reaching.{standing, reach-first, reach-grows, reach-same, reach-ends, reach-wrong}
use Rattle.sema_body.proofs.control.return_known.Goals as goal

pub return_value-requires-clause-stands : goal.return_value-requires-clause-stands
return_value-requires-clause-stands g c = standing c.requires.stands c.holding_at.ensures.reads.grows c.holding_at.ensures.agrees

pub return_nothing-requires-clause-stands : goal.return_nothing-requires-clause-stands
return_nothing-requires-clause-stands g c = standing c.requires.stands c.holding_at.ensures.reads.grows c.holding_at.ensures.agrees

pub returns-in-Scalar-clause-meets : goal.returns-in-Scalar-clause-meets
returns-in-Scalar-clause-meets g c =
    let held = reach-first (held-is _ _ _ _ _ _ _ _ c.in-Some.is c.in-Scalar.ensures.holding) c.requires.stands in
    reach-ends (reach-same (held-scalar _ _ _ _ c.args.s.now _ _ c.holding_at.ensures.reads.grows c.requires.stands.body c.requires.value) (reach-grows held c.holding_at.ensures.reads.grows c.holding_at.ensures.agrees))
    c.return_value.ensures.meets

pub returns-in-Nothing-clause-meets : goal.returns-in-Nothing-clause-meets
returns-in-Nothing-clause-meets g c =
    let held = reach-first (held-is _ _ _ _ _ _ _ _ c.in-Some.is c.in-Nothing.ensures.holding) c.requires.stands in
    reach-ends (reach-same (held-nothing _ _ _ _ c.args.s.now c.args.statements c.as_slice.result.now _ c.holding_at.ensures.reads.grows c.requires.stands.body c.as_slice.ensures) (reach-grows held c.holding_at.ensures.reads.grows c.holding_at.ensures.agrees))
    c.return_nothing.ensures.meets

pub returns-in-Later-clause-meets : goal.returns-in-Later-clause-meets
returns-in-Later-clause-meets g c =
    let held = reach-first (held-is _ _ _ _ _ _ _ _ c.in-Some.is c.in-Later.ensures.holding) c.requires.stands in
    reach-wrong c.args.f.now c.args.place code.NotBuilt c.wrong.result (reach-same (held-later _ _ _ _) (reach-grows held c.holding_at.ensures.reads.grows c.holding_at.ensures.agrees)) c.requires.frame c.wrong.ensures

pub returns-in-None-clause-meets : goal.returns-in-None-clause-meets
returns-in-None-clause-meets g c =
    reach-wrong c.args.f.now c.args.place code.NotBuilt c.wrong-in-None.result (reach-first (held-none _ _ _ _ _ _ c.in-None.is) c.requires.stands) c.requires.frame c.wrong-in-None.ensures
