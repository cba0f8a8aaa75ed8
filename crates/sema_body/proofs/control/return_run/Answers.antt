use Rattle.std.proofs.Common.{sym, ◌∙◌}
use Rattle.zw_base.specs.declared.diag.DiagCode.TheVariants as code
use Rattle.sema_body.proofs.ControlLemmas.{run-known, run-never, run-later, for-good-as}
use Rattle.sema_body.proofs.Reaching.{standing, reach-first, reach-grows, reach-same, reach-ends, reach-wrong}
use Rattle.sema_body.proofs.control.return_run.Goals as goal

pub for_good-requires-clause-stands : goal.for_good-requires-clause-stands
for_good-requires-clause-stands g c = standing c.requires.stands c.is_noreturn.ensures.reads.grows c.is_noreturn.ensures.agrees

pub returns-in-Known-clause-meets : goal.returns-in-Known-clause-meets
returns-in-Known-clause-meets g c = reach-ends (reach-first (run-known _ c.args.s.now _ _ _ _ _ c.in-Known.is) c.requires.stands) c.return_known.ensures.meets

pub returns-then-is_noreturn-clause-meets : goal.returns-then-is_noreturn-clause-meets
returns-then-is_noreturn-clause-meets g c =
    let ran = reach-first (run-never _ c.args.s.now _ _ _ _ _ _ c.in-Run.is (sym c.is_noreturn.ensures.noreturn ∙ c.if-is_noreturn.true)) c.requires.stands in
    reach-ends (reach-same (for-good-as _ _ c.args.s.now c.args.statements c.as_slice.result.now c.is_noreturn.ensures.reads.grows c.requires.stands.body c.as_slice.ensures) (reach-grows ran c.is_noreturn.ensures.reads.grows c.is_noreturn.ensures.agrees))
    c.for_good.ensures.meets

pub returns-clause-meets : goal.returns-clause-meets
returns-clause-meets g c =
    let ran = reach-first (run-later _ c.args.s.now _ _ _ _ _ _ c.in-Run.is (sym c.is_noreturn.ensures.noreturn ∙ c.if-is_noreturn.false)) c.requires.stands in
    reach-wrong c.args.f.now c.args.place code.NotBuilt c.wrong.result (reach-grows ran c.is_noreturn.ensures.reads.grows c.is_noreturn.ensures.agrees) c.requires.frame c.wrong.ensures
