use Rattle.std.proofs.Common.{refl, ap}
use Rattle.zw_base.specs.declared.diag.DiagCode.TheVariants as code
use Rattle.elab_form.specs.Coercion.{fit_at}
use Rattle.sema_body.proofs.Reaching.{reach-first, reach-grows, reach-gives, reach-wrong}
use Rattle.sema_body.proofs.coercion.known_fit.Goals as goal

pub returns-in-Fits-clause-meets : goal.returns-in-Fits-clause-meets
returns-in-Fits-clause-meets g c =
    let fitted = rw c.in-Fits.is at c.in_ok-fitting.ensures.fit in
    reach-gives _ _ (reach-grows (reach-first (ap (fit_at _ _) fitted.1) c.requires.stands) c.fit_value.ensures.interns.grows c.fit_value.ensures.agrees) fitted.0 refl

pub returns-in-NoCoercion-clause-meets : goal.returns-in-NoCoercion-clause-meets
returns-in-NoCoercion-clause-meets g c =
    let fitted = rw c.in-NoCoercion.is at c.in_ok-fitting.ensures.fit in
    reach-wrong c.args.f.now c.args.place code.TypesDoNotFit c.wrong.result (reach-grows (reach-first (ap (fit_at _ _) fitted) c.requires.stands) c.fit_value.ensures.interns.grows c.fit_value.ensures.agrees) c.requires.frame c.wrong.ensures

pub returns-in-NoFit-clause-meets : goal.returns-in-NoFit-clause-meets
returns-in-NoFit-clause-meets g c =
    let fitted = rw c.in-NoFit.is at c.in_ok-fitting.ensures.fit in
    reach-wrong c.args.f.now c.args.place code.IntegerDoesNotFit c.wrong-in-NoFit.result (reach-grows (reach-first (ap (fit_at _ _) fitted) c.requires.stands) c.fit_value.ensures.interns.grows c.fit_value.ensures.agrees) c.requires.frame c.wrong-in-NoFit.ensures
