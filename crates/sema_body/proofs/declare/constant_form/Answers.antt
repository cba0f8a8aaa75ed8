use Rattle.std.proofs.Common.{refl}
use Rattle.elab_form.specs.Asking.{pure}
use Rattle.elab_form.specs.Questions.{constant}
use Rattle.sema_body.proofs.Reaching.{reach-first, reach-goes, reach-gives, reach-halts}
use Rattle.sema_body.proofs.declare.constant_form.Goals as goal

pub returns-in-Ok-clause-meets : goal.returns-in-Ok-clause-meets
returns-in-Ok-clause-meets g c =
    let valued = reach-goes _ (λ v. pure (constant v)) c.in-Ok.value (reach-first refl c.requires.stands) c.in-Ok.ensures.interns.grows c.in-Ok.ensures.meets in
    reach-gives _ _ valued c.in-Ok.ensures.meets.is.0 refl

pub returns-in-Err-clause-meets : goal.returns-in-Err-clause-meets
returns-in-Err-clause-meets g c = reach-halts _ (λ v. pure (constant v)) c.in-Err.halt (reach-first refl c.requires.stands) c.in-Err.ensures.meets
