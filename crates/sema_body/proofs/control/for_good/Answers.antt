use Rattle.std.proofs.Common.{refl}
use Rattle.type_form.proofs.MeansLemmas.{Grows-refl}
use Rattle.elab_form.specs.Asking.{pure}
use Rattle.elab_form.specs.Control.{never}
use Rattle.sema_body.proofs.ControlLemmas.{for-good-is, all-acts, longer-then, put-longer}
use Rattle.sema_body.proofs.Reaching.{reach-first, reach-goes, reach-ends}
use Rattle.sema_body.proofs.control.for_good.Goals as goal

pub never-requires : goal.never-requires
never-requires g c = record { stands = (all-acts _ _ _ _ _ c.requires.stands c.requires.below c.in_ok-act_all.ensures.put).stands }

pub returns-clause-lists : goal.returns-clause-lists
returns-clause-lists g c = longer-then _ _ _ _ (put-longer c.args.s.now c.args.s.now c.act_all.new.s _ refl c.in_ok-act_all.ensures.put) c.never.ensures.lists

pub returns-clause-meets : goal.returns-clause-meets
returns-clause-meets g c =
    reach-ends (reach-goes _ (λ _. pure never) tt (reach-first (for-good-is _) c.requires.stands) (Grows-refl _) (all-acts _ _ _ _ _ c.requires.stands c.requires.below c.in_ok-act_all.ensures.put)) c.never.ensures.meets
