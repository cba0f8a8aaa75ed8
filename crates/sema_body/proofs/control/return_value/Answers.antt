use Rattle.std.proofs.Common.{◌∙◌}
use Rattle.type_form.proofs.MeansLemmas.{Grows-refl}
use Rattle.elab_form.specs.Asking.{pure}
use Rattle.elab_form.specs.Control.{never}
use Rattle.sema_body.proofs.ControlLemmas.{for-good-is, return-acts, longer-then, put-longer}
use Rattle.sema_body.proofs.Reaching.{reach-first, reach-goes, reach-ends}
use Rattle.sema_body.proofs.control.return_value.Goals as goal

pub never-requires : goal.never-requires
never-requires g c =
    let put = return-acts _ _ _ _ _ _ _ _ _ (c.in_ok-expression.ensures.writes _ c.requires.stands c.requires.value) c.in_ok-statement.ensures.put c.in_ok-statement.ensures.number c.in_ok-act.ensures.put in
    record { stands = put.stands }

pub returns-clause-lists : goal.returns-clause-lists
returns-clause-lists g c =
    longer-then _ _ _ _ (put-longer c.args.s.now c.put.new.s c.act.new.s _ (c.put.ensures.lists ∙ c.constant_behind.ensures.lists) c.in_ok-act.ensures.put) c.never.ensures.lists

pub returns-clause-meets : goal.returns-clause-meets
returns-clause-meets g c =
    let put = return-acts _ _ _ _ _ _ _ _ _ (c.in_ok-expression.ensures.writes _ c.requires.stands c.requires.value) c.in_ok-statement.ensures.put c.in_ok-statement.ensures.number c.in_ok-act.ensures.put in
    reach-ends (reach-goes _ (λ _. pure never) tt (reach-first (for-good-is _) c.requires.stands) (Grows-refl _) put) c.never.ensures.meets
