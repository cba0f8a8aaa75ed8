use Rattle.std.proofs.Common.{refl, ◌∙◌}
use Rattle.sema_body.proofs.ControlLemmas.{never-meets}
use Rattle.sema_body.proofs.Reaching.{standing, reach-first, reach-grows, reach-ends}
use Rattle.sema_body.proofs.control.never.Goals as goal

pub returns-clause-meets : goal.returns-clause-meets
returns-clause-meets g c =
    let made = standing c.requires.stands c.simple_type.ensures.interns.grows c.simple_type.ensures.agrees in
    reach-ends (reach-grows (reach-first refl c.requires.stands) c.simple_type.ensures.interns.grows c.simple_type.ensures.agrees)
    (never-meets _ _ _ _ _ _ _ made (c.of-statements.ensures ∙ c.new.ensures.items) c.in_ok-at.ensures.put c.in_ok-at.ensures.number c.in_ok-ty.ensures.ty)
