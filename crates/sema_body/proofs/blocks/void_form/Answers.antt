use Rattle.std.proofs.Common.{refl}
use Rattle.sema_body.proofs.Reaching.{reach-first, reach-grows, reach-known}
use Rattle.sema_body.proofs.blocks.void_form.Goals as goal

pub returns-clause-meets : goal.returns-clause-meets
returns-clause-meets g c =
    reach-known _ _ (reach-grows (reach-first refl c.requires.stands) c.word_value.ensures.interns.grows c.word_value.ensures.agrees) c.in_ok-value.ensures.value
