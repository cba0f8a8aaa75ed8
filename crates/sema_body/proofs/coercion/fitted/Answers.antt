use Rattle.std.proofs.Common.{refl}
use Rattle.sema_body.proofs.FitLemmas.{fitted-free}
use Rattle.sema_body.proofs.Reaching.{reach-first, reach-gives}
use Rattle.sema_body.proofs.coercion.fitted.Goals as goal

pub returns-in-None-clause-meets : goal.returns-in-None-clause-meets
returns-in-None-clause-meets g c =
    reach-gives _ _ (reach-first (fitted-free _ _ _ _ _ c.in-None.is) c.requires.stands) c.requires.operand refl
