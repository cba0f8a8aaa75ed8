use Rattle.std.proofs.Common.{refl, sym, ap}
use Rattle.type_form.specs.Means.{ty_at}
use Rattle.elab_form.specs.Units.{written_body}
use Rattle.sema_body.proofs.FunctionLemmas.{meets-written}
use Rattle.sema_body.proofs.UnitLemmas.{known_of}
use Rattle.sema_body.proofs.Reaching.{reach-first, reach-goes, reach-same, reach-halts, reach-ends}
use Rattle.sema_body.proofs.function_body.ended_body.Goals as goal

pub returns-in-Ok-clause-meets : goal.returns-in-Ok-clause-meets
returns-in-Ok-clause-meets g c =
    let grown = c.in-Ok.ensures.interns.grows in
    let ended = reach-goes _ (λ _. written_body (ty_at (known_of c.requires.stands) c.args.ty)) tt (reach-first refl c.requires.stands) grown c.in-Ok.ensures.meets in
    reach-ends (reach-same (ap written_body (sym (grown.stays.ty c.args.ty c.requires.ty))) ended) (meets-written c.args.ty ended.stands (grown.stays.is_ty c.args.ty c.requires.ty))

pub returns-in-Err-clause-meets : goal.returns-in-Err-clause-meets
returns-in-Err-clause-meets g c =
    reach-halts _ (λ _. written_body (ty_at (known_of c.requires.stands) c.args.ty)) c.in-Err.halt (reach-first refl c.requires.stands) c.in-Err.ensures.meets
