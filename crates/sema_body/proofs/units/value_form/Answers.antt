use Rattle.std.proofs.Common.{refl, sym, ap₂}
use Rattle.elab_form.specs.Places.{place_of}
use Rattle.elab_form.specs.Units.{known_at}
use Rattle.sema_body.specs.Trees.{child_at}
use Rattle.sema_body.proofs.UnitLemmas.{frame-later, framed, reach-goes-as}
use Rattle.sema_body.proofs.Reaching.{reach-first, reach-halts, reach-ends}
use Rattle.sema_body.proofs.units.value_form.Goals as goal

pub returns-in-Ok-clause-meets : goal.returns-in-Ok-clause-meets
returns-in-Ok-clause-meets g c =
    let f = framed c.requires.stands c.args.f.now in
    let later = framed c.in-Ok.ensures.meets.stands c.args.f.now in
    let place = place_of (child_at c.args.cx.now c.args.parent c.args.line) in
    let given = reach-goes-as _ (known_at f place) (known_at later c.child_place-place.result) c.in-Ok.o (λ o. ap₂ (λ x y. known_at x y o) (frame-later c.args.f.now c.in-Ok.ensures.interns.grows c.requires.frame) (sym c.child_place-place.ensures)) (reach-first refl c.requires.stands) c.in-Ok.ensures.interns.grows c.in-Ok.ensures.meets in
    reach-ends given c.known_value.ensures.meets

pub returns-in-Err-clause-meets : goal.returns-in-Err-clause-meets
returns-in-Err-clause-meets g c =
    let next = known_at (framed c.requires.stands c.args.f.now) (place_of (child_at c.args.cx.now c.args.parent c.args.line)) in
    reach-halts _ next c.in-Err.halt (reach-first refl c.requires.stands) c.in-Err.ensures.meets
