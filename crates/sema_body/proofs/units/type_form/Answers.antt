use Rattle.std.proofs.Common.{refl, sym, ap, ap₂, Some}
use Rattle.type_form.specs.declared.tree.Arg.TheViews.{out-Value}
use Rattle.type_form.specs.declared.tree.Ty.TheVariants as ty
use Rattle.type_form.specs.declared.tree.SimpleTy.TheVariants as simple
use Rattle.elab_form.specs.Places.{place_of}
use Rattle.sema_body.specs.Trees.{child_at}
use Rattle.elab_form.specs.Asking.{seq}
use Rattle.elab_form.specs.Units.{type_by, value_form}
use Rattle.sema_body.proofs.Growth.{IsFrame-grows}
use Rattle.sema_body.proofs.UnitLemmas.{frame-later, framed, reach-frame, reach-goes-as}
use Rattle.sema_body.proofs.Reaching.{standing, reach-first, reach-grows, reach-same, reach-halts, reach-ends}
use Rattle.sema_body.proofs.units.type_form.Goals as goal

pub value_form-requires-clause-stands : goal.value_form-requires-clause-stands
value_form-requires-clause-stands g c = standing c.requires.stands c.simple_type.ensures.interns.grows c.simple_type.ensures.agrees

pub returns-in-Ok-clause-meets : goal.returns-in-Ok-clause-meets
returns-in-Ok-clause-meets g c =
    let known = IsFrame-grows _ _ c.simple_type.ensures.interns.grows c.args.f.now c.requires.frame in
    let made = reach-grows (reach-first refl c.requires.stands) c.simple_type.ensures.interns.grows c.simple_type.ensures.agrees in
    let b = child_at c.args.cx.now c.args.parent c.args.line in
    let f1 = framed made.stands c.args.f.now in
    let here = reach-frame c.args.f.now (λ x. seq (value_form x (Some (ty.Simple simple.Metatype)) b) (λ v. type_by x (place_of b) (out-Value v))) c.requires.frame made in
    let wanted = reach-same (ap (λ x. seq (value_form f1 (Some x) b) (λ v. type_by f1 (place_of b) (out-Value v))) (sym c.in_ok-metatype.ensures.ty.is)) here in
    let later = framed c.in-Ok.ensures.meets.stands c.args.f.now in
    let valued = reach-goes-as _ (λ v. type_by f1 (place_of b) (out-Value v)) (λ v. type_by later c.child_place-place.result (out-Value v)) c.in-Ok.value (λ v. ap₂ (λ x y. type_by x y (out-Value v)) (frame-later c.args.f.now c.in-Ok.ensures.interns.grows known) (sym c.child_place-place.ensures)) wanted c.in-Ok.ensures.interns.grows c.in-Ok.ensures.meets in
    reach-ends valued c.type_by.ensures.meets

pub returns-in-Err-clause-meets : goal.returns-in-Err-clause-meets
returns-in-Err-clause-meets g c =
    let made = reach-grows (reach-first refl c.requires.stands) c.simple_type.ensures.interns.grows c.simple_type.ensures.agrees in
    let b = child_at c.args.cx.now c.args.parent c.args.line in
    let f1 = framed made.stands c.args.f.now in
    let here = reach-frame c.args.f.now (λ x. seq (value_form x (Some (ty.Simple simple.Metatype)) b) (λ v. type_by x (place_of b) (out-Value v))) c.requires.frame made in
    let wanted = reach-same (ap (λ x. seq (value_form f1 (Some x) b) (λ v. type_by f1 (place_of b) (out-Value v))) (sym c.in_ok-metatype.ensures.ty.is)) here in
    reach-halts _ (λ v. type_by f1 (place_of b) (out-Value v)) c.in-Err.halt wanted c.in-Err.ensures.meets
