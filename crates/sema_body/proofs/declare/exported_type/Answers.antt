use Rattle.std.proofs.Common.{sym, ap, ap₂, ◌∙◌}
use Rattle.zw_base.specs.declared.diag.DiagCode.TheVariants as code
use Rattle.type_form.specs.Means.{decl_at}
use Rattle.elab_form.specs.Asking.{not_built, wrong}
use Rattle.elab_form.specs.Places.{place_of}
use Rattle.elab_form.specs.Units.{exported_result}
use Rattle.sema_body.specs.Trees.{child_at}
use Rattle.sema_body.proofs.DeclareLemmas.{type-plain, type-inferred, type-exported, type-other}
use Rattle.sema_body.proofs.UnitLemmas.{frame-later, framed, known_of, reach-goes-as}
use Rattle.sema_body.proofs.Reaching.{reach-first, reach-halts, reach-ends, reach-wrong}
use Rattle.sema_body.proofs.declare.exported_type.Goals as goal

pub returns-in-Ok-clause-meets : goal.returns-in-Ok-clause-meets
returns-in-Ok-clause-meets g c =
    let f = framed c.requires.stands c.args.f.now in
    let d = decl_at (known_of c.requires.stands) c.args.decl in
    let m = child_at c.args.cx.now c.args.tree c.args.mark in
    let t = child_at c.args.cx.now c.args.tree c.args.result_ty in
    let begun = reach-first (type-plain f d m t c.in-Absent.ensures) c.requires.stands in
    let later = framed c.in-Ok.ensures.meets.stands c.args.f.now in
    let named = decl_at (known_of c.in-Ok.ensures.meets.stands) c.args.decl in
    let decls = sym (c.in-Ok.ensures.interns.grows.stays.decl c.args.decl c.requires.decl) in
    let typed = reach-goes-as _ (exported_result f d (place_of t)) (exported_result later named c.child_place-place.result) c.in-Ok.ty (λ x. ap₂ (λ y z. exported_result y d z x) (frame-later c.args.f.now c.in-Ok.ensures.interns.grows c.requires.frame) (sym c.child_place-place.ensures) ∙ ap (λ y. exported_result later y c.child_place-place.result x) decls) begun c.in-Ok.ensures.interns.grows c.in-Ok.ensures.meets in
    reach-ends typed c.exported_result.ensures.meets

pub returns-in-Err-clause-meets : goal.returns-in-Err-clause-meets
returns-in-Err-clause-meets g c =
    let f = framed c.requires.stands c.args.f.now in
    let d = decl_at (known_of c.requires.stands) c.args.decl in
    let m = child_at c.args.cx.now c.args.tree c.args.mark in
    let t = child_at c.args.cx.now c.args.tree c.args.result_ty in
    reach-halts _ (exported_result f d (place_of t)) c.in-Err.halt (reach-first (type-plain f d m t c.in-Absent.ensures) c.requires.stands) c.in-Err.ensures.meets

pub returns-in-Inferred-clause-meets : goal.returns-in-Inferred-clause-meets
returns-in-Inferred-clause-meets g c =
    let f = framed c.requires.stands c.args.f.now in
    let d = decl_at (known_of c.requires.stands) c.args.decl in
    let m = child_at c.args.cx.now c.args.tree c.args.mark in
    let t = child_at c.args.cx.now c.args.tree c.args.result_ty in
    let found = type-inferred f d m t c.in-Inferred.ensures ∙ ap (λ x. wrong f x code.TypeNotAllowed) (sym c.child_place.ensures) in
    reach-wrong c.args.f.now c.child_place.result code.TypeNotAllowed c.wrong.result (reach-first found c.requires.stands) c.requires.frame c.wrong.ensures

pub returns-in-Exported-clause-meets : goal.returns-in-Exported-clause-meets
returns-in-Exported-clause-meets g c =
    let f = framed c.requires.stands c.args.f.now in
    let d = decl_at (known_of c.requires.stands) c.args.decl in
    let m = child_at c.args.cx.now c.args.tree c.args.mark in
    let t = child_at c.args.cx.now c.args.tree c.args.result_ty in
    let found = type-exported f d m t c.in-Exported.ensures ∙ ap (λ x. not_built f x) (sym c.child_place-place.ensures) in
    reach-wrong c.args.f.now c.child_place-place.result code.NotBuilt c.wrong-in-Exported.result (reach-first found c.requires.stands) c.requires.frame c.wrong-in-Exported.ensures

pub returns-in-Other-clause-meets : goal.returns-in-Other-clause-meets
returns-in-Other-clause-meets g c =
    let f = framed c.requires.stands c.args.f.now in
    let d = decl_at (known_of c.requires.stands) c.args.decl in
    let m = child_at c.args.cx.now c.args.tree c.args.mark in
    let t = child_at c.args.cx.now c.args.tree c.args.result_ty in
    let found = type-other f d m t c.in-Other.ensures ∙ ap (λ x. not_built f x) (sym c.child_place-place.ensures) in
    reach-wrong c.args.f.now c.child_place-place.result code.NotBuilt c.wrong-in-Other.result (reach-first found c.requires.stands) c.requires.frame c.wrong-in-Other.ensures
