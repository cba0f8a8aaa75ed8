use Rattle.std.proofs.Common.{ap}
use Rattle.zw_base.specs.declared.diag.DiagCode.TheVariants as code
use Rattle.elab_form.specs.Units.{body_with}
use Rattle.sema_body.specs.declared.heads.Mark.TheVariants as marks
use Rattle.sema_body.specs.Trees.{child_at}
use Rattle.sema_body.proofs.FunctionLemmas.{typed-absent, typed-other}
use Rattle.sema_body.proofs.UnitLemmas.{frame-later, framed, reach-goes-as}
use Rattle.sema_body.proofs.Reaching.{reach-first, reach-halts, reach-ends, reach-wrong}
use Rattle.sema_body.proofs.function_body.body_typed.Goals as goal

pub returns-in-Ok-clause-meets : goal.returns-in-Ok-clause-meets
returns-in-Ok-clause-meets g c =
    let f = framed c.requires.stands c.args.f.now in
    let m = child_at c.args.cx.now c.args.below c.args.head.mark in
    let t = child_at c.args.cx.now c.args.below c.args.head.result in
    let b = child_at c.args.cx.now c.args.tree c.args.line in
    let begun = reach-first (typed-absent f c.args.head.name_place m t b c.in-Absent.ensures) c.requires.stands in
    let later = framed c.in-Ok.ensures.meets.stands c.args.f.now in
    let typed = reach-goes-as _ (body_with f c.args.head.name_place b) (body_with later c.args.head.name_place b) c.in-Ok.ty (λ x. ap (λ y. body_with y c.args.head.name_place b x) (frame-later c.args.f.now c.in-Ok.ensures.interns.grows c.requires.frame)) begun c.in-Ok.ensures.interns.grows c.in-Ok.ensures.meets in
    reach-ends typed c.body_with.ensures.meets

pub returns-in-Err-clause-meets : goal.returns-in-Err-clause-meets
returns-in-Err-clause-meets g c =
    let f = framed c.requires.stands c.args.f.now in
    let m = child_at c.args.cx.now c.args.below c.args.head.mark in
    let t = child_at c.args.cx.now c.args.below c.args.head.result in
    let b = child_at c.args.cx.now c.args.tree c.args.line in
    reach-halts _ (body_with f c.args.head.name_place b) c.in-Err.halt (reach-first (typed-absent f c.args.head.name_place m t b c.in-Absent.ensures) c.requires.stands) c.in-Err.ensures.meets

pub returns-in-Exported-clause-meets : goal.returns-in-Exported-clause-meets
returns-in-Exported-clause-meets g c =
    let f = framed c.requires.stands c.args.f.now in
    let m = child_at c.args.cx.now c.args.below c.args.head.mark in
    let t = child_at c.args.cx.now c.args.below c.args.head.result in
    let b = child_at c.args.cx.now c.args.tree c.args.line in
    let left = typed-other f c.args.head.name_place m t b marks.Exported c.in-Exported.ensures (λ h. cc) in
    reach-wrong c.args.f.now c.args.head.name_place code.NotBuilt c.wrong.result (reach-first left c.requires.stands) c.requires.frame c.wrong.ensures

pub returns-in-Inferred-clause-meets : goal.returns-in-Inferred-clause-meets
returns-in-Inferred-clause-meets g c =
    let f = framed c.requires.stands c.args.f.now in
    let m = child_at c.args.cx.now c.args.below c.args.head.mark in
    let t = child_at c.args.cx.now c.args.below c.args.head.result in
    let b = child_at c.args.cx.now c.args.tree c.args.line in
    let left = typed-other f c.args.head.name_place m t b marks.Inferred c.in-Inferred.ensures (λ h. cc) in
    reach-wrong c.args.f.now c.args.head.name_place code.NotBuilt c.wrong-in-Inferred.result (reach-first left c.requires.stands) c.requires.frame c.wrong-in-Inferred.ensures

pub returns-in-Other-clause-meets : goal.returns-in-Other-clause-meets
returns-in-Other-clause-meets g c =
    let f = framed c.requires.stands c.args.f.now in
    let m = child_at c.args.cx.now c.args.below c.args.head.mark in
    let t = child_at c.args.cx.now c.args.below c.args.head.result in
    let b = child_at c.args.cx.now c.args.tree c.args.line in
    let left = typed-other f c.args.head.name_place m t b marks.Other c.in-Other.ensures (λ h. cc) in
    reach-wrong c.args.f.now c.args.head.name_place code.NotBuilt c.wrong-in-Other.result (reach-first left c.requires.stands) c.requires.frame c.wrong-in-Other.ensures
