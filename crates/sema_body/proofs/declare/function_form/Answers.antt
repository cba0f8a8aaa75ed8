use Rattle.std.proofs.Common.{ap}
use Rattle.zw_base.specs.declared.diag.DiagCode.TheVariants as code
use Rattle.type_form.specs.Means.{decl_at}
use Rattle.elab_form.specs.Questions.{constant}
use Rattle.sema_body.specs.declared.heads.Mark.TheVariants as marks
use Rattle.sema_body.specs.Heads.{head_over}
use Rattle.sema_body.specs.Trees.{child_at}
use Rattle.sema_body.proofs.DeclareLemmas.{parts-marked}
use Rattle.sema_body.proofs.UnitLemmas.{framed, known_of}
use Rattle.sema_body.proofs.Reaching.{reach-first, reach-grows, reach-gives, reach-ends, reach-wrong}
use Rattle.sema_body.proofs.declare.function_form.Goals as goal

pub returns-in_ok-value-in-Absent-clause-meets : goal.returns-in_ok-value-in-Absent-clause-meets
returns-in_ok-value-in-Absent-clause-meets g c =
    let d = decl_at (known_of c.requires.stands) c.args.decl in
    let h = head_over (child_at c.args.cx.now c.args.tree) c.args.head in
    let begun = reach-first (parts-marked (framed c.requires.stands c.args.f.now) d h marks.Absent c.in-Absent.ensures) c.requires.stands in
    reach-gives _ _ (reach-grows begun c.function_value.ensures.interns.grows c.function_value.ensures.agrees) c.in_ok-value-in-Absent.ensures.value.known (ap constant c.in_ok-value-in-Absent.ensures.value.is)

pub returns-in-Exported-clause-meets : goal.returns-in-Exported-clause-meets
returns-in-Exported-clause-meets g c =
    let d = decl_at (known_of c.requires.stands) c.args.decl in
    let h = head_over (child_at c.args.cx.now c.args.tree) c.args.head in
    reach-ends (reach-first (parts-marked (framed c.requires.stands c.args.f.now) d h marks.Exported c.in-Exported.ensures) c.requires.stands) c.exported_form.ensures.meets

pub returns-in-Inferred-clause-meets : goal.returns-in-Inferred-clause-meets
returns-in-Inferred-clause-meets g c =
    let d = decl_at (known_of c.requires.stands) c.args.decl in
    let h = head_over (child_at c.args.cx.now c.args.tree) c.args.head in
    let begun = reach-first (parts-marked (framed c.requires.stands c.args.f.now) d h marks.Inferred c.in-Inferred.ensures) c.requires.stands in
    reach-wrong c.args.f.now c.args.head.name_place code.NotBuilt c.wrong.result begun c.requires.frame c.wrong.ensures

pub returns-in-Other-clause-meets : goal.returns-in-Other-clause-meets
returns-in-Other-clause-meets g c =
    let d = decl_at (known_of c.requires.stands) c.args.decl in
    let h = head_over (child_at c.args.cx.now c.args.tree) c.args.head in
    let begun = reach-first (parts-marked (framed c.requires.stands c.args.f.now) d h marks.Other c.in-Other.ensures) c.requires.stands in
    reach-wrong c.args.f.now c.args.head.name_place code.NotBuilt c.wrong-in-Other.result begun c.requires.frame c.wrong-in-Other.ensures
