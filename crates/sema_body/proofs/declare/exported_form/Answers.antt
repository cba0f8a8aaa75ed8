use Rattle.std.proofs.Common.{sym, ap, ◌∙◌}
use Rattle.zw_base.specs.declared.diag.DiagCode.TheVariants as code
use Rattle.type_form.specs.Means.{decl_at}
use Rattle.elab_form.specs.Units.{exported_type}
use Rattle.sema_body.specs.Heads.{head_over}
use Rattle.sema_body.specs.Trees.{child_at}
use Rattle.sema_body.proofs.DeclareLemmas.{export-plain, export-later, export-unnamed}
use Rattle.sema_body.proofs.UnitLemmas.{framed, known_of, reach-frame}
use Rattle.sema_body.proofs.Reaching.{standing, reach-first, reach-grows, reach-same, reach-ends, reach-wrong}
use Rattle.sema_body.proofs.declare.exported_form.Goals as goal

pub exported_type-requires-clause-stands : goal.exported_type-requires-clause-stands
exported_type-requires-clause-stands g c = standing c.requires.stands c.has_export_name.ensures.reads.grows c.has_export_name.ensures.agrees

pub returns-then-head-clause-meets : goal.returns-then-head-clause-meets
returns-then-head-clause-meets g c =
    let f = framed c.requires.stands c.args.f.now in
    let d = decl_at (known_of c.requires.stands) c.args.decl in
    let h = head_over (child_at c.args.cx.now c.args.tree) c.args.head in
    let good = sym c.in_ok-is_named.ensures.name ∙ c.if-is_named.true in
    let begun = reach-first (export-plain f d h good c.if-head.true) c.requires.stands in
    let read = reach-grows begun c.has_export_name.ensures.reads.grows c.has_export_name.ensures.agrees in
    let here = reach-frame c.args.f.now (λ x. exported_type x d h.mark h.result) c.requires.frame read in
    reach-ends (reach-same (ap (λ x. exported_type (framed read.stands c.args.f.now) x h.mark h.result) (sym (c.has_export_name.ensures.reads.grows.stays.decl _ c.requires.decl))) here) c.exported_type.ensures.meets

pub returns-else-head-clause-meets : goal.returns-else-head-clause-meets
returns-else-head-clause-meets g c =
    let f = framed c.requires.stands c.args.f.now in
    let d = decl_at (known_of c.requires.stands) c.args.decl in
    let h = head_over (child_at c.args.cx.now c.args.tree) c.args.head in
    let good = sym c.in_ok-is_named.ensures.name ∙ c.if-is_named.true in
    let begun = reach-first (export-later f d h good c.if-head.false) c.requires.stands in
    reach-wrong c.args.f.now c.args.head.name_place code.NotBuilt c.wrong.result (reach-grows begun c.has_export_name.ensures.reads.grows c.has_export_name.ensures.agrees) c.requires.frame c.wrong.ensures

pub returns-else-is_named-clause-meets : goal.returns-else-is_named-clause-meets
returns-else-is_named-clause-meets g c =
    let f = framed c.requires.stands c.args.f.now in
    let d = decl_at (known_of c.requires.stands) c.args.decl in
    let h = head_over (child_at c.args.cx.now c.args.tree) c.args.head in
    let bad = sym c.in_ok-is_named.ensures.name ∙ c.if-is_named.false in
    let begun = reach-first (export-unnamed f d h bad) c.requires.stands in
    reach-wrong c.args.f.now c.args.head.name_place code.TypeNotAllowed c.wrong-else-is_named.result (reach-grows begun c.has_export_name.ensures.reads.grows c.has_export_name.ensures.agrees) c.requires.frame c.wrong-else-is_named.ensures
