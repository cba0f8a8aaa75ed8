use Rattle.std.proofs.Common.{sym, ap, ◌∙◌}
use Rattle.zw_base.specs.declared.diag.DiagCode.TheVariants as code
use Rattle.type_form.specs.Means.{decl_at, ty_at}
use Rattle.trace_log.specs.declared.question.UnitIndex.TheVariants as index
use Rattle.sema_body.proofs.DeclareLemmas.{exports, exports-not, export-made, reach-refers}
use Rattle.sema_body.proofs.UnitLemmas.{framed, known_of}
use Rattle.sema_body.proofs.Reaching.{reach-first, reach-grows, reach-gives, reach-wrong}
use Rattle.sema_body.proofs.declare.exported_result.Goals as goal

pub returns-in_ok-push_referred-clause-meets : goal.returns-in_ok-push_referred-clause-meets
returns-in_ok-push_referred-clause-meets g c =
    let begun = reach-first (exports (framed c.requires.stands c.args.f.now) (decl_at (known_of c.requires.stands) c.args.decl) c.args.place (ty_at (known_of c.requires.stands) c.args.ty) (sym c.is_exportable.ensures.exportable ∙ c.if-is_exportable.true)) c.requires.stands in
    let read = reach-grows begun c.is_exportable.ensures.reads.grows c.is_exportable.ensures.agrees in
    let valued = reach-grows read c.function_value.ensures.interns.grows c.function_value.ensures.agrees in
    let named = reach-grows valued c.only_instance.ensures.interns.grows c.only_instance.ensures.agrees in
    let made = export-made _ _ _ _ _ _ _ c.is_exportable.ensures.reads.grows c.function_value.ensures.interns.grows c.only_instance.ensures.interns.grows c.requires.decl c.in_ok-value.ensures.value c.in_ok-code.ensures.instance in
    let referred = reach-refers _ (index.Code c.in_ok-code.code) _ _ named c.in_ok-code.ensures.instance.known made.0 (ap (λ t. record c.args.s.now { trace = t }) c.in_ok-push_referred.ensures.ok) in
    reach-gives _ _ referred made.1 made.2

pub returns-else-is_exportable-clause-meets : goal.returns-else-is_exportable-clause-meets
returns-else-is_exportable-clause-meets g c =
    let begun = reach-first (exports-not (framed c.requires.stands c.args.f.now) (decl_at (known_of c.requires.stands) c.args.decl) c.args.place (ty_at (known_of c.requires.stands) c.args.ty) (sym c.is_exportable.ensures.exportable ∙ c.if-is_exportable.false)) c.requires.stands in
    reach-wrong c.args.f.now c.args.place code.TypeNotAllowed c.wrong.result (reach-grows begun c.is_exportable.ensures.reads.grows c.is_exportable.ensures.agrees) c.requires.frame c.wrong.ensures
