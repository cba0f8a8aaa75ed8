use Rattle.std.proofs.Common.{refl, sym, ap, ◌∙◌}
use Rattle.zw_base.specs.declared.diag.DiagCode.TheVariants as code
use Rattle.type_form.specs.declared.tree.Ty.{out-Ty}
use Rattle.type_form.specs.Means.{ty_at}
use Rattle.elab_form.specs.Coercion.{is_void}
use Rattle.sema_body.specs.Meets.{operand_at}
use Rattle.sema_body.proofs.FunctionLemmas.{end-never, end-void, end-without, bare-return}
use Rattle.sema_body.proofs.UnitLemmas.{framed, known_of}
use Rattle.sema_body.proofs.Reaching.{reach-first, reach-grows, reach-gives, reach-ends, reach-wrong}
use Rattle.sema_body.proofs.function_body.body_end.Goals as goal

pub returns-then-is_never-clause-meets : goal.returns-then-is_never-clause-meets
returns-then-is_never-clause-meets g c =
    let f = framed c.requires.stands c.args.f.now in
    let t = ty_at (known_of c.requires.stands) c.args.ty in
    let o = operand_at (known_of c.requires.stands) c.args.s.now c.args.o in
    let begun = reach-first (end-never f c.args.place t o (sym c.is_never.ensures.never ∙ c.if-is_never.true)) c.requires.stands in
    reach-gives _ _ (reach-grows begun c.is_never.ensures.reads.grows c.is_never.ensures.agrees) tt refl

pub returns-in_ok-act-clause-meets : goal.returns-in_ok-act-clause-meets
returns-in_ok-act-clause-meets g c =
    let f = framed c.requires.stands c.args.f.now in
    let t = ty_at (known_of c.requires.stands) c.args.ty in
    let o = operand_at (known_of c.requires.stands) c.args.s.now c.args.o in
    let same = ap (λ x. is_void (out-Ty x)) (sym (c.is_never.ensures.reads.grows.stays.ty _ c.requires.ty)) in
    let begun = reach-first (end-void f c.args.place t o (sym c.is_never.ensures.never ∙ c.if-is_never.false) (same ∙ sym c.is_void.ensures.void ∙ c.if-is_void.true)) c.requires.stands in
    let read = reach-grows (reach-grows begun c.is_never.ensures.reads.grows c.is_never.ensures.agrees) c.is_void.ensures.reads.grows c.is_void.ensures.agrees in
    reach-ends read (bare-return _ _ _ _ _ _ read.stands c.in_ok-statement.ensures.put c.in_ok-statement.ensures.number c.in_ok-act.ensures.put)

pub returns-else-is_void-clause-meets : goal.returns-else-is_void-clause-meets
returns-else-is_void-clause-meets g c =
    let f = framed c.requires.stands c.args.f.now in
    let t = ty_at (known_of c.requires.stands) c.args.ty in
    let o = operand_at (known_of c.requires.stands) c.args.s.now c.args.o in
    let same = ap (λ x. is_void (out-Ty x)) (sym (c.is_never.ensures.reads.grows.stays.ty _ c.requires.ty)) in
    let begun = reach-first (end-without f c.args.place t o (sym c.is_never.ensures.never ∙ c.if-is_never.false) (same ∙ sym c.is_void.ensures.void ∙ c.if-is_void.false)) c.requires.stands in
    let read = reach-grows (reach-grows begun c.is_never.ensures.reads.grows c.is_never.ensures.agrees) c.is_void.ensures.reads.grows c.is_void.ensures.agrees in
    reach-wrong c.args.f.now c.args.place code.EndsWithoutValue c.wrong.result read c.requires.frame c.wrong.ensures
