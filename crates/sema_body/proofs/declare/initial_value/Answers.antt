use Rattle.std.proofs.Common.{sym, ap, ◌∙◌, Some}
use Rattle.elab_form.specs.Units.{value_form}
use Rattle.sema_body.specs.Trees.{child_at}
use Rattle.sema_body.proofs.DeclareLemmas.{initial-free, initial-typed}
use Rattle.sema_body.proofs.UnitLemmas.{frame-later, framed, reach-goes-as}
use Rattle.sema_body.proofs.Reaching.{reach-first, reach-halts, reach-ends}
use Rattle.sema_body.proofs.declare.initial_value.Goals as goal

pub returns-then-is_absent-clause-meets : goal.returns-then-is_absent-clause-meets
returns-then-is_absent-clause-meets g c =
    let of = child_at c.args.cx.now c.args.tree c.args.ty in
    let value = child_at c.args.cx.now c.args.tree c.args.value in
    reach-ends (reach-first (initial-free (framed c.requires.stands c.args.f.now) of value (sym c.is_absent.ensures ∙ c.if-is_absent.true)) c.requires.stands) c.value_form.ensures.meets

pub returns-in-Ok-clause-meets : goal.returns-in-Ok-clause-meets
returns-in-Ok-clause-meets g c =
    let of = child_at c.args.cx.now c.args.tree c.args.ty in
    let value = child_at c.args.cx.now c.args.tree c.args.value in
    let f = framed c.requires.stands c.args.f.now in
    let begun = reach-first (initial-typed f of value (sym c.is_absent.ensures ∙ c.if-is_absent.false)) c.requires.stands in
    let later = framed c.in-Ok.ensures.meets.stands c.args.f.now in
    let typed = reach-goes-as _ (λ s. value_form f (Some s) value) (λ s. value_form later (Some s) value) c.in-Ok.of (λ s. ap (λ x. value_form x (Some s) value) (frame-later c.args.f.now c.in-Ok.ensures.interns.grows c.requires.frame)) begun c.in-Ok.ensures.interns.grows c.in-Ok.ensures.meets in
    reach-ends typed c.value_form-in-Ok.ensures.meets

pub returns-in-Err-clause-meets : goal.returns-in-Err-clause-meets
returns-in-Err-clause-meets g c =
    let of = child_at c.args.cx.now c.args.tree c.args.ty in
    let value = child_at c.args.cx.now c.args.tree c.args.value in
    let f = framed c.requires.stands c.args.f.now in
    let begun = reach-first (initial-typed f of value (sym c.is_absent.ensures ∙ c.if-is_absent.false)) c.requires.stands in
    reach-halts _ (λ s. value_form f (Some s) value) c.in-Err.halt begun c.in-Err.ensures.meets
