use Rattle.std.proofs.Common.{refl, sym, ap₂, None}
use Rattle.type_form.specs.Means.{ty_at}
use Rattle.elab_form.specs.Asking.{seq}
use Rattle.elab_form.specs.Units.{body_end, written_body}
use Rattle.sema_body.specs.Trees.{child_at}
use Rattle.sema_body.proofs.FunctionLemmas.{typed-frame}
use Rattle.sema_body.proofs.UnitLemmas.{frame-later, framed, known_of, reach-goes-as, result-frame}
use Rattle.sema_body.proofs.Reaching.{reach-first, reach-halts, reach-ends}
use Rattle.sema_body.proofs.function_body.body_with.Goals as goal

pub expression-requires-clause-frame : goal.expression-requires-clause-frame
expression-requires-clause-frame g c = typed-frame _ c.args.f.now _ c.args.ty c.with_result-of.ensures c.requires.frame c.requires.ty

pub returns-in-Ok-clause-meets : goal.returns-in-Ok-clause-meets
returns-in-Ok-clause-meets g c =
    let grown = c.in-Ok.ensures.interns.grows in
    let f = framed c.requires.stands c.args.f.now in
    let t = ty_at (known_of c.requires.stands) c.args.ty in
    let met = result-frame (known_of c.requires.stands) c.args.s.now c.args.f.now c.with_result-of.result c.args.ty None (child_at c.args.cx.now c.args.tree c.args.line) c.with_result-of.ensures c.in-Ok.ensures.meets in
    let later = framed c.in-Ok.ensures.meets.stands c.args.f.now in
    let u = ty_at (known_of c.in-Ok.ensures.meets.stands) c.args.ty in
    let given = reach-goes-as _ (λ o. seq (body_end f c.args.place t o) (λ _. written_body t)) (λ o. seq (body_end later c.args.place u o) (λ _. written_body u)) c.in-Ok.o (λ o. ap₂ (λ x y. seq (body_end x c.args.place y o) (λ _. written_body y)) (frame-later c.args.f.now grown c.requires.frame) (sym (grown.stays.ty c.args.ty c.requires.ty))) (reach-first refl c.requires.stands) grown met in
    reach-ends given c.ended_body.ensures.meets

pub returns-in-Err-clause-meets : goal.returns-in-Err-clause-meets
returns-in-Err-clause-meets g c =
    let f = framed c.requires.stands c.args.f.now in
    let t = ty_at (known_of c.requires.stands) c.args.ty in
    let met = result-frame (known_of c.requires.stands) c.args.s.now c.args.f.now c.with_result-of.result c.args.ty None (child_at c.args.cx.now c.args.tree c.args.line) c.with_result-of.ensures c.in-Err.ensures.meets in
    reach-halts _ (λ o. seq (body_end f c.args.place t o) (λ _. written_body t)) c.in-Err.halt (reach-first refl c.requires.stands) met
