use Rattle.std.proofs.Common.{sym, ap}
use Rattle.zw_base.specs.declared.diag.DiagCode.TheVariants as code
use Rattle.elab_form.specs.Units.{body_typed}
use Rattle.sema_body.specs.Heads.{head_over}
use Rattle.sema_body.specs.Trees.{child_at}
use Rattle.sema_body.proofs.FunctionLemmas.{body-plain, body-later, body-other}
use Rattle.sema_body.proofs.UnitLemmas.{framed}
use Rattle.sema_body.proofs.Reaching.{reach-first, reach-same, reach-ends, reach-wrong}
use Rattle.sema_body.proofs.function_body.body_by.Goals as goal

pub returns-then-parts-clause-meets : goal.returns-then-parts-clause-meets
returns-then-parts-clause-meets g c =
    let f = framed c.requires.stands c.args.f.now in
    let b = child_at c.args.cx.now c.args.tree c.args.line in
    let h = head_over (child_at c.args.cx.now (record { front = c.args.tree.front; line = c.args.head })) c.in-Some.parts in
    let begun = reach-first (body-plain f (child_at c.args.cx.now c.args.tree c.args.head) b h c.in-Some.ensures c.if-parts.true) c.requires.stands in
    let moved = reach-same (ap (λ x. body_typed f h.place (child_at c.args.cx.now x c.in-Some.parts.mark) (child_at c.args.cx.now x c.in-Some.parts.result) b) (sym c.line_at.ensures)) begun in
    reach-ends moved c.body_typed.ensures.meets

pub returns-else-parts-clause-meets : goal.returns-else-parts-clause-meets
returns-else-parts-clause-meets g c =
    let f = framed c.requires.stands c.args.f.now in
    let b = child_at c.args.cx.now c.args.tree c.args.line in
    let h = head_over (child_at c.args.cx.now (record { front = c.args.tree.front; line = c.args.head })) c.in-Some.parts in
    let left = reach-first (body-later f (child_at c.args.cx.now c.args.tree c.args.head) b h c.in-Some.ensures c.if-parts.false) c.requires.stands in
    reach-wrong c.args.f.now c.in-Some.parts.name_place code.NotBuilt c.wrong.result left c.requires.frame c.wrong.ensures

pub returns-in-None-clause-meets : goal.returns-in-None-clause-meets
returns-in-None-clause-meets g c =
    let f = framed c.requires.stands c.args.f.now in
    let b = child_at c.args.cx.now c.args.tree c.args.line in
    let left = reach-first (body-other f (child_at c.args.cx.now c.args.tree c.args.head) b c.in-None.ensures) c.requires.stands in
    reach-wrong c.args.f.now 0 code.NotBuilt c.wrong-in-None.result left c.requires.frame c.wrong-in-None.ensures
