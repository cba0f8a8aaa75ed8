use Rattle.zw_base.specs.declared.diag.DiagCode.TheVariants as code
use Rattle.sema_body.specs.Trees.{tree_at, child_at}
use Rattle.sema_body.proofs.FunctionLemmas.{form-some, form-none}
use Rattle.sema_body.proofs.UnitLemmas.{framed}
use Rattle.sema_body.proofs.Reaching.{reach-first, reach-ends, reach-wrong}
use Rattle.sema_body.proofs.function_body.body_form.Goals as goal

pub returns-in-Some-clause-meets : goal.returns-in-Some-clause-meets
returns-in-Some-clause-meets g c =
    let at = child_at c.args.cx.now c.args.tree in
    let parts = form-some (framed c.requires.stands c.args.f.now) (tree_at c.args.cx.now c.args.tree) (at c.in-Some.head) (at c.in-Some.line) c.in-Some.ensures in
    reach-ends (reach-first parts c.requires.stands) c.body_by.ensures.meets

pub returns-in-None-clause-meets : goal.returns-in-None-clause-meets
returns-in-None-clause-meets g c =
    let left = form-none (framed c.requires.stands c.args.f.now) (tree_at c.args.cx.now c.args.tree) c.in-None.ensures in
    reach-wrong c.args.f.now 0 code.NotBuilt c.wrong.result (reach-first left c.requires.stands) c.requires.frame c.wrong.ensures
