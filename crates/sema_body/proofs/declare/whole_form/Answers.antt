use Rattle.std.proofs.Common.{sym, ap, ◌∙◌}
use Rattle.zw_base.specs.declared.diag.DiagCode.TheVariants as code
use Rattle.elab_form.specs.Asking.{not_built}
use Rattle.sema_body.specs.Trees.{tree_at, child_at}
use Rattle.sema_body.proofs.DeclareLemmas.{whole-some, whole-other}
use Rattle.sema_body.proofs.UnitLemmas.{framed}
use Rattle.sema_body.proofs.Reaching.{reach-first, reach-ends, reach-wrong}
use Rattle.sema_body.proofs.declare.whole_form.Goals as goal

pub returns-in-Some-clause-meets : goal.returns-in-Some-clause-meets
returns-in-Some-clause-meets g c =
    let at = child_at c.args.cx.now c.args.tree in
    let parts = whole-some (framed c.requires.stands c.args.f.now) (tree_at c.args.cx.now c.args.tree) (at c.in-Some.ty) (at c.in-Some.value) c.in-Some.ensures in
    reach-ends (reach-first parts c.requires.stands) c.constant_form.ensures.meets

pub returns-in-None-clause-meets : goal.returns-in-None-clause-meets
returns-in-None-clause-meets g c =
    let f = framed c.requires.stands c.args.f.now in
    let other = whole-other f (tree_at c.args.cx.now c.args.tree) c.in-None.ensures ∙ ap (λ x. not_built f x) (sym c.tree_place.ensures) in
    reach-wrong c.args.f.now c.tree_place.result code.NotBuilt c.wrong.result (reach-first other c.requires.stands) c.requires.frame c.wrong.ensures
