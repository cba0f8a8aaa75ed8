use Rattle.std.proofs.Common.{sym, ap, ◌∙◌}
use Rattle.zw_base.specs.declared.diag.DiagCode.TheVariants as code
use Rattle.type_form.specs.Means.{decl_at}
use Rattle.elab_form.specs.Asking.{not_built}
use Rattle.sema_body.specs.Heads.{head_over}
use Rattle.sema_body.specs.Trees.{tree_at, child_at}
use Rattle.sema_body.proofs.DeclareLemmas.{head-some, head-other}
use Rattle.sema_body.proofs.UnitLemmas.{framed, known_of}
use Rattle.sema_body.proofs.Reaching.{reach-first, reach-ends, reach-wrong}
use Rattle.sema_body.proofs.declare.head_form.Goals as goal

pub returns-in-Some-clause-meets : goal.returns-in-Some-clause-meets
returns-in-Some-clause-meets g c =
    let d = decl_at (known_of c.requires.stands) c.args.decl in
    let parts = head-some (framed c.requires.stands c.args.f.now) d (tree_at c.args.cx.now c.args.tree) (head_over (child_at c.args.cx.now c.args.tree) c.in-Some.head) c.in-Some.ensures in
    reach-ends (reach-first parts c.requires.stands) c.function_form.ensures.meets

pub returns-in-None-clause-meets : goal.returns-in-None-clause-meets
returns-in-None-clause-meets g c =
    let f = framed c.requires.stands c.args.f.now in
    let d = decl_at (known_of c.requires.stands) c.args.decl in
    let other = head-other f d (tree_at c.args.cx.now c.args.tree) c.in-None.ensures ∙ ap (λ x. not_built f x) (sym c.tree_place.ensures) in
    reach-wrong c.args.f.now c.tree_place.result code.NotBuilt c.wrong.result (reach-first other c.requires.stands) c.requires.frame c.wrong.ensures
