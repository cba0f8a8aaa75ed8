use Rattle.std.proofs.Common.{sym, ap}
use Rattle.zw_base.specs.declared.diag.DiagCode.TheVariants as code
use Rattle.type_form.specs.Means.{decl_at}
use Rattle.elab_form.specs.Asking.{not_built}
use Rattle.elab_form.specs.Units.{whole_answer, whole_form}
use Rattle.sema_body.specs.Trees.{tree_at}
use Rattle.sema_body.proofs.DeclareLemmas.{whole-tree, whole-none}
use Rattle.sema_body.proofs.Growth.{IsFrame-grows}
use Rattle.sema_body.proofs.UnitLemmas.{asks-whole, known_of, reach-reframe, reach-wrong-here}
use Rattle.sema_body.proofs.Reaching.{standing, reach-same, reach-asked, halts-asked, reach-ends}
use Rattle.sema_body.proofs.declare.whole_declaration.Goals as goal

pub ask-requires-clause-stands : goal.ask-requires-clause-stands
ask-requires-clause-stands g c = standing c.requires.stands c.decl_frame.ensures.interns.grows c.decl_frame.ensures.agrees

pub returns-in-Some-clause-meets : goal.returns-in-Some-clause-meets
returns-in-Some-clause-meets g c =
    let d = decl_at (known_of c.requires.stands) c.args.decl in
    let begun = asks-whole c.args.decl (whole_answer d) c.requires.stands c.decl_frame.ensures.interns.grows c.decl_frame.ensures.agrees c.requires.decl in
    let heard = reach-asked _ (whole_answer d) c.in-Ok.answer begun c.in-Ok.ensures.interns.grows c.in-Ok.ensures.hears in
    let told = reach-same (whole-tree c.args.cx.now d (known_of c.in-Ok.ensures.hears.stands) c.in-Ok.answer c.in-Some.tree (sym c.in-Some.ensures)) heard in
    let formed = reach-same (ap (λ x. whole_form x (tree_at c.args.cx.now c.in-Some.tree)) (sym c.in_ok-f.ensures.frame.is)) told in
    reach-ends (reach-reframe c.in_ok-f.f (λ x. whole_form x (tree_at c.args.cx.now c.in-Some.tree)) c.in_ok-f.ensures.frame.known c.in-Ok.ensures.interns.grows formed) c.whole_form.ensures.meets

pub returns-clause-meets : goal.returns-clause-meets
returns-clause-meets g c =
    let d = decl_at (known_of c.requires.stands) c.args.decl in
    let begun = asks-whole c.args.decl (whole_answer d) c.requires.stands c.decl_frame.ensures.interns.grows c.decl_frame.ensures.agrees c.requires.decl in
    let heard = reach-asked _ (whole_answer d) c.in-Ok.answer begun c.in-Ok.ensures.interns.grows c.in-Ok.ensures.hears in
    let told = reach-same (whole-none c.args.cx.now d (known_of c.in-Ok.ensures.hears.stands) c.in-Ok.answer (sym c.in-None.ensures)) heard in
    let formed = reach-same (ap (λ x. not_built x 0) (sym c.in_ok-f.ensures.frame.is)) told in
    let here = reach-reframe c.in_ok-f.f (λ x. not_built x 0) c.in_ok-f.ensures.frame.known c.in-Ok.ensures.interns.grows formed in
    reach-wrong-here c.in_ok-f.f 0 code.NotBuilt c.wrong.result here (IsFrame-grows _ _ c.in-Ok.ensures.interns.grows c.in_ok-f.f c.in_ok-f.ensures.frame.known) c.wrong.ensures

pub returns-in-Err-clause-meets : goal.returns-in-Err-clause-meets
returns-in-Err-clause-meets g c =
    let d = decl_at (known_of c.requires.stands) c.args.decl in
    reach-ends (asks-whole c.args.decl (whole_answer d) c.requires.stands c.decl_frame.ensures.interns.grows c.decl_frame.ensures.agrees c.requires.decl)
    (halts-asked _ _ _ (whole_answer d) c.in-Err.halt c.in-Err.ensures.hears)
