use Rattle.std.proofs.Common.{sym, ap}
use Rattle.type_form.specs.Means.{decl_at}
use Rattle.elab_form.specs.Asking.{asking}
use Rattle.elab_form.specs.Questions.{text, whole}
use Rattle.elab_form.specs.Units.{head_answer, head_form, whole_answer}
use Rattle.sema_body.specs.Trees.{tree_at}
use Rattle.sema_body.proofs.DeclareLemmas.{head-tree, head-none, decl-kept}
use Rattle.sema_body.proofs.UnitLemmas.{asks-head, framed, known_of, reach-reframe}
use Rattle.sema_body.proofs.Reaching.{standing, reach-same, reach-asked, halts-asked, reach-ends}
use Rattle.sema_body.proofs.declare.declaration.Goals as goal

pub ask-requires-clause-stands : goal.ask-requires-clause-stands
ask-requires-clause-stands g c = standing c.requires.stands c.decl_frame.ensures.interns.grows c.decl_frame.ensures.agrees

pub returns-in-Some-clause-meets : goal.returns-in-Some-clause-meets
returns-in-Some-clause-meets g c =
    let d = decl_at (known_of c.requires.stands) c.args.decl in
    let begun = asks-head c.args.decl (head_answer d) c.requires.stands c.decl_frame.ensures.interns.grows c.decl_frame.ensures.agrees c.requires.decl in
    let heard = reach-asked _ (head_answer d) c.in-Ok.answer begun c.in-Ok.ensures.interns.grows c.in-Ok.ensures.hears in
    let told = reach-same (head-tree c.args.cx.now d (known_of c.in-Ok.ensures.hears.stands) c.in-Ok.answer c.in-Some.tree (sym c.in-Some.ensures)) heard in
    let formed = reach-same (ap (λ x. head_form x d (tree_at c.args.cx.now c.in-Some.tree)) (sym c.in_ok-f.ensures.frame.is)) told in
    let here = reach-reframe c.in_ok-f.f (λ x. head_form x d (tree_at c.args.cx.now c.in-Some.tree)) c.in_ok-f.ensures.frame.known c.in-Ok.ensures.interns.grows formed in
    reach-ends (reach-same (ap (λ x. head_form (framed here.stands c.in_ok-f.f) x (tree_at c.args.cx.now c.in-Some.tree)) (sym (decl-kept _ _ _ _ c.decl_frame.ensures.interns.grows c.in-Ok.ensures.interns.grows c.requires.decl))) here) c.head_form.ensures.meets

pub returns-clause-meets : goal.returns-clause-meets
returns-clause-meets g c =
    let d = decl_at (known_of c.requires.stands) c.args.decl in
    let begun = asks-head c.args.decl (head_answer d) c.requires.stands c.decl_frame.ensures.interns.grows c.decl_frame.ensures.agrees c.requires.decl in
    let heard = reach-asked _ (head_answer d) c.in-Ok.answer begun c.in-Ok.ensures.interns.grows c.in-Ok.ensures.hears in
    let told = reach-same (head-none c.args.cx.now d (known_of c.in-Ok.ensures.hears.stands) c.in-Ok.answer (sym c.in-None.ensures)) heard in
    reach-ends (reach-same (ap (λ x. asking (text (whole x)) (whole_answer x)) (sym (decl-kept _ _ _ _ c.decl_frame.ensures.interns.grows c.in-Ok.ensures.interns.grows c.requires.decl))) told) c.whole_declaration.ensures.meets

pub returns-in-Err-clause-meets : goal.returns-in-Err-clause-meets
returns-in-Err-clause-meets g c =
    let d = decl_at (known_of c.requires.stands) c.args.decl in
    reach-ends (asks-head c.args.decl (head_answer d) c.requires.stands c.decl_frame.ensures.interns.grows c.decl_frame.ensures.agrees c.requires.decl)
    (halts-asked _ _ _ (head_answer d) c.in-Err.halt c.in-Err.ensures.hears)
