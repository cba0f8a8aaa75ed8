use Rattle.std.proofs.Common.{sym, ap}
use Rattle.zw_base.specs.declared.diag.DiagCode.TheVariants as code
use Rattle.type_form.specs.Means.{decl_at}
use Rattle.type_form.proofs.MeansLemmas.{Grows-trans}
use Rattle.elab_form.specs.Asking.{asking, not_built}
use Rattle.elab_form.specs.Questions.{text, whole}
use Rattle.elab_form.specs.Units.{body_answer, body_form, frame}
use Rattle.sema_body.specs.Trees.{tree_at}
use Rattle.sema_body.proofs.FunctionLemmas.{body-tree, body-none}
use Rattle.sema_body.proofs.Growth.{IsFrame-grows}
use Rattle.sema_body.proofs.UnitLemmas.{known_of, reach-whole, reach-reframe, reach-wrong-here}
use Rattle.sema_body.proofs.Reaching.{standing, reach-first, reach-same, reach-asked, halts-asked, reach-ends}
use Rattle.sema_body.proofs.function_body.body_of.Goals as goal

pub ask-requires-clause-stands : goal.ask-requires-clause-stands
ask-requires-clause-stands g c = standing c.requires.stands (Grows-trans _ _ _ c.instance_decl-decl.ensures.reads.grows c.decl_frame.ensures.interns.grows) c.decl_frame.ensures.agrees

pub returns-in-Some-clause-meets : goal.returns-in-Some-clause-meets
returns-in-Some-clause-meets g c =
    let d = decl_at (known_of c.requires.stands) c.instance_decl-decl.result in
    let grown = Grows-trans _ _ _ c.instance_decl-decl.ensures.reads.grows c.decl_frame.ensures.interns.grows in
    let begun = reach-first (ap (λ x. asking (text (whole x)) (body_answer x)) (sym c.instance_decl-decl.ensures.decl)) c.requires.stands in
    let asks = reach-whole c.instance_decl-decl.result (body_answer d) begun grown c.decl_frame.ensures.agrees c.instance_decl-decl.ensures.known in
    let heard = reach-asked _ (body_answer d) c.in-Ok.answer asks c.in-Ok.ensures.interns.grows c.in-Ok.ensures.hears in
    let told = reach-same (body-tree c.args.cx.now d (known_of c.in-Ok.ensures.hears.stands) c.in-Ok.answer c.in-Some.tree (sym c.in-Some.ensures)) heard in
    let named = reach-same (ap (λ x. body_form (frame (whole x) x) (tree_at c.args.cx.now c.in-Some.tree)) (sym (c.instance_decl-decl.ensures.reads.grows.stays.decl _ c.instance_decl-decl.ensures.known))) told in
    let formed = reach-same (ap (λ x. body_form x (tree_at c.args.cx.now c.in-Some.tree)) (sym c.in_ok-f.ensures.frame.is)) named in
    reach-ends (reach-reframe c.in_ok-f.f (λ x. body_form x (tree_at c.args.cx.now c.in-Some.tree)) c.in_ok-f.ensures.frame.known c.in-Ok.ensures.interns.grows formed) c.body_form.ensures.meets

pub returns-clause-meets : goal.returns-clause-meets
returns-clause-meets g c =
    let d = decl_at (known_of c.requires.stands) c.instance_decl-decl.result in
    let grown = Grows-trans _ _ _ c.instance_decl-decl.ensures.reads.grows c.decl_frame.ensures.interns.grows in
    let begun = reach-first (ap (λ x. asking (text (whole x)) (body_answer x)) (sym c.instance_decl-decl.ensures.decl)) c.requires.stands in
    let asks = reach-whole c.instance_decl-decl.result (body_answer d) begun grown c.decl_frame.ensures.agrees c.instance_decl-decl.ensures.known in
    let heard = reach-asked _ (body_answer d) c.in-Ok.answer asks c.in-Ok.ensures.interns.grows c.in-Ok.ensures.hears in
    let told = reach-same (body-none c.args.cx.now d (known_of c.in-Ok.ensures.hears.stands) c.in-Ok.answer (sym c.in-None.ensures)) heard in
    let named = reach-same (ap (λ x. not_built (frame (whole x) x) 0) (sym (c.instance_decl-decl.ensures.reads.grows.stays.decl _ c.instance_decl-decl.ensures.known))) told in
    let formed = reach-same (ap (λ x. not_built x 0) (sym c.in_ok-f.ensures.frame.is)) named in
    let here = reach-reframe c.in_ok-f.f (λ x. not_built x 0) c.in_ok-f.ensures.frame.known c.in-Ok.ensures.interns.grows formed in
    reach-wrong-here c.in_ok-f.f 0 code.NotBuilt c.wrong.result here (IsFrame-grows _ _ c.in-Ok.ensures.interns.grows c.in_ok-f.f c.in_ok-f.ensures.frame.known) c.wrong.ensures

pub returns-in-Err-clause-meets : goal.returns-in-Err-clause-meets
returns-in-Err-clause-meets g c =
    let d = decl_at (known_of c.requires.stands) c.instance_decl-decl.result in
    let grown = Grows-trans _ _ _ c.instance_decl-decl.ensures.reads.grows c.decl_frame.ensures.interns.grows in
    let begun = reach-first (ap (λ x. asking (text (whole x)) (body_answer x)) (sym c.instance_decl-decl.ensures.decl)) c.requires.stands in
    reach-ends (reach-whole c.instance_decl-decl.result (body_answer d) begun grown c.decl_frame.ensures.agrees c.instance_decl-decl.ensures.known)
    (halts-asked _ _ _ (body_answer d) c.in-Err.halt c.in-Err.ensures.hears)
