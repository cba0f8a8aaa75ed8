use Rattle.zw_base.specs.declared.diag.DiagCode.TheVariants as code
use Rattle.type_form.specs.declared.tree.Arg.TheViews.{out-Value}
use Rattle.type_form.specs.Means.{value_at}
use Rattle.sema_body.proofs.UnitLemmas.{framed, known_of, type-is, type-none}
use Rattle.sema_body.proofs.Reaching.{reach-first, reach-grows, reach-gives, reach-wrong}
use Rattle.sema_body.proofs.units.type_by.Goals as goal

pub returns-in-Some-clause-meets : goal.returns-in-Some-clause-meets
returns-in-Some-clause-meets g c =
    let found = c.in-Some.ensures.ty in
    let grown = c.in-Some.ensures.reads.grows in
    reach-gives _ _ (reach-grows (reach-first (type-is (framed c.requires.stands c.args.f.now) c.args.place (out-Value (value_at (known_of c.requires.stands) c.args.value)) _ found.1) c.requires.stands) grown c.in-Some.ensures.agrees) (grown.stays.is_ty _ found.0) (grown.stays.ty _ found.0)

pub returns-in-None-clause-meets : goal.returns-in-None-clause-meets
returns-in-None-clause-meets g c =
    reach-wrong c.args.f.now c.args.place code.UndefinedUsed c.wrong.result (reach-grows (reach-first (type-none (framed c.requires.stands c.args.f.now) c.args.place (out-Value (value_at (known_of c.requires.stands) c.args.value)) c.in-None.ensures.ty) c.requires.stands) c.in-None.ensures.reads.grows c.in-None.ensures.agrees) c.requires.frame c.wrong.ensures
