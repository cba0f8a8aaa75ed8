use Rattle.std.proofs.Common.{refl}
use Rattle.zw_base.specs.declared.diag.DiagCode.TheVariants as code
use Rattle.sema_body.proofs.UnitLemmas.{framed, known_of, known-is, known-run}
use Rattle.sema_body.proofs.Reaching.{reach-first, reach-gives, reach-wrong}
use Rattle.sema_body.proofs.units.known_value.Goals as goal

pub returns-in-Known-clause-meets : goal.returns-in-Known-clause-meets
returns-in-Known-clause-meets g c =
    let is = rw c.in-Known.is at c.requires.operand in
    let found = known-is (known_of c.requires.stands) c.args.s.now (framed c.requires.stands c.args.f.now) c.args.place c.args.o c.in-Known.value c.in-Known.is in
    reach-gives _ _ (reach-first found c.requires.stands) is refl

pub returns-in-Run-clause-meets : goal.returns-in-Run-clause-meets
returns-in-Run-clause-meets g c =
    let left = known-run (known_of c.requires.stands) c.args.s.now (framed c.requires.stands c.args.f.now) c.args.place c.args.o _ _ c.in-Run.is in
    reach-wrong c.args.f.now c.args.place code.NotComptimeKnown c.wrong.result (reach-first left c.requires.stands) c.requires.frame c.wrong.ensures
