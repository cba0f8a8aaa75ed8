use Rattle.std.proofs.Common.{sym, ◌∙◌}
use Rattle.zw_base.specs.declared.diag.DiagCode.TheVariants as code
use Rattle.sema_body.specs.declared.halt.Operand.TheVariants as operand
use Rattle.sema_body.proofs.Growth.{operand-grows, IsOperand-grows}
use Rattle.sema_body.proofs.FitLemmas.{fitted-never, fitted-later}
use Rattle.sema_body.proofs.Reaching.{reach-first, reach-grows, reach-gives, reach-wrong}
use Rattle.sema_body.proofs.coercion.fitted_to.Goals as goal

pub returns-then-is_noreturn-clause-meets : goal.returns-then-is_noreturn-clause-meets
returns-then-is_noreturn-clause-meets g c =
    let ran = rw c.in-Run.is at c.requires.operand in
    let begun = reach-first (fitted-never _ c.args.s.now _ _ _ _ _ _ c.in-Run.is (sym c.is_noreturn.ensures.noreturn ∙ c.if-is_noreturn.true)) c.requires.stands in
    reach-gives _ _ (reach-grows begun c.is_noreturn.ensures.reads.grows c.is_noreturn.ensures.agrees)
    (IsOperand-grows _ _ c.is_noreturn.ensures.reads.grows c.args.s.now (operand.Run c.in-Run.own c.in-Run.at) ran)
    (operand-grows _ _ c.is_noreturn.ensures.reads.grows c.args.s.now (operand.Run c.in-Run.own c.in-Run.at) c.requires.stands.body ran)

pub returns-else-is_noreturn-clause-meets : goal.returns-else-is_noreturn-clause-meets
returns-else-is_noreturn-clause-meets g c =
    let begun = reach-first (fitted-later _ c.args.s.now _ _ _ _ _ _ c.in-Run.is (sym c.is_noreturn.ensures.noreturn ∙ c.if-is_noreturn.false)) c.requires.stands in
    reach-wrong c.args.f.now c.args.place code.NotBuilt c.wrong.result (reach-grows begun c.is_noreturn.ensures.reads.grows c.is_noreturn.ensures.agrees) c.requires.frame c.wrong.ensures
