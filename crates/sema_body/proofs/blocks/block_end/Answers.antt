use Rattle.std.proofs.Common.{sym, ◌∙◌}
use Rattle.zw_base.specs.declared.diag.DiagCode.TheVariants as code
use Rattle.sema_body.proofs.FormLemmas.{end-never, end-void, end-later}
use Rattle.sema_body.proofs.Growth.{IsOperand-grows, operand-grows}
use Rattle.sema_body.proofs.Reaching.{standing, reach-first, reach-grows, reach-gives, reach-ends, reach-wrong}
use Rattle.sema_body.proofs.blocks.block_end.Goals as goal

pub void_form-requires : goal.void_form-requires
void_form-requires g c = record { stands = standing c.requires.stands c.is_never.ensures.reads.grows c.is_never.ensures.agrees }

pub returns-then-is_never-clause-meets : goal.returns-then-is_never-clause-meets
returns-then-is_never-clause-meets g c =
    let begun = reach-first (end-never _ _ _ _ (sym c.is_never.ensures.never ∙ c.if-is_never.true)) c.requires.stands in
    reach-gives c.args.o _ (reach-grows begun c.is_never.ensures.reads.grows c.is_never.ensures.agrees)
    (IsOperand-grows _ _ c.is_never.ensures.reads.grows c.args.s.now c.args.o c.requires.operand) (operand-grows _ _ c.is_never.ensures.reads.grows c.args.s.now c.args.o c.requires.stands.body c.requires.operand)

pub returns-then-is_absent-clause-meets : goal.returns-then-is_absent-clause-meets
returns-then-is_absent-clause-meets g c =
    let begun = reach-first (end-void _ _ _ _ (sym c.is_never.ensures.never ∙ c.if-is_never.false) (sym c.is_absent.ensures ∙ c.if-is_absent.true)) c.requires.stands in
    reach-ends (reach-grows begun c.is_never.ensures.reads.grows c.is_never.ensures.agrees) c.void_form.ensures.meets

pub returns-else-is_absent-clause-meets : goal.returns-else-is_absent-clause-meets
returns-else-is_absent-clause-meets g c =
    let begun = reach-first (end-later _ _ _ _ (sym c.is_never.ensures.never ∙ c.if-is_never.false) (sym c.is_absent.ensures ∙ c.if-is_absent.false)) c.requires.stands in
    reach-wrong c.args.f.now c.args.place code.NotBuilt c.wrong.result (reach-grows begun c.is_never.ensures.reads.grows c.is_never.ensures.agrees) c.requires.frame c.wrong.ensures
