use Rattle.std.proofs.Common.{sym, ap, ◌∙◌}
use Rattle.elab_form.specs.Control.{dropping_code}
use Rattle.sema_body.proofs.FormLemmas.{drop-given, drop-wrong}
use Rattle.sema_body.proofs.Growth.{IsOperand-grows, operand-grows}
use Rattle.sema_body.proofs.Reaching.{reach-first, reach-grows, reach-gives, reach-wrong}
use Rattle.sema_body.proofs.blocks.dropped.Goals as goal

pub dropping_code-code-requires : goal.dropping_code-code-requires
dropping_code-code-requires g c = record {
  operand = IsOperand-grows _ _ c.may_drop.ensures.reads.grows c.args.s.now c.args.o c.requires.operand;
  agrees = c.may_drop.ensures.agrees;
}

pub returns-then-may_drop-clause-meets : goal.returns-then-may_drop-clause-meets
returns-then-may_drop-clause-meets g c =
    let begun = reach-first (drop-given _ _ _ (sym c.may_drop.ensures.drop ∙ c.if-may_drop.true)) c.requires.stands in
    reach-gives c.args.o _ (reach-grows begun c.may_drop.ensures.reads.grows c.may_drop.ensures.agrees)
    (IsOperand-grows _ _ c.may_drop.ensures.reads.grows c.args.s.now c.args.o c.requires.operand) (operand-grows _ _ c.may_drop.ensures.reads.grows c.args.s.now c.args.o c.requires.stands.body c.requires.operand)

pub returns-else-may_drop-clause-meets : goal.returns-else-may_drop-clause-meets
returns-else-may_drop-clause-meets g c =
    let stays = operand-grows _ _ c.may_drop.ensures.reads.grows c.args.s.now c.args.o c.requires.stands.body c.requires.operand in
    let told = c.dropping_code-code.ensures.code ∙ ap dropping_code stays in
    let begun = reach-first (drop-wrong _ _ _ _ (sym c.may_drop.ensures.drop ∙ c.if-may_drop.false) told) c.requires.stands in
    let read = reach-grows (reach-grows begun c.may_drop.ensures.reads.grows c.may_drop.ensures.agrees) c.dropping_code-code.ensures.reads.grows c.dropping_code-code.ensures.agrees in
    reach-wrong c.args.f.now c.args.place c.dropping_code-code.result c.wrong.result read c.requires.frame c.wrong.ensures
