use Rattle.std.proofs.Common.{sym, ◌∙◌}
use Rattle.zw_base.specs.declared.diag.DiagCode.TheVariants as code
use Rattle.sema_body.proofs.Reaching.{reach-first, reach-grows, reach-known, reach-wrong, chosen, passed}
use Rattle.sema_body.proofs.names.primitive_form.Goals as goal

pub returns-in_ok-value-clause-meets : goal.returns-in_ok-value-clause-meets
returns-in_ok-value-clause-meets g c =
    let begun = reach-first (chosen _ _ _ (sym c.has_width.ensures ∙ c.if-has_width.true)) c.requires.stands in
    reach-known _ _ (reach-grows begun c.primitive_value.ensures.interns.grows c.primitive_value.ensures.agrees) c.in_ok-value.ensures.value

pub returns-else-has_width-clause-meets : goal.returns-else-has_width-clause-meets
returns-else-has_width-clause-meets g c =
    reach-wrong c.args.f.now c.args.place code.NotBuilt c.wrong.result (reach-first (passed _ _ _ (sym c.has_width.ensures ∙ c.if-has_width.false)) c.requires.stands) c.requires.frame c.wrong.ensures
