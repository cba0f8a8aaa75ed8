use Rattle.std.proofs.Common.{sym, ◌∙◌}
use Rattle.zw_base.specs.declared.diag.DiagCode.TheVariants as code
use Rattle.sema_body.proofs.FormLemmas.{name-grows, name-in, name-off}
use Rattle.sema_body.proofs.Reaching.{standing, reach-first, reach-grows, reach-same, reach-ends, reach-wrong}
use Rattle.sema_body.proofs.names.declared_form.Goals as goal

pub declared_in-requires-clause-stands : goal.declared_in-requires-clause-stands
declared_in-requires-clause-stands g c = standing c.requires.stands c.is_own_file.ensures.reads.grows c.is_own_file.ensures.agrees

pub returns-then-is_own_file-clause-meets : goal.returns-then-is_own_file-clause-meets
returns-then-is_own_file-clause-meets g c =
    let begun = reach-grows (reach-first (name-in _ _ _ _ (sym c.is_own_file.ensures.file ∙ c.if-is_own_file.true)) c.requires.stands) c.is_own_file.ensures.reads.grows c.is_own_file.ensures.agrees in
    reach-ends (reach-same (name-grows _ _ c.args.f.now _ _ c.is_own_file.ensures.reads.grows c.requires.frame) begun) c.declared_in.ensures.meets

pub returns-else-is_own_file-clause-meets : goal.returns-else-is_own_file-clause-meets
returns-else-is_own_file-clause-meets g c =
    let begun = reach-grows (reach-first (name-off _ _ _ _ (sym c.is_own_file.ensures.file ∙ c.if-is_own_file.false)) c.requires.stands) c.is_own_file.ensures.reads.grows c.is_own_file.ensures.agrees in
    reach-wrong c.args.f.now c.args.place code.NotBuilt c.wrong.result begun c.requires.frame c.wrong.ensures
