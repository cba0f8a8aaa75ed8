use Rattle.std.proofs.Common.{refl, sym}
use Rattle.zw_base.specs.declared.diag.DiagCode.TheVariants as code
use Rattle.sema_body.proofs.FormLemmas.{name-halts, name-heard, value-given, value-none}
use Rattle.sema_body.proofs.Reaching.{standing, reach-same, reach-known, reach-wrong}
use Rattle.sema_body.proofs.names.declared_in.Goals as goal

pub ask-requires-clause-stands : goal.ask-requires-clause-stands
ask-requires-clause-stands g c =
    standing (standing c.requires.stands c.intern_bytes.ensures.interns.grows c.intern_bytes.ensures.agrees) c.named_decl.ensures.interns.grows c.named_decl.ensures.agrees

pub returns-in-Err-clause-meets : goal.returns-in-Err-clause-meets
returns-in-Err-clause-meets g c =
    name-halts _ _ _ _ _ _ _ _ _ _ _ c.requires.stands c.intern_bytes.ensures.interns.grows c.named_decl.ensures.interns.grows c.named_decl.ensures.agrees c.requires.frame.container c.in_ok-name.ensures.bytes c.in_ok-decl.ensures.decl
    _ _ _ c.in-Err.ensures.hears

pub returns-in-Some-clause-meets : goal.returns-in-Some-clause-meets
returns-in-Some-clause-meets g c =
    let heard = name-heard _ _ _ _ _ _ _ _ _ _ _ c.requires.stands c.intern_bytes.ensures.interns.grows c.named_decl.ensures.interns.grows c.named_decl.ensures.agrees c.requires.frame.container c.in_ok-name.ensures.bytes c.in_ok-decl.ensures.decl
    _ _ _ c.ask.ensures.interns.grows c.in-Ok.ensures.hears in
    reach-known _ _ (reach-same (value-given _ _ _ _ (sym (c.in-Some.ensures.value _ _))) heard) (record { known = c.in-Some.ensures.known _ c.in-Ok.ensures.hears.is.0; is = refl })

pub returns-clause-meets : goal.returns-clause-meets
returns-clause-meets g c =
    let heard = name-heard _ _ _ _ _ _ _ _ _ _ _ c.requires.stands c.intern_bytes.ensures.interns.grows c.named_decl.ensures.interns.grows c.named_decl.ensures.agrees c.requires.frame.container c.in_ok-name.ensures.bytes c.in_ok-decl.ensures.decl
    _ _ _ c.ask.ensures.interns.grows c.in-Ok.ensures.hears in
    reach-wrong c.args.f.now c.args.place code.NotBuilt c.wrong.result (reach-same (value-none _ _ _ (sym (c.in-None.ensures.value _ _))) heard) c.requires.frame c.wrong.ensures
