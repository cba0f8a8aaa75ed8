use Rattle.std.proofs.Common.{sym, ◌∙◌}
use Rattle.zw_base.specs.declared.diag.DiagCode.TheVariants as code
use Rattle.trace_log.proofs.SnapshotLemmas.{AreAnswers-grows}
use Rattle.sema_body.proofs.TableCalls.{Reads-then}
use Rattle.sema_body.proofs.AttemptLemmas.{body-attempt, decl-attempt, failed-attempt, later-run, long-run}
use Rattle.sema_body.proofs.attempts.analyse.Goals as goal

pub returns-then-is_long-clause-attempt : goal.returns-then-is_long-clause-attempt
returns-then-is_long-clause-attempt g c =
    failed-attempt _ _ _ _ _ c.args.unit code.NameTooLong c.is_too_long.ensures.reads.grows c.requires.unit (long-run _ _ _ (sym c.in_ok-is_long.ensures.long ∙ c.if-is_long.true)) c.in_ok-attempt.ensures.attempt

pub returns-in_ok-attempt-in-Decl-clause-attempt : goal.returns-in_ok-attempt-in-Decl-clause-attempt
returns-in_ok-attempt-in-Decl-clause-attempt g c =
    decl-attempt _ _ _ _ _ c.args.unit c.in-Decl.decl c.is_too_long.ensures.reads.grows c.requires.agrees c.is_too_long.ensures.agrees c.requires.answers c.in-Decl.is c.requires.unit
    (sym c.in_ok-is_long.ensures.long ∙ c.if-is_long.false) c.in_ok-attempt-in-Decl.ensures.attempt

pub returns-in_ok-attempt-in-Body-clause-attempt : goal.returns-in_ok-attempt-in-Body-clause-attempt
returns-in_ok-attempt-in-Body-clause-attempt g c =
    body-attempt _ _ _ _ _ c.args.unit c.in-Body.instance c.is_too_long.ensures.reads.grows c.requires.agrees c.is_too_long.ensures.agrees c.requires.answers c.in-Body.is c.requires.unit
    (sym c.in_ok-is_long.ensures.long ∙ c.if-is_long.false) c.in_ok-attempt-in-Body.ensures.attempt

pub returns-in_ok-attempt-in_default-clause-attempt : goal.returns-in_ok-attempt-in_default-clause-attempt
returns-in_ok-attempt-in_default-clause-attempt g c =
    failed-attempt _ _ _ _ _ c.args.unit code.NotBuilt c.is_too_long.ensures.reads.grows c.requires.unit
    (later-run _ _ c.args.unit (sym c.in_ok-is_long.ensures.long ∙ c.if-is_long.false) c.requires.kind c.in_default.not-Decl c.in_default.not-Body) c.in_ok-attempt-in_default.ensures.attempt

pub returns-in_ok-attempt-in_default-clause-interns : goal.returns-in_ok-attempt-in_default-clause-interns
returns-in_ok-attempt-in_default-clause-interns g c = Reads-then c.is_too_long.ensures.reads c.in_ok-attempt-in_default.ensures.interns

pub declared-requires-clause-answers : goal.declared-requires-clause-answers
declared-requires-clause-answers g c = AreAnswers-grows _ _ _ c.is_too_long.ensures.reads.grows c.requires.answers

pub with_body-requires-clause-answers : goal.with_body-requires-clause-answers
with_body-requires-clause-answers g c = AreAnswers-grows _ _ _ c.is_too_long.ensures.reads.grows c.requires.answers
