use Rattle.std.proofs.Common.{Err}
use Rattle.sema_body.proofs.AttemptLemmas.{attempt-made, first-stands, halted, if-ok, needs-result, written-attempt}
use Rattle.sema_body.proofs.TableCalls.{Interns-then}
use Rattle.sema_body.proofs.attempts.with_body.Goals as goal

pub body_of-requires-clause-stands : goal.body_of-requires-clause-stands
body_of-requires-clause-stands g c = first-stands _ _ _ c.requires.agrees c.requires.answers c.begun-s.ensures.trace c.begun-s.ensures.body

pub returns-in-Ok-clause-interns : goal.returns-in-Ok-clause-interns
returns-in-Ok-clause-interns g c = Interns-then c.in-Ok.ensures.interns c.written_attempt.ensures.interns

pub returns-in-Ok-clause-attempt : goal.returns-in-Ok-clause-attempt
returns-in-Ok-clause-attempt g c =
    if-ok _ _ _ (λ a w. written-attempt _ _ _ _ _ _ _ c.in-Ok.ty a c.begun-s.ensures.trace c.begun-s.ensures.body c.in-Ok.ensures.meets c.written_attempt.ensures.interns.grows c.written_attempt.ensures.agrees w) c.written_attempt.ensures.attempt

pub concluded-requires : goal.concluded-requires
concluded-requires g c = needs-result _ _ _ _ _ _ c.begun-s.ensures.trace c.begun-s.ensures.body (Err c.in-Err.halt) (halted c.in-Err.halt c.in-Err.ensures.meets)

pub returns-in_ok-attempt-in-Err-clause-attempt : goal.returns-in_ok-attempt-in-Err-clause-attempt
returns-in_ok-attempt-in-Err-clause-attempt g c =
    attempt-made _ _ _ _ _ _ c.begun-s.ensures.trace c.begun-s.ensures.body (Err c.in-Err.halt) _ (halted c.in-Err.halt c.in-Err.ensures.meets) c.in_ok-attempt-in-Err.ensures.attempt

pub returns-in_ok-attempt-in-Err-clause-agrees : goal.returns-in_ok-attempt-in-Err-clause-agrees
returns-in_ok-attempt-in-Err-clause-agrees g c = c.in-Err.ensures.interns.grows.kept.injective c.requires.agrees

pub returns-in_err-attempt-in-Err-clause-agrees : goal.returns-in_err-attempt-in-Err-clause-agrees
returns-in_err-attempt-in-Err-clause-agrees g c = c.in-Err.ensures.interns.grows.kept.injective c.requires.agrees
