use Rattle.sema_body.proofs.AttemptLemmas.{attempt-made, first-stands, needs-result}
use Rattle.sema_body.proofs.attempts.declared.Goals as goal

pub declaration-ended-requires-clause-stands : goal.declaration-ended-requires-clause-stands
declaration-ended-requires-clause-stands g c = first-stands _ _ _ c.requires.agrees c.requires.answers c.begun-s.ensures.trace c.begun-s.ensures.body

pub concluded-requires : goal.concluded-requires
concluded-requires g c = needs-result _ _ _ _ _ _ c.begun-s.ensures.trace c.begun-s.ensures.body _ c.declaration-ended.ensures.meets

pub returns-clause-attempt : goal.returns-clause-attempt
returns-clause-attempt g c = attempt-made _ _ _ _ _ _ c.begun-s.ensures.trace c.begun-s.ensures.body _ _ c.declaration-ended.ensures.meets c.in_ok-attempt.ensures.attempt

pub returns-clause-agrees : goal.returns-clause-agrees
returns-clause-agrees g c = c.declaration-ended.ensures.interns.grows.kept.injective c.requires.agrees

pub returns-in_err-attempt-clause-agrees : goal.returns-in_err-attempt-clause-agrees
returns-in_err-attempt-clause-agrees g c = c.declaration-ended.ensures.interns.grows.kept.injective c.requires.agrees
