use Rattle.sema_body.proofs.attempts.written_attempt.Goals as goal

pub returns-in_ok-attempt-in-Ok-clause-attempt : goal.returns-in_ok-attempt-in-Ok-clause-attempt
returns-in_ok-attempt-in-Ok-clause-attempt g c = record {
  value = c.in-Ok.value;
  is = c.in-Ok.ensures.known;
  same = c.in-Ok.ensures.value;
  by = c.in_ok-attempt-in-Ok.ensures.attempt;
}
