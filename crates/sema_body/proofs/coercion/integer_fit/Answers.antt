use Rattle.sema_body.proofs.TableCalls.{Reads-then}
use Rattle.sema_body.proofs.coercion.integer_fit.Goals as goal

pub returns-in-Ok-clause-interns : goal.returns-in-Ok-clause-interns
returns-in-Ok-clause-interns g c = Reads-then c.integer_range.ensures.reads c.in-Ok.ensures.interns

pub returns-in-Err-clause-interns : goal.returns-in-Err-clause-interns
returns-in-Err-clause-interns g c = Reads-then c.integer_range.ensures.reads c.in-Err.ensures.interns
