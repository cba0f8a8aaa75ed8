use Rattle.sched_laws.proofs.Pointers.{shown-once, cycle-shown, stuck-lead}
use Rattle.sched_laws.proofs.stuck_units_lead_into_cycles.Goals as goal

pub returns-clause-once : goal.returns-clause-once
returns-clause-once g c = λ l files roots before anti u v n a b leads. shown-once l files roots before anti u v n a b leads

pub returns-clause-lead : goal.returns-clause-lead
returns-clause-lead g c = stuck-lead

pub returns-clause-shown : goal.returns-clause-shown
returns-clause-shown g c = cycle-shown
