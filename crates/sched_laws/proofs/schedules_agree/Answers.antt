use Rattle.sched_laws.proofs.Moments.{every-moment}
use Rattle.sched_laws.proofs.Resting.{last-moment}
use Rattle.sched_laws.proofs.schedules_agree.Goals as goal

pub returns-clause-every_moment : goal.returns-clause-every_moment
returns-clause-every_moment g c = every-moment

pub returns-clause-last_moment : goal.returns-clause-last_moment
returns-clause-last_moment g c = last-moment
