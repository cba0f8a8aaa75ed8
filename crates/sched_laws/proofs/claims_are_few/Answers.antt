use Rattle.sched_laws.proofs.ClaimCounts.{few-claims}
use Rattle.sched_laws.proofs.claims_are_few.Goals as goal

pub returns : goal.returns
returns g c = few-claims
