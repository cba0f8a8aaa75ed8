use Rattle.sched_laws.proofs.GroupRuns.{whole-run, part-meets, part-needs, runs-last}
use Rattle.sched_laws.proofs.groups_have_reasons.Goals as goal

pub returns-clause-whole : goal.returns-clause-whole
returns-clause-whole g c = whole-run

pub returns-clause-meets : goal.returns-clause-meets
returns-clause-meets g c = part-meets

pub returns-clause-needs : goal.returns-clause-needs
returns-clause-needs g c = part-needs

pub returns-clause-last : goal.returns-clause-last
returns-clause-last g c = runs-last
