use Rattle.sched_laws.proofs.NamedLogs.{named-log}
use Rattle.sched_laws.proofs.logs_are_named.Goals as goal

pub returns : goal.returns
returns g c = λ unit outcome same same_unit log laws possible tells. named-log unit outcome same same_unit laws log possible tells
