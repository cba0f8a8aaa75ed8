use Rattle.sched_laws.proofs.ExampleLog.{example-holds}
use Rattle.sched_laws.proofs.an_example_holds.Goals as goal

pub returns : goal.returns
returns c = example-holds
