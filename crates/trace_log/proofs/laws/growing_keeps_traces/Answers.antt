use Rattle.trace_log.proofs.Growing.{moves-grow}
use Rattle.trace_log.proofs.laws.growing_keeps_traces.Goals as goal

pub returns-clause-moves : goal.returns-clause-moves
returns-clause-moves c = moves-grow
