use Rattle.trace_log.proofs.Sameness.{recall-at}
use Rattle.trace_log.proofs.laws.traces_recall_by_indices.Goals as goal

pub returns-clause-recalled : goal.returns-clause-recalled
returns-clause-recalled c = recall-at
