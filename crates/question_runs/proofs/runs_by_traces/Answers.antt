use Rattle.question_runs.proofs.RunParts.{first-parts, traces-lead}
use Rattle.question_runs.proofs.GrowingRuns.{goes-on}
use Rattle.question_runs.proofs.runs_by_traces.Goals as goal

pub returns-clause-goes_on : goal.returns-clause-goes_on
returns-clause-goes_on g c = goes-on

pub returns-clause-first_parts : goal.returns-clause-first_parts
returns-clause-first_parts g c = first-parts

pub returns-clause-traces_lead : goal.returns-clause-traces_lead
returns-clause-traces_lead g c = traces-lead
