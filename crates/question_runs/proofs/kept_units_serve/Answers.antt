use Rattle.question_runs.proofs.KeptRuns.{clean-unit-serves, same-unit-serves}
use Rattle.question_runs.proofs.kept_units_serve.Goals as goal

pub returns-clause-clean : goal.returns-clause-clean
returns-clause-clean g c = clean-unit-serves

pub returns-clause-same : goal.returns-clause-same
returns-clause-same g c = same-unit-serves
