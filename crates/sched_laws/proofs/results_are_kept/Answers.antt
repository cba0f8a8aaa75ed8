use Rattle.sched_laws.proofs.Resting.{kept-again, clean-runs-stay}
use Rattle.sched_laws.proofs.results_are_kept.Goals as goal

pub returns-clause-kept_again : goal.returns-clause-kept_again
returns-clause-kept_again g c = kept-again

pub returns-clause-clean_runs : goal.returns-clause-clean_runs
returns-clause-clean_runs g c = clean-runs-stay
