use Rattle.question_runs.proofs.GrowingRounds.{round-grows, run_at-continues}
use Rattle.question_runs.proofs.TogetherRounds.{together}
use Rattle.question_runs.proofs.results_by_rounds.Goals as goal

pub returns-clause-grow : goal.returns-clause-grow
returns-clause-grow g c = λ l files n m u r below e. round-grows l files n m below u r e

pub returns-clause-runs_grow : goal.returns-clause-runs_grow
returns-clause-runs_grow g c = λ l files n m u below. run_at-continues l files n m u below

pub returns-clause-together : goal.returns-clause-together
returns-clause-together g c = together
