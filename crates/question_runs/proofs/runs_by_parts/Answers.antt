use Rattle.question_runs.proofs.RunParts.{run-bind, run-turn}
use Rattle.question_runs.proofs.runs_by_parts.Goals as goal

pub returns-clause-one_turn : goal.returns-clause-one_turn
returns-clause-one_turn g c = λ s self p moves given q a e at. run-turn s self given p moves q a e at

pub returns-clause-one_then_another : goal.returns-clause-one_then_another
returns-clause-one_then_another g c = λ s p next moves given. run-bind s given p next moves
