use Rattle.question_runs.proofs.RunSteps.{Answers-run, AsksAnew-run, IsRunOf-run, run-IsRunOf, run-more}
use Rattle.question_runs.proofs.GrowingRuns.{continues-run}
use Rattle.question_runs.proofs.runs_by_answers.Goals as goal

pub returns-clause-honest : goal.returns-clause-honest
returns-clause-honest g c = record { answers = λ s p moves given. Answers-run s given p moves; anew = λ s p moves given. AsksAnew-run s given p moves }

pub returns-clause-by_answers : goal.returns-clause-by_answers
returns-clause-by_answers g c = λ s p r given. (λ w. IsRunOf-run s given p r w.0 w.1, run-IsRunOf s given p r)

pub returns-clause-more_answers : goal.returns-clause-more_answers
returns-clause-more_answers g c = λ s p moves few more up over. run-more s few more p moves up over

pub returns-clause-other_answers : goal.returns-clause-other_answers
returns-clause-other_answers g c = λ s p moves few more w. continues-run s few more p moves w
