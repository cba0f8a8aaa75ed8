-- What a snapshot gives is what the language's runs are given, and stays as more is known.
use Rattle.std.proofs.Common.{◌≡◌, Some, refl, sym, ap, ◌∙◌, subst}
use Rattle.type_form.specs.declared.unit.Unit.{Unit as AnyUnit}
use Rattle.type_form.specs.Known.{Known, IsInjective}
use Rattle.type_form.specs.Means.{Grows}
use Rattle.question_runs.specs.Rounds.{now, run_by}
use Rattle.elab_form.specs.Questions as plain
use Rattle.elab_form.specs.Units.{language}
use Rattle.trace_log.specs.declared.answers.Answers.{Answers}
use Rattle.trace_log.specs.declared.attempt.Attempt.{Attempt}
use Rattle.trace_log.specs.declared.attempt.Outcome.{Outcome}
use Rattle.trace_log.specs.declared.attempt.Outcome.TheVariants as outcome
use Rattle.trace_log.specs.Attempts.{EndsSo, IsAttempt, UnitRun, file_answers, unit_run}
use Rattle.trace_log.specs.Files.{file_answer}
use Rattle.trace_log.specs.Snapshots.{AreAnswers, given_at, lines_of, results_at}
use Rattle.trace_log.proofs.Growing.{AreMoves-grows, moves-grow, IsUnit-grows, unit-grows, IsUnitResult-grows, unit_result-grows}
use Rattle.trace_log.proofs.SnapshotLemmas.{results-grow}
use Rattle.trace_log.proofs.StandLemmas.{files-same}

-- the answer to a question is the one at hand, with what the files answer and the results that are there
pub given-now : (k : Known) (a : Answers) (q : plain.Question) → given_at k a q ≡ now language (file_answers k a) (results_at k a) q
unfolding given_at
given-now k a (plain.text p) = refl
given-now k a (plain.name container name) = refl
given-now k a (plain.import path) = refl
given-now k a (plain.result u) = refl

-- ---- as more is known

pub results-same : (k l : Known) (a : Answers) → Grows k l → IsInjective k → IsInjective l → AreAnswers k a → results_at l a ≡ results_at k a
results-same k l a g m n h = λ i x. results-grow k l a g m n h x i

pub file_answers-grow : (k l : Known) (a : Answers) → Grows k l → IsInjective k → IsInjective l → AreAnswers k a → file_answers l a ≡ file_answers k a
file_answers-grow k l a g m n h = ap file_answer (files-same k l a g m n h)

pub unit_run-grow : (k l : Known) (a : Answers) (u : AnyUnit) → Grows k l → IsInjective k → IsInjective l → AreAnswers k a → unit_run l a u ≡ unit_run k a u
unfolding unit_run
unit_run-grow k l a u g m n h =
    let files : file_answers l a ≡ file_answers k a = file_answers-grow k l a g m n h in
    let results : results_at l a ≡ results_at k a = results-same k l a g m n h in
    λ i. run_by language (files i) (results i) u

EndsSo-grows : (k l : Known) (o : Outcome) (run : UnitRun) → Grows k l → EndsSo k o run → EndsSo l o run
EndsSo-grows k l (outcome.Done r) run g h = (IsUnitResult-grows k l r g h.0, h.1 ∙ ap Some (sym (unit_result-grows k l r g h.0)))
EndsSo-grows k l (outcome.Needs u) run g h = (IsUnit-grows k l u g h.0, h.1 ∙ ap Some (sym (unit-grows k l u g h.0)))

-- an attempt that is a run under the pairs that were known is that run under more
pub IsAttempt-grows : (k l : Known) (a : Answers) (attempt : Attempt) (run : UnitRun) → Grows k l → IsAttempt k a attempt run → IsAttempt l a attempt run
IsAttempt-grows k l a attempt run g h = record {
  moves = AreMoves-grows k l attempt.trace g h.moves;
  trace = h.trace ∙ sym (moves-grow k l (lines_of a) attempt.trace g h.moves);
  outcome = EndsSo-grows k l attempt.outcome run g h.outcome;
}

-- and one of a unit is one of that unit
pub IsAttempt-grow : (k l : Known) (a : Answers) (attempt : Attempt) (u : AnyUnit) → Grows k l → IsInjective k → IsInjective l → AreAnswers k a
    → IsAttempt k a attempt (unit_run k a u) → IsAttempt l a attempt (unit_run l a u)
IsAttempt-grow k l a attempt u g m n h is =
    let same : unit_run k a u ≡ unit_run l a u = sym (unit_run-grow k l a u g m n h) in
    IsAttempt-grows k l a attempt (unit_run l a u) g (subst (IsAttempt k a attempt) same is)
