-- What an attempt meets is what its run meets.
use Rattle.std.proofs.Common.{◌≡◌, List, [], ◌∷◌, ◌++◌, Some, None, map, refl, sym, ap, ap₂, ◌∙◌, append_assoc, option_to_list}
use Rattle.std.specs.List.{All}
use Rattle.std.proofs.lemmas.List.Elements.{All-nil, All-cons, All-append}
use Rattle.std.proofs.lemmas.List.{map-append}
use Rattle.type_form.specs.Known.{Known}
use Rattle.question_runs.specs.Runs as runs
use Rattle.question_runs.specs.Runs.{Run, ends, fails, stops, goes, asked, referred, trace_of}
use Rattle.question_runs.specs.Rounds.{Language, result_of, needs}
use Rattle.elab_form.specs.Units.{language, unit_asked}
use Rattle.trace_log.specs.declared.answers.Answers.{Answers}
use Rattle.trace_log.specs.declared.attempt.Attempt.{Attempt}
use Rattle.trace_log.specs.declared.attempt.Outcome.{Outcome}
use Rattle.trace_log.specs.declared.attempt.Outcome.TheVariants as outcome
use Rattle.trace_log.specs.declared.question.Question.{Question}
use Rattle.trace_log.specs.declared.question.Question.TheVariants as question
use Rattle.trace_log.specs.declared.trace.Move.{Move}
use Rattle.trace_log.specs.declared.trace.Move.TheVariants as move
use Rattle.trace_log.specs.Attempts.{UnitRun, EndsSo, IsAttempt}
use Rattle.trace_log.specs.Readings.{AreMoves, IsUnit, LinesOf, moves_at, question_at, unit_at}
use Rattle.trace_log.specs.Snapshots.{lines_of}
use Rattle.unit_levels.specs.Levels.{met_in}
use Rattle.unit_rounds.specs.MetUnits.{asked_unit, units_of_moves, needed_unit, met_units}

-- ---- any language

abbrev met_of_moves : {Q A U R : Type 0} → Language Q A U R → List (runs.Move Q A U) → List U
met_of_moves l [] = []
met_of_moves l (asked q a ∷ ms) = option_to_list (l.unit_asked q) ++ met_of_moves l ms
met_of_moves l (referred u ∷ ms) = u ∷ met_of_moves l ms

met_in-is : {Q A U R : Type 0} (l : Language Q A U R) (r : Run Q A U R) → met_in l r ≡ met_of_moves l (trace_of r) ++ option_to_list (needs l r)
met_in-is l (ends x) = refl
met_in-is l fails = refl
met_in-is l (stops q) = refl
met_in-is l (goes (asked q a) r) = ap (λ us. option_to_list (l.unit_asked q) ++ us) (met_in-is l r) ∙ sym (append_assoc (option_to_list (l.unit_asked q)) (met_of_moves l (trace_of r)) (option_to_list (needs l r)))
met_in-is l (goes (referred u) r) = ap (λ us. u ∷ us) (met_in-is l r)

pub result-needs : {Q A U R : Type 0} (l : Language Q A U R) (r : Run Q A U R) (x : R) → result_of l r ≡ Some x → needs l r ≡ None
result-needs l (ends y) x e = refl
result-needs l fails x e = refl
result-needs l (stops q) x e = absurd (cc)
result-needs l (goes m r) x e = result-needs l r x e

-- ---- units of analysis

module _ (k : Known) where
  asked-at : (q : Question) → option_to_list (unit_asked (question_at k q)) ≡ map (unit_at k) (asked_unit q)
  asked-at (question.Text p) = refl
  asked-at (question.Name c n) = refl
  asked-at (question.Import path) = refl
  asked-at (question.Result u) = refl

  moves-met : (lines : LinesOf) (ms : List Move) → met_of_moves language (moves_at k lines ms) ≡ map (unit_at k) (units_of_moves ms)
  moves-met lines [] = refl
  moves-met lines (move.Asked q a ∷ ms) =
      ap₂ (λ us vs. us ++ vs) (asked-at q) (moves-met lines ms) ∙ sym (map-append (unit_at k) (asked_unit q) (units_of_moves ms))
  moves-met lines (move.Referred u ∷ ms) = ap (λ us. unit_at k u ∷ us) (moves-met lines ms)

  moves-are : (ms : List Move) → AreMoves k ms → All (IsUnit k) (units_of_moves ms)
  moves-are [] h = All-nil (IsUnit k)
  moves-are (move.Asked (question.Text p) a ∷ ms) h = moves-are ms h.1
  moves-are (move.Asked (question.Name c n) a ∷ ms) h = moves-are ms h.1
  moves-are (move.Asked (question.Import path) a ∷ ms) h = moves-are ms h.1
  moves-are (move.Asked (question.Result u) a ∷ ms) h = All-cons (IsUnit k) u (units_of_moves ms) h.0.0 (moves-are ms h.1)
  moves-are (move.Referred u ∷ ms) h = All-cons (IsUnit k) u (units_of_moves ms) h.0 (moves-are ms h.1)

  needed-at : (o : Outcome) (r : UnitRun) → EndsSo k o r → option_to_list (needs language r) ≡ map (unit_at k) (needed_unit o)
  needed-at (outcome.Done x) r h = ap option_to_list (result-needs language r _ h.1)
  needed-at (outcome.Needs u) r h = ap option_to_list h.1

  needed-is : (o : Outcome) (r : UnitRun) → EndsSo k o r → All (IsUnit k) (needed_unit o)
  needed-is (outcome.Done x) r h = All-nil (IsUnit k)
  needed-is (outcome.Needs u) r h = All-cons (IsUnit k) u [] h.0 (All-nil (IsUnit k))

  pub attempt-met : (a : Answers) (t : Attempt) (r : UnitRun) → IsAttempt k a t r → map (unit_at k) (met_units t) ≡ met_in language r
  attempt-met a t r h =
      map-append (unit_at k) (units_of_moves t.trace) (needed_unit t.outcome)
      ∙ sym (met_in-is language r
      ∙ ap₂ (λ us vs. us ++ vs) (ap (met_of_moves language) h.trace ∙ moves-met (lines_of a) t.trace) (needed-at t.outcome r h.outcome))

  pub attempt-are : (a : Answers) (t : Attempt) (r : UnitRun) → IsAttempt k a t r → All (IsUnit k) (met_units t)
  attempt-are a t r h = All-append (IsUnit k) (units_of_moves t.trace) (needed_unit t.outcome) (moves-are t.trace h.moves) (needed-is t.outcome r h.outcome)
