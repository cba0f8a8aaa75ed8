-- The run of the unit of an instance's code, by the result that is there of its typed body.
use Rattle.std.proofs.Common.{◌≡◌, true, false, [], ◌∷◌, Option, Some, None, refl, sym, ap, subst, ◌∙◌, if◌then◌else◌}
use Rattle.std.specs.Prelude.{IfOk, Result, Ok, Err}
use Rattle.std.specs.Option.{option_map, option_and_then}
use Rattle.zw_base.specs.declared.diag.DiagCode.TheVariants as fault
use Rattle.type_form.specs.declared.index.Index.{Index}
use Rattle.type_form.specs.declared.tree.DeclPath.{DeclPath}
use Rattle.type_form.specs.declared.unit.Unit.{Unit as AnyUnit}
use Rattle.type_form.specs.declared.unit.Unit.TheVariants as unit
use Rattle.type_form.specs.Known.{Known, IsInjective}
use Rattle.type_form.specs.Means.{IsDecl, decl_at, IsInstance, instance_at}
use Rattle.question_runs.specs.Programs.{done}
use Rattle.question_runs.specs.Runs.{Run, asked, ends, fails, goes, hears, run, stops}
use Rattle.question_runs.specs.Runs as runs
use Rattle.question_runs.specs.Rounds.{now}
use Rattle.elab_form.specs.Questions as plain
use Rattle.elab_form.specs.Units.{code_answer, code_of, decl_of, elab, failed_with, is_too_long, language}
use Rattle.trace_log.specs.declared.answers.Answers.{Answers}
use Rattle.trace_log.specs.declared.answer.Answer.TheVariants as answer
use Rattle.trace_log.specs.declared.attempt.Attempt.{Attempt}
use Rattle.trace_log.specs.declared.attempt.Outcome.{Outcome}
use Rattle.trace_log.specs.declared.attempt.Outcome.TheVariants as outcome
use Rattle.trace_log.specs.declared.question.Question.TheVariants as question
use Rattle.trace_log.specs.declared.question.UnitIndex.TheVariants as index
use Rattle.trace_log.specs.declared.result.Diagnostic.{Diagnostic}
use Rattle.trace_log.specs.declared.result.Spot.TheVariants as spot
use Rattle.trace_log.specs.declared.result.UnitResult.{UnitResult}
use Rattle.trace_log.specs.declared.result.UnitResult.TheVariants as result
use Rattle.trace_log.specs.declared.result.UnitValue.{UnitValue}
use Rattle.trace_log.specs.declared.trace.Move.TheVariants as move
use Rattle.trace_log.specs.Attempts.{EndsSo, IsAttempt, UnitRun, file_answers, unit_run}
use Rattle.trace_log.specs.Readings.{IsUnitValue, unit_result_at, unit_value_at}
use Rattle.trace_log.specs.Snapshots.{result_get, results_at}
use Rattle.trace_log.proofs.IndexLemmas.{unit_index-at}

module _ (k : Known) (a : Answers) (i : Index) (g : IsInjective k) (is : IsInstance k i) where
  -- what stands there of the typed body
  body-result : (o : Option UnitResult) → result_get a (index.Body i) ≡ o → results_at k a (unit.Body (instance_at k i)) ≡ option_map (unit_result_at k) o
  body-result o e =
      ap (λ u. option_map (unit_result_at k) (option_and_then (result_get a) u)) (unit_index-at k g (index.Body i) is)
      ∙ ap (option_map (unit_result_at k)) e

  -- the run, by what is at hand
  abbrev heard : Option plain.UnitResult → UnitRun
  heard r = hears plain.setting [] (plain.result (unit.Body (instance_at k i))) None (option_map plain.answer_of r) (λ x moves. ends (code_answer (unit.Code (instance_at k i)) x))

  run-heard : is_too_long (unit.Code (instance_at k i)) ≡ false → (o : Option UnitResult) → result_get a (index.Body i) ≡ o
      → unit_run k a (unit.Code (instance_at k i)) ≡ heard (option_map (unit_result_at k) o)
  unfolding unit_run elab
  run-heard short o e =
      ap (λ b. run plain.setting (now language (file_answers k a) (results_at k a)) [] (if b then done (failed_with (unit.Code (instance_at k i)) fault.NameTooLong) else code_of (instance_at k i))) short
      ∙ ap heard (body-result o e)

  ended : (o : Outcome) (m : runs.Move plain.Question plain.Answer AnyUnit) (r : plain.UnitResult) → EndsSo k o (ends r) → EndsSo k o (goes m (ends r))
  ended (outcome.Done x) m r h = h
  ended (outcome.Needs u) m r h = h

  module _ (short : is_too_long (unit.Code (instance_at k i)) ≡ false) where
    pub attempt-needs : (t : Attempt) → result_get a (index.Body i) ≡ None → t.trace ≡ [] → t.outcome ≡ outcome.Needs (index.Body i)
        → IsAttempt k a t (unit_run k a (unit.Code (instance_at k i)))
    attempt-needs t e m o = subst (λ r. IsAttempt k a t r) (sym (run-heard short None e)) (record {
      moves = rw m tt;
      trace = rw m refl;
      outcome = rw o (is, refl);
    })

    pub attempt-fails : (t : Attempt) (d : Option Diagnostic) → result_get a (index.Body i) ≡ Some (result.Failed d)
        → t.trace ≡ move.Asked (question.Result (index.Body i)) answer.Failure ∷ [] → t.outcome ≡ outcome.Done (result.Failed None)
        → IsAttempt k a t (unit_run k a (unit.Code (instance_at k i)))
    attempt-fails t d e m o = subst (λ r. IsAttempt k a t r) (sym (run-heard short (Some (result.Failed d)) e)) (record {
      moves = rw m ((is, tt), tt);
      trace = rw m refl;
      outcome = rw o (tt, refl);
    })

    pub attempt-ends : (t : Attempt) (v : UnitValue) → result_get a (index.Body i) ≡ Some (result.Good v) → IsUnitValue k v
        → t.trace ≡ move.Asked (question.Result (index.Body i)) (answer.Given v) ∷ []
        → EndsSo k t.outcome (ends (code_answer (unit.Code (instance_at k i)) (plain.given (unit_value_at k v))))
        → IsAttempt k a t (unit_run k a (unit.Code (instance_at k i)))
    attempt-ends t v e w m o = subst (λ r. IsAttempt k a t r) (sym (run-heard short (Some (result.Good v)) e)) (record {
      moves = rw m ((is, w), tt);
      trace = rw m refl;
      outcome = ended t.outcome (asked (plain.result (unit.Body (instance_at k i))) (plain.given (unit_value_at k v))) (code_answer (unit.Code (instance_at k i)) (plain.given (unit_value_at k v))) o;
    })

-- the run where the spelling is too long
run-long : (k : Known) (a : Answers) (i : Index) → is_too_long (unit.Code (instance_at k i)) ≡ true
    → unit_run k a (unit.Code (instance_at k i)) ≡ ends (failed_with (unit.Code (instance_at k i)) fault.NameTooLong)
unfolding unit_run elab
run-long k a i long =
    ap (λ b. run plain.setting (now language (file_answers k a) (results_at k a)) [] (if b then done (failed_with (unit.Code (instance_at k i)) fault.NameTooLong) else code_of (instance_at k i))) long

-- a failure at a declaration
abbrev named_fault : DeclPath → Option plain.UnitResult
named_fault d = Some (plain.failed (Some (record { spot = plain.named d; code = fault.NameTooLong; text = [] })))

pub attempt-long : (k : Known) (a : Answers) (i : Index) → is_too_long (unit.Code (instance_at k i)) ≡ true
    → (t : Attempt) (d : Index) → IsDecl k d → decl_at k d ≡ (instance_at k i).decl
    → t.trace ≡ [] → t.outcome ≡ outcome.Done (result.Failed (Some (record { spot = spot.Named d; code = fault.NameTooLong; text = [] })))
    → IsAttempt k a t (unit_run k a (unit.Code (instance_at k i)))
unfolding decl_of
attempt-long k a i long t d is e m o = subst (λ r. IsAttempt k a t r) (sym (run-long k a i long)) (record {
  moves = rw m tt;
  trace = rw m refl;
  outcome = rw o (is, ap named_fault (sym e));
})

-- what holds of a result by two facts about it
pub both-ok : {A E : Type 0} {P Q R : A → Type 0} (r : Result A E) → IfOk r P → IfOk r Q → ((a : A) → P a → Q a → R a) → IfOk r R
both-ok (Ok a) p q f = f a p q
both-ok (Err e) p q f = tt

pub ruleset attempts = (attempt-needs, attempt-fails, attempt-ends)
