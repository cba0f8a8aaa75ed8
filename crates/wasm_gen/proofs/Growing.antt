-- Attempts of code as an interner grows.
use Rattle.std.proofs.Common.{◌≡◌, Bool, ap, ◌∙◌, subst, Result, Ok, Err}
use Rattle.std.specs.Prelude.{IfOk}
use Rattle.type_form.specs.declared.index.Index.{Index}
use Rattle.type_form.specs.declared.unit.Unit.TheVariants as unit
use Rattle.type_form.specs.Known.{Known, IsInjective}
use Rattle.type_form.specs.Means.{Grows, IsInstance, instance_at}
use Rattle.elab_form.specs.Units as plain
use Rattle.trace_log.specs.declared.answers.Answers.{Answers}
use Rattle.trace_log.specs.declared.attempt.Attempt.{Attempt}
use Rattle.trace_log.specs.Attempts.{IsAttempt, unit_run}
use Rattle.trace_log.specs.Snapshots.{AreAnswers}
use Rattle.trace_log.proofs.AttemptLemmas.{IsAttempt-grows, unit_run-grow}

-- the length of a unit's spelling stays
pub length-grows : (k l : Known) (i : Index) (b : Bool) → Grows k l → IsInstance k i → plain.is_too_long (unit.Code (instance_at k i)) ≡ b → plain.is_too_long (unit.Code (instance_at l i)) ≡ b
length-grows k l i b g h e = ap (λ x. plain.is_too_long (unit.Code x)) (g.stays.instance i h) ∙ e

-- an attempt of the unit, made when more was known
pub attempt-grows : (k l m : Known) (a : Answers) (attempt : Attempt) (i : Index) → Grows k l → Grows l m → IsInjective k → IsInjective l → AreAnswers k a → IsInstance k i
    → IsAttempt l a attempt (unit_run l a (unit.Code (instance_at l i))) → IsAttempt m a attempt (unit_run k a (unit.Code (instance_at k i)))
attempt-grows k l m a attempt i g h one two w there is =
    let same : unit_run l a (unit.Code (instance_at l i)) ≡ unit_run k a (unit.Code (instance_at k i)) =
    ap (λ x. unit_run l a (unit.Code x)) (g.stays.instance i there) ∙ unit_run-grow k l a (unit.Code (instance_at k i)) g one two w in
    IsAttempt-grows l m a attempt (unit_run k a (unit.Code (instance_at k i))) h (subst (IsAttempt l a attempt) same is)

-- where there is one
pub if-ok : {A E : Type 0} (r : Result A E) (P Q : A → Type 0) → ((a : A) → P a → Q a) → IfOk r P → IfOk r Q
if-ok (Ok a) P Q f h = f a h
if-ok (Err e) P Q f h = tt
