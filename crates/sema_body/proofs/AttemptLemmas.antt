-- How runs of units end, as attempts.
use Rattle.std.proofs.Common.{◌≡◌, ℕ, Bool, true, false, List, [], ◌∷◌, map, arith, refl, sym, ap, ap₂, ◌∙◌, subst, Some, None, Result, Ok, Err}
use Rattle.std.specs.Prelude.{All, IfOk}
use Rattle.std.specs.Option.{option_and_then}
use Rattle.zw_base.specs.declared.diag.DiagCode.{DiagCode}
use Rattle.zw_base.specs.declared.diag.DiagCode.TheVariants as code
use Rattle.type_form.specs.declared.index.Index.{Index}
use Rattle.type_form.specs.declared.tree.DeclPath.{DeclPath}
use Rattle.type_form.specs.declared.unit.Instance.{Instance}
use Rattle.type_form.specs.declared.unit.Unit.{Unit as AnyUnit}
use Rattle.type_form.specs.declared.unit.Unit.TheVariants as unit
use Rattle.type_form.specs.Known.{Known, IsInjective}
use Rattle.type_form.specs.Means.{Grows, IsTy, ty_at, IsDecl, decl_at, IsInstance, instance_at, DenotesNames, DenotesDecl}
use Rattle.type_form.specs.Pool.{Interns}
use Rattle.air_form.specs.Nodes.{AirState, BodyState, IsNode}
use Rattle.air_form.specs.Denote.{IsBody, body_at, list_of, air_at}
use Rattle.air_form.proofs.Trees.{nodes-grow}
use Rattle.question_runs.specs.Programs.{done}
use Rattle.question_runs.specs.Runs.{Move as AnyMove, Run, ends, stops, fails, behind, run, resumed, trace_of, stop_of, Answers as Answered}
use Rattle.question_runs.specs.Rounds.{result_of, needs}
use Rattle.question_runs.proofs.RunSteps.{Answers-run}
use Rattle.question_runs.proofs.GrowingRuns.{Answers-stop}
use Rattle.elab_form.specs.Asking.{Elab, Out, gives}
use Rattle.elab_form.specs.Questions as plain
use Rattle.elab_form.specs.Standing.{Course, stand}
use Rattle.elab_form.specs.State.{start}
use Rattle.elab_form.specs.Units.{concluded, result_by, declaration, body_of, elab, program, failed_with, is_too_long, language, unit_asked, decl_of}
use Rattle.elab_form.proofs.Courses.{resumed-ends, resumed-stops, resumed-fails}
use Rattle.trace_log.specs.declared.answers.Answers.{Answers}
use Rattle.trace_log.specs.declared.attempt.Attempt.{Attempt}
use Rattle.trace_log.specs.declared.attempt.Outcome.TheVariants as outcome
use Rattle.trace_log.specs.declared.question.Question.TheVariants as question
use Rattle.trace_log.specs.declared.question.UnitIndex.{UnitIndex}
use Rattle.trace_log.specs.declared.question.UnitIndex.TheVariants as index
use Rattle.trace_log.specs.declared.result.Spot.TheVariants as spot
use Rattle.trace_log.specs.declared.result.UnitResult.{UnitResult}
use Rattle.trace_log.specs.declared.result.UnitResult.TheVariants as result
use Rattle.trace_log.specs.declared.result.UnitValue.{UnitValue}
use Rattle.trace_log.specs.declared.trace.Move.{Move}
use Rattle.trace_log.specs.Attempts.{IsAttempt, EndsSo, unit_run, UnitRun}
use Rattle.trace_log.specs.Readings.{AreMoves, moves_at, IsUnit, unit_at, IsUnitValue, unit_value_at, IsUnitResult, unit_result_at}
use Rattle.trace_log.specs.Snapshots.{lines_of, given_at, AreAnswers}
use Rattle.trace_log.proofs.AttemptLemmas.{given-now}
use Rattle.trace_log.proofs.Growing.{unit-grows}
use Rattle.sema_body.specs.declared.halt.Halt.{Halt}
use Rattle.sema_body.specs.declared.halt.Halt.TheVariants as halt
use Rattle.sema_body.specs.declared.work.Work.{Work}
use Rattle.sema_body.specs.Attempts.{AttemptBy, NeedsResult, WrittenAttempt, course, is_code}
use Rattle.sema_body.specs.Meets.{state_at, IsState, hand, trace, Stands, from, Meets}
use Rattle.sema_body.specs.Units.{MeetsUnitValue, MeetsWritten, written, written_in}
use Rattle.sema_body.proofs.Growth.{trace-grows, hand-grows, state-grows}
use Rattle.sema_body.proofs.Reaching.{Stands-grows, passed, chosen}

-- ---- the run of a unit

run-given : (k : Known) (cx : Answers) (u : AnyUnit) → unit_run k cx u ≡ run plain.setting (given_at k cx) [] (elab u)
unfolding unit_run
run-given k cx u = ap (λ given. run plain.setting given [] (elab u)) (λ i q. sym (given-now k cx q) i)

program-run : (k : Known) (cx : Answers) (u : AnyUnit) → is_too_long u ≡ false → unit_run k cx u ≡ run plain.setting (given_at k cx) [] (program u)
unfolding elab
program-run k cx u e = run-given k cx u ∙ ap (λ p. run plain.setting (given_at k cx) [] p) (passed _ _ _ e)

pub decl-run : (k : Known) (cx : Answers) (d : DeclPath) → is_too_long (unit.Decl d) ≡ false → unit_run k cx (unit.Decl d) ≡ course k cx (declaration d)
unfolding course
decl-run k cx d e = program-run k cx (unit.Decl d) e

pub body-run : (k : Known) (cx : Answers) (i : Instance) → is_too_long (unit.Body i) ≡ false → unit_run k cx (unit.Body i) ≡ course k cx (body_of i)
unfolding course
body-run k cx i e = program-run k cx (unit.Body i) e

pub long-run : (k : Known) (cx : Answers) (u : AnyUnit) → is_too_long u ≡ true → unit_run k cx u ≡ ends (failed_with u code.NameTooLong)
unfolding elab
long-run k cx u e = run-given k cx u ∙ ap (λ p. run plain.setting (given_at k cx) [] p) (chosen _ _ _ e)

-- the kinds of units that have no rule yet
pub later-run : (k : Known) (cx : Answers) (u : UnitIndex) → is_too_long (unit_at k u) ≡ false → is_code u ≡ false → ((i : Index) → u ≡ index.Decl i → ⊥) → ((i : Index) → u ≡ index.Body i → ⊥)
    → unit_run k cx (unit_at k u) ≡ ends (failed_with (unit_at k u) code.NotBuilt)
later-run k cx (index.Decl i) e c no_decl no_body = absurd (no_decl i refl)
later-run k cx (index.Body i) e c no_decl no_body = absurd (no_body i refl)
later-run k cx (index.ErrorSet i) e c no_decl no_body = program-run k cx (unit_at k (index.ErrorSet i)) e
later-run k cx (index.Fields i) e c no_decl no_body = program-run k cx (unit_at k (index.Fields i)) e
later-run k cx (index.Code i) e c no_decl no_body = absurd (cc)
later-run k cx (index.Comptime file number) e c no_decl no_body = program-run k cx (unit_at k (index.Comptime file number)) e

-- as an interner comes to know more
pub course-grows : (k l : Known) (cx : Answers) (m : Elab plain.UnitValue) → Grows k l → IsInjective k → IsInjective l → AreAnswers k cx → course l cx m ≡ course k cx m
unfolding course hand
course-grows k l cx m g before after h = ap (λ given. run plain.setting given [] (concluded m)) (hand-grows k l g cx before after h)

-- ---- from the first state

abbrev first_body : AirState
first_body = record { nodes = []; slots = []; statements = []; labels = 0 }

begun-from : (k : Known) (cx : Answers) (s : Work) (m : Elab plain.UnitValue) → s.trace ≡ [] → s.body ≡ first_body → from k cx s m ≡ resumed plain.setting (given_at k cx) [] (m start)
unfolding from stand hand trace state_at
begun-from k cx s m t b = ap₂ (λ x y. stand (given_at k cx) (moves_at k (lines_of cx) x) m (state_at k y)) t b

module _ (k : Known) (cx : Answers) (s : Work) (m : Elab plain.UnitValue) (begun : s.trace ≡ []) (empty : s.body ≡ first_body) where
  course-ends : (t : List (AnyMove plain.Question plain.Answer AnyUnit)) (out : Out plain.UnitValue) → from k cx s m ≡ behind t (ends out) → course k cx m ≡ behind t (ends (result_by out))
  unfolding course
  course-ends t out e = resumed-ends plain.setting (given_at k cx) [] t (m start) (λ out. done (result_by out)) out (sym (begun-from k cx s m begun empty) ∙ e)

  course-stops : (t : List (AnyMove plain.Question plain.Answer AnyUnit)) (q : plain.Question) → from k cx s m ≡ behind t (stops q) → course k cx m ≡ behind t (stops q)
  unfolding course
  course-stops t q e = resumed-stops plain.setting (given_at k cx) [] t (m start) (λ out. done (result_by out)) q (sym (begun-from k cx s m begun empty) ∙ e)

  course-fails : (t : List (AnyMove plain.Question plain.Answer AnyUnit)) → from k cx s m ≡ behind t fails → course k cx m ≡ behind t fails
  unfolding course
  course-fails t e = resumed-fails plain.setting (given_at k cx) [] t (m start) (λ out. done (result_by out)) (sym (begun-from k cx s m begun empty) ∙ e)

-- ---- moves before an end

trace-behind : {Q A U R : Type 0} (t : List (AnyMove Q A U)) (x : Run Q A U R) → trace_of x ≡ [] → trace_of (behind t x) ≡ t
trace-behind [] x e = e
trace-behind (m ∷ t) x e = ap (λ y. m ∷ y) (trace-behind t x e)

result-behind : (t : List (AnyMove plain.Question plain.Answer AnyUnit)) (x : UnitRun) → result_of language (behind t x) ≡ result_of language x
result-behind [] x = refl
result-behind (m ∷ t) x = result-behind t x

stop-behind : {Q A U R : Type 0} (t : List (AnyMove Q A U)) (x : Run Q A U R) → stop_of (behind t x) ≡ stop_of x
stop-behind [] x = refl
stop-behind (m ∷ t) x = stop-behind t x

-- ---- attempts

-- one that ends with a result
ended-attempt : (l : Known) (cx : Answers) (a : Attempt) (t : List Move) (r : UnitResult) (x whole : UnitRun) → AreMoves l t → (a.trace ≡ t) × (a.outcome ≡ outcome.Done r) → IsUnitResult l r
    → trace_of x ≡ [] → result_of language x ≡ Some (unit_result_at l r) → whole ≡ behind (moves_at l (lines_of cx) t) x → IsAttempt l cx a whole
ended-attempt l cx a t r x whole moves made is none tells e = record {
  moves = subst (AreMoves l) (sym made.0) moves;
  trace = ap trace_of e ∙ trace-behind (moves_at l (lines_of cx) t) x none ∙ ap (moves_at l (lines_of cx)) (sym made.0);
  outcome = subst (λ o. EndsSo l o whole) (sym made.1) (is, ap (result_of language) e ∙ result-behind (moves_at l (lines_of cx) t) x ∙ tells);
}

-- one that stops for a result
needing-attempt : (l : Known) (cx : Answers) (a : Attempt) (t : List Move) (u : UnitIndex) (whole : UnitRun) → AreMoves l t → (a.trace ≡ t) × (a.outcome ≡ outcome.Needs u) → IsUnit l u
    → whole ≡ behind (moves_at l (lines_of cx) t) (stops (plain.result (unit_at l u))) → IsAttempt l cx a whole
needing-attempt l cx a t u whole moves made is e = record {
  moves = subst (AreMoves l) (sym made.0) moves;
  trace = ap trace_of e ∙ trace-behind (moves_at l (lines_of cx) t) (stops (plain.result (unit_at l u))) refl ∙ ap (moves_at l (lines_of cx)) (sym made.0);
  outcome = subst (λ o. EndsSo l o whole) (sym made.1) (is, ap (needs language) e ∙ ap (option_and_then unit_asked) (stop-behind (moves_at l (lines_of cx) t) (stops (plain.result (unit_at l u)))));
}

module _ (k l : Known) (cx : Answers) (s s' : Work) (m : Elab plain.UnitValue) (begun : s.trace ≡ []) (empty : s.body ≡ first_body) where
  -- the attempt of a call
  pub attempt-made : (r : Result UnitValue Halt) (a : Attempt) → MeetsUnitValue l cx s' r (from k cx s m) → AttemptBy r s'.trace a → IsAttempt l cx a (course k cx m)
  unfolding trace
  attempt-made (Ok v) a e made = ended-attempt l cx a s'.trace (result.Good v) _ _ e.stands.moves made e.is.0 refl refl (course-ends k cx s m begun empty _ _ e.is.1)
  attempt-made (Err (halt.Returns o)) a e made = ended-attempt l cx a s'.trace (result.Failed None) _ _ e.stands.moves made tt refl refl (course-ends k cx s m begun empty _ _ e.is.1)
  attempt-made (Err (halt.Wrong d)) a e made = ended-attempt l cx a s'.trace (result.Failed (Some d)) _ _ e.stands.moves made e.is.0 refl refl (course-ends k cx s m begun empty _ _ e.is.1)
  attempt-made (Err (halt.Needs (question.Result u))) a e made = needing-attempt l cx a s'.trace u _ e.stands.moves made e.is.0 (course-stops k cx s m begun empty _ _ e.is.1)
  attempt-made (Err (halt.Needs (question.Text p))) a e made = absurd made
  attempt-made (Err (halt.Needs (question.Name c n))) a e made = absurd made
  attempt-made (Err (halt.Needs (question.Import path))) a e made = absurd made
  attempt-made (Err halt.Failed) a e made = ended-attempt l cx a s'.trace (result.Failed None) _ _ e.stands.moves made tt refl refl (course-fails k cx s m begun empty _ e.is)
  attempt-made (Err (halt.Full shard)) a e made = absurd made
  attempt-made (Err halt.OutOfMemory) a e made = absurd made

  -- what it stops for has no answer
  stops-there : (t : List (AnyMove plain.Question plain.Answer AnyUnit)) (q : plain.Question) → from k cx s m ≡ behind t (stops q) → given_at k cx q ≡ None
  stops-there t q e =
      Answers-stop (given_at k cx) (behind t (stops q)) q
      (subst (Answered (given_at k cx)) (sym (begun-from k cx s m begun empty) ∙ e) (Answers-run plain.setting (given_at k cx) (m start) []))
      (stop-behind t (stops q))

  pub needs-result : (r : Result UnitValue Halt) → MeetsUnitValue l cx s' r (from k cx s m) → NeedsResult r
  unfolding given_at
  needs-result (Ok v) e = tt
  needs-result (Err (halt.Returns o)) e = tt
  needs-result (Err (halt.Wrong d)) e = tt
  needs-result (Err (halt.Needs (question.Result u))) e = tt
  needs-result (Err (halt.Needs (question.Text p))) e = let none = stops-there _ _ e.is.1 in absurd (cc)
  needs-result (Err (halt.Needs (question.Name c n))) e = let none = stops-there _ _ e.is.1 in absurd (cc)
  needs-result (Err (halt.Needs (question.Import path))) e = let none = stops-there _ _ e.is.1 in absurd (cc)
  needs-result (Err halt.Failed) e = tt
  needs-result (Err (halt.Full shard)) e = tt
  needs-result (Err halt.OutOfMemory) e = tt

-- one that asks nothing
pub failing-attempt : (l : Known) (cx : Answers) (a : Attempt) (k : Known) (u : UnitIndex) (i : Index) (c : DiagCode) (t : List ℕ) → a.trace ≡ []
    → a.outcome ≡ outcome.Done (result.Failed (Some (record { spot = spot.Named i; code = c; text = t }))) → t ≡ [] → DenotesDecl l i (decl_of (unit_at k u))
    → IsAttempt l cx a (ends (failed_with (unit_at k u) c))
failing-attempt l cx a k u i c t none made text d =
    ended-attempt l cx a [] (result.Failed (Some (record { spot = spot.Named i; code = c; text = t }))) (ends (failed_with (unit_at k u) c)) (ends (failed_with (unit_at k u) c)) tt (none, made) d.known refl
    (ap₂ (λ x y. Some (plain.failed (Some (record { spot = plain.named x; code = c; text = y })))) (sym d.is) (sym text)) refl

-- ---- typed bodies

-- a halt is the same, whatever a call would give
pub halted : {A C D : Type 0} {l : Known} {cx : Answers} {s : Work} {Is : C → Type 0} {at : C → A} {Is' : D → Type 0} {at' : D → A} {x : Course A} (h : Halt) → Meets l cx s Is at (Err h) x → Meets l cx s Is' at' (Err h) x
halted (halt.Returns o) e = record { stands = e.stands; is = e.is }
halted (halt.Wrong d) e = record { stands = e.stands; is = e.is }
halted (halt.Needs q) e = record { stands = e.stands; is = e.is }
halted halt.Failed e = record { stands = e.stands; is = e.is }
halted (halt.Full shard) e = record { stands = e.stands; is = e.is }
halted halt.OutOfMemory e = record { stands = e.stands; is = e.is }

-- the body that was written, as the value of the unit
pub written-value : (k l : Known) (cx : Answers) (s : Work) (t : Index) (v : UnitValue) (x : Course plain.UnitValue) → MeetsWritten k cx s (Ok t) x → Grows k l → IsInjective l → IsUnitValue l v
    → unit_value_at l v ≡ written_in k s.body t → MeetsUnitValue l cx s (Ok v) x
written-value k l cx s t v x e g agrees is same = record {
  stands = Stands-grows k l cx s g agrees e.stands;
  is = (
    is,
    e.is.1
        ∙ ap (λ y. behind y (ends (gives (state_at k s.body) (written_in k s.body t)))) (sym (trace-grows k l g cx s e.stands.moves))
        ∙ ap₂ (λ y z. behind (trace l cx s) (ends (gives y z))) (sym (state-grows k l g s.body e.stands.body)) (sym same),
  );
}

no_instances : (k : Known) (is : List Index) → is ≡ [] → All (IsInstance k) is
no_instances k is e = subst (All (IsInstance k)) (sym e) (λ i d below. absurd (omega arith))

pub written-body : (k l : Known) (b : AirState) (t errors : Index) (refers : List Index) (v : BodyState) → Grows k l → IsState k b → IsTy k t → DenotesNames l errors [] → refers ≡ []
    → v ≡ record { params = 0; result = t; slots = b.slots; stmts = b.statements; errors = errors; refers = refers; nodes = b.nodes }
    → IsBody l v × (plain.body (body_at l v) ≡ written_in k b t)
unfolding body_at state_at
written-body k l b t errors refers v g w is names none e =
    subst (λ x. IsBody l x × (plain.body (body_at l x) ≡ written_in k b t)) (sym e) (
      record {
        result = g.stays.is_ty t is;
        slots = λ i d below. g.stays.is_ty _ (w.slots i d below);
        errors = names.known;
        refers = no_instances l refers none;
        nodes = nodes-grow k l b.nodes g w.nodes;
      },
      ap₂ (λ x y. plain.body (record { params = 0; result = ty_at l t; slots = map (ty_at l) b.slots; statements = list_of (air_at l b.nodes) b.statements; errors = x; refers = map (instance_at l) y })) names.is none
          ∙ ap₂ written (g.stays.ty t is) (state-grows k l g b w),
    )

-- ---- the first state

all_none : {A : Type 0} (P : A → Type 0) → All P []
all_none P i d below = absurd (omega arith)

first-state : (k : Known) → IsState k first_body
first-state k = record {
  built = record { earlier = record { earlier = λ i n e. absurd (cc) }; statements = tt };
  nodes = all_none (IsNode k);
  slots = all_none (IsTy k);
}

-- where a unit begins
pub first-stands : (k : Known) (cx : Answers) (s : Work) → IsInjective k → AreAnswers k cx → s.trace ≡ [] → s.body ≡ first_body → Stands k cx s
first-stands k cx s agrees h begun empty = record {
  agrees = agrees;
  answers = h;
  moves = subst (AreMoves k) (sym begun) tt;
  body = subst (IsState k) (sym empty) (first-state k);
}

-- the answer takes as much room
pub as-full : {S H : Type 0} {known : S → Known} {home : S → H} {fulls : S → ℕ} {old new : S} {b c : Bool} → b ≡ c → Interns known home fulls old new c → Interns known home fulls old new b
as-full {known = known} {home = home} {fulls = fulls} {old = old} {new = new} e i = subst (λ x. Interns known home fulls old new x) (sym e) i

-- ---- units as less was known

pub decl-attempt : (k k1 l : Known) (cx : Answers) (a : Attempt) (u : UnitIndex) (i : Index) → Grows k k1 → IsInjective k → IsInjective k1 → AreAnswers k cx → u ≡ index.Decl i → IsUnit k u
    → is_too_long (unit_at k u) ≡ false → IsAttempt l cx a (course k1 cx (declaration (decl_at k1 i))) → IsAttempt l cx a (unit_run k cx (unit_at k u))
decl-attempt k k1 l cx a u i g before after h is known short made =
    let is_decl : IsDecl k i = subst (IsUnit k) is known in
    let fits : is_too_long (unit.Decl (decl_at k i)) ≡ false = subst (λ x. is_too_long (unit_at k x) ≡ false) is short in
    let whole : unit_run k cx (unit.Decl (decl_at k i)) ≡ course k1 cx (declaration (decl_at k1 i)) =
    decl-run k cx (decl_at k i) fits ∙ sym (course-grows k k1 cx (declaration (decl_at k i)) g before after h) ∙ ap (λ x. course k1 cx (declaration x)) (sym (g.stays.decl i is_decl)) in
    subst (λ x. IsAttempt l cx a (unit_run k cx (unit_at k x))) (sym is) (subst (IsAttempt l cx a) (sym whole) made)

pub body-attempt : (k k1 l : Known) (cx : Answers) (a : Attempt) (u : UnitIndex) (i : Index) → Grows k k1 → IsInjective k → IsInjective k1 → AreAnswers k cx → u ≡ index.Body i → IsUnit k u
    → is_too_long (unit_at k u) ≡ false → IsAttempt l cx a (course k1 cx (body_of (instance_at k1 i))) → IsAttempt l cx a (unit_run k cx (unit_at k u))
body-attempt k k1 l cx a u i g before after h is known short made =
    let is_instance : IsInstance k i = subst (IsUnit k) is known in
    let fits : is_too_long (unit.Body (instance_at k i)) ≡ false = subst (λ x. is_too_long (unit_at k x) ≡ false) is short in
    let whole : unit_run k cx (unit.Body (instance_at k i)) ≡ course k1 cx (body_of (instance_at k1 i)) =
    body-run k cx (instance_at k i) fits ∙ sym (course-grows k k1 cx (body_of (instance_at k i)) g before after h) ∙ ap (λ x. course k1 cx (body_of x)) (sym (g.stays.instance i is_instance)) in
    subst (λ x. IsAttempt l cx a (unit_run k cx (unit_at k x))) (sym is) (subst (IsAttempt l cx a) (sym whole) made)

pub failed-attempt : (k k1 l : Known) (cx : Answers) (a : Attempt) (u : UnitIndex) (c : DiagCode) → Grows k k1 → IsUnit k u → unit_run k cx (unit_at k u) ≡ ends (failed_with (unit_at k u) c)
    → IsAttempt l cx a (ends (failed_with (unit_at k1 u) c)) → IsAttempt l cx a (unit_run k cx (unit_at k u))
failed-attempt k k1 l cx a u c g is run_is made =
    subst (IsAttempt l cx a) (sym (run_is ∙ ap (λ x. ends (failed_with x c)) (sym (unit-grows k k1 u g is)))) made

-- where a call succeeds, what it gives is also this
pub if-ok : {C E : Type 0} (r : Result C E) (P Q : C → Type 0) → ((c : C) → P c → Q c) → IfOk r P → IfOk r Q
if-ok (Ok c) P Q f h = f c h
if-ok (Err e) P Q f h = h

-- the attempt of a unit that wrote its body
pub written-attempt : (k k1 l : Known) (cx : Answers) (s s' : Work) (m : Elab plain.UnitValue) (t : Index) (a : Attempt) → s.trace ≡ [] → s.body ≡ first_body → MeetsWritten k1 cx s' (Ok t) (from k cx s m)
    → Grows k1 l → IsInjective l → WrittenAttempt k1 l s'.body t s'.trace a → IsAttempt l cx a (course k cx m)
written-attempt k k1 l cx s s' m t a begun empty e g agrees w = attempt-made k l cx s s' m begun empty (Ok w.value) a (written-value k1 l cx s' t w.value (from k cx s m) e g agrees w.is w.same) w.by
