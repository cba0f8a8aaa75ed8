-- From call to call: the run that a function began with is the run of what is left.
use Rattle.std.proofs.Common.{◌≡◌, ℕ, [], Bool, true, false, refl, sym, ap, ap₂, ◌∙◌, subst, Option, Result, Ok, Err}
use Rattle.std.specs.Prelude.{if◌then◌else◌}
use Rattle.zw_base.specs.declared.diag.DiagCode.{DiagCode}
use Rattle.type_form.specs.declared.index.Index.{Index}
use Rattle.type_form.specs.declared.tree.Value.{Value}
use Rattle.type_form.specs.Known.{Known, IsInjective}
use Rattle.type_form.specs.Means.{Grows, DenotesValue}
use Rattle.type_form.proofs.MeansLemmas.{Grows-trans, Grows-refl}
use Rattle.question_runs.specs.Runs.{ends, stops, fails, behind}
use Rattle.elab_form.specs.Questions as plain
use Rattle.elab_form.specs.State.{State, known, Operand as AnyOperand}
use Rattle.elab_form.specs.Asking.{Elab, gives, pure, seq, asking, wrong}
use Rattle.elab_form.specs.Standing.{Moves, Course, stand}
use Rattle.elab_form.proofs.Courses.{seq-gives, seq-returns, seq-wrong, seq-stops, seq-fails, asking-again, asking-fails-again, asking-anew, asking-fails, asking-stops, stand-pure, stand-wrong}
use Rattle.trace_log.specs.declared.question.Question.{Question}
use Rattle.trace_log.specs.declared.answer.Answer.{Answer}
use Rattle.trace_log.specs.declared.result.Spot.TheVariants as spot
use Rattle.sema_body.specs.declared.halt.Operand.TheVariants as operand
use Rattle.sema_body.specs.declared.halt.Halt.{Halt}
use Rattle.sema_body.specs.declared.halt.Halt.TheVariants as halt
use Rattle.sema_body.specs.declared.frame.Frame.{Frame}
use Rattle.trace_log.specs.declared.answers.Answers.{Answers}
use Rattle.sema_body.specs.declared.work.Work.{Work}
use Rattle.trace_log.specs.Readings.{question_at, answer_at, diagnostic_at}
use Rattle.trace_log.specs.Snapshots.{lines_of}
use Rattle.trace_log.proofs.Growing.{AreMoves-grows}
use Rattle.trace_log.proofs.SnapshotLemmas.{AreAnswers-grows}
use Rattle.sema_body.specs.Meets.{state_at, operand_at, IsOperand, frame_at, IsFrame, hand, trace, Stands, from, Meets, Heard, again, anew, Hears}
use Rattle.sema_body.proofs.Growth.{trace-grows, hand-grows, state-grows, IsState-grows, frame-grows, IsFrame-grows}

-- ---- as an interner comes to know more

-- all that a call finds stays
pub Stands-grows : (k l : Known) (cx : Answers) (s : Work) → Grows k l → (agrees : IsInjective l) → Stands k cx s → Stands l cx s
Stands-grows k l cx s g agrees w = record {
  agrees = agrees;
  answers = AreAnswers-grows k l cx g w.answers;
  moves = AreMoves-grows k l s.trace g w.moves;
  body = IsState-grows k l g s.body w.body;
}

-- and so does where it stands
pub from-grows : {A : Type 0} (k l : Known) (cx : Answers) (s : Work) (m : Elab A) → Grows k l → IsInjective l → Stands k cx s → from l cx s m ≡ from k cx s m
unfolding from
from-grows k l cx s m g agrees w =
    ap (λ x. stand x (trace l cx s) m (state_at l s.body)) (hand-grows k l g cx w.agrees agrees w.answers)
    ∙ ap₂ (λ x y. stand (hand k cx) x m y) (trace-grows k l g cx s w.moves) (state-grows k l g s.body w.body)

-- ---- what a function has reached that began with the elaboration `m0`: what is left of it is `m`

pub record Reached {A : Type 0} (k0 : Known) (cx : Answers) (s0 : Work) (m0 : Elab A) (k : Known) (s : Work) (m : Elab A) : Type 0 where
  pub grows : Grows k0 k
  pub stands : Stands k cx s
  pub same : from k0 cx s0 m0 ≡ from k cx s m

-- at its first call
pub reach-first : {A : Type 0} {k : Known} {cx : Answers} {s : Work} {m0 m : Elab A} → m0 ≡ m → Stands k cx s → Reached k cx s m0 k s m
reach-first {k = k} {cx = cx} {s = s} e w = record { grows = Grows-refl k; stands = w; same = ap (λ x. from k cx s x) e }

-- what is left is another elaboration that is the same
pub reach-same : {A : Type 0} {k0 k : Known} {cx : Answers} {s0 s : Work} {m0 m n : Elab A} → m ≡ n → Reached k0 cx s0 m0 k s m → Reached k0 cx s0 m0 k s n
reach-same {k = k} {cx = cx} {s = s} e r = record { grows = r.grows; stands = r.stands; same = r.same ∙ ap (λ x. from k cx s x) e }

-- calls between that read or intern, and ask and put nothing
pub reach-grows : {A : Type 0} {k0 k l : Known} {cx : Answers} {s0 s : Work} {m0 m : Elab A} → Reached k0 cx s0 m0 k s m → Grows k l → IsInjective l → Reached k0 cx s0 m0 l s m
reach-grows {k0 = k0} {k = k} {l = l} {cx = cx} {s = s} {m = m} r g agrees = record {
  grows = Grows-trans _ _ _ r.grows g;
  stands = Stands-grows k l cx s g agrees r.stands;
  same = r.same ∙ sym (from-grows k l cx s m g agrees r.stands);
}

-- a call that gave a value: what follows goes on from there
pub reach-goes : {A B C : Type 0} {k0 k l : Known} {cx : Answers} {s0 s s' : Work} {m0 : Elab B} {Is : C → Type 0} {at : C → A}
    (m : Elab A) (next : A → Elab B) (o : C) → Reached k0 cx s0 m0 k s (seq m next) → Grows k l → Meets l cx s' Is at (Ok o) (from k cx s m) → Reached k0 cx s0 m0 l s' (next (at o))
unfolding from
reach-goes {k = k} {l = l} {cx = cx} {s = s} {s' = s'} {at = at} m next o r g e = record {
  grows = Grows-trans _ _ _ r.grows g;
  stands = e.stands;
  same =
      r.same
      ∙ seq-gives (hand k cx) (trace k cx s) (trace l cx s') m next (state_at k s.body) (state_at l s'.body) (at o) e.is.1
      ∙ ap (λ x. stand x (trace l cx s') (next (at o)) (state_at l s'.body)) (sym (hand-grows k l g cx r.stands.agrees e.stands.agrees r.stands.answers));
}

-- how a call halted that is the first of what is left: the whole halts so
pub halts-seq : {A B C D : Type 0} (k : Known) {l : Known} {cx : Answers} (s : Work) {s' : Work} (m : Elab A) (next : A → Elab B) {Is : C → Type 0} {at : C → A}
    (Is' : D → Type 0) (at' : D → B) (h : Halt) → Meets l cx s' Is at (Err h) (from k cx s m) → Meets l cx s' Is' at' (Err h) (from k cx s (seq m next))
unfolding from
halts-seq k {l = l} {cx = cx} s {s' = s'} m next Is' at' (halt.Returns o) e = record { stands = e.stands; is = (e.is.0, seq-returns (hand k cx) (trace k cx s) (trace l cx s') m next (state_at k s.body) (state_at l s'.body) (operand_at l s' o) e.is.1) }
halts-seq k {l = l} {cx = cx} s {s' = s'} m next Is' at' (halt.Wrong d) e = record { stands = e.stands; is = (e.is.0, seq-wrong (hand k cx) (trace k cx s) (trace l cx s') m next (state_at k s.body) (state_at l s'.body) (diagnostic_at l d) e.is.1) }
halts-seq k {l = l} {cx = cx} s {s' = s'} m next Is' at' (halt.Needs q) e = record { stands = e.stands; is = (e.is.0, seq-stops (hand k cx) (trace k cx s) (trace l cx s') m next (state_at k s.body) (state_at l s'.body) (question_at l q) e.is.1) }
halts-seq k {l = l} {cx = cx} s {s' = s'} m next Is' at' halt.Failed e = record { stands = e.stands; is = seq-fails (hand k cx) (trace k cx s) (trace l cx s') m next (state_at k s.body) (state_at l s'.body) e.is }
halts-seq k s m next Is' at' (halt.Full shard) e = record { stands = tt; is = tt }
halts-seq k s m next Is' at' halt.OutOfMemory e = record { stands = tt; is = tt }

-- a run that is the same is met by the same answer
pub meets-same : {A C : Type 0} {l : Known} {cx : Answers} {s : Work} {Is : C → Type 0} {at : C → A} {r : Result C Halt} {run run' : Course A} → run' ≡ run → Meets l cx s Is at r run → Meets l cx s Is at r run'
meets-same {l = l} {cx = cx} {s = s} {Is = Is} {at = at} {r = r} e m = subst (λ x. Meets l cx s Is at r x) (sym e) m

-- the last call
pub reach-ends : {A C : Type 0} {k0 k l : Known} {cx : Answers} {s0 s s' : Work} {m0 m : Elab A} {Is : C → Type 0} {at : C → A} {r : Result C Halt}
    → Reached k0 cx s0 m0 k s m → Meets l cx s' Is at r (from k cx s m) → Meets l cx s' Is at r (from k0 cx s0 m0)
reach-ends r e = meets-same r.same e

-- a call that halted
pub reach-halts : {A B C D : Type 0} {k0 k l : Known} {cx : Answers} {s0 s s' : Work} {m0 : Elab B} {Is : C → Type 0} {at : C → A} {Is' : D → Type 0} {at' : D → B}
    (m : Elab A) (next : A → Elab B) (h : Halt) → Reached k0 cx s0 m0 k s (seq m next) → Meets l cx s' Is at (Err h) (from k cx s m) → Meets l cx s' Is' at' (Err h) (from k0 cx s0 m0)
reach-halts {k = k} {s = s} {Is' = Is'} {at' = at'} m next h r e = meets-same r.same (halts-seq k s m next Is' at' h e)

-- ---- what a form gives by itself

pub meets-pure : {A C : Type 0} {k : Known} {cx : Answers} {s : Work} {Is : C → Type 0} {at : C → A} (o : C) (a : A) → Stands k cx s → Is o → at o ≡ a → Meets k cx s Is at (Ok o) (from k cx s (pure a))
unfolding from
meets-pure {k = k} {cx = cx} {s = s} {at = at} o a w is e = record {
  stands = w;
  is = (is, stand-pure (hand k cx) (trace k cx s) a (state_at k s.body) ∙ ap (λ x. behind (trace k cx s) (ends (gives (state_at k s.body) x))) (sym e));
}

pub meets-wrong : {A C : Type 0} {k : Known} {cx : Answers} {s : Work} {Is : C → Type 0} {at : C → A} (f : Frame) (place : ℕ) (c : DiagCode) → Stands k cx s → IsFrame k f
    → Meets k cx s Is at (Err (halt.Wrong (record { spot = spot.Within f.part place; code = c; text = [] }))) (from k cx s (wrong (frame_at k f) place c))
unfolding from
meets-wrong {k = k} {cx = cx} {s = s} f place c w h = record { stands = w; is = (h.part, stand-wrong (hand k cx) (trace k cx s) (frame_at k f) place c (state_at k s.body)) }

-- a known value
pub meets-known : {k : Known} {cx : Answers} {s : Work} (i : Index) (v : Value) → Stands k cx s → DenotesValue k i v → Meets k cx s (IsOperand k s) (operand_at k s) (Ok (operand.Known i)) (from k cx s (pure (known v)))
meets-known i v w d = meets-pure (operand.Known i) (known v) w d.known (ap known d.is)

-- ---- a question

-- the moves that a question leaves, and the body, which it leaves as it was
pub reach-asked : {A : Type 0} {k0 k l : Known} {cx : Answers} {s0 s s' : Work} {m0 : Elab A} (q : plain.Question) (next : plain.Answer → Elab A) (a : Answer)
    → Reached k0 cx s0 m0 k s (asking q next) → Grows k l → Hears k cx s q l s' (Ok a) → Reached k0 cx s0 m0 l s' (next (answer_at l (lines_of cx) a))
unfolding from
reach-asked {k = k} {l = l} {cx = cx} {s = s} {s' = s'} q next a r g e = record {
  grows = Grows-trans _ _ _ r.grows g;
  stands = e.stands;
  same =
      r.same
      ∙ heard-goes (hand k cx) (trace k cx s) (trace l cx s') q next (answer_at l (lines_of cx) a) (state_at k s.body) e.is.1 e.is.2
      ∙ ap (λ x. stand x (trace l cx s') (next (answer_at l (lines_of cx) a)) (state_at k s.body)) (sym (hand-grows k l g cx r.stands.agrees e.stands.agrees r.stands.answers))
      ∙ ap (λ x. stand (hand l cx) (trace l cx s') (next (answer_at l (lines_of cx) a)) x) (sym (state-grows k l g s.body r.stands.body) ∙ ap (state_at l) (sym e.body));
} where
  heard-goes : {B : Type 0} (given : plain.Question → Option plain.Answer) (t t' : Moves) (q : plain.Question) (next : plain.Answer → Elab B) (a : plain.Answer) (st : State) → Heard given t q a t' → plain.is_failure a ≡ false → stand given t (asking q next) st ≡ stand given t' (next a) st
  heard-goes given t t' q next a st (again e f) sound = asking-again given t q next st a e sound ∙ ap (λ x. stand given x (next a) st) (sym f)
  heard-goes given t t' q next a st (anew e hand f) sound = asking-anew given t q next st a e hand sound ∙ ap (λ x. stand given x (next a) st) (sym f)

fails-heard : {B : Type 0} (given : plain.Question → Option plain.Answer) (t t' : Moves) (q : plain.Question) (next : plain.Answer → Elab B) (st : State) → Heard given t q plain.failure t' → stand given t (asking q next) st ≡ behind t' fails
fails-heard given t t' q next st (again e f) = asking-fails-again given t q next st plain.failure e refl ∙ ap (λ x. behind x fails) (sym f)
fails-heard given t t' q next st (anew e hand f) = asking-fails given t q next st plain.failure e hand refl ∙ ap (λ x. behind x fails) (sym f)

-- a question that halts
pub halts-asked : {A C : Type 0} (k : Known) {l : Known} {cx : Answers} (s : Work) {s' : Work} {Is : C → Type 0} {at : C → A} (q : plain.Question) (next : plain.Answer → Elab A) (h : Halt)
    → Hears k cx s q l s' (Err h) → Meets l cx s' Is at (Err h) (from k cx s (asking q next))
unfolding from
halts-asked k {l = l} {cx = cx} s {s' = s'} q next (halt.Needs p) e = record {
  stands = e.stands;
  is = (
    e.is.0,
    asking-stops (hand k cx) (trace k cx s) q next (state_at k s.body) e.is.2 e.is.3
        ∙ ap (λ x. behind x (stops q)) (sym e.is.4)
        ∙ ap (λ x. behind (trace l cx s') (stops x)) (sym e.is.1),
  );
}
halts-asked k {l = l} {cx = cx} s {s' = s'} q next halt.Failed e = record { stands = e.stands; is = fails-heard (hand k cx) (trace k cx s) (trace l cx s') q next (state_at k s.body) e.is }
halts-asked k s q next (halt.Full shard) e = record { stands = tt; is = tt }
halts-asked k s q next halt.OutOfMemory e = record { stands = tt; is = tt }
halts-asked k s q next (halt.Returns o) e = absurd e.is
halts-asked k s q next (halt.Wrong d) e = absurd e.is

-- a diagnostic in a frame that was there when less was known
pub meets-diagnostic : {A C : Type 0} (k0 : Known) {k : Known} {cx : Answers} {s : Work} {Is : C → Type 0} {at : C → A} (f : Frame) (place : ℕ) (c : DiagCode) (h : Halt) → Stands k cx s → Grows k0 k → IsFrame k0 f
    → h ≡ halt.Wrong (record { spot = spot.Within f.part place; code = c; text = [] }) → Meets k cx s Is at (Err h) (from k cx s (wrong (frame_at k0 f) place c))
meets-diagnostic k0 {k = k} {cx = cx} {s = s} {Is = Is} {at = at} f place c h st g w e =
    meets-same (ap (λ x. from k cx s (wrong x place c)) (sym (frame-grows k0 k g f w)))
    (subst (λ x. Meets k cx s Is at (Err x) (from k cx s (wrong (frame_at k f) place c))) (sym e) (meets-wrong f place c st (IsFrame-grows k0 k g f w)))

-- a question that was made of what is there
pub reach-question : {A : Type 0} {k0 k1 : Known} {cx : Answers} {s0 : Work} (q0 : plain.Question) (next : plain.Answer → Elab A) (q : Question)
    → Stands k0 cx s0 → Grows k0 k1 → IsInjective k1 → question_at k1 q ≡ q0 → Reached k0 cx s0 (asking q0 next) k1 s0 (asking (question_at k1 q) next)
reach-question q0 next q w g agrees e = reach-same (ap (λ x. asking x next) (sym e)) (reach-grows (reach-first refl w) g agrees)

-- a choice that was made
pub chosen : {A : Type 0} (x y : A) (b : Bool) → b ≡ true → (if b then x else y) ≡ x
chosen x y b e = ap (λ c. if c then x else y) e

pub passed : {A : Type 0} (x y : A) (b : Bool) → b ≡ false → (if b then x else y) ≡ y
passed x y b e = ap (λ c. if c then x else y) e

-- all that a call finds stays: the same with fewer words
pub standing : {k l : Known} {cx : Answers} {s : Work} → Stands k cx s → Grows k l → IsInjective l → Stands l cx s
standing {k = k} {l = l} {cx = cx} {s = s} w g agrees = Stands-grows k l cx s g agrees w

-- ---- how a function ends that has reached the end

-- with what is given
pub reach-gives : {A C : Type 0} {k0 k : Known} {cx : Answers} {s0 s : Work} {m0 : Elab A} {Is : C → Type 0} {at : C → A} (o : C) (a : A)
    → Reached k0 cx s0 m0 k s (pure a) → Is o → at o ≡ a → Meets k cx s Is at (Ok o) (from k0 cx s0 m0)
reach-gives o a r is e = reach-ends r (meets-pure o a r.stands is e)

-- with a known value
pub reach-known : {k0 k : Known} {cx : Answers} {s0 s : Work} {m0 : Elab AnyOperand} (i : Index) (v : Value)
    → Reached k0 cx s0 m0 k s (pure (known v)) → DenotesValue k i v → Meets k cx s (IsOperand k s) (operand_at k s) (Ok (operand.Known i)) (from k0 cx s0 m0)
reach-known i v r d = reach-ends r (meets-known i v r.stands d)

-- with a diagnostic in the function's frame
pub reach-wrong : {A C : Type 0} {k0 k : Known} {cx : Answers} {s0 s : Work} {m0 : Elab A} {Is : C → Type 0} {at : C → A} (f : Frame) (place : ℕ) (c : DiagCode) (h : Halt)
    → Reached k0 cx s0 m0 k s (wrong (frame_at k0 f) place c) → IsFrame k0 f → h ≡ halt.Wrong (record { spot = spot.Within f.part place; code = c; text = [] }) → Meets k cx s Is at (Err h) (from k0 cx s0 m0)
reach-wrong {k0 = k0} f place c h r w e = reach-ends r (meets-diagnostic k0 f place c h r.stands r.grows w e)
