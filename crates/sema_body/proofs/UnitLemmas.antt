-- How units go on from their parts.
use Rattle.std.proofs.Common.{◌≡◌, ℕ, [], true, refl, sym, ap, ◌∙◌, subst, Option, Some, None, Result, Ok, Err}
use Rattle.std.specs.Prelude.{unwrap_or}
use Rattle.zw_base.specs.declared.diag.DiagCode.{DiagCode}
use Rattle.zw_base.specs.declared.diag.DiagCode.TheVariants as code
use Rattle.zir_form.specs.Core.{Core}
use Rattle.type_form.specs.declared.tree.Ty.{Ty}
use Rattle.type_form.specs.declared.tree.Arg.TheOpen as layer
use Rattle.type_form.specs.Tree.{ValueLayer}
use Rattle.type_form.specs.Known.{Known, IsInjective}
use Rattle.type_form.specs.declared.index.Index.{Index}
use Rattle.type_form.specs.Means.{Grows, ty_at, value_at, IsDecl, decl_at}
use Rattle.type_form.proofs.MeansLemmas.{Grows-refl}
use Rattle.air_form.specs.declared.node.AirRef.{AirRef}
use Rattle.elab_form.specs.State.{Frame as AnyFrame, Operand as AnyOperand}
use Rattle.elab_form.specs.Asking.{Elab, pure, seq, asking, wrong, evaluated}
use Rattle.elab_form.specs.Elab.{expression}
use Rattle.elab_form.specs.Questions as plain
use Rattle.elab_form.specs.Standing.{stand}
use Rattle.elab_form.specs.Units.{known_at, type_by}
use Rattle.elab_form.proofs.Courses.{evaluated-gives, evaluated-returns, evaluated-wrong, evaluated-stops, evaluated-fails}
use Rattle.trace_log.specs.declared.answers.Answers.{Answers}
use Rattle.trace_log.specs.declared.question.Question.TheVariants as question
use Rattle.trace_log.specs.declared.question.TextPart.TheVariants as part
use Rattle.trace_log.specs.declared.result.Spot.TheVariants as spot
use Rattle.trace_log.specs.Readings.{question_at, diagnostic_at}
use Rattle.sema_body.specs.declared.frame.Frame.{Frame}
use Rattle.sema_body.specs.declared.halt.Operand.{Operand}
use Rattle.sema_body.specs.declared.halt.Operand.TheVariants as operand
use Rattle.sema_body.specs.declared.halt.Halt.{Halt}
use Rattle.sema_body.specs.declared.halt.Halt.TheVariants as halt
use Rattle.sema_body.specs.declared.work.Work.{Work}
use Rattle.sema_body.specs.Meets.{state_at, operand_at, frame_at, IsFrame, hand, trace, Stands, from, halts_full, want_at, Meets, MeetsOperand}
use Rattle.sema_body.specs.Units.{kept, type_in}
use Rattle.sema_body.proofs.Growth.{hand-grows, frame-grows}
use Rattle.sema_body.proofs.Reaching.{Reached, reach-same, reach-grows, reach-goes, reach-ends, reach-question, meets-diagnostic, meets-same}

-- ---- evaluation at comptime

-- what an expression gives that is evaluated at comptime
pub meets-kept : (k l : Known) (cx : Answers) (s s' : Work) (f : Frame) (place : ℕ) (m : Elab AnyOperand) (r : Result Operand Halt) → Grows k l → Stands k cx s → IsFrame k f
    → MeetsOperand l cx s' r (from k cx s m) → MeetsOperand l cx s' (kept f place r) (from k cx s (evaluated (frame_at k f) place m))
unfolding from
meets-kept k l cx s s' f place m (Ok o) g w h e = record { stands = e.stands; is = (e.is.0, evaluated-gives (hand k cx) (trace k cx s) (trace l cx s') m (state_at k s.body) (state_at l s'.body) (frame_at k f) place (operand_at l s' o) e.is.1) }
meets-kept k l cx s s' f place m (Err (halt.Returns o)) g w h e =
    meets-same
    (evaluated-returns (hand k cx) (trace k cx s) (trace l cx s') m (state_at k s.body) (state_at l s'.body) (frame_at k f) place (operand_at l s' o) e.is.1
    ∙ ap (λ x. stand x (trace l cx s') (wrong (frame_at k f) place code.NotComptimeKnown) (state_at l s'.body)) (sym (hand-grows k l g cx w.agrees e.stands.agrees w.answers)))
    (meets-diagnostic k f place code.NotComptimeKnown _ e.stands g h refl)
meets-kept k l cx s s' f place m (Err (halt.Wrong d)) g w h e = record { stands = e.stands; is = (e.is.0, evaluated-wrong (hand k cx) (trace k cx s) (trace l cx s') m (state_at k s.body) (state_at l s'.body) (frame_at k f) place (diagnostic_at l d) e.is.1) }
meets-kept k l cx s s' f place m (Err (halt.Needs q)) g w h e = record { stands = e.stands; is = (e.is.0, evaluated-stops (hand k cx) (trace k cx s) (trace l cx s') m (state_at k s.body) (state_at l s'.body) (frame_at k f) place (question_at l q) e.is.1) }
meets-kept k l cx s s' f place m (Err halt.Failed) g w h e = record { stands = e.stands; is = evaluated-fails (hand k cx) (trace k cx s) (trace l cx s') m (state_at k s.body) (state_at l s'.body) (frame_at k f) place e.is }
meets-kept k l cx s s' f place m (Err (halt.Full shard)) g w h e = record { stands = tt; is = tt }
meets-kept k l cx s s' f place m (Err halt.OutOfMemory) g w h e = record { stands = tt; is = tt }

-- an exit takes no room
pub kept-full : (f : Frame) (place : ℕ) (r : Result Operand Halt) → halts_full (kept f place r) ≡ halts_full r
kept-full f place (Ok o) = refl
kept-full f place (Err (halt.Returns o)) = refl
kept-full f place (Err (halt.Wrong d)) = refl
kept-full f place (Err (halt.Needs q)) = refl
kept-full f place (Err halt.Failed) = refl
kept-full f place (Err (halt.Full shard)) = refl
kept-full f place (Err halt.OutOfMemory) = refl

-- ---- values that are types

pub type-is : (f : AnyFrame) (place : ℕ) (x : ValueLayer) (t : Ty) → type_in x ≡ Some t → type_by f place x ≡ pure t
type-is f place x t e = by_layer x e
  where
    by_layer : (y : ValueLayer) → type_in y ≡ Some t → type_by f place y ≡ pure t
    by_layer (layer.OfType u) h = ap (λ (o : Option Ty). pure (unwrap_or o u)) h
    by_layer _ h = absurd (cc)

pub type-none : (f : AnyFrame) (place : ℕ) (x : ValueLayer) → type_in x ≡ None → type_by f place x ≡ wrong f place code.UndefinedUsed
type-none f place x e = by_layer x e
  where
    by_layer : (y : ValueLayer) → type_in y ≡ None → type_by f place y ≡ wrong f place code.UndefinedUsed
    by_layer (layer.OfType u) h = absurd (cc)
    by_layer _ h = refl

-- ---- frames

-- what is left is said of the frame by what is known now
pub reach-frame : {A : Type 0} {k0 k : Known} {cx : Answers} {s0 s : Work} {m0 : Elab A} (f : Frame) (next : AnyFrame → Elab A) → IsFrame k0 f
    → Reached k0 cx s0 m0 k s (next (frame_at k0 f)) → Reached k0 cx s0 m0 k s (next (frame_at k f))
reach-frame {k0 = k0} {k = k} f next h r = reach-same (ap next (sym (frame-grows k0 k r.grows f h))) r

-- ---- operands that are to be known

pub known-is : (k : Known) (s : Work) (f : AnyFrame) (place : ℕ) (o : Operand) (i : Index) → o ≡ operand.Known i → known_at f place (operand_at k s o) ≡ pure (value_at k i)
known-is k s f place o i e = ap (λ x. known_at f place (operand_at k s x)) e

pub known-run : (k : Known) (s : Work) (f : AnyFrame) (place : ℕ) (o : Operand) (t : Index) (at : AirRef) → o ≡ operand.Run t at → known_at f place (operand_at k s o) ≡ wrong f place code.NotComptimeKnown
known-run k s f place o t at e = ap (λ x. known_at f place (operand_at k s x)) e

pub reach-reframe : {A : Type 0} {k0 k l : Known} {cx : Answers} {s0 s : Work} {m0 : Elab A} (f : Frame) (next : AnyFrame → Elab A) → IsFrame k f → Grows k l
    → Reached k0 cx s0 m0 l s (next (frame_at k f)) → Reached k0 cx s0 m0 l s (next (frame_at l f))
reach-reframe {k = k} {l = l} f next h g r = reach-same (ap next (sym (frame-grows k l g f h))) r

-- a diagnostic in a frame that is known by now
pub reach-wrong-here : {A C : Type 0} {k0 k : Known} {cx : Answers} {s0 s : Work} {m0 : Elab A} {Is : C → Type 0} {at : C → A} (f : Frame) (place : ℕ) (c : DiagCode) (h : Halt)
    → Reached k0 cx s0 m0 k s (wrong (frame_at k f) place c) → IsFrame k f → h ≡ halt.Wrong (record { spot = spot.Within f.part place; code = c; text = [] }) → Meets k cx s Is at (Err h) (from k0 cx s0 m0)
reach-wrong-here {k = k} f place c h r w e = reach-ends r (meets-diagnostic k f place c h r.stands (Grows-refl k) w e)

-- ---- the text of a declaration

-- what is asked was made of what is there
pub asks-whole : {A : Type 0} {k0 k1 : Known} {cx : Answers} {s0 : Work} (d : Index) (next : plain.Answer → Elab A) → Stands k0 cx s0 → Grows k0 k1 → IsInjective k1 → IsDecl k0 d
    → Reached k0 cx s0 (asking (plain.text (plain.whole (decl_at k0 d))) next) k1 s0 (asking (plain.text (plain.whole (decl_at k1 d))) next)
asks-whole d next w g agrees is = reach-question _ next (question.Text (part.Whole d)) w g agrees (ap (λ x. plain.text (plain.whole x)) (g.stays.decl d is))

pub asks-head : {A : Type 0} {k0 k1 : Known} {cx : Answers} {s0 : Work} (d : Index) (next : plain.Answer → Elab A) → Stands k0 cx s0 → Grows k0 k1 → IsInjective k1 → IsDecl k0 d
    → Reached k0 cx s0 (asking (plain.text (plain.head (decl_at k0 d))) next) k1 s0 (asking (plain.text (plain.head (decl_at k1 d))) next)
asks-head d next w g agrees is = reach-question _ next (question.Text (part.Head d)) w g agrees (ap (λ x. plain.text (plain.head x)) (g.stays.decl d is))

pub reach-whole : {A : Type 0} {k0 k k1 : Known} {cx : Answers} {s0 s : Work} {m0 : Elab A} (d : Index) (next : plain.Answer → Elab A) → Reached k0 cx s0 m0 k s (asking (plain.text (plain.whole (decl_at k d))) next)
    → Grows k k1 → IsInjective k1 → IsDecl k d → Reached k0 cx s0 m0 k1 s (asking (plain.text (plain.whole (decl_at k1 d))) next)
reach-whole d next r g agrees is = reach-same (ap (λ x. asking (plain.text (plain.whole x)) next) (sym (g.stays.decl d is))) (reach-grows r g agrees)

-- what an interner knows where a call stands
abbrev pub known_of : {k : Known} {cx : Answers} {s : Work} → Stands k cx s → Known
known_of {k = k} w = k

-- the frame of a form, where a call stands
abbrev pub framed : {k : Known} {cx : Answers} {s : Work} → Stands k cx s → Frame → AnyFrame
framed {k = k} w f = frame_at k f

-- ---- frames that were made

-- an expression in a frame that is another one evaluated at comptime
pub comptime-frame : (k : Known) {l : Known} {cx : Answers} (s : Work) {s' : Work} {r : Result Operand Halt} (f h : Frame) (want : Option Index) (c : Core) → h ≡ record f { is_comptime = true }
    → MeetsOperand l cx s' r (from k cx s (expression (frame_at k h) (want_at k want) c)) → MeetsOperand l cx s' r (from k cx s (expression (record (frame_at k f) { is_comptime = true }) (want_at k want) c))
comptime-frame k {cx = cx} s f h want c e m = meets-same (ap (λ x. from k cx s (expression (frame_at k x) (want_at k want) c)) (sym e)) m

-- an expression in a frame that is another one with this result type
pub result-frame : (k : Known) {l : Known} {cx : Answers} (s : Work) {s' : Work} {r : Result Operand Halt} (f h : Frame) (t : Index) (want : Option Index) (c : Core) → h ≡ record f { result = Some t }
    → MeetsOperand l cx s' r (from k cx s (expression (frame_at k h) (want_at k want) c)) → MeetsOperand l cx s' r (from k cx s (expression (record (frame_at k f) { result = Some (ty_at k t) }) (want_at k want) c))
result-frame k {cx = cx} s f h t want c e m = meets-same (ap (λ x. from k cx s (expression (frame_at k x) (want_at k want) c)) (sym e)) m

pub meets-evaluated : (k l : Known) (cx : Answers) (s s' : Work) (f : Frame) (place at : ℕ) (m : Elab AnyOperand) (r given : Result Operand Halt) → Grows k l → Stands k cx s → IsFrame k f
    → MeetsOperand l cx s' given (from k cx s m) → place ≡ at → r ≡ kept f place given → MeetsOperand l cx s' r (from k cx s (evaluated (frame_at k f) at m))
meets-evaluated k l cx s s' f place at m r given g w h e same is =
    subst (λ x. MeetsOperand l cx s' x (from k cx s (evaluated (frame_at k f) at m))) (sym is)
    (subst (λ y. MeetsOperand l cx s' (kept f place given) (from k cx s (evaluated (frame_at k f) y m))) same (meets-kept k l cx s s' f place m given g w h e))

-- a call that gave a value, where what follows is written in another way
pub reach-goes-as : {A B C : Type 0} {k0 k l : Known} {cx : Answers} {s0 s s' : Work} {m0 : Elab B} {Is : C → Type 0} {at : C → A}
    (m : Elab A) (next next' : A → Elab B) (o : C) → ((a : A) → next a ≡ next' a) → Reached k0 cx s0 m0 k s (seq m next) → Grows k l → Meets l cx s' Is at (Ok o) (from k cx s m) → Reached k0 cx s0 m0 l s' (next' (at o))
reach-goes-as {at = at} m next next' o same r g e = reach-same (same (at o)) (reach-goes m next o r g e)

-- the frame by what is known later
pub frame-later : {k l : Known} (f : Frame) → Grows k l → IsFrame k f → frame_at k f ≡ frame_at l f
frame-later {k = k} {l = l} f g h = sym (frame-grows k l g f h)
