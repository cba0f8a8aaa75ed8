-- How the unit of a body goes on, by what its trees are.
use Rattle.std.proofs.Common.{◌≡◌, ℕ, true, false, [], ◌∷◌, length, refl, sym, ap, ◌∙◌, subst, Option, Some, None, Ok}
use Rattle.std.specs.Prelude.{if◌then◌else◌, unwrap_or}
use Rattle.zw_base.specs.declared.diag.DiagCode.TheVariants as code
use Rattle.zir_form.specs.Core.{Core}
use Rattle.zir_form.specs.Core as core
use Rattle.type_form.specs.declared.index.Index.{Index}
use Rattle.type_form.specs.declared.tree.Ty.{Ty, out-Ty}
use Rattle.type_form.specs.declared.tree.DeclPath.{DeclPath}
use Rattle.type_form.specs.Known.{Known}
use Rattle.type_form.specs.Means.{IsTy, ty_at}
use Rattle.air_form.specs.declared.node.AirRef.{AirRef}
use Rattle.air_form.specs.declared.node.AirNode.TheVariants as node
use Rattle.air_form.specs.Typed as typed
use Rattle.elab_form.specs.Coercion.{is_void}
use Rattle.elab_form.specs.Control.{is_never, is_none}
use Rattle.elab_form.specs.Questions as plain
use Rattle.elab_form.specs.State.{Frame as AnyFrame, Operand as AnyOperand}
use Rattle.elab_form.specs.Asking.{pure, seq, acts, wrong, not_built}
use Rattle.elab_form.specs.Standing.{stand}
use Rattle.elab_form.specs.Units.{type_form, no_text, frame, body_end, written_body, body_with, body_typed, body_by, body_form, body_answer}
use Rattle.trace_log.specs.declared.answer.Answer.{Answer}
use Rattle.trace_log.specs.declared.answer.Answer.TheVariants as answer
use Rattle.trace_log.specs.declared.answer.TreeRef.{TreeRef}
use Rattle.trace_log.specs.declared.answers.Answers.{Answers}
use Rattle.trace_log.specs.Readings.{answer_at}
use Rattle.trace_log.specs.Snapshots.{lines_of}
use Rattle.sema_body.specs.declared.heads.Mark.{Mark}
use Rattle.sema_body.specs.declared.heads.Mark.TheVariants as marks
use Rattle.sema_body.specs.declared.frame.Frame.{Frame}
use Rattle.sema_body.specs.declared.work.Work.{Work}
use Rattle.sema_body.specs.Bodies.{with_node, with_statements}
use Rattle.sema_body.specs.Heads.{HeadParts, function_in, head_in, mark_in, tree_in}
use Rattle.sema_body.specs.Meets.{Stands, from, IsFrame}
use Rattle.sema_body.specs.Trees.{tree_at}
use Rattle.sema_body.specs.Units.{MeetsNothing, MeetsWritten}
use Rattle.sema_body.proofs.BodyLemmas.{statements-none}
use Rattle.sema_body.proofs.ControlLemmas.{nothing-acts}
use Rattle.sema_body.proofs.DeclareLemmas.{without-none}
use Rattle.sema_body.proofs.Reaching.{chosen, passed}

-- ---- the end of a body

pub end-never : (f : AnyFrame) (place : ℕ) (t : Ty) (o : AnyOperand) → is_never o ≡ true → body_end f place t o ≡ pure tt
end-never f place t o e = chosen _ _ _ e

pub end-void : (f : AnyFrame) (place : ℕ) (t : Ty) (o : AnyOperand) → is_never o ≡ false → is_void (out-Ty t) ≡ true → body_end f place t o ≡ acts (typed.return ∷ [])
end-void f place t o e h = passed _ _ _ e ∙ chosen _ _ _ h

pub end-without : (f : AnyFrame) (place : ℕ) (t : Ty) (o : AnyOperand) → is_never o ≡ false → is_void (out-Ty t) ≡ false → body_end f place t o ≡ wrong f place code.EndsWithoutValue
end-without f place t o e h = passed _ _ _ e ∙ passed _ _ _ h

-- `return` without a value
pub bare-return : (k : Known) (cx : Answers) (s s1 s2 : Work) (q : AirRef) → Stands k cx s → s1 ≡ with_node s (node.Return None) → q.0 ≡ length s.body.nodes → s2 ≡ with_statements s1 (q ∷ [])
    → MeetsNothing k cx s2 (Ok tt) (from k cx s (acts (typed.return ∷ [])))
bare-return k cx s s1 s2 q w one at two = nothing-acts k cx s s s1 s2 [] q w tt (statements-none s) one at two

-- the body that was written
pub meets-written : {k : Known} {cx : Answers} {s : Work} (t : Index) → Stands k cx s → IsTy k t → MeetsWritten k cx s (Ok t) (from k cx s (written_body (ty_at k t)))
unfolding from stand
meets-written t w is = record { stands = w; is = (is, refl) }

-- ---- heads

pub typed-absent : (f : AnyFrame) (place : ℕ) (c t b : Core) → mark_in c ≡ marks.Absent → body_typed f place c t b ≡ seq (type_form f t) (body_with f place b)
typed-absent f place c t b e = by_core c e
  where
    by_core : (x : Core) → mark_in x ≡ marks.Absent → body_typed f place x t b ≡ seq (type_form f t) (body_with f place b)
    by_core core.absent h = refl
    by_core core.exported h = absurd (cc)
    by_core (core.inferred at) h = absurd (cc)
    by_core _ h = absurd (cc)

pub typed-other : (f : AnyFrame) (place : ℕ) (c t b : Core) (m : Mark) → mark_in c ≡ m → (m ≡ marks.Absent → ⊥) → body_typed f place c t b ≡ not_built f place
typed-other f place c t b m e other = by_core c (λ h. other (sym e ∙ h))
  where
    by_core : (x : Core) → (mark_in x ≡ marks.Absent → ⊥) → body_typed f place x t b ≡ not_built f place
    by_core core.absent h = absurd (h refl)
    by_core _ h = refl

body-head : (f : AnyFrame) (c b : Core) (h : HeadParts) → head_in c ≡ Some h → body_by f c b ≡ (if h.is_plain then body_typed f h.place h.mark h.result b else not_built f h.place)
body-head f c b h e = by_core c e
  where
    by_core : (x : Core) → head_in x ≡ Some h → body_by f x b ≡ (if h.is_plain then body_typed f h.place h.mark h.result b else not_built f h.place)
    by_core (core.head place link cs mark t) g =
        let one : record { place = place; linkage = link; is_plain = is_none cs; mark = mark; result = t } ≡ h = cc in
        without-none f place cs (body_typed f place mark t b)
        ∙ ap (λ (y : HeadParts). if y.is_plain then body_typed f y.place y.mark y.result b else not_built f y.place) one
    by_core _ g = absurd (cc)

pub body-plain : (f : AnyFrame) (c b : Core) (h : HeadParts) → head_in c ≡ Some h → h.is_plain ≡ true → body_by f c b ≡ body_typed f h.place h.mark h.result b
body-plain f c b h e plain = body-head f c b h e ∙ chosen _ _ _ plain

pub body-later : (f : AnyFrame) (c b : Core) (h : HeadParts) → head_in c ≡ Some h → h.is_plain ≡ false → body_by f c b ≡ not_built f h.place
body-later f c b h e plain = body-head f c b h e ∙ passed _ _ _ plain

pub body-other : (f : AnyFrame) (c b : Core) → head_in c ≡ None → body_by f c b ≡ no_text f
body-other f c b e = by_core c e
  where
    by_core : (x : Core) → head_in x ≡ None → body_by f x b ≡ no_text f
    by_core (core.head place link cs mark t) g = absurd (cc)
    by_core _ g = refl

pub form-some : (f : AnyFrame) (c h b : Core) → function_in c ≡ Some (h, b) → body_form f c ≡ body_by f h b
form-some f c h b e = by_core c e
  where
    by_core : (x : Core) → function_in x ≡ Some (h, b) → body_form f x ≡ body_by f h b
    by_core (core.function u w) g =
        ap (λ (o : Option (Core × Core)). body_by f (unwrap_or o (u, w)).0 (unwrap_or o (u, w)).1) g
    by_core _ g = absurd (cc)

pub form-none : (f : AnyFrame) (c : Core) → function_in c ≡ None → body_form f c ≡ no_text f
form-none f c e = by_core c e
  where
    by_core : (x : Core) → function_in x ≡ None → body_form f x ≡ no_text f
    by_core (core.function u w) g = absurd (cc)
    by_core _ g = refl

-- ---- answers

pub body-tree : (cx : Answers) (d : DeclPath) (k : Known) (a : Answer) (r : TreeRef) → tree_in a ≡ Some r
    → body_answer d (answer_at k (lines_of cx) a) ≡ body_form (frame (plain.whole d) d) (tree_at cx r)
unfolding tree_at
body-tree cx d k (answer.Tree (Some q)) r e = let one : q ≡ r = cc in ap (λ x. body_form (frame (plain.whole d) d) (tree_at cx x)) one
body-tree cx d k (answer.Tree None) r e = absurd (cc)
body-tree cx d k (answer.Declaration x) r e = absurd (cc)
body-tree cx d k (answer.Exports x) r e = absurd (cc)
body-tree cx d k (answer.Given x) r e = absurd (cc)
body-tree cx d k answer.Failure r e = absurd (cc)

pub body-none : (cx : Answers) (d : DeclPath) (k : Known) (a : Answer) → tree_in a ≡ None → body_answer d (answer_at k (lines_of cx) a) ≡ no_text (frame (plain.whole d) d)
body-none cx d k (answer.Tree (Some q)) e = absurd (cc)
body-none cx d k (answer.Tree None) e = refl
body-none cx d k (answer.Declaration x) e = refl
body-none cx d k (answer.Exports x) e = refl
body-none cx d k (answer.Given x) e = refl
body-none cx d k answer.Failure e = refl

-- ---- frames

pub typed-frame : (k : Known) (f h : Frame) (t : Index) → h ≡ record f { result = Some t } → IsFrame k f → IsTy k t → IsFrame k h
typed-frame k f h t e w is = subst (IsFrame k) (sym e) (record { part = w.part; container = w.container; result = is })
