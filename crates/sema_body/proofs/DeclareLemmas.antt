-- How the unit of a declaration goes on, by what its trees are.
use Rattle.std.proofs.Common.{◌≡◌, ℕ, Bool, true, false, List, [], ◌∷◌, ◌++◌, length, map, arith, refl, sym, ap, ap₂, ◌∙◌, subst, Option, Some, None}
use Rattle.std.specs.Prelude.{◌==◌, if◌then◌else◌, unwrap_or}
use Rattle.std.proofs.lemmas.Bool.{ne_eqb}
use Rattle.zw_base.specs.declared.diag.DiagCode.TheVariants as code
use Rattle.zir_form.specs.Core.{Core, Cores, cores_of}
use Rattle.zir_form.specs.Core as core
use Rattle.type_form.specs.declared.tree.Ty.{Ty, out-Ty}
use Rattle.type_form.specs.declared.tree.DeclPath.{DeclPath}
use Rattle.type_form.specs.declared.unit.Unit.{Unit as AnyUnit}
use Rattle.type_form.specs.declared.unit.Unit.TheVariants as unit
use Rattle.type_form.specs.declared.index.Index.{Index}
use Rattle.type_form.specs.declared.tree.Value.TheVariants as value
use Rattle.type_form.specs.Known.{Known}
use Rattle.type_form.specs.Means.{Grows, IsDecl, decl_at, IsValue, value_at, DenotesValue, DenotesInstance, DenotesList, args_at}
use Rattle.type_form.proofs.ListsLemmas.{DenotesArgs-list, ListArgs-nil}
use Rattle.question_runs.specs.Runs as runs
use Rattle.elab_form.specs.Control.{is_none}
use Rattle.elab_form.specs.Places.{place_of, is_absent}
use Rattle.elab_form.specs.Questions as plain
use Rattle.elab_form.specs.State.{Frame as AnyFrame}
use Rattle.elab_form.specs.Asking.{Elab, pure, seq, asking, referring, wrong, not_built}
use Rattle.elab_form.specs.Standing.{stand}
use Rattle.elab_form.specs.Units.{initial_value, value_form, type_form, constant_form, whole_form, whole_answer, no_text, frame, head_form, head_answer, function_by, function_value, exported_form, exported_type, exported_result, without_parameters, is_export_name, name_of, is_exportable, only_instance}
use Rattle.elab_form.proofs.Courses.{referring-goes}
use Rattle.trace_log.specs.declared.answer.Answer.{Answer}
use Rattle.trace_log.specs.declared.answer.Answer.TheVariants as answer
use Rattle.trace_log.specs.declared.answer.TreeRef.{TreeRef}
use Rattle.trace_log.specs.declared.answers.Answers.{Answers}
use Rattle.trace_log.specs.declared.question.UnitIndex.{UnitIndex}
use Rattle.trace_log.specs.declared.question.UnitIndex.TheVariants as index
use Rattle.trace_log.specs.declared.trace.Move.{Move}
use Rattle.trace_log.specs.declared.trace.Move.TheVariants as move
use Rattle.trace_log.specs.Readings.{answer_at, AreMoves, IsUnit, unit_at, move_at, moves_at, LinesOf}
use Rattle.trace_log.specs.Snapshots.{lines_of}
use Rattle.sema_body.specs.declared.heads.Mark.{Mark}
use Rattle.sema_body.specs.declared.heads.Mark.TheVariants as marks
use Rattle.sema_body.specs.declared.work.Work.{Work}
use Rattle.sema_body.specs.Heads.{HeadParts, constant_in, head_in, mark_in, exported_by, function_marked, function_parts, tree_in}
use Rattle.sema_body.specs.Meets.{state_at, hand, trace, Stands, from}
use Rattle.sema_body.specs.Trees.{tree_at}
use Rattle.sema_body.proofs.Reaching.{Reached, chosen, passed}

-- ---- constants

pub initial-free : (f : AnyFrame) (t c : Core) → is_absent t ≡ true → initial_value f t c ≡ value_form f None c
initial-free f t c e = chosen _ _ _ e

pub initial-typed : (f : AnyFrame) (t c : Core) → is_absent t ≡ false → initial_value f t c ≡ seq (type_form f t) (λ s. value_form f (Some s) c)
initial-typed f t c e = passed _ _ _ e

pub whole-some : (f : AnyFrame) (c t v : Core) → constant_in c ≡ Some (t, v) → whole_form f c ≡ constant_form f t v
whole-some f c t v e = by_core c e
  where
    by_core : (x : Core) → constant_in x ≡ Some (t, v) → whole_form f x ≡ constant_form f t v
    by_core (core.constant place local u w) h =
        ap (λ (o : Option (Core × Core)). constant_form f (unwrap_or o (u, w)).0 (unwrap_or o (u, w)).1) h
    by_core _ h = absurd (cc)

pub whole-other : (f : AnyFrame) (c : Core) → constant_in c ≡ None → whole_form f c ≡ not_built f (place_of c)
whole-other f c e = by_core c e
  where
    by_core : (x : Core) → constant_in x ≡ None → whole_form f x ≡ not_built f (place_of x)
    by_core (core.constant place local u w) h = absurd (cc)
    by_core _ h = refl

-- ---- functions

pub without-none : {A : Type 0} (f : AnyFrame) (place : ℕ) (cs : Cores) (m : Elab A) → without_parameters f place cs m ≡ (if is_none cs then m else not_built f place)
without-none f place core.none m = refl
without-none f place (core.more c rest) m = refl

exported-parts : (f : AnyFrame) (d : DeclPath) (place : ℕ) (link mark t : Core) (cs : Cores)
    → exported_form f d place cs mark t ≡ exported_by f d (record { place = place; linkage = link; is_plain = is_none cs; mark = mark; result = t })
exported-parts f d place link mark t cs = ap (λ x. if is_export_name (name_of d) then x else wrong f place code.TypeNotAllowed) (without-none f place cs (exported_type f d mark t))

by_linkage : (f : AnyFrame) (d : DeclPath) (place : ℕ) (link mark t : Core) (cs : Cores)
    → function_by f d link place cs mark t ≡ function_parts f d (record { place = place; linkage = link; is_plain = is_none cs; mark = mark; result = t })
by_linkage f d place core.absent mark t cs = refl
by_linkage f d place core.exported mark t cs = exported-parts f d place core.exported mark t cs
by_linkage f d place (core.inferred at) mark t cs = refl
by_linkage f d place _ mark t cs = refl

pub head-some : (f : AnyFrame) (d : DeclPath) (c : Core) (h : HeadParts) → head_in c ≡ Some h → head_form f d c ≡ function_parts f d h
head-some f d c h e = by_core c e
  where
    by_core : (x : Core) → head_in x ≡ Some h → head_form f d x ≡ function_parts f d h
    by_core (core.head place link cs mark t) g =
        let one : record { place = place; linkage = link; is_plain = is_none cs; mark = mark; result = t } ≡ h = cc in
        by_linkage f d place link mark t cs ∙ ap (function_parts f d) one
    by_core _ g = absurd (cc)

pub head-other : (f : AnyFrame) (d : DeclPath) (c : Core) → head_in c ≡ None → head_form f d c ≡ not_built f (place_of c)
head-other f d c e = by_core c e
  where
    by_core : (x : Core) → head_in x ≡ None → head_form f d x ≡ not_built f (place_of x)
    by_core (core.head place link cs mark t) g = absurd (cc)
    by_core _ g = refl

-- by what stands for the linkage
pub parts-marked : (f : AnyFrame) (d : DeclPath) (h : HeadParts) (m : Mark) → mark_in h.linkage ≡ m → function_parts f d h ≡ function_marked f d h m
parts-marked f d h m e = ap (function_marked f d h) e

-- by what stands before the result type
pub type-plain : (f : AnyFrame) (d : DeclPath) (c t : Core) → mark_in c ≡ marks.Absent → exported_type f d c t ≡ seq (type_form f t) (exported_result f d (place_of t))
type-plain f d c t e = by_core c e
  where
    by_core : (x : Core) → mark_in x ≡ marks.Absent → exported_type f d x t ≡ seq (type_form f t) (exported_result f d (place_of t))
    by_core core.absent h = refl
    by_core core.exported h = absurd (cc)
    by_core (core.inferred place) h = absurd (cc)
    by_core _ h = absurd (cc)

pub type-inferred : (f : AnyFrame) (d : DeclPath) (c t : Core) → mark_in c ≡ marks.Inferred → exported_type f d c t ≡ wrong f (place_of c) code.TypeNotAllowed
type-inferred f d c t e = by_core c e
  where
    by_core : (x : Core) → mark_in x ≡ marks.Inferred → exported_type f d x t ≡ wrong f (place_of x) code.TypeNotAllowed
    by_core core.absent h = absurd (cc)
    by_core core.exported h = absurd (cc)
    by_core (core.inferred place) h = refl
    by_core _ h = absurd (cc)

pub type-exported : (f : AnyFrame) (d : DeclPath) (c t : Core) → mark_in c ≡ marks.Exported → exported_type f d c t ≡ not_built f (place_of t)
type-exported f d c t e = by_core c e
  where
    by_core : (x : Core) → mark_in x ≡ marks.Exported → exported_type f d x t ≡ not_built f (place_of t)
    by_core core.absent h = absurd (cc)
    by_core core.exported h = refl
    by_core (core.inferred place) h = absurd (cc)
    by_core _ h = absurd (cc)

pub type-other : (f : AnyFrame) (d : DeclPath) (c t : Core) → mark_in c ≡ marks.Other → exported_type f d c t ≡ not_built f (place_of t)
type-other f d c t e = by_core c e
  where
    by_core : (x : Core) → mark_in x ≡ marks.Other → exported_type f d x t ≡ not_built f (place_of t)
    by_core core.absent h = absurd (cc)
    by_core core.exported h = absurd (cc)
    by_core (core.inferred place) h = absurd (cc)
    by_core _ h = refl

-- ---- answers

pub whole-tree : (cx : Answers) (d : DeclPath) (k : Known) (a : Answer) (r : TreeRef) → tree_in a ≡ Some r
    → whole_answer d (answer_at k (lines_of cx) a) ≡ whole_form (frame (plain.whole d) d) (tree_at cx r)
unfolding tree_at
whole-tree cx d k (answer.Tree (Some q)) r e = let one : q ≡ r = cc in ap (λ x. whole_form (frame (plain.whole d) d) (tree_at cx x)) one
whole-tree cx d k (answer.Tree None) r e = absurd (cc)
whole-tree cx d k (answer.Declaration x) r e = absurd (cc)
whole-tree cx d k (answer.Exports x) r e = absurd (cc)
whole-tree cx d k (answer.Given x) r e = absurd (cc)
whole-tree cx d k answer.Failure r e = absurd (cc)

pub whole-none : (cx : Answers) (d : DeclPath) (k : Known) (a : Answer) → tree_in a ≡ None → whole_answer d (answer_at k (lines_of cx) a) ≡ no_text (frame (plain.whole d) d)
whole-none cx d k (answer.Tree (Some q)) e = absurd (cc)
whole-none cx d k (answer.Tree None) e = refl
whole-none cx d k (answer.Declaration x) e = refl
whole-none cx d k (answer.Exports x) e = refl
whole-none cx d k (answer.Given x) e = refl
whole-none cx d k answer.Failure e = refl

pub head-tree : (cx : Answers) (d : DeclPath) (k : Known) (a : Answer) (r : TreeRef) → tree_in a ≡ Some r
    → head_answer d (answer_at k (lines_of cx) a) ≡ head_form (frame (plain.head d) d) d (tree_at cx r)
unfolding tree_at
head-tree cx d k (answer.Tree (Some q)) r e = let one : q ≡ r = cc in ap (λ x. head_form (frame (plain.head d) d) d (tree_at cx x)) one
head-tree cx d k (answer.Tree None) r e = absurd (cc)
head-tree cx d k (answer.Declaration x) r e = absurd (cc)
head-tree cx d k (answer.Exports x) r e = absurd (cc)
head-tree cx d k (answer.Given x) r e = absurd (cc)
head-tree cx d k answer.Failure r e = absurd (cc)

pub head-none : (cx : Answers) (d : DeclPath) (k : Known) (a : Answer) → tree_in a ≡ None → head_answer d (answer_at k (lines_of cx) a) ≡ asking (plain.text (plain.whole d)) (whole_answer d)
head-none cx d k (answer.Tree (Some q)) e = absurd (cc)
head-none cx d k (answer.Tree None) e = refl
head-none cx d k (answer.Declaration x) e = refl
head-none cx d k (answer.Exports x) e = refl
head-none cx d k (answer.Given x) e = refl
head-none cx d k answer.Failure e = refl

-- ---- references

moves-more : (l : Known) (lines : LinesOf) (ms : List Move) (u : UnitIndex) → moves_at l lines (ms ++ move.Referred u ∷ []) ≡ moves_at l lines ms ++ runs.referred (unit_at l u) ∷ []
moves-more l lines [] u = refl
moves-more l lines (n ∷ ms) u = ap (λ x. move_at l lines n ∷ x) (moves-more l lines ms u)

moves-known : (l : Known) (ms : List Move) (u : UnitIndex) → AreMoves l ms → IsUnit l u → AreMoves l (ms ++ move.Referred u ∷ [])
moves-known l [] u h b = (b, tt)
moves-known l (m ∷ ms) u h b = (h.0, moves-known l ms u h.1 b)

-- with a unit that is referred to as one move more
abbrev with_referred : Work → UnitIndex → Work
with_referred s u = record s { trace = s.trace ++ move.Referred u ∷ [] }

referred-stands : (k : Known) (cx : Answers) (s : Work) (u : UnitIndex) → Stands k cx s → IsUnit k u → Stands k cx (with_referred s u)
referred-stands k cx s u w is = record { agrees = w.agrees; answers = w.answers; moves = moves-known k s.trace u w.moves is; body = w.body }

referred-from : {A : Type 0} (k : Known) (cx : Answers) (s : Work) (u : UnitIndex) (m : Elab A) → from k cx s (referring (unit_at k u) m) ≡ from k cx (with_referred s u) m
unfolding from trace
referred-from k cx s u m =
    referring-goes (hand k cx) (trace k cx s) (unit_at k u) m (state_at k s.body)
    ∙ ap (λ x. stand (hand k cx) x m (state_at k s.body)) (sym (moves-more k (lines_of cx) s.trace u))

-- a unit that was referred to
pub reach-refers : {A : Type 0} {k0 k : Known} {cx : Answers} {s0 s : Work} {m0 : Elab A} (s' : Work) (u : UnitIndex) (v : AnyUnit) (m : Elab A) → Reached k0 cx s0 m0 k s (referring v m)
    → IsUnit k u → unit_at k u ≡ v → s' ≡ record s { trace = s.trace ++ move.Referred u ∷ [] } → Reached k0 cx s0 m0 k s' m
reach-refers {k0 = k0} {k = k} {cx = cx} {s0 = s0} {s = s} {m0 = m0} s' u v m r is e put =
    subst (λ x. Reached k0 cx s0 m0 k x m) (sym put) (record {
      grows = r.grows;
      stands = referred-stands k cx s u r.stands is;
      same = r.same ∙ ap (λ x. from k cx s (referring x m)) (sym e) ∙ referred-from k cx s u m;
    })

-- ---- exports

pub exports : (f : AnyFrame) (d : DeclPath) (place : ℕ) (t : Ty) → is_exportable (out-Ty t) ≡ true
    → exported_result f d place t ≡ referring (unit.Code (only_instance d)) (pure (plain.constant (function_value d)))
exports f d place t e = chosen _ _ _ e

pub exports-not : (f : AnyFrame) (d : DeclPath) (place : ℕ) (t : Ty) → is_exportable (out-Ty t) ≡ false → exported_result f d place t ≡ wrong f place code.TypeNotAllowed
exports-not f d place t e = passed _ _ _ e

-- what is made for an export stands for what is wanted
pub export-made : (k0 k1 k2 k3 : Known) (d i code : Index) → Grows k0 k1 → Grows k1 k2 → Grows k2 k3 → IsDecl k0 d → DenotesValue k2 i (value.Function (decl_at k1 d)) → DenotesInstance k3 code (only_instance (decl_at k2 d))
    → (unit_at k3 (index.Code code) ≡ unit.Code (only_instance (decl_at k0 d))) × IsValue k3 i × (plain.constant (value_at k3 i) ≡ plain.constant (function_value (decl_at k0 d)))
export-made k0 k1 k2 k3 d i code g h j is v n =
    let first : decl_at k1 d ≡ decl_at k0 d = g.stays.decl d is in
    let second : decl_at k2 d ≡ decl_at k0 d = h.stays.decl d (g.stays.is_decl d is) ∙ first in (
      ap unit.Code (n.is ∙ ap only_instance second),
      j.stays.is_value i v.known,
      ap plain.constant (j.stays.value i v.known ∙ v.is ∙ ap function_value first),
    )

pub export-plain : (f : AnyFrame) (d : DeclPath) (h : HeadParts) → is_export_name (name_of d) ≡ true → h.is_plain ≡ true → exported_by f d h ≡ exported_type f d h.mark h.result
export-plain f d h good plain = chosen _ _ _ good ∙ chosen _ _ _ plain

pub export-later : (f : AnyFrame) (d : DeclPath) (h : HeadParts) → is_export_name (name_of d) ≡ true → h.is_plain ≡ false → exported_by f d h ≡ not_built f h.place
export-later f d h good plain = chosen _ _ _ good ∙ passed _ _ _ plain

pub export-unnamed : (f : AnyFrame) (d : DeclPath) (h : HeadParts) → is_export_name (name_of d) ≡ false → exported_by f d h ≡ wrong f h.place code.TypeNotAllowed
export-unnamed f d h bad = passed _ _ _ bad

-- a declaration stays what it is
pub decl-kept : (k0 k1 k2 : Known) (d : Index) → Grows k0 k1 → Grows k1 k2 → IsDecl k0 d → decl_at k2 d ≡ decl_at k0 d
decl-kept k0 k1 k2 d g h is = h.stays.decl d (g.stays.is_decl d is) ∙ g.stays.decl d is

-- the instance of a function without parameters
pub only-made : (k0 k1 k2 : Known) (d args i : Index) → Grows k0 k1 → IsDecl k0 d → DenotesList k1 args [] → DenotesInstance k2 i (record { decl = decl_at k1 d; args = args_at k1 args })
    → DenotesInstance k2 i (only_instance (decl_at k0 d))
only-made k0 k1 k2 d args i g is list n = record {
  known = n.known;
  is = n.is ∙ ap₂ (λ x y. record { decl = x; args = y }) (g.stays.decl d is) (DenotesArgs-list k1 args [] [] list (ListArgs-nil k1)).is;
}

-- lines in a row, of which there are none
pub none-lines : (at : ℕ → Core) (lines : List ℕ) (b : Bool) → b ≡ (length lines == 0) → is_none (cores_of (map at lines)) ≡ b
none-lines at [] b e = sym e
none-lines at (l ∷ ls) b e = sym (e ∙ ne_eqb (length (l ∷ ls)) 0 (λ z. absurd (omega (arith, z))))
