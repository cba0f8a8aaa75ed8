-- What each form of the core tree does, by the form of its line.
use Rattle.std.proofs.Common.{◌≡◌, ℕ, zero, suc, ◌+◌, ◌<◌, true, false, List, [], ◌∷◌, map, drop, length, refl, sym, ap, ap₂, ◌∙◌, subst, Option, Some, None, Ok, Err, arith}
use Rattle.std.proofs.lemmas.Bool.{eqb-true}
use Rattle.std.specs.Prelude.{get_or, ◌==◌, ◌&&◌}
use Rattle.zw_base.specs.declared.diag.DiagCode.{DiagCode}
use Rattle.zw_base.specs.declared.diag.DiagCode.TheVariants as code
use Rattle.zir_form.specs.declared.form.Form.{Form}
use Rattle.zir_form.specs.declared.form.Form.TheVariants as form
use Rattle.zir_form.specs.declared.primitive.Primitive.{Primitive}
use Rattle.zir_form.specs.Core.{Core, Cores, cores_of}
use Rattle.zir_form.specs.Core as core
use Rattle.zir_form.specs.Lines.{over_cores}
use Rattle.type_form.specs.declared.index.Index.{Index}
use Rattle.type_form.specs.declared.tree.DeclPath.TheVariants as path
use Rattle.type_form.specs.declared.unit.Unit.TheVariants as unit
use Rattle.type_form.specs.Known.{Known, IsInjective}
use Rattle.type_form.specs.Means.{Grows, DenotesBytes, DenotesDecl, IsTy, bytes_at, ty_at}
use Rattle.trace_log.specs.declared.question.Question.TheVariants as question
use Rattle.trace_log.specs.declared.question.UnitIndex.TheVariants as index
use Rattle.trace_log.specs.Readings.{answer_at, question_at}
use Rattle.trace_log.specs.Snapshots.{lines_of}
use Rattle.elab_form.specs.Questions as plain
use Rattle.type_form.specs.declared.tree.Ty.{Ty, out-Ty}
use Rattle.type_form.specs.declared.tree.Value.{Value}
use Rattle.elab_form.specs.State.{Frame, Operand, known}
use Rattle.elab_form.specs.Asking.{Elab, pure, seq, asking, apart, wrong}
use Rattle.elab_form.specs.Places.{is_absent, place_of, value_place}
use Rattle.air_form.specs.Typed.{Statement}
use Rattle.elab_form.specs.Coercion.{fitted, fitting}
use Rattle.elab_form.specs.Control.{is_never, leaving, void_value, behind_statement, block_end, may_drop, dropping_code, dropped, leaving_all, return_with}
use Rattle.elab_form.specs.Elab.{form_at, forms, inner_at, most_calls}
use Rattle.elab_form.specs.Names.{constant_in, declared_form, declared_in, declared_value, is_file, primitive_form}
use Rattle.elab_form.specs.Numbers.{integer_form}
use Rattle.type_form.proofs.MeansLemmas.{Grows-trans}
use Rattle.trace_log.specs.declared.answer.Answer.{Answer}
use Rattle.trace_log.specs.declared.answers.Answers.{Answers}
use Rattle.sema_body.specs.declared.halt.Halt.{Halt}
use Rattle.sema_body.specs.declared.work.Work.{Work}
use Rattle.sema_body.specs.Trees.{has_rule}
use Rattle.sema_body.specs.declared.frame.Frame.{Frame as CodeFrame}
use Rattle.sema_body.specs.Meets.{frame_at, from, Hears, IsFrame, IsWanted, MeetsOperand, operand_at, Stands, want_at}
use Rattle.sema_body.proofs.Growth.{frame-grows, IsOperand-grows, operand-grows, wanted-grows}
use Rattle.sema_body.specs.declared.halt.Operand.{Operand as CodeOperand}
use Rattle.sema_body.proofs.Reaching.{chosen, passed, meets-same, Reached, reach-asked, reach-ends, reach-gives, reach-goes, reach-grows, reach-halts, reach-question, reach-same, halts-asked}

-- the elaboration of a tree
abbrev of_tree : Frame → Option Ty → Core → Elab Operand
of_tree f want c = form_at most_calls f want c

module _ (f : Frame) (want : Option Ty) (at : ℕ → Core) (fm : Form) where
  pub integer-form : (place n : ℕ) → fm ≡ form.Integer place n → of_tree f want (over_cores at fm) ≡ integer_form f place n
  unfolding form_at over_cores
  integer-form place n e = ap (λ x. of_tree f want (over_cores at x)) e

  pub word-form : (place : ℕ) (p : Primitive) → fm ≡ form.Primitive place p → of_tree f want (over_cores at fm) ≡ primitive_form f place p
  unfolding form_at over_cores
  word-form place p e = ap (λ x. of_tree f want (over_cores at x)) e

  pub name-form : (place depth : ℕ) (name bytes : List ℕ) → fm ≡ form.Declared place depth name → bytes ≡ name → of_tree f want (over_cores at fm) ≡ declared_form f place depth bytes
  unfolding form_at over_cores
  name-form place depth name bytes e h = ap (λ x. of_tree f want (over_cores at x)) e ∙ ap (declared_form f place depth) (sym h)

  pub grouped-form : (place inner : ℕ) → fm ≡ form.Grouped place inner → of_tree f want (over_cores at fm) ≡ of_tree f want (at inner)
  unfolding form_at over_cores
  grouped-form place inner e = ap (λ x. of_tree f want (over_cores at x)) e

  pub absent-form : fm ≡ form.Absent → of_tree f want (over_cores at fm) ≡ pure (known void_value)
  unfolding form_at over_cores
  absent-form e = ap (λ x. of_tree f want (over_cores at x)) e

  pub return-form : (place value : ℕ) (leaves lines : List ℕ) → fm ≡ form.Return place value leaves → lines ≡ leaves
      → of_tree f want (over_cores at fm) ≡ of_tree f None (core.return place (at value) (cores_of (map at lines)))
  unfolding form_at over_cores
  return-form place value leaves lines e h =
      ap (λ x. of_tree f want (over_cores at x)) e ∙ ap (λ ls. of_tree f None (core.return place (at value) (cores_of (map at ls)))) (sym h)

  pub block-form : (place : ℕ) (statements lines : List ℕ) (leaves : ℕ) → fm ≡ form.Block place statements leaves → lines ≡ statements
      → of_tree f want (over_cores at fm) ≡ of_tree f None (core.block place (cores_of (map at lines)) (at leaves))
  unfolding form_at over_cores
  block-form place statements lines leaves e h =
      ap (λ x. of_tree f want (over_cores at x)) e ∙ ap (λ ls. of_tree f None (core.block place (cores_of (map at ls)) (at leaves))) (sym h)

  pub ignored-form : (place value : ℕ) → fm ≡ form.Ignored place value → of_tree f want (over_cores at fm) ≡ of_tree f None (core.ignored place (at value))
  unfolding form_at over_cores
  ignored-form place value e = ap (λ x. of_tree f want (over_cores at x)) e

pub missing-form : (f : Frame) (want : Option Ty) (c : Core) → c ≡ core.missing → of_tree f want c ≡ wrong f 0 code.NotBuilt
unfolding form_at
missing-form f want c e = ap (of_tree f want) e

-- a form without a rule
pub later-form : (f : Frame) (want : Option Ty) (at : ℕ → Core) (fm : Form) (place : ℕ) → has_rule fm ≡ false → place_of (over_cores at fm) ≡ place
    → of_tree f want (over_cores at fm) ≡ wrong f place code.NotBuilt
unfolding form_at over_cores has_rule
later-form f want at (form.Integer p n) place e h = absurd (cc)
later-form f want at (form.Primitive p w) place e h = absurd (cc)
later-form f want at (form.Declared p d n) place e h = absurd (cc)
later-form f want at (form.Grouped p i) place e h = absurd (cc)
later-form f want at form.Absent place e h = absurd (cc)
later-form f want at (form.Return p v l) place e h = absurd (cc)
later-form f want at (form.Block p s l) place e h = absurd (cc)
later-form f want at (form.Ignored p v) place e h = absurd (cc)
later-form f want at _ place e h = ap (λ x. wrong f x code.NotBuilt) h

-- ---- forms with parts

pub return-is : (f : Frame) (place at : ℕ) (c : Core) (leaves : Cores) → at ≡ value_place place c → form_at most_calls f None (core.return place c leaves)
    ≡ seq (apart (fitting f at f.result (form_at most_calls f f.result c))) (λ o. leaving_all f place leaves (return_with f place o))
unfolding form_at
return-is f place at c leaves e = ap (λ x. seq (apart (fitting f x f.result (form_at most_calls f f.result c))) (λ o. leaving_all f place leaves (return_with f place o))) (sym e)

pub leaving-none : {A : Type 0} (f : Frame) (place : ℕ) (at : ℕ → Core) (leaves : List ℕ) (m : Elab A) → true ≡ (length leaves == 0) → leaving_all f place (cores_of (map at leaves)) m ≡ m
unfolding leaving_all
leaving-none f place at [] m e = refl
leaving-none f place at (l ∷ ls) m e = let z : length (l ∷ ls) ≡ 0 = eqb-true (length (l ∷ ls)) 0 (sym e) in absurd (omega (arith, z))

pub leaving-some : {A : Type 0} (f : Frame) (place : ℕ) (at : ℕ → Core) (leaves : List ℕ) (m : Elab A) → false ≡ (length leaves == 0) → leaving_all f place (cores_of (map at leaves)) m ≡ wrong f place code.NotBuilt
unfolding leaving_all
leaving-some f place at [] m e = absurd (cc)
leaving-some f place at (l ∷ ls) m e = refl

pub fitting-is : (f : Frame) (place : ℕ) (want : Option Ty) (m : Elab Operand) → fitting f place want m ≡ seq m (fitted f place want)
unfolding fitting
fitting-is f place want m = refl

-- the frame and the type that is asked for stay as an interner grows
pub fitted-grows : (k l : Known) (f : CodeFrame) (place : ℕ) (want : Option Index) (o : Operand) → Grows k l → IsFrame k f → IsWanted k want
    → fitted (frame_at k f) place (want_at k want) o ≡ fitted (frame_at l f) place (want_at l want) o
fitted-grows k l f place want o g w h = sym (ap₂ (λ x t. fitted x place t o) (frame-grows k l g f w) (wanted-grows k l g want h))

pub return-grows : (k l : Known) (f : CodeFrame) (place : ℕ) (o : List Statement × Operand) → Grows k l → IsFrame k f → return_with (frame_at k f) place o ≡ return_with (frame_at l f) place o
return-grows k l f place o g w = sym (ap (λ x. return_with x place o) (frame-grows k l g f w))

pub end-grows : (k l : Known) (f : CodeFrame) (place : ℕ) (leaves : Core) (o : Operand) → Grows k l → IsFrame k f → block_end (frame_at k f) place leaves o ≡ block_end (frame_at l f) place leaves o
end-grows k l f place leaves o g w = sym (ap (λ x. block_end x place leaves o) (frame-grows k l g f w))

pub dropped-grows : (k l : Known) (f : CodeFrame) (place : ℕ) (o : Operand) → Grows k l → IsFrame k f → dropped (frame_at k f) place o ≡ dropped (frame_at l f) place o
dropped-grows k l f place o g w = sym (ap (λ x. dropped x place o) (frame-grows k l g f w))

pub form-grows : (k l : Known) (f : CodeFrame) (c : Core) → Grows k l → IsFrame k f → form_at most_calls (frame_at k f) None c ≡ form_at most_calls (frame_at l f) None c
form-grows k l f c g w = sym (ap (λ x. form_at most_calls x None c) (frame-grows k l g f w))

-- what follows a statement
pub rest-never : (rest : Elab Operand) (o : Operand) → is_never o ≡ true → behind_statement rest o ≡ pure o
unfolding behind_statement
rest-never rest o e = chosen _ _ _ e

pub rest-on : (rest : Elab Operand) (o : Operand) → is_never o ≡ false → behind_statement rest o ≡ rest
unfolding behind_statement
rest-on rest o e = passed _ _ _ e

pub block-is : (f : Frame) (place : ℕ) (statements : Cores) (leaves : Core) → form_at most_calls f None (core.block place statements leaves)
    ≡ seq (forms (inner_at most_calls) f statements) (block_end f place leaves)
unfolding form_at
block-is f place statements leaves = refl

pub ignored-is : (f : Frame) (place : ℕ) (c : Core) → form_at most_calls f None (core.ignored place c) ≡ seq (form_at most_calls f None c) (dropped f place)
unfolding form_at
ignored-is f place c = refl

-- ---- statements whose value is dropped

pub drop-given : (f : Frame) (place : ℕ) (o : Operand) → may_drop o ≡ true → dropped f place o ≡ pure o
unfolding dropped
drop-given f place o e = chosen _ _ _ e

pub drop-wrong : (f : Frame) (place : ℕ) (o : Operand) (c : DiagCode) → may_drop o ≡ false → c ≡ dropping_code o → dropped f place o ≡ wrong f place c
unfolding dropped
drop-wrong f place o c e h = passed _ _ _ e ∙ ap (λ x. wrong f place x) (sym h)

-- ---- statements in a row

pub forms-end : (f : Frame) (at : ℕ → Core) (lines : List ℕ) (i : ℕ) → length lines ≡ i → forms (inner_at most_calls) f (cores_of (map at (drop i lines))) ≡ pure (known void_value)
forms-end f at [] i e = ap (λ n. forms (inner_at most_calls) f (cores_of (map at (drop n [])))) (sym e)
forms-end f at (l ∷ lines) zero e = absurd (cc)
forms-end f at (l ∷ lines) (suc i) e = forms-end f at lines i (omega (arith, e))

pub forms-next : (f : Frame) (at : ℕ → Core) (lines : List ℕ) (i d : ℕ) → i < length lines
    → forms (inner_at most_calls) f (cores_of (map at (drop i lines)))
    ≡ seq (form_at most_calls f None (at (get_or lines i d))) (behind_statement (forms (inner_at most_calls) f (cores_of (map at (drop (suc i) lines)))))
unfolding form_at
forms-next f at [] i d h = absurd (omega arith)
forms-next f at (l ∷ lines) zero d h = refl
forms-next f at (l ∷ lines) (suc i) d h = forms-next f at lines i d (omega (arith, h))

-- ---- the end of a block

pub end-never : (f : Frame) (place : ℕ) (leaves : Core) (o : Operand) → is_never o ≡ true → block_end f place leaves o ≡ pure o
unfolding block_end
end-never f place leaves o e = chosen _ _ _ e

pub end-void : (f : Frame) (place : ℕ) (leaves : Core) (o : Operand) → is_never o ≡ false → is_absent leaves ≡ true → block_end f place leaves o ≡ pure (known void_value)
unfolding block_end leaving
end-void f place leaves o e h = passed _ _ _ e ∙ chosen _ _ _ h

pub end-later : (f : Frame) (place : ℕ) (leaves : Core) (o : Operand) → is_never o ≡ false → is_absent leaves ≡ false → block_end f place leaves o ≡ wrong f place code.NotBuilt
unfolding block_end leaving
end-later f place leaves o e h = passed _ _ _ e ∙ passed _ _ _ h

-- ---- names

pub name-in : (f : Frame) (place depth : ℕ) (name : List ℕ) → ((depth == 0) && is_file (out-Ty f.container)) ≡ true → declared_form f place depth name ≡ declared_in f place f.container name
name-in f place depth name e = chosen _ _ _ e

pub name-off : (f : Frame) (place depth : ℕ) (name : List ℕ) → ((depth == 0) && is_file (out-Ty f.container)) ≡ false → declared_form f place depth name ≡ wrong f place code.NotBuilt
name-off f place depth name e = passed _ _ _ e

pub name-grows : (k l : Known) (f : CodeFrame) (place : ℕ) (name : List ℕ) → Grows k l → IsFrame k f
    → declared_in (frame_at k f) place (ty_at k f.container) name ≡ declared_in (frame_at l f) place (ty_at l f.container) name
name-grows k l f place name g w = sym (ap₂ (λ x c. declared_in x place c name) (frame-grows k l g f w) (g.stays.ty f.container w.container))

-- a constant that an answer gives
pub value-given : (f : Frame) (place : ℕ) (given : Option Value) (v : Value) → given ≡ Some v → declared_value f place given ≡ pure (known v)
value-given f place given v e = ap (declared_value f place) e

pub value-none : (f : Frame) (place : ℕ) (given : Option Value) → given ≡ None → declared_value f place given ≡ wrong f place code.NotBuilt
value-none f place given e = ap (declared_value f place) e

-- the question that a name asks, as it is made of indices
pub name-question : (k0 k1 k2 : Known) (container name decl : Index) (bytes : List ℕ) → Grows k0 k1 → IsTy k0 container → DenotesBytes k1 name bytes
    → DenotesDecl k2 decl (path.Named (ty_at k1 container) (bytes_at k1 name)) → question_at k2 (question.Result (index.Decl decl)) ≡ plain.result (unit.Decl (path.Named (ty_at k0 container) bytes))
name-question k0 k1 k2 container name decl bytes g t b d = ap (λ x. plain.result (unit.Decl x)) (d.is ∙ ap₂ path.Named (g.stays.ty container t) b.is)

-- what follows on the answer
abbrev pub name-next : Frame → ℕ → plain.Answer → Elab Operand
name-next f place a = declared_value f place (constant_in a)

module _ (k0 k1 k2 : Known) (cx : Answers) (s : Work) (f : Frame) (place : ℕ) (container name decl : Index) (bytes : List ℕ) (w : Stands k0 cx s)
    (g : Grows k0 k1) (h : Grows k1 k2) (agrees : IsInjective k2) (t : IsTy k0 container) (b : DenotesBytes k1 name bytes) (d : DenotesDecl k2 decl (path.Named (ty_at k1 container) (bytes_at k1 name))) where
  name-begun : Reached k0 cx s (declared_in f place (ty_at k0 container) bytes) k2 s (asking (question_at k2 (question.Result (index.Decl decl))) (name-next f place))
  name-begun =
      reach-question (plain.result (unit.Decl (path.Named (ty_at k0 container) bytes))) (name-next f place) (question.Result (index.Decl decl)) w (Grows-trans _ _ _ g h) agrees
      (name-question k0 k1 k2 container name decl bytes g t b d)

  pub name-halts : (l : Known) (s' : Work) (h : Halt) → Hears k2 cx s (question_at k2 (question.Result (index.Decl decl))) l s' (Err h)
      → MeetsOperand l cx s' (Err h) (from k0 cx s (declared_in f place (ty_at k0 container) bytes))
  name-halts l s' h e = reach-ends name-begun (halts-asked k2 s (question_at k2 (question.Result (index.Decl decl))) (name-next f place) h e)

  pub name-heard : (l : Known) (s' : Work) (a : Answer) → Grows k2 l → Hears k2 cx s (question_at k2 (question.Result (index.Decl decl))) l s' (Ok a)
      → Reached k0 cx s (declared_in f place (ty_at k0 container) bytes) l s' (name-next f place (answer_at l (lines_of cx) a))
  name-heard l s' a g e = reach-asked (question_at k2 (question.Result (index.Decl decl))) (name-next f place) a name-begun g e

-- ---- statements in turn

module _ (k0 k : Known) (cx : Answers) (s0 s : Work) (m0 : Elab Operand) (f : CodeFrame) (at : ℕ → Core) (lines : List ℕ) (i d : ℕ)
    (r : Reached k0 cx s0 m0 k s (forms (inner_at most_calls) (frame_at k0 f) (cores_of (map at (drop i lines))))) (w : IsFrame k0 f) (h : i < length lines) where
  abbrev rest : Elab Operand
  rest = forms (inner_at most_calls) (frame_at k0 f) (cores_of (map at (drop (suc i) lines)))

  next-begun : Reached k0 cx s0 m0 k s (seq (form_at most_calls (frame_at k0 f) None (at (get_or lines i d))) (behind_statement rest))
  next-begun = reach-same (forms-next (frame_at k0 f) at lines i d h) r

  abbrev here : Elab Operand
  here = form_at most_calls (frame_at k f) None (at (get_or lines i d))

  same-here : from k cx s (form_at most_calls (frame_at k0 f) None (at (get_or lines i d))) ≡ from k cx s here
  same-here = ap (from k cx s) (form-grows k0 k f (at (get_or lines i d)) r.grows w)

  pub next-halts : (l : Known) (s' : Work) (x : Halt) → MeetsOperand l cx s' (Err x) (from k cx s here) → MeetsOperand l cx s' (Err x) (from k0 cx s0 m0)
  next-halts l s' x e = reach-halts (form_at most_calls (frame_at k0 f) None (at (get_or lines i d))) (behind_statement rest) x next-begun (meets-same same-here e)

  pub next-goes : (l : Known) (s' : Work) (o : CodeOperand) → Grows k l → MeetsOperand l cx s' (Ok o) (from k cx s here) → Reached k0 cx s0 m0 l s' (behind_statement rest (operand_at l s' o))
  next-goes l s' o g e = reach-goes (form_at most_calls (frame_at k0 f) None (at (get_or lines i d))) (behind_statement rest) o next-begun g (meets-same same-here e)

  -- one that never ends
  pub next-ends : (l n : Known) (s' : Work) (o : CodeOperand) → Grows k l → MeetsOperand l cx s' (Ok o) (from k cx s here) → Grows l n → IsInjective n → is_never (operand_at l s' o) ≡ true
      → MeetsOperand n cx s' (Ok o) (from k0 cx s0 m0)
  next-ends l n s' o g e gn agrees never =
      let given = reach-same (rest-never rest (operand_at l s' o) never) (next-goes l s' o g e) in
      reach-gives o (operand_at l s' o) (reach-grows given gn agrees) (IsOperand-grows l n gn s' o e.is.0) (operand-grows l n gn s' o given.stands.body e.is.0)

  -- and one behind which others are met
  pub next-on : (l n : Known) (s' : Work) (o : CodeOperand) → Grows k l → MeetsOperand l cx s' (Ok o) (from k cx s here) → Grows l n → IsInjective n → is_never (operand_at l s' o) ≡ false
      → Reached k0 cx s0 m0 n s' (forms (inner_at most_calls) (frame_at k0 f) (cores_of (map at (drop (i + 1) lines))))
  next-on l n s' o g e gn agrees never =
      let on : Reached k0 cx s0 m0 n s' rest = reach-grows (reach-same (rest-on rest (operand_at l s' o) never) (next-goes l s' o g e)) gn agrees in
      let step : suc i ≡ i + 1 = omega arith in
      subst (λ j. Reached k0 cx s0 m0 n s' (forms (inner_at most_calls) (frame_at k0 f) (cores_of (map at (drop j lines))))) step on
