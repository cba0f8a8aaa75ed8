-- The tests by which elaboration tells types, declarations, units and questions apart.
use Rattle.std.proofs.Common.{◌≡◌, ℕ, List, Bool, true, false, refl, sym, ap, ap₂, ◌∙◌}
use Rattle.std.specs.Prelude.{◌==◌, ◌&&◌}
use Rattle.std.specs.Str.{bytes_eq}
use Rattle.std.proofs.lemmas.Bool.{eqb-true, eq-eqb}
use Rattle.std.proofs.lemmas.Slice.Eq.{bytes_eq-Decides}
use base.Stored.{Gv, gnil, gnum, gcons}
use Rattle.type_form.specs.declared.index.Index.{Index}
use Rattle.type_form.specs.declared.tree.Ty.{Ty}
use Rattle.type_form.specs.declared.tree.DeclPath.{DeclPath}
use Rattle.type_form.specs.declared.unit.Unit.{Unit as AnyUnit}
use Rattle.type_form.specs.contracts.tree.Ty as ty_row
use Rattle.type_form.specs.contracts.tree.DeclPath as path_row
use Rattle.type_form.specs.contracts.unit.Unit as unit_row
use Rattle.type_form.specs.Known.{Known, IsInjective}
use Rattle.type_form.specs.Means.{IsTy, ty_at}
use Rattle.type_form.proofs.LayerLemmas.{ty_at-injective}
use Rattle.elab_form.specs.Questions.{TextPart, head, whole, block, Question, text, name, import, result, same_code, same_part, same_path, same_question, same_ty, same_unit}

both-true : (a b : Bool) → (a && b) ≡ true → (a ≡ true) × (b ≡ true)
both-true true true e = (refl, refl)
both-true true false e = absurd (cc)
both-true false b e = absurd (cc)

same_code-self : (a : Gv) → same_code a a ≡ true
same_code-self gnil = refl
same_code-self (gnum n) = eq-eqb n n refl
same_code-self (gcons a b) = ap₂ (λ x y. x && y) (same_code-self a) (same_code-self b)

same_code-true : (a b : Gv) → same_code a b ≡ true → a ≡ b
same_code-true gnil gnil e = refl
same_code-true (gnum m) (gnum n) e = ap gnum (eqb-true m n e)
same_code-true (gcons a b) (gcons c d) e =
    let parts = both-true (same_code a c) (same_code b d) e in
    ap₂ gcons (same_code-true a c parts.0) (same_code-true b d parts.1)
same_code-true gnil (gnum n) e = absurd (cc)
same_code-true gnil (gcons c d) e = absurd (cc)
same_code-true (gnum m) gnil e = absurd (cc)
same_code-true (gnum m) (gcons c d) e = absurd (cc)
same_code-true (gcons a b) gnil e = absurd (cc)
same_code-true (gcons a b) (gnum n) e = absurd (cc)

pub same_ty-self : (t : Ty) → same_ty t t ≡ true
unfolding same_ty
same_ty-self t = same_code-self (ty_row.the_row.coded.code t)

pub same_ty-true : (s t : Ty) → same_ty s t ≡ true → s ≡ t
unfolding same_ty
same_ty-true s t e = ty_row.the_row.coded.inj s t (same_code-true (ty_row.the_row.coded.code s) (ty_row.the_row.coded.code t) e)

-- ---- declarations, units and questions

pub same_path-self : (d : DeclPath) → same_path d d ≡ true
unfolding same_path
same_path-self d = same_code-self (path_row.the_row.coded.code d)

pub same_path-true : (d e : DeclPath) → same_path d e ≡ true → d ≡ e
unfolding same_path
same_path-true d e h = path_row.the_row.coded.inj d e (same_code-true (path_row.the_row.coded.code d) (path_row.the_row.coded.code e) h)

pub same_unit-self : (u : AnyUnit) → same_unit u u ≡ true
unfolding same_unit
same_unit-self u = same_code-self (unit_row.the_row.coded.code u)

pub same_unit-true : (u v : AnyUnit) → same_unit u v ≡ true → u ≡ v
unfolding same_unit
same_unit-true u v h = unit_row.the_row.coded.inj u v (same_code-true (unit_row.the_row.coded.code u) (unit_row.the_row.coded.code v) h)

bytes-self : (a : List ℕ) → bytes_eq a a ≡ true
bytes-self a = (bytes_eq-Decides a a).1 refl

bytes-true : (a b : List ℕ) → bytes_eq a b ≡ true → a ≡ b
bytes-true a b h = (bytes_eq-Decides a b).0 h

same_part-self : (p : TextPart) → same_part p p ≡ true
same_part-self (head d) = same_path-self d
same_part-self (whole d) = same_path-self d
same_part-self (TextPart.fields t) = same_ty-self t
same_part-self (block f m) = ap₂ (λ x y. x && y) (bytes-self f) (eq-eqb m m refl)

same_part-true : (p q : TextPart) → same_part p q ≡ true → p ≡ q
same_part-true (head d) (head e) h = ap head (same_path-true d e h)
same_part-true (whole d) (whole e) h = ap whole (same_path-true d e h)
same_part-true (TextPart.fields s) (TextPart.fields t) h = ap TextPart.fields (same_ty-true s t h)
same_part-true (block f m) (block g n) h =
    let parts = both-true (bytes_eq f g) (m == n) h in
    ap₂ block (bytes-true f g parts.0) (eqb-true m n parts.1)
same_part-true _ _ h = absurd (cc)

pub same_question-self : (q : Question) → same_question q q ≡ true
unfolding same_question
same_question-self (text p) = same_part-self p
same_question-self (name c n) = ap₂ (λ x y. x && y) (same_ty-self c) (bytes-self n)
same_question-self (import f) = bytes-self f
same_question-self (result u) = same_unit-self u

pub same_question-true : (p q : Question) → same_question p q ≡ true → p ≡ q
unfolding same_question
same_question-true (text p) (text q) h = ap text (same_part-true p q h)
same_question-true (name c m) (name d n) h =
    let parts = both-true (same_ty c d) (bytes_eq m n) h in
    ap₂ name (same_ty-true c d parts.0) (bytes-true m n parts.1)
same_question-true (import a) (import b) h = ap import (bytes-true a b h)
same_question-true (result u) (result v) h = ap result (same_unit-true u v h)
same_question-true _ _ h = absurd (cc)

-- two tests that are true together are one
pub true-together : (a b : Bool) → (a ≡ true → b ≡ true) → (b ≡ true → a ≡ true) → a ≡ b
true-together true b there back = sym (there refl)
true-together false true there back = back refl
true-together false false there back = refl

-- types at indices are one where the indices are
pub same_ty-at : (k : Known) (i j : Index) → IsInjective k → IsTy k i → IsTy k j → same_ty (ty_at k i) (ty_at k j) ≡ (i.0 == j.0)
same_ty-at k i j g a b =
    true-together _ _
    (λ e. let one : i ≡ j = ty_at-injective k i j g a b (same_ty-true (ty_at k i) (ty_at k j) e) in ap (λ (l : Index). i.0 == l.0) (sym one) ∙ eq-eqb i.0 i.0 refl)
    (λ e. let one : i ≡ j = ap (λ n. record { 0 = n }) (eqb-true i.0 j.0 e) in ap (λ (l : Index). same_ty (ty_at k i) (ty_at k l)) (sym one) ∙ same_ty-self (ty_at k i))

-- the same, for rules that may not have a dash in a name
pub ruleset same_at = (same_ty-at)
