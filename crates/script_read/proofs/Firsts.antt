-- The first cause that stands, stage by stage.
use Rattle.std.proofs.Common.{◌≡◌, List, [], ◌∷◌, ◌++◌, Result, Ok, Err, sym, ◌∙◌, ap, append_assoc}
use Rattle.std.specs.List.{AllByRecursion}
use Rattle.script_read.specs.declared.command.Refusal.{Refusal}
use Rattle.script_read.specs.Answers.{◌>>=◌}
use Rattle.script_read.specs.Causes.{Cause, refused_with, NoneStands, IsFirst}

-- a stage of the answer: what it gives has this property, and none of its causes stands; or it refuses by the first
-- that does
abbrev pub Stage : {A : Type 0} → (Cause → Type 0) → List Cause → (A → Type 0) → Result A Refusal → Type 0
Stage stands causes fits (Ok x) = fits x × NoneStands stands causes
Stage stands causes fits (Err e) = (cause : Cause) × (refused_with cause ≡ e) × IsFirst stands causes cause

pub none_of_both : (stands : Cause → Type 0) (xs ys : List Cause) → NoneStands stands xs → NoneStands stands ys → NoneStands stands (xs ++ ys)
none_of_both stands [] ys f g = g
none_of_both stands (x ∷ xs) ys f g = (f.0, none_of_both stands xs ys f.1 g)

first_within : (stands : Cause → Type 0) (xs ys : List Cause) (cause : Cause) → IsFirst stands xs cause → IsFirst stands (xs ++ ys) cause
first_within stands xs ys cause h = record {
  before = h.before;
  after = h.after ++ ys;
  in_order = ap (λ l. l ++ ys) h.in_order ∙ append_assoc h.before (cause ∷ h.after) ys;
  here = h.here;
  none_before = h.none_before;
}

first_behind : (stands : Cause → Type 0) (xs ys : List Cause) (cause : Cause) → NoneStands stands xs → IsFirst stands ys cause → IsFirst stands (xs ++ ys) cause
first_behind stands xs ys cause none h = record {
  before = xs ++ h.before;
  after = h.after;
  in_order = ap (λ l. xs ++ l) h.in_order ∙ sym (append_assoc xs h.before (cause ∷ h.after));
  here = h.here;
  none_before = none_of_both stands xs h.before none h.none_before;
}

stage_behind : {B : Type 0} (stands : Cause → Type 0) (xs ys : List Cause) (fits : B → Type 0) (r : Result B Refusal) → NoneStands stands xs → Stage stands ys fits r → Stage stands (xs ++ ys) fits r
stage_behind stands xs ys fits (Ok y) none h = (h.0, none_of_both stands xs ys none h.1)
stage_behind stands xs ys fits (Err e) none h = (h.0, h.1, first_behind stands xs ys h.0 none h.2)

-- one stage after another
pub stage_then : {A B : Type 0} (stands : Cause → Type 0) (xs ys : List Cause) (fits : A → Type 0) (fits' : B → Type 0) (r : Result A Refusal) (next : A → Result B Refusal) →
    Stage stands xs fits r → ((x : A) → fits x → Stage stands ys fits' (next x)) → Stage stands (xs ++ ys) fits' (r >>= next)
stage_then stands xs ys fits fits' (Ok x) next h more = stage_behind stands xs ys fits' (next x) h.1 (more x h.0)
stage_then stands xs ys fits fits' (Err e) next h more = (h.0, h.1, first_within stands xs ys h.0 h.2)

-- the same property in other words
abbrev pub Same : (Cause → Type 0) → (Cause → Type 0) → List Cause → Type 0
Same stands other causes = AllByRecursion (λ cause. (stands cause → other cause) × (other cause → stands cause)) causes

same_none : (stands other : Cause → Type 0) (xs : List Cause) → Same stands other xs → NoneStands stands xs → NoneStands other xs
same_none stands other [] e h = tt
same_none stands other (x ∷ xs) e h = (λ o. h.0 (e.0.1 o), same_none stands other xs e.1 h.1)

same_front : (stands other : Cause → Type 0) (xs ys : List Cause) → Same stands other (xs ++ ys) → Same stands other xs
same_front stands other [] ys e = tt
same_front stands other (x ∷ xs) ys e = (e.0, same_front stands other xs ys e.1)

same_at : (stands other : Cause → Type 0) (xs ys : List Cause) (cause : Cause) → Same stands other (xs ++ cause ∷ ys) → stands cause → other cause
same_at stands other [] ys cause e h = e.0.0 h
same_at stands other (x ∷ xs) ys cause e h = same_at stands other xs ys cause e.1 h

same_first : (stands other : Cause → Type 0) (causes : List Cause) (cause : Cause) → Same stands other causes → IsFirst stands causes cause → IsFirst other causes cause
same_first stands other causes cause e h =
    let parted : Same stands other (h.before ++ cause ∷ h.after) = rw h.in_order at e in
    record {
      before = h.before;
      after = h.after;
      in_order = h.in_order;
      here = same_at stands other h.before h.after cause parted h.here;
      none_before = same_none stands other h.before (same_front stands other h.before (cause ∷ h.after) parted) h.none_before;
    }

pub same_stage : {A : Type 0} (stands other : Cause → Type 0) (causes : List Cause) (fits : A → Type 0) (r : Result A Refusal) → Same stands other causes → Stage stands causes fits r → Stage other causes fits r
same_stage stands other causes fits (Ok x) e h = (h.0, same_none stands other causes e h.1)
same_stage stands other causes fits (Err error) e h = (h.0, h.1, same_first stands other causes h.0 e h.2)

-- ---- one first cause

none_at : (stands : Cause → Type 0) (xs ys : List Cause) (cause : Cause) → NoneStands stands (xs ++ cause ∷ ys) → stands cause → ⊥
none_at stands [] ys cause none h = none.0 h
none_at stands (x ∷ xs) ys cause none h = none_at stands xs ys cause none.1 h

-- where none stands there is no first
pub none_first : (stands : Cause → Type 0) (causes : List Cause) (cause : Cause) → NoneStands stands causes → IsFirst stands causes cause → ⊥
none_first stands causes cause none h = none_at stands h.before h.after cause (rw h.in_order at none) h.here

one_front : (stands : Cause → Type 0) (xs xs' ys ys' : List Cause) (c c' : Cause) → xs ++ c ∷ ys ≡ xs' ++ c' ∷ ys' → stands c → stands c' → NoneStands stands xs → NoneStands stands xs' → c ≡ c'
one_front stands [] [] ys ys' c c' e h h' none none' = cc
one_front stands [] (x' ∷ xs') ys ys' c c' e h h' none none' = let is : x' ≡ c = cc in absurd (none'.0 (rw is h))
one_front stands (x ∷ xs) [] ys ys' c c' e h h' none none' = let is : x ≡ c' = cc in absurd (none.0 (rw is h'))
one_front stands (x ∷ xs) (x' ∷ xs') ys ys' c c' e h h' none none' =
    let rest : xs ++ c ∷ ys ≡ xs' ++ c' ∷ ys' = cc in
    one_front stands xs xs' ys ys' c c' rest h h' none.1 none'.1

pub one_first : (stands : Cause → Type 0) (causes : List Cause) (c c' : Cause) → IsFirst stands causes c → IsFirst stands causes c' → c ≡ c'
one_first stands causes c c' h h' = one_front stands h.before h'.before h.after h'.after c c' (sym h.in_order ∙ h'.in_order) h.here h'.here h.none_before h'.none_before
