-- Lists of units without repeats, and the units that a run meets.
use Rattle.std.proofs.Common.{◌≡◌, Bool, true, false, List, [], ◌∷◌, ◌++◌, ◌⊎◌, Option, Some, None, refl, sym, ap, ◌∙◌, subst, inl, inr, arith, option_to_list, flat_map, append_assoc, append-nil}
use Rattle.std.specs.Prelude.{if◌then◌else◌, ◌||◌}
use Rattle.std.specs.List.{Contains, IsDistinct}
use Rattle.std.specs.Bool.{one_answer}
use Rattle.std.specs.Cmp.{IsEquivalence}
use Rattle.std.proofs.lemmas.List.Elements.{Contains-append_left, Contains-append_right, Contains-append_cases, Contains-push, Contains-push_cases}
use Rattle.std.proofs.lemmas.List.Folds.{list_any-append}
use Rattle.std.proofs.lemmas.Map.Keys.{IsDistinct-push}
use Rattle.std.proofs.lemmas.Map.Made.{is_member-Decides}
use Rattle.question_runs.specs.Runs.{Run, ends, fails, stops, goes, asked, referred}
use Rattle.question_runs.specs.Rounds.{Language, Meets}
use Rattle.unit_levels.specs.Levels.{TellsUnits, has_unit, with_unit, with_units, met_in}

-- ---- lists of any elements

pub nothing-in : {X : Type 0} (x : X) → Contains [] x → ⊥
nothing-in x (k, below, is) = omega arith

pub Contains-one : {X : Type 0} (x y : X) → Contains (x ∷ []) y → x ≡ y
Contains-one x y among = elim (Contains-push_cases [] x y among) [ inl none ↦ absurd (nothing-in y none) | inr is ↦ is ]

pub Contains-first : {X : Type 0} (x : X) (xs : List X) → Contains (x ∷ xs) x
Contains-first x xs = Contains-append_left (x ∷ []) xs x (Contains-push [] x)

pub Contains-later : {X : Type 0} (x : X) (xs : List X) (y : X) → Contains xs y → Contains (x ∷ xs) y
Contains-later x xs y among = Contains-append_right (x ∷ []) xs y among

-- the first of a list, or one of the rest
pub Contains-cases : {X : Type 0} (x : X) (xs : List X) (y : X) → Contains (x ∷ xs) y → (x ≡ y) ⊎ Contains xs y
Contains-cases x xs y among = elim (Contains-append_cases (x ∷ []) xs y among) [ inl first ↦ inl (Contains-one x y first) | inr later ↦ inr later ]

pub Contains-flat_map : {X Y : Type 0} (f : X → List Y) (xs : List X) (x : X) (y : Y) → Contains xs x → Contains (f x) y → Contains (flat_map f xs) y
Contains-flat_map f [] x y among there = absurd (nothing-in x among)
Contains-flat_map f (z ∷ xs) x y among there = elim (Contains-cases z xs x among) [
  | inl is ↦ Contains-append_left (f z) (flat_map f xs) y (subst (λ w. Contains (f w) y) (sym is) there)
  | inr later ↦ Contains-append_right (f z) (flat_map f xs) y (Contains-flat_map f xs x y later there)
]

pub flat_map-Contains : {X Y : Type 0} (f : X → List Y) (xs : List X) (y : Y) → Contains (flat_map f xs) y → (x : X) × Contains xs x × Contains (f x) y
flat_map-Contains f [] y among = absurd (nothing-in y among)
flat_map-Contains f (x ∷ xs) y among = elim (Contains-append_cases (f x) (flat_map f xs) y among) [
  | inl here ↦ (x, Contains-first x xs, here)
  | inr there ↦ let w = flat_map-Contains f xs y there in (w.0, Contains-later x xs w.0 w.1, w.2)
]

-- ---- the units that a run meets

option-Contains : {X : Type 0} (o : Option X) (x : X) → Contains (option_to_list o) x → o ≡ Some x
option-Contains None x among = absurd (nothing-in x among)
option-Contains (Some y) x among = ap Some (Contains-one y x among)

Contains-option : {X : Type 0} (o : Option X) (x : X) → o ≡ Some x → Contains (option_to_list o) x
Contains-option o x is = subst (λ p. Contains (option_to_list p) x) (sym is) (Contains-push [] x)

pub Meets-met_in : {Q A U R : Type 0} (l : Language Q A U R) (r : Run Q A U R) (u : U) → Meets l r u → Contains (met_in l r) u
Meets-met_in l (ends x) u meets = absurd meets
Meets-met_in l fails u meets = absurd meets
Meets-met_in l (stops q) u meets = Contains-option (l.unit_asked q) u meets
Meets-met_in l (goes (asked q a) r) u meets = elim meets [
  | inl here ↦ Contains-append_left (option_to_list (l.unit_asked q)) (met_in l r) u (Contains-option (l.unit_asked q) u here)
  | inr there ↦ Contains-append_right (option_to_list (l.unit_asked q)) (met_in l r) u (Meets-met_in l r u there)
]
Meets-met_in l (goes (referred v) r) u meets = elim meets [
  | inl here ↦ subst (Contains (v ∷ met_in l r)) here (Contains-first v (met_in l r))
  | inr there ↦ Contains-later v (met_in l r) u (Meets-met_in l r u there)
]

pub met_in-Meets : {Q A U R : Type 0} (l : Language Q A U R) (r : Run Q A U R) (u : U) → Contains (met_in l r) u → Meets l r u
met_in-Meets l (ends x) u among = nothing-in u among
met_in-Meets l fails u among = nothing-in u among
met_in-Meets l (stops q) u among = option-Contains (l.unit_asked q) u among
met_in-Meets l (goes (asked q a) r) u among = elim (Contains-append_cases (option_to_list (l.unit_asked q)) (met_in l r) u among) [
  | inl here ↦ inl (option-Contains (l.unit_asked q) u here)
  | inr there ↦ inr (met_in-Meets l r u there)
]
met_in-Meets l (goes (referred v) r) u among = elim (Contains-cases v (met_in l r) u among) [
  | inl here ↦ inl here
  | inr there ↦ inr (met_in-Meets l r u there)
]

-- ---- units with more behind them

if-front : {X : Type 0} (b : Bool) (xs ys : List X) → (more : List X) × ((if b then xs else xs ++ ys) ≡ xs ++ more)
if-front true xs ys = ([], sym (append-nil xs))
if-front false xs ys = (ys, refl)

module _ {Q A U R : Type 0} (l : Language Q A U R) where
  pub with_unit-front : (known : List U) (u : U) → (more : List U) × (with_unit l known u ≡ known ++ more)
  with_unit-front known u = if-front (has_unit l known u) known (u ∷ [])

  -- what was known stays in front
  pub with_units-front : (known us : List U) → (more : List U) × (with_units l known us ≡ known ++ more)
  with_units-front known [] = ([], sym (append-nil known))
  with_units-front known (u ∷ us) =
      let first = with_unit-front known u in
      let rest = with_units-front (with_unit l known u) us in
      (first.0 ++ rest.0, rest.1 ∙ ap (λ x. x ++ rest.0) first.1 ∙ append_assoc known first.0 rest.0)

  -- some behind, and then others
  pub with_units-append : (known us more : List U) → with_units l known (us ++ more) ≡ with_units l (with_units l known us) more
  with_units-append known [] more = refl
  with_units-append known (u ∷ us) more = with_units-append (with_unit l known u) us more

  true-or : (b c : Bool) → b ≡ true → (b || c) ≡ true
  true-or true c is = refl
  true-or false c is = absurd (cc)

  -- a unit that is there is still there with more behind
  pub has_unit-front : (known more : List U) (u : U) → has_unit l known u ≡ true → has_unit l (known ++ more) u ≡ true
  has_unit-front known more u is = list_any-append (l.same_unit u) known more ∙ true-or (has_unit l known u) (has_unit l more u) is

  pub with_units-keeps : (known us : List U) (u : U) → Contains known u → Contains (with_units l known us) u
  with_units-keeps known us u among = let front = with_units-front known us in subst (λ x. Contains x u) (sym front.1) (Contains-append_left known front.0 u among)

  if-only : (b : Bool) (known : List U) (u v : U) → Contains (if b then known else known ++ u ∷ []) v → Contains known v ⊎ (u ≡ v)
  if-only true known u v among = inl among
  if-only false known u v among = Contains-push_cases known u v among

  pub with_units-only : (known us : List U) (v : U) → Contains (with_units l known us) v → Contains known v ⊎ Contains us v
  with_units-only known [] v among = inl among
  with_units-only known (u ∷ us) v among = elim (with_units-only (with_unit l known u) us v among) [
    | inr later ↦ inr (Contains-later u us v later)
    | inl before ↦ elim (if-only (has_unit l known u) known u v before) [
      | inl old ↦ inl old
      | inr is ↦ inr (subst (Contains (u ∷ us)) is (Contains-first u us))
    ]
  ]

module _ {Q A U R : Type 0} (l : Language Q A U R) (tells : TellsUnits l) where
  pub laws : IsEquivalence l.same_unit
  laws = record {
    refl = λ u. (tells u u).1 refl;
    symm = λ u v. one_answer {P = u ≡ v} (l.same_unit u v) (l.same_unit v u) (tells u v) (λ e. sym ((tells v u).0 e), λ e. (tells v u).1 (sym e));
    congr = λ u v w e. ap (λ x. l.same_unit x w) ((tells u v).0 e);
  }

  pub has-Contains : (us : List U) (u : U) → has_unit l us u ≡ true → Contains us u
  has-Contains us u is = (is_member-Decides tells us u).0 is

  pub Contains-has : (us : List U) (u : U) → Contains us u → has_unit l us u ≡ true
  Contains-has us u among = (is_member-Decides tells us u).1 among

  with_unit-has : (known : List U) (u : U) (b : Bool) → has_unit l known u ≡ b → Contains (if b then known else known ++ u ∷ []) u
  with_unit-has known u true is = has-Contains known u is
  with_unit-has known u false is = Contains-push known u

  pub with_units-has : (known us : List U) (v : U) → Contains us v → Contains (with_units l known us) v
  with_units-has known [] v among = absurd (nothing-in v among)
  with_units-has known (u ∷ us) v among = elim (Contains-cases u us v among) [
    | inl is ↦ with_units-keeps l (with_unit l known u) us v (subst (Contains (with_unit l known u)) is (with_unit-has known u (has_unit l known u) refl))
    | inr later ↦ with_units-has (with_unit l known u) us v later
  ]

  with_unit-distinct : (known : List U) (u : U) (b : Bool) → has_unit l known u ≡ b → IsDistinct l.same_unit known → IsDistinct l.same_unit (if b then known else known ++ u ∷ [])
  with_unit-distinct known u true is distinct = distinct
  with_unit-distinct known u false is distinct = IsDistinct-push laws known u distinct is

  pub with_units-distinct : (known us : List U) → IsDistinct l.same_unit known → IsDistinct l.same_unit (with_units l known us)
  with_units-distinct known [] distinct = distinct
  with_units-distinct known (u ∷ us) distinct = with_units-distinct (with_unit l known u) us (with_unit-distinct known u (has_unit l known u) refl distinct)

  if-there : (b : Bool) → b ≡ true → (known : List U) (u : U) → (if b then known else known ++ u ∷ []) ≡ known
  if-there true is known u = refl
  if-there false is known u = absurd (cc)

  -- where all the others are known, none comes behind
  pub with_units-same : (known us : List U) → ((u : U) → Contains us u → Contains known u) → with_units l known us ≡ known
  with_units-same known [] all = refl
  with_units-same known (u ∷ us) all =
      let first = if-there (has_unit l known u) (Contains-has known u (all u (Contains-first u us))) known u in
      ap (λ now. with_units l now us) first ∙ with_units-same known us (λ v among. all v (Contains-later u us v among))
