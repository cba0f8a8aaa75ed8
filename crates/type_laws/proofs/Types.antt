-- Types are read back, one layer, where all that is shorter is.
use Rattle.std.proofs.Common.{◌≡◌, ℕ, suc, ◌<◌, ◌==◌, Bool, true, false, if◌then◌else◌, List, [], ◌∷◌, ◌++◌, length, map, codes, refl, sym, ap, subst, ◌∙◌, arith, append_assoc, length-append, true≢false}
use Rattle.std.specs.List.{AllByRecursion}
use Rattle.zw_base.specs.Path.{is_path_byte}
use Rattle.type_form.specs.declared.tree.Ty.{Ty, out-Ty}
use Rattle.type_form.specs.declared.tree.Value.{Value}
use Rattle.type_form.specs.declared.tree.DeclPath.{DeclPath}
use Rattle.type_form.specs.declared.tree.Arg.{Arg}
use Rattle.type_form.specs.declared.tree.Arg.TheOpen as layer
use Rattle.type_form.specs.declared.tree.SimpleTy.{SimpleTy}
use Rattle.type_form.specs.declared.tree.SimpleTy.TheVariants as simple
use Rattle.type_form.specs.Tree.{TyLayer}
use Rattle.type_form.specs.Words.{word_of_simple, simple_of_word}
use Rattle.type_form.specs.Spelling.{number_text, name_text, commas, behind_commas, simple_text, arg_text, decl_text, ty_text, value_text}
use Rattle.type_form.specs.Fit.{Program, IsNumber, IsErrorSet, IsFit, IsFitValue, IsFitArg, ty_fits, value_ty, ty_parts}
use Rattle.type_laws.proofs.Runs.{stops, is_digit, run_unique, number_unique, number_not, heads, tails, cut}
use Rattle.type_laws.proofs.Names.{name_unique, name_not}
use Rattle.type_laws.proofs.Commas.{Items, AreLike, commas_unique, goes_on}
use Rattle.type_laws.proofs.Shapes.{ty_shape, ty_out, ty_same}
use Rattle.type_laws.proofs.Parts.{ty_held, ty_here}
use Rattle.type_laws.proofs.Ends.{Ends, ends_path, ends_digit, ends_word, goes_round, goes_brace}
use Rattle.type_laws.proofs.Ends.Ends.{nothing, comma, round, equals, brace, square}
use Rattle.type_laws.proofs.HeadBytes.{kind, kind_of, kind_is, kind_none, kind_some, width_number, IsHeadedIn}
use Rattle.type_laws.proofs.Steps.{AnyTwo}
use Rattle.type_laws.proofs.Steps.Place.{AtDecl}
use Rattle.type_laws.proofs.Spines.{container_place, container_of, container_is, container_spine, decl_spine, spine_headed, spine_unique}

-- names in braces

any_name : List ℕ → List ℕ → Type 0
any_name a b = Unit {0}

names_alike : (xs ys : List (List ℕ)) → AreLike any_name xs ys
unfolding any_name
names_alike [] ys = tt
names_alike (a ∷ xs) [] = tt
names_alike (a ∷ xs) (b ∷ ys) = (tt, names_alike xs ys)

all_fit : (xs : List (List ℕ)) → AllByRecursion (λ (a : List ℕ). Unit {0}) xs
all_fit [] = tt
all_fit (a ∷ xs) = (tt, all_fit xs)

name_items : (n : ℕ) → Items name_text (λ (a : List ℕ). Unit {0}) any_name n 125
name_items n = record {
  unique = λ a b x y f g l h s t e. name_unique a b x y (ends_word x (goes_brace x s)) (ends_word y (goes_brace y t)) e;
  begins = λ a x y f s e. name_not a x y 125 refl e;
}

no_brace : ◌≡◌ {A = ℕ} 44 125 → ⊥
no_brace e = omega (arith, e)

pub names_unique : (xs ys : List (List ℕ)) (x y : List ℕ) → commas (map name_text xs) ++ 125 ∷ x ≡ commas (map name_text ys) ++ 125 ∷ y → (xs ≡ ys) × (x ≡ y)
names_unique xs ys x y e =
    commas_unique name_text (λ (a : List ℕ). Unit {0}) any_name (suc (length (commas (map name_text xs)))) 125 (name_items (suc (length (commas (map name_text xs))))) no_brace
    xs ys x y (all_fit xs) (all_fit ys) (names_alike xs ys) (omega arith) e

-- two layers are one, and so is what stands behind them
abbrev pub IsSame : TyLayer → TyLayer → List ℕ → List ℕ → Type 0
IsSame l m x y = (l ≡ m) × (x ≡ y)

-- words

abbrev at_tag : List ℕ → ℕ
at_tag [] = 12
at_tag (c ∷ x) = if c == 110 then 8 else if c == 117 then 9 else 10

abbrev simple_tag : List ℕ → ℕ
simple_tag [] = 12
simple_tag (c ∷ x) = if c == 117 then 0 else if c == 105 then 1 else if c == 98 then 2 else if c == 118 then 3 else if c == 110 then 4 else if c == 116 then 5 else if c == 99 then 6 else if c == 97 then 7 else if c == 102 then 11 else at_tag x

tag_is : (s : SimpleTy) (x : List ℕ) → simple_tag (simple_text s ++ x) ≡ word_of_simple s
tag_is simple.Usize x = refl
tag_is simple.Isize x = refl
tag_is simple.Bool x = refl
tag_is simple.Void x = refl
tag_is simple.Noreturn x = refl
tag_is simple.Metatype x = refl
tag_is simple.ComptimeInt x = refl
tag_is simple.AnyError x = refl
tag_is simple.NullLiteral x = refl
tag_is simple.UndefinedLiteral x = refl
tag_is simple.EnumLiteral x = refl
tag_is simple.GenericFunction x = refl

back_is : (s : SimpleTy) → simple_of_word (word_of_simple s) ≡ s
back_is simple.Usize = refl
back_is simple.Isize = refl
back_is simple.Bool = refl
back_is simple.Void = refl
back_is simple.Noreturn = refl
back_is simple.Metatype = refl
back_is simple.ComptimeInt = refl
back_is simple.AnyError = refl
back_is simple.NullLiteral = refl
back_is simple.UndefinedLiteral = refl
back_is simple.EnumLiteral = refl
back_is simple.GenericFunction = refl

simple_is : (s t : SimpleTy) → word_of_simple s ≡ word_of_simple t → s ≡ t
simple_is s t e = sym (back_is s) ∙ ap simple_of_word e ∙ back_is t

-- no word begins another
pub simple_unique : (s t : SimpleTy) (x y : List ℕ) → simple_text s ++ x ≡ simple_text t ++ y → (s ≡ t) × (x ≡ y)
simple_unique s t x y e =
    let same = simple_is s t (sym (tag_is s x) ∙ ap simple_tag e ∙ tag_is t y) in
    (same, cut (simple_text t) x y (ap (λ z. simple_text z ++ x) (sym same) ∙ e))

-- sets of errors, whatever stands behind them

set_names : (xs ys : List (List ℕ)) (x y : List ℕ) → (codes "error{" ++ (commas (map name_text xs) ++ codes "}")) ++ x ≡ (codes "error{" ++ (commas (map name_text ys) ++ codes "}")) ++ y → (xs ≡ ys) × (x ≡ y)
set_names xs ys x y e =
    names_unique xs ys x y (sym (append_assoc (commas (map name_text xs)) (125 ∷ []) x)
    ∙ cut (codes "error{") ((commas (map name_text xs) ++ 125 ∷ []) ++ x) ((commas (map name_text ys) ++ 125 ∷ []) ++ y) e
    ∙ append_assoc (commas (map name_text ys)) (125 ∷ []) y)

no_set : ◌≡◌ {A = ℕ} 101 97 → ⊥
no_set e = omega (arith, e)

set_any : (xs : List (List ℕ)) (x y : List ℕ) → (codes "error{" ++ (commas (map name_text xs) ++ codes "}")) ++ x ≡ codes "anyerror" ++ y → ⊥
set_any xs x y e = no_set (heads 101 97 _ _ e)

set_unique : (l m : TyLayer) (x y : List ℕ) → IsErrorSet l → IsErrorSet m → ty_shape l ++ x ≡ ty_shape m ++ y → (l ≡ m) × (x ≡ y)
set_unique (layer.ErrorSet xs) (layer.ErrorSet ys) x y f g e = let r = set_names xs ys x y e in (ap layer.ErrorSet r.0, r.1)
set_unique (layer.ErrorSet xs) (layer.Ty::Simple simple.AnyError) x y f g e = absurd (set_any xs x y e)
set_unique (layer.Ty::Simple simple.AnyError) (layer.ErrorSet ys) x y f g e = absurd (set_any ys y x (sym e))
set_unique (layer.Ty::Simple simple.AnyError) (layer.Ty::Simple simple.AnyError) x y f g e = (refl, cut (codes "anyerror") x y e)
set_unique (layer.ErrorSet xs) _ x y f g e = absurd g
set_unique (layer.Ty::Simple simple.AnyError) _ x y f g e = absurd g
set_unique _ _ x y f g e = absurd f

-- what ends a type is no `!`
abbrev is_bang : List ℕ → Bool
is_bang [] = false
is_bang (c ∷ x) = c == 33

ends_bang : (x : List ℕ) → Ends x → is_bang x ≡ false
ends_bang _ nothing = refl
ends_bang _ (comma r) = refl
ends_bang _ (round r) = refl
ends_bang _ (equals r) = refl
ends_bang _ (brace r) = refl
ends_bang _ (square r) = refl

no_bang : (x z : List ℕ) → Ends x → x ≡ 33 ∷ z → ⊥
no_bang x z e h = true≢false (sym (ap is_bang h) ∙ ends_bang x e)

-- numbers in brackets

bracket_unique : (m n : ℕ) (z w x y : List ℕ) → IsNumber m → IsNumber n → stops is_digit (z ++ x) ≡ true → stops is_digit (w ++ y) ≡ true
    → (91 ∷ (number_text m ++ z)) ++ x ≡ (91 ∷ (number_text n ++ w)) ++ y → (m ≡ n) × (z ++ x ≡ w ++ y)
bracket_unique m n z w x y f g s t e =
    number_unique m n (z ++ x) (w ++ y) f g s t
    (sym (append_assoc (number_text m) z x) ∙ tails 91 91 ((number_text m ++ z) ++ x) ((number_text n ++ w) ++ y) e ∙ append_assoc (number_text n) w y)

bracket_not : (c : Bool) (n : ℕ) (t w x y : List ℕ) → IsNumber n → ((if c then codes "[]const " else codes "[]") ++ t) ++ x ≡ (91 ∷ (number_text n ++ w)) ++ y → ⊥
bracket_not true n t w x y f e = number_not n 93 (w ++ y) ((codes "const " ++ t) ++ x) f refl (sym (append_assoc (number_text n) w y) ∙ sym (tails 91 91 (93 ∷ ((codes "const " ++ t) ++ x)) ((number_text n ++ w) ++ y) e))
bracket_not false n t w x y f e = number_not n 93 (w ++ y) (t ++ x) f refl (sym (append_assoc (number_text n) w y) ∙ sym (tails 91 91 (93 ∷ (t ++ x)) ((number_text n ++ w) ++ y) e))

no_paren : ◌≡◌ {A = ℕ} 44 41 → ⊥
no_paren e = omega (arith, e)

no_colon : ◌≡◌ {A = ℕ} 93 58 → ⊥
no_colon e = omega (arith, e)

int_unique : (s t : Bool) (m n : ℕ) (x y : List ℕ) → IsNumber m → IsNumber n → Ends x → Ends y
    → ((if s then codes "i" else codes "u") ++ number_text m) ++ x ≡ ((if t then codes "i" else codes "u") ++ number_text n) ++ y → IsSame (layer.Ty::Int s m) (layer.Ty::Int t n) x y
int_unique true true m n x y f g a b e = let r = number_unique m n x y f g (ends_digit x a) (ends_digit y b) (tails 105 105 _ _ e) in (ap (layer.Ty::Int true) r.0, r.1)
int_unique false false m n x y f g a b e = let r = number_unique m n x y f g (ends_digit x a) (ends_digit y b) (tails 117 117 _ _ e) in (ap (layer.Ty::Int false) r.0, r.1)
int_unique true false m n x y f g a b e = let k = heads 105 117 _ _ e in absurd (omega (arith, k))
int_unique false true m n x y f g a b e = let k = heads 117 105 _ _ e in absurd (omega (arith, k))

-- each type with a spelling shorter than n is read back
abbrev pub UniqueTypes : Program → ℕ → Type 0
UniqueTypes p n = (t u : Ty) (x y : List ℕ) → IsFit p t → IsFit p u → length (ty_text t) < n → Ends x → Ends y → ty_text t ++ x ≡ ty_text u ++ y → (t ≡ u) × (x ≡ y)

-- and each value
pub record Unique (p : Program) (n : ℕ) : Type 0 where
  pub ty : UniqueTypes p n
  pub value : (v w : Value) (x y : List ℕ) → IsFitValue p v → IsFitValue p w → value_ty p v ≡ value_ty p w → length (value_text v) < n → Ends x → Ends y
      → value_text v ++ x ≡ value_text w ++ y → (v ≡ w) × (x ≡ y)

abbrev pub AnyTys : Ty → Ty → Type 0
AnyTys t u = Unit {0}

tys_alike : (xs ys : List Ty) → AreLike AnyTys xs ys
tys_alike [] ys = tt
tys_alike (a ∷ xs) [] = tt
tys_alike (a ∷ xs) (b ∷ ys) = (tt, tys_alike xs ys)

module _ (p : Program) where
  layer_headed : (l : TyLayer) → ty_parts p l → IsHeadedIn l
  layer_headed (layer.Container d n l) h = spine_headed p (AtDecl d) (decl_text d) (decl_spine p d h.0)
  layer_headed (layer.Optional t) h = tt
  layer_headed _ h = tt

  pub ty_kind : (t : Ty) (x : List ℕ) → IsFit p t → Ends x → kind (ty_text t ++ x) ≡ kind_of (out-Ty t)
  ty_kind t x f e = ap (λ z. kind (z ++ x)) (ty_out t) ∙ kind_is p (out-Ty t) x (layer_headed (out-Ty t) (ty_held p t f)) (ty_here p t f) e

  -- no type begins so
  pub ty_not : (t : Ty) (x z : List ℕ) → IsFit p t → Ends x → kind z ≡ 0 → ty_text t ++ x ≡ z → ⊥
  ty_not t x z f e k h = kind_some (out-Ty t) (sym (ty_kind t x f e) ∙ ap kind h ∙ k)

module _ (p : Program) (n : ℕ) (known : Unique p n) (items : Items arg_text (IsFitArg p) AnyTwo n 41) where
  ty_items : Items ty_text (IsFit p) AnyTys n 41
  ty_items = record {
    unique = λ a b x y f g l h s t e. known.ty a b x y f g h (goes_round x s) (goes_round y t) e;
    begins = λ a x y f s e. ty_not p a x (41 ∷ y) f (goes_round x s) (kind_none y).0 e;
  }

  pointer_unique : (c d : Bool) (t u : Ty) (x y : List ℕ) → IsFit p t → IsFit p u → length ((if c then codes "*const " else codes "*") ++ ty_text t) < suc n → Ends x → Ends y
      → ((if c then codes "*const " else codes "*") ++ ty_text t) ++ x ≡ ((if d then codes "*const " else codes "*") ++ ty_text u) ++ y → IsSame (layer.Pointer c t) (layer.Pointer d u) x y
  pointer_unique true true t u x y f g h a b e = let r = known.ty t u x y f g (omega (arith, h)) a b (cut (codes "*const ") (ty_text t ++ x) (ty_text u ++ y) e) in (ap (layer.Pointer true) r.0, r.1)
  pointer_unique false false t u x y f g h a b e = let r = known.ty t u x y f g (omega (arith, h)) a b (cut (codes "*") (ty_text t ++ x) (ty_text u ++ y) e) in (ap (layer.Pointer false) r.0, r.1)
  pointer_unique true false t u x y f g h a b e = absurd (ty_not p u y (codes "const " ++ (ty_text t ++ x)) g b (kind_none (ty_text t ++ x)).2 (sym (tails 42 42 _ _ e)))
  pointer_unique false true t u x y f g h a b e = absurd (ty_not p t x (codes "const " ++ (ty_text u ++ y)) f a (kind_none (ty_text u ++ y)).2 (tails 42 42 _ _ e))

  slice_unique : (c d : Bool) (t u : Ty) (x y : List ℕ) → IsFit p t → IsFit p u → length ((if c then codes "[]const " else codes "[]") ++ ty_text t) < suc n → Ends x → Ends y
      → ((if c then codes "[]const " else codes "[]") ++ ty_text t) ++ x ≡ ((if d then codes "[]const " else codes "[]") ++ ty_text u) ++ y → IsSame (layer.Ty::Slice c t) (layer.Ty::Slice d u) x y
  slice_unique true true t u x y f g h a b e = let r = known.ty t u x y f g (omega (arith, h)) a b (cut (codes "[]const ") (ty_text t ++ x) (ty_text u ++ y) e) in (ap (layer.Ty::Slice true) r.0, r.1)
  slice_unique false false t u x y f g h a b e = let r = known.ty t u x y f g (omega (arith, h)) a b (cut (codes "[]") (ty_text t ++ x) (ty_text u ++ y) e) in (ap (layer.Ty::Slice false) r.0, r.1)
  slice_unique true false t u x y f g h a b e = absurd (ty_not p u y (codes "const " ++ (ty_text t ++ x)) g b (kind_none (ty_text t ++ x)).2 (sym (cut (codes "[]") (codes "const " ++ (ty_text t ++ x)) (ty_text u ++ y) e)))
  slice_unique false true t u x y f g h a b e = absurd (ty_not p t x (codes "const " ++ (ty_text u ++ y)) f a (kind_none (ty_text u ++ y)).2 (cut (codes "[]") (ty_text t ++ x) (codes "const " ++ (ty_text u ++ y)) e))

  params_unique : (ps qs : List Ty) (r s : Ty) (x y : List ℕ) → AllByRecursion (IsFit p) ps → AllByRecursion (IsFit p) qs → IsFit p r → IsFit p s
      → length (codes "fn(" ++ (commas (map ty_text ps) ++ (codes ")" ++ ty_text r))) < suc n → Ends x → Ends y
      → (codes "fn(" ++ (commas (map ty_text ps) ++ (codes ")" ++ ty_text r))) ++ x ≡ (codes "fn(" ++ (commas (map ty_text qs) ++ (codes ")" ++ ty_text s))) ++ y
      → IsSame (layer.Ty::Function ps r) (layer.Ty::Function qs s) x y
  params_unique ps qs r s x y f g k l h a b e =
      let size = length-append (commas (map ty_text ps)) (41 ∷ ty_text r) in
      let front = commas_unique ty_text (IsFit p) AnyTys n 41 ty_items no_paren ps qs (ty_text r ++ x) (ty_text s ++ y) f g (tys_alike ps qs) (omega (arith, h, size))
      (sym (append_assoc (commas (map ty_text ps)) (41 ∷ ty_text r) x) ∙ cut (codes "fn(") ((commas (map ty_text ps) ++ (41 ∷ ty_text r)) ++ x) ((commas (map ty_text qs) ++ (41 ∷ ty_text s)) ++ y) e ∙ append_assoc (commas (map ty_text qs)) (41 ∷ ty_text s) y) in
      let back = known.ty r s x y k l (omega (arith, h, size)) a b front.1 in
      (ap (λ z. layer.Ty::Function z r) front.0 ∙ ap (layer.Ty::Function qs) back.0, back.1)

  union_unique : (s q t u : Ty) (x y : List ℕ) → IsErrorSet (out-Ty s) → IsErrorSet (out-Ty q) → IsFit p t → IsFit p u → length (ty_text s ++ (codes "!" ++ ty_text t)) < suc n → Ends x → Ends y
      → (ty_text s ++ (codes "!" ++ ty_text t)) ++ x ≡ (ty_text q ++ (codes "!" ++ ty_text u)) ++ y → IsSame (layer.ErrorUnion s t) (layer.ErrorUnion q u) x y
  union_unique s q t u x y f g k l h a b e =
      let size = length-append (ty_text s) (33 ∷ ty_text t) in
      let front = set_unique (out-Ty s) (out-Ty q) (33 ∷ (ty_text t ++ x)) (33 ∷ (ty_text u ++ y)) f g
      (ap (λ z. z ++ 33 ∷ (ty_text t ++ x)) (sym (ty_out s)) ∙ sym (append_assoc (ty_text s) (33 ∷ ty_text t) x) ∙ e ∙ append_assoc (ty_text q) (33 ∷ ty_text u) y ∙ ap (λ z. z ++ 33 ∷ (ty_text u ++ y)) (ty_out q)) in
      let back = known.ty t u x y k l (omega (arith, h, size)) a b (tails 33 33 _ _ front.1) in
      (ap (λ z. layer.ErrorUnion z t) (ty_same s q front.0) ∙ ap (layer.ErrorUnion q) back.0, back.1)

  set_not : (l : TyLayer) (s t : Ty) (x y : List ℕ) → IsErrorSet l → IsErrorSet (out-Ty s) → Ends x → ty_shape l ++ x ≡ (ty_text s ++ (codes "!" ++ ty_text t)) ++ y → ⊥
  set_not l s t x y f g a e =
      no_bang x (ty_text t ++ y) a (set_unique l (out-Ty s) x (33 ∷ (ty_text t ++ y)) f g (e ∙ append_assoc (ty_text s) (33 ∷ ty_text t) y ∙ ap (λ z. z ++ 33 ∷ (ty_text t ++ y)) (ty_out s))).1

  container_unique : (c d : DeclPath) (m k : ℕ) (xs ys : List Arg) (x y : List ℕ) → ty_fits p (layer.Container c m xs) → ty_fits p (layer.Container d k ys) → ty_parts p (layer.Container c m xs) → ty_parts p (layer.Container d k ys)
      → length (ty_shape (layer.Container c m xs)) < suc n → Ends x → Ends y
      → ty_shape (layer.Container c m xs) ++ x ≡ ty_shape (layer.Container d k ys) ++ y → IsSame (layer.Container c m xs) (layer.Container d k ys) x y
  container_unique c d m k xs ys x y f g h j small a b e =
      let s = container_spine p c m xs (decl_text c) (decl_spine p c h.0) f h.1 in
      let t = container_spine p d k ys (decl_text d) (decl_spine p d j.0) g j.1 in
      let r = spine_unique p n items (container_place c m xs) (container_place d k ys) _ _ x y s t (omega (arith, small)) a b e in
      (sym (container_is c m xs) ∙ ap container_of r.0 ∙ container_is d k ys, r.1)

  no_generic : ◌≡◌ {A = ℕ} 103 41 → ⊥
  no_generic e = omega (arith, e)

  generic_not : (qs : List Ty) (s : Ty) (x y : List ℕ) → AllByRecursion (IsFit p) qs → codes "generic)" ++ x ≡ commas (map ty_text qs) ++ 41 ∷ (ty_text s ++ y) → ⊥
  unfolding commas
  generic_not [] s x y f e = no_generic (heads 103 41 _ _ e)
  generic_not (q ∷ qs) s x y f e =
      ty_not p q (behind_commas (map ty_text qs) ++ 41 ∷ (ty_text s ++ y)) (codes "generic)" ++ x) f.0
      (goes_round _ (goes_on ty_text (IsFit p) AnyTys n 41 qs (ty_text s ++ y))) (kind_none x).3
      (sym (append_assoc (ty_text q) (behind_commas (map ty_text qs)) (41 ∷ (ty_text s ++ y))) ∙ sym e)

  function_not : (a : SimpleTy) (qs : List Ty) (s : Ty) (x y : List ℕ) → AllByRecursion (IsFit p) qs → simple_text a ++ x ≡ (codes "fn(" ++ (commas (map ty_text qs) ++ (codes ")" ++ ty_text s))) ++ y → ⊥
  function_not a qs s x y f e =
      let generic : a ≡ simple.GenericFunction = simple_is a simple.GenericFunction (sym (tag_is a x) ∙ ap simple_tag e) in
      let text : codes "fn(generic)" ++ x ≡ (codes "fn(" ++ (commas (map ty_text qs) ++ (codes ")" ++ ty_text s))) ++ y = ap (λ z. simple_text z ++ x) (sym generic) ∙ e in
      generic_not qs s x y f (cut (codes "fn(") (codes "generic)" ++ x) ((commas (map ty_text qs) ++ (41 ∷ ty_text s)) ++ y) text ∙ append_assoc (commas (map ty_text qs)) (41 ∷ ty_text s) y)

  -- one layer
  layer_unique : (l m : TyLayer) (x y : List ℕ) → kind_of l ≡ kind_of m → ty_fits p l → ty_fits p m → ty_parts p l → ty_parts p m → length (ty_shape l) < suc n → Ends x → Ends y
      → ty_shape l ++ x ≡ ty_shape m ++ y → (l ≡ m) × (x ≡ y)
  layer_unique (layer.Ty::Simple s) (layer.Ty::Simple t) x y k f g h j small a b e = let r = simple_unique s t x y e in (ap layer.Ty::Simple r.0, r.1)
  layer_unique (layer.Ty::Simple s) (layer.Ty::Function qs t) x y k f g h j small a b e = absurd (function_not s qs t x y j.0 e)
  layer_unique (layer.Ty::Function ps r) (layer.Ty::Simple t) x y k f g h j small a b e = absurd (function_not t ps r y x h.0 (sym e))
  layer_unique (layer.Ty::Function ps r) (layer.Ty::Function qs t) x y k f g h j small a b e = params_unique ps qs r t x y h.0 j.0 h.1 j.1 small a b e
  layer_unique (layer.Ty::Int s l) (layer.Ty::Int t m) x y k f g h j small a b e = int_unique s t l m x y (width_number l f.1) (width_number m g.1) a b e
  layer_unique (layer.ErrorSet xs) (layer.ErrorSet ys) x y k f g h j small a b e = set_unique (layer.ErrorSet xs) (layer.ErrorSet ys) x y tt tt e
  layer_unique (layer.ErrorSet xs) (layer.ErrorUnion s t) x y k f g h j small a b e = absurd (set_not (layer.ErrorSet xs) s t x y tt g a e)
  layer_unique (layer.ErrorUnion s t) (layer.ErrorSet ys) x y k f g h j small a b e = absurd (set_not (layer.ErrorSet ys) s t y x tt f b (sym e))
  layer_unique (layer.ErrorUnion s t) (layer.ErrorUnion q u) x y k f g h j small a b e = union_unique s q t u x y f g h.1 j.1 small a b e
  layer_unique (layer.Pointer c t) (layer.Pointer d u) x y k f g h j small a b e = pointer_unique c d t u x y h j small a b e
  layer_unique (layer.Ty::Slice c t) (layer.Ty::Slice d u) x y k f g h j small a b e = slice_unique c d t u x y h j small a b e
  layer_unique (layer.Ty::Slice c t) (layer.Array m u) x y k f g h j small a b e = absurd (bracket_not c m (ty_text t) (93 ∷ ty_text u) x y g e)
  layer_unique (layer.Ty::Slice c t) (layer.Terminated m) x y k f g h j small a b e = absurd (bracket_not c m (ty_text t) (codes ":0]u8") x y g e)
  layer_unique (layer.Array m t) (layer.Ty::Slice c u) x y k f g h j small a b e = absurd (bracket_not c m (ty_text u) (93 ∷ ty_text t) y x f (sym e))
  layer_unique (layer.Terminated m) (layer.Ty::Slice c u) x y k f g h j small a b e = absurd (bracket_not c m (ty_text u) (codes ":0]u8") y x f (sym e))
  layer_unique (layer.Array l t) (layer.Array m u) x y k f g h j small a b e =
      let size = length-append (number_text l) (93 ∷ ty_text t) in
      let r = bracket_unique l m (93 ∷ ty_text t) (93 ∷ ty_text u) x y f g refl refl e in
      let q = known.ty t u x y h j (omega (arith, small, size)) a b (tails 93 93 _ _ r.1) in
      (ap (λ z. layer.Array z t) r.0 ∙ ap (layer.Array m) q.0, q.1)
  layer_unique (layer.Array l t) (layer.Terminated m) x y k f g h j small a b e =
      absurd (no_colon (heads 93 58 _ _ (bracket_unique l m (93 ∷ ty_text t) (codes ":0]u8") x y f g refl refl e).1))
  layer_unique (layer.Terminated l) (layer.Array m u) x y k f g h j small a b e =
      absurd (no_colon (heads 93 58 _ _ (bracket_unique m l (93 ∷ ty_text u) (codes ":0]u8") y x g f refl refl (sym e)).1))
  layer_unique (layer.Terminated l) (layer.Terminated m) x y k f g h j small a b e =
      let r = bracket_unique l m (codes ":0]u8") (codes ":0]u8") x y f g refl refl e in
      (ap layer.Terminated r.0, cut (codes ":0]u8") x y r.1)
  layer_unique (layer.Optional t) (layer.Optional u) x y k f g h j small a b e =
      let r = known.ty t u x y h j (omega (arith, small)) a b (tails 63 63 _ _ e) in
      (ap layer.Optional r.0, r.1)
  layer_unique (layer.UnionTag t) (layer.UnionTag u) x y k f g h j small a b e =
      let size = length-append (ty_text t) (41 ∷ []) in
      let r = known.ty t u (41 ∷ x) (41 ∷ y) h j (omega (arith, small, size)) (round x) (round y)
      (sym (append_assoc (ty_text t) (41 ∷ []) x) ∙ cut (codes "@tag(") ((ty_text t ++ 41 ∷ []) ++ x) ((ty_text u ++ 41 ∷ []) ++ y) e ∙ append_assoc (ty_text u) (41 ∷ []) y) in
      (ap layer.UnionTag r.0, tails 41 41 x y r.1)
  layer_unique (layer.File s) (layer.File t) x y k f g h j small a b e =
      let r = run_unique is_path_byte s t x y f g (ends_path x a) (ends_path y b) (cut (codes "@:") (s ++ x) (t ++ y) e) in
      (ap layer.File r.0, r.1)
  layer_unique (layer.Container c l xs) (layer.Container d m ys) x y k f g h j small a b e = container_unique c d l m xs ys x y f g h j small a b e
  layer_unique _ _ x y k f g h j small a b e = absurd (omega (arith, k))

  -- a type of this length
  pub ty_unique : (t u : Ty) (x y : List ℕ) → IsFit p t → IsFit p u → length (ty_text t) < suc n → Ends x → Ends y → ty_text t ++ x ≡ ty_text u ++ y → (t ≡ u) × (x ≡ y)
  ty_unique t u x y f g small a b e =
      let r = layer_unique (out-Ty t) (out-Ty u) x y (sym (ty_kind p t x f a) ∙ ap kind e ∙ ty_kind p u y g b) (ty_here p t f) (ty_here p u g) (ty_held p t f) (ty_held p u g)
      (subst (λ z. length z < suc n) (ty_out t) small) a b (ap (λ z. z ++ x) (sym (ty_out t)) ∙ e ∙ ap (λ z. z ++ y) (ty_out u)) in
      (ty_same t u r.0, r.1)
