-- What the first bytes of a value tell of it, where its type is known.
use Rattle.std.proofs.Common.{◌≡◌, ℕ, ℤ, ◌==◌, ◌||◌, length, Bool, true, if◌then◌else◌, List, [], ◌∷◌, ◌++◌, map, codes, Some, None, refl, sym, ap, ◌∙◌, arith, append_assoc}
use Rattle.type_form.specs.declared.tree.Ty.{Ty, out-Ty, out-roll-Ty}
use Rattle.type_form.specs.declared.tree.Value.{Value, out-Value}
use Rattle.type_form.specs.declared.tree.DeclPath.{DeclPath}
use Rattle.type_form.specs.declared.tree.Arg.TheOpen as layer
use Rattle.type_form.specs.declared.tree.Ty.TheVariants as ty
use Rattle.type_form.specs.declared.tree.SimpleTy.{SimpleTy}
use Rattle.type_form.specs.declared.tree.SimpleTy.TheVariants as simple
use Rattle.type_form.specs.declared.tree.SimpleValue.{SimpleValue}
use Rattle.type_form.specs.declared.tree.SimpleValue.TheVariants as known
use Rattle.type_form.specs.declared.table.Fields.{Fields}
use Rattle.type_form.specs.Words.{FitsInt}
use Rattle.type_form.specs.Tree.{TyLayer, ValueLayer}
use Rattle.type_form.specs.Spelling.{int_text, name_text, quoted, commas, known_text, decl_text, ty_text, value_text, value_ty_text}
use Rattle.type_form.specs.Fit.{Program, IsIntegral, IsNullable, IsEnum, IsUnion, IsFallible, IsText, fits_parts, fits_slice, IsFunctional, IsPointer, IsFit, IsFitValue, IsFitDecl, value_fits, fits_simple, pointer_of, layer_ty, value_ty, value_parts}
use Rattle.type_laws.proofs.Runs.{is_digit, int_head}
use Rattle.type_laws.proofs.Shapes.{value_shape, value_out}
use Rattle.type_laws.proofs.Parts.{value_held, value_here}
use Rattle.type_laws.proofs.Ends.{Ends}
use Rattle.type_laws.proofs.HeadBytes.{kind, kind_none, kind_undefined, kind_of_not, place_kind}
use Rattle.type_laws.proofs.Spines.{decl_spine, spine_headed}
use Rattle.type_laws.proofs.Steps.Place.{AtDecl}
use Rattle.type_laws.proofs.Types.{ty_kind}

-- a number for each kind of value
abbrev pub value_kind : ValueLayer → ℕ
value_kind (layer.Value::Simple t s) = 1
value_kind (layer.Value::Int t z) = 2
value_kind (layer.Tag t name) = 3
value_kind (layer.Error t name) = 4
value_kind (layer.Some t v) = 5
value_kind (layer.Good t v) = 6
value_kind (layer.List t vs) = 7
value_kind (layer.Text t bs) = 8
value_kind (layer.Tagged t name v) = 3
value_kind (layer.OfType t) = 10
value_kind (layer.Value::Function d) = 11
value_kind (layer.Address t d) = 12
value_kind (layer.Constant t v) = 12
value_kind (layer.Place t n) = 13
value_kind (layer.Part t v n c) = 13
value_kind (layer.Value::Slice t v lo hi) = 14

pub value_some : (l : ValueLayer) → value_kind l ≡ 0 → ⊥
value_some (layer.Value::Simple t s) k = omega (arith, k)
value_some _ k = omega (arith, k)

abbrev first_kind : List ℕ → ℕ
first_kind [] = 0
first_kind (c ∷ x) = if is_digit c || (c == 45) then 2 else if c == 46 then 3 else if c == 101 then 4 else if c == 63 then 5 else if c == 33 then 6 else if c == 123 then 7 else if c == 34 then 8 else if c == 38 then 12 else if (c == 116) || (c == 102) || (c == 110) || (c == 117) then 1 else 0

abbrev slice_first : List ℕ → ℕ
slice_first [] = 0
slice_first (c ∷ x) = if c == 38 then 14 else if c == 117 then 1 else 0

abbrev void_first : List ℕ → ℕ
void_first [] = 0
void_first (c ∷ x) = if (c == 123) || (c == 117) then 1 else 0

abbrev undefined_first : List ℕ → ℕ
undefined_first [] = 0
undefined_first (c ∷ x) = if c == 117 then 1 else 0

-- the same number, from a text and the type
abbrev pub kind_at : TyLayer → List ℕ → ℕ
kind_at (layer.Ty::Simple simple.Metatype) text = if kind text == 0 then undefined_first text else 10
kind_at (layer.Ty::Simple simple.GenericFunction) text = if kind text == 0 then undefined_first text else 11
kind_at (layer.Ty::Function ps r) text = if kind text == 0 then undefined_first text else 11
kind_at (layer.Ty::Slice c t) text = slice_first text
kind_at (layer.Ty::Simple simple.Void) text = void_first text
kind_at _ text = first_kind text

simple_out : (s : SimpleTy) → out-Ty (ty.Simple s) ≡ layer.Ty::Simple s
simple_out s = ap out-Ty (sym (ty.rolls-Simple s)) ∙ out-roll-Ty (layer.Ty::Simple s)

pub optional_out : (t : Ty) → out-Ty (ty.Optional t) ≡ layer.Optional t
optional_out t = ap out-Ty (sym (ty.rolls-Optional t)) ∙ out-roll-Ty (layer.Optional t)

pub union_out : (e t : Ty) → out-Ty (ty.ErrorUnion e t) ≡ layer.ErrorUnion e t
union_out e t = ap out-Ty (sym (ty.rolls-ErrorUnion e t)) ∙ out-roll-Ty (layer.ErrorUnion e t)

null_at : (l : TyLayer) (x : List ℕ) → IsNullable l → kind_at l (codes "null" ++ x) ≡ 1
null_at (layer.Optional t) x h = refl
null_at (layer.Ty::Simple simple.NullLiteral) x h = refl
null_at _ x h = absurd h

no_type : (x : List ℕ) (n : ℕ) → Ends x → (if kind (codes "undefined" ++ x) == 0 then undefined_first (codes "undefined" ++ x) else n) ≡ 1
no_type x n e = ap (λ k. if k == 0 then undefined_first (codes "undefined" ++ x) else n) (kind_undefined x e)

undefined_at : (l : TyLayer) (x : List ℕ) → Ends x → kind_at l (codes "undefined" ++ x) ≡ 1
undefined_at (layer.Ty::Simple simple.Metatype) x e = no_type x 10 e
undefined_at (layer.Ty::Simple simple.GenericFunction) x e = no_type x 11 e
undefined_at (layer.Ty::Function ps r) x e = no_type x 11 e
undefined_at (layer.Ty::Slice c t) x e = refl
undefined_at (layer.Ty::Simple simple.Void) x e = refl
undefined_at _ x e = refl

simple_at : (s : SimpleValue) (t : Ty) (x : List ℕ) → fits_simple s t → Ends x → kind_at (out-Ty t) (known_text s ++ x) ≡ 1
simple_at known.True t x h e = ap (λ l. kind_at l (codes "true" ++ x)) (ap out-Ty h ∙ simple_out simple.Bool)
simple_at known.False t x h e = ap (λ l. kind_at l (codes "false" ++ x)) (ap out-Ty h ∙ simple_out simple.Bool)
simple_at known.Void t x h e = ap (λ l. kind_at l (codes "{}" ++ x)) (ap out-Ty h ∙ simple_out simple.Void)
simple_at known.Null t x h e = null_at (out-Ty t) x h
simple_at known.Undefined t x h e = undefined_at (out-Ty t) x e

digit_first : (c : ℕ) (x : List ℕ) (b : Bool) → (is_digit c || (c == 45)) ≡ b → b ≡ true → first_kind (c ∷ x) ≡ 2
digit_first c x b e f = rw (e ∙ f) refl

int_first : (z : ℤ) (x : List ℕ) → FitsInt z → first_kind (int_text z ++ x) ≡ 2
int_first z x h =
    let r = int_head z h in
    ap (λ w. first_kind (w ++ x)) r.2 ∙ digit_first r.0 (r.1 ++ x) (is_digit r.0 || (r.0 == 45)) refl r.3

int_at : (l : TyLayer) (z : ℤ) (x : List ℕ) → IsIntegral l → FitsInt z → kind_at l (int_text z ++ x) ≡ 2
int_at (layer.Ty::Int s n) z x h f = int_first z x f
int_at (layer.Ty::Simple simple.Usize) z x h f = int_first z x f
int_at (layer.Ty::Simple simple.Isize) z x h f = int_first z x f
int_at (layer.Ty::Simple simple.ComptimeInt) z x h f = int_first z x f
int_at _ z x h f = absurd h

tag_at : (fields : Fields) (l : TyLayer) (z x : List ℕ) → IsEnum fields l → kind_at l ((46 ∷ z) ++ x) ≡ 3
tag_at fields (layer.Container d n captures) z x h = refl
tag_at fields (layer.UnionTag t) z x h = refl
tag_at fields (layer.Ty::Simple simple.EnumLiteral) z x h = refl
tag_at fields _ z x h = absurd h

tagged_at : (fields : Fields) (l : TyLayer) (z x : List ℕ) → IsUnion fields l → kind_at l ((46 ∷ z) ++ x) ≡ 3
tagged_at fields (layer.Container d n captures) z x h = refl
tagged_at fields _ z x h = absurd h

error_at : (l : TyLayer) (z x : List ℕ) → IsFallible l → kind_at l ((codes "error." ++ z) ++ x) ≡ 4
error_at (layer.ErrorSet names) z x h = refl
error_at (layer.Ty::Simple simple.AnyError) z x h = refl
error_at (layer.ErrorUnion e t) z x h = refl
error_at _ z x h = absurd h

list_at : (p : Program) (fields : Fields) (vs : List Value) (l : TyLayer) (z x : List ℕ) → fits_parts p fields vs l → kind_at l ((123 ∷ z) ++ x) ≡ 7
list_at p fields vs (layer.Array n t) z x h = refl
list_at p fields vs (layer.Terminated n) z x h = refl
list_at p fields vs (layer.Container d n captures) z x h = refl
list_at p fields vs (layer.File path) z x h = refl
list_at p fields vs _ z x h = absurd h

text_at : (size : ℕ) (l : TyLayer) (z x : List ℕ) → IsText size l → kind_at l ((34 ∷ z) ++ x) ≡ 8
text_at size (layer.Array n t) z x h = refl
text_at size (layer.Terminated n) z x h = refl
text_at size _ z x h = absurd h

function_at : (l : TyLayer) (text : List ℕ) → IsFunctional l → kind text ≡ 7 → kind_at l text ≡ 11
function_at (layer.Ty::Function ps r) text h k = ap (λ n. if n == 0 then undefined_first text else 11) k
function_at (layer.Ty::Simple simple.GenericFunction) text h k = ap (λ n. if n == 0 then undefined_first text else 11) k
function_at _ text h k = absurd h

pointer_at : (l : TyLayer) (z x : List ℕ) → IsPointer l → kind_at l ((38 ∷ z) ++ x) ≡ 12
pointer_at (layer.Pointer c t) z x h = refl
pointer_at _ z x h = absurd h

slice_at : (l : TyLayer) (c : Bool) (t : Ty) (z : List ℕ) → l ≡ layer.Ty::Slice c t → kind_at l (38 ∷ z) ≡ 14
slice_at l c t z h = ap (λ m. kind_at m (38 ∷ z)) h

-- what an address points to
pub data Aim : Type 0 where
  ToDecl : DeclPath → Aim
  ToValue : Value → Aim
  Nothing : Aim

abbrev pub aim : ValueLayer → Aim
aim (layer.Address t d) = ToDecl d
aim (layer.Constant t v) = ToValue v
aim _ = Nothing

abbrev pub IsAddress : ValueLayer → Type 0
IsAddress (layer.Address t d) = Unit {0}
IsAddress (layer.Constant t v) = Unit {0}
IsAddress _ = ⊥

-- the pointer in a slice is an address
pub is_address : (p : Program) (c : Bool) (u : Ty) (l : ValueLayer) → pointer_of p c l ≡ Some u → IsAddress l
is_address p c u (layer.Address s d) e = tt
is_address p c u (layer.Constant s v) e = tt
is_address p c u _ e = let no : None ≡ Some u = e in absurd cc

-- whether a slice is `const`, its element, and the pointer in it
pub slice_pointer : (p : Program) (v : Value) (l : TyLayer) → fits_slice p v l → (c : Bool) × (t : Ty) × (l ≡ layer.Ty::Slice c t) × (pointer_of p c (out-Value v) ≡ Some (value_ty p v))
slice_pointer p v (layer.Ty::Slice c t) h = (c, t, refl, h)
slice_pointer p v _ h = absurd h

address_head : (l : ValueLayer) → IsAddress l → (z : List ℕ) × (value_shape l ≡ 38 ∷ z)
address_head (layer.Address t d) h = (decl_text d, refl)
address_head (layer.Constant t v) h = (_, refl)
address_head _ h = absurd h

module _ (p : Program) where
  pub decl_kind : (d : DeclPath) (x : List ℕ) → IsFitDecl p d → kind (decl_text d ++ x) ≡ 7
  decl_kind d x f =
      let h = spine_headed p (AtDecl d) (decl_text d) (decl_spine p d f) in
      ap (λ z. kind (z ++ x)) h.is ∙ ap kind (append_assoc h.path (58 ∷ h.rest) x) ∙ place_kind h.path (h.rest ++ x) h.is_path

  slice_value_at : (t : Ty) (v : Value) (z x : List ℕ) → fits_slice p v (out-Ty t) → kind_at (out-Ty t) ((value_text v ++ z) ++ x) ≡ 14
  slice_value_at t v z x h =
      let s = slice_pointer p v (out-Ty t) h in
      let r = address_head (out-Value v) (is_address p s.0 (value_ty p v) (out-Value v) s.3) in
      ap (λ w. kind_at (out-Ty t) ((w ++ z) ++ x)) (value_out v ∙ r.1) ∙ slice_at (out-Ty t) s.0 s.1 ((r.0 ++ z) ++ x) s.2

  type_at : (t : Ty) (x : List ℕ) → IsFit p t → Ends x → kind_at (out-Ty (ty.Simple simple.Metatype)) (ty_text t ++ x) ≡ 10
  type_at t x f e =
      ap (λ l. kind_at l (ty_text t ++ x)) (simple_out simple.Metatype)
      ∙ ap (λ b. if b then undefined_first (ty_text t ++ x) else 10) (ap (λ k. k == 0) (ty_kind p t x f e) ∙ kind_of_not (out-Ty t))

  layer_at : (l : ValueLayer) (x : List ℕ) → value_fits p l → value_parts p l → Ends x → kind_at (out-Ty (layer_ty p l)) (value_shape l ++ x) ≡ value_kind l
  layer_at (layer.Value::Simple t s) x f h e = simple_at s t x f e
  layer_at (layer.Value::Int t z) x f h e = int_at (out-Ty t) z x f.0 f.1
  layer_at (layer.Tag t name) x f h e = tag_at (p.fields t) (out-Ty t) (name_text name) x f
  layer_at (layer.Error t name) x f h e = error_at (out-Ty t) (name_text name) x f
  layer_at (layer.Some t v) x f h e = ap (λ l. kind_at l ((63 ∷ value_text v) ++ x)) (ap out-Ty f ∙ optional_out (value_ty p v))
  layer_at (layer.Good t v) x f h e = ap (λ l. kind_at l ((33 ∷ value_text v) ++ x)) (ap out-Ty f.1 ∙ union_out f.0 (value_ty p v))
  layer_at (layer.List t vs) x f h e = list_at p (p.fields t) vs (out-Ty t) (commas (map value_text vs) ++ 125 ∷ []) x f
  layer_at (layer.Text t bs) x f h e = text_at (length bs) (out-Ty t) (quoted bs ++ 34 ∷ []) x f
  layer_at (layer.Tagged t name v) x f h e = tagged_at (p.fields t) (out-Ty t) _ x f.0
  layer_at (layer.OfType t) x f h e = type_at t x h e
  layer_at (layer.Value::Function d) x f h e = function_at (out-Ty (p.declared d)) (decl_text d ++ x) f (decl_kind d x h)
  layer_at (layer.Address t d) x f h e = pointer_at (out-Ty t) (decl_text d) x f
  layer_at (layer.Constant t v) x f h e = pointer_at (out-Ty t) (40 ∷ (value_ty_text v ++ (codes "=" ++ (value_text v ++ codes ")")))) x f.0
  layer_at (layer.Place t n) x f h e = absurd f
  layer_at (layer.Part t v n c) x f h e = absurd f
  layer_at (layer.Value::Slice t v lo hi) x f h e = slice_value_at t v _ x f.0

  -- a value's text tells its kind to whom its type is known
  pub value_at : (v : Value) (x : List ℕ) → IsFitValue p v → Ends x → kind_at (out-Ty (value_ty p v)) (value_text v ++ x) ≡ value_kind (out-Value v)
  unfolding value_ty
  value_at v x f e = ap (λ z. kind_at (out-Ty (layer_ty p (out-Value v))) (z ++ x)) (value_out v) ∙ layer_at (out-Value v) x (value_here p v f) (value_held p v f) e

brace_none : (y : List ℕ) (n : ℕ) → (if kind (125 ∷ y) == 0 then 0 else n) ≡ 0
brace_none y n = ap (λ k. if k == 0 then 0 else n) (kind_none y).1

brace_at : (l : TyLayer) (y : List ℕ) → kind_at l (125 ∷ y) ≡ 0
brace_at (layer.Ty::Simple simple.Metatype) y = brace_none y 10
brace_at (layer.Ty::Simple simple.GenericFunction) y = brace_none y 11
brace_at (layer.Ty::Function ps r) y = brace_none y 11
brace_at (layer.Ty::Slice c t) y = refl
brace_at (layer.Ty::Simple simple.Void) y = refl
brace_at _ y = refl

-- no value begins with a brace that closes
pub value_not : (p : Program) (v : Value) (x y : List ℕ) → IsFitValue p v → Ends x → value_text v ++ x ≡ 125 ∷ y → ⊥
value_not p v x y f e h = value_some (out-Value v) (sym (value_at p v x f e) ∙ ap (kind_at (out-Ty (value_ty p v))) h ∙ brace_at (out-Ty (value_ty p v)) y)
