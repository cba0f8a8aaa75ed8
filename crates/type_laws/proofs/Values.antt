-- Values of one type are read back, one layer, where all that is shorter is.
use Rattle.std.proofs.Common.{◌≡◌, ℕ, suc, ◌<◌, ◌≤◌, ◌==◌, Bool, false, if◌then◌else◌, List, [], ◌∷◌, ◌++◌, length, map, codes, Option, Some, None, refl, sym, ap, subst, ◌∙◌, arith, append_assoc, length-append, true≢false}
use Rattle.std.specs.List.{AllByRecursion}
use Rattle.type_form.specs.declared.tree.Ty.{Ty, out-Ty}
use Rattle.type_form.specs.declared.tree.Value.{Value, out-Value}
use Rattle.type_form.specs.declared.tree.DeclPath.{DeclPath}
use Rattle.type_form.specs.declared.tree.Arg.TheOpen as layer
use Rattle.type_form.specs.declared.tree.Ty.TheVariants as ty
use Rattle.type_form.specs.declared.tree.SimpleValue.{SimpleValue}
use Rattle.type_form.specs.declared.tree.SimpleValue.TheVariants as known
use Rattle.type_form.specs.declared.table.Fields.{Fields}
use Rattle.type_form.specs.Tree.{TyLayer, ValueLayer}
use Rattle.type_form.specs.Words.{word_of_known, known_of_word}
use Rattle.type_form.specs.Spelling.{number_text, name_text, quoted, commas, known_text, arg_text, decl_text, value_text, value_ty_text}
use Rattle.type_form.specs.Fit.{Program, HasType, IsFitValue, IsFitArg, IsFitDecl, value_fits, pointer_of, payload_of, fits_parts, layer_ty, value_ty, value_parts}
use Rattle.type_laws.proofs.Runs.{number_unique, int_unique, quoted_unique, tails, cut}
use Rattle.type_laws.proofs.Names.{name_unique}
use Rattle.type_laws.proofs.Commas.{Items, AreLike, commas_unique}
use Rattle.type_laws.proofs.Shapes.{value_shape, value_out, value_ty_out, value_same}
use Rattle.type_laws.proofs.Parts.{value_held, value_here, value_ty_fit}
use Rattle.type_laws.proofs.Ends.{Ends, ends_digit, ends_word, goes_brace}
use Rattle.type_laws.proofs.Ends.Ends.{nothing, comma, round, equals, brace, square}
use Rattle.type_laws.proofs.HeadBytes.{kind, kind_open}
use Rattle.type_laws.proofs.Steps.{AnyTwo}
use Rattle.type_laws.proofs.Steps.Place.{AtDecl}
use Rattle.type_laws.proofs.Spines.{decl_spine, spine_unique}
use Rattle.type_laws.proofs.Types.{Unique, UniqueTypes}
use Rattle.type_laws.proofs.ValueHeads.{value_kind, kind_at, value_at, value_not, decl_kind, optional_out, union_out, Aim, aim, IsAddress, is_address, slice_pointer}
use Rattle.type_laws.proofs.ValueHeads.Aim.{ToDecl, ToValue, Nothing}

-- two layers are one, and so is what stands behind them
abbrev IsSame : ValueLayer → ValueLayer → List ℕ → List ℕ → Type 0
IsSame l m x y = (l ≡ m) × (x ≡ y)

-- values that are words

abbrev known_tag : List ℕ → ℕ
known_tag [] = 5
known_tag (c ∷ x) = if c == 116 then 0 else if c == 102 then 1 else if c == 123 then 2 else if c == 110 then 3 else 4

tag_is : (s : SimpleValue) (x : List ℕ) → known_tag (known_text s ++ x) ≡ word_of_known s
tag_is known.True x = refl
tag_is known.False x = refl
tag_is known.Void x = refl
tag_is known.Null x = refl
tag_is known.Undefined x = refl

back_is : (s : SimpleValue) → known_of_word (word_of_known s) ≡ s
back_is known.True = refl
back_is known.False = refl
back_is known.Void = refl
back_is known.Null = refl
back_is known.Undefined = refl

known_unique : (s t : SimpleValue) (x y : List ℕ) → known_text s ++ x ≡ known_text t ++ y → (s ≡ t) × (x ≡ y)
known_unique s t x y e =
    let same : s ≡ t = sym (back_is s) ∙ ap known_of_word (sym (tag_is s x) ∙ ap known_tag e ∙ tag_is t y) ∙ back_is t in
    (same, cut (known_text t) x y (ap (λ z. known_text z ++ x) (sym same) ∙ e))

-- what ends a value is no `{`
abbrev is_open : List ℕ → Bool
is_open [] = false
is_open (c ∷ x) = c == 123

ends_open : (x : List ℕ) → Ends x → is_open x ≡ false
ends_open _ nothing = refl
ends_open _ (comma r) = refl
ends_open _ (round r) = refl
ends_open _ (equals r) = refl
ends_open _ (brace r) = refl
ends_open _ (square r) = refl

no_open : (x z : List ℕ) → Ends x → x ≡ 123 ∷ z → ⊥
no_open x z e h = true≢false (sym (ap is_open h) ∙ ends_open x e)

-- the types of parts

some_one : (t u : Ty) → Some t ≡ Some u → t ≡ u
some_one t u e = cc

optional_one : (t u : Ty) → ty.Optional t ≡ ty.Optional u → t ≡ u
optional_one t u e = let f = sym (optional_out t) ∙ ap out-Ty e ∙ optional_out u in cc

union_one : (e f t u : Ty) → ty.ErrorUnion e t ≡ ty.ErrorUnion f u → t ≡ u
union_one e f t u h = let g = sym (union_out e t) ∙ ap out-Ty h ∙ union_out f u in cc

abbrev Alike : Program → Value → Value → Type 0
Alike p v w = value_ty p v ≡ value_ty p w

maps_alike : (p : Program) (vs ws : List Value) → map (value_ty p) vs ≡ map (value_ty p) ws → AreLike (Alike p) vs ws
maps_alike p [] ws e = tt
maps_alike p (v ∷ vs) [] e = tt
maps_alike p (v ∷ vs) (w ∷ ws) e =
    let head : value_ty p v ≡ value_ty p w = cc in
    let rest : map (value_ty p) vs ≡ map (value_ty p) ws = cc in
    (head, maps_alike p vs ws rest)

elements_alike : (p : Program) (t : Ty) (vs ws : List Value) → AllByRecursion (λ v. value_ty p v ≡ t) vs → AllByRecursion (λ v. value_ty p v ≡ t) ws → AreLike (Alike p) vs ws
elements_alike p t [] ws f g = tt
elements_alike p t (v ∷ vs) [] f g = tt
elements_alike p t (v ∷ vs) (w ∷ ws) f g = (f.0 ∙ sym g.0, elements_alike p t vs ws f.1 g.1)

none_alike : (p : Program) (vs ws : List Value) → vs ≡ [] → AreLike (Alike p) vs ws
none_alike p vs ws e = subst (λ us. AreLike (Alike p) us ws) (sym e) tt

parts_alike : (p : Program) (fields : Fields) (l : TyLayer) (vs ws : List Value) → fits_parts p fields vs l → fits_parts p fields ws l → AreLike (Alike p) vs ws
parts_alike p fields (layer.Array n t) vs ws f g = elements_alike p t vs ws f.1 g.1
parts_alike p fields (layer.Terminated n) vs ws f g = elements_alike p (ty.Int false 8) vs ws f.1 g.1
parts_alike p fields (layer.Container d n captures) vs ws f g = maps_alike p vs ws (f.1 ∙ sym g.1)
parts_alike p fields (layer.File path) vs ws f g = none_alike p vs ws f
parts_alike p fields _ vs ws f g = absurd f

no_comma : ◌≡◌ {A = ℕ} 44 125 → ⊥
no_comma e = omega (arith, e)

-- a pointer's type stands in the way of nothing

abbrev pointer_for : Program → Bool → Aim → Option Ty
pointer_for p c (ToDecl d) = Some (ty.Pointer c (p.declared d))
pointer_for p c (ToValue v) = Some (ty.Pointer c (value_ty p v))
pointer_for p c Nothing = None

pointer_by : (p : Program) (c : Bool) (l : ValueLayer) → pointer_of p c l ≡ pointer_for p c (aim l)
pointer_by p c (layer.Address s d) = refl
pointer_by p c (layer.Constant s v) = refl
pointer_by p c _ = refl

const_one : (c d : Bool) (t u : Ty) → (let l : TyLayer = layer.Ty::Slice c t in l) ≡ layer.Ty::Slice d u → c ≡ d
const_one c d t u e = cc

abbrev aimed : Ty → Aim → ValueLayer
aimed t (ToDecl d) = layer.Address t d
aimed t (ToValue v) = layer.Constant t v
aimed t Nothing = layer.OfType t

aimed_is : (p : Program) (l : ValueLayer) → IsAddress l → aimed (layer_ty p l) (aim l) ≡ l
aimed_is p (layer.Address t d) h = refl
aimed_is p (layer.Constant t v) h = refl
aimed_is p _ h = absurd h

pointer_same : (p : Program) (v w : Value) → IsAddress (out-Value v) → IsAddress (out-Value w) → value_ty p v ≡ value_ty p w → aim (out-Value v) ≡ aim (out-Value w) → v ≡ w
unfolding value_ty
pointer_same p v w k l te e =
    value_same v w (sym (aimed_is p (out-Value v) k) ∙ ap (λ z. aimed z (aim (out-Value v))) te ∙ ap (aimed (layer_ty p (out-Value w))) e ∙ aimed_is p (out-Value w) l)

decl_one : (c d : DeclPath) → AtDecl c ≡ AtDecl d → c ≡ d
decl_one c d e = cc

module _ (p : Program) (n : ℕ) (known : Unique p n) (types : UniqueTypes p (suc n)) (items : Items arg_text (IsFitArg p) AnyTwo n 41) where
  value_items : Items value_text (IsFitValue p) (Alike p) n 125
  value_items = record {
    unique = λ a b x y f g l h s t e. known.value a b x y f g l h (goes_brace x s) (goes_brace y t) e;
    begins = λ a x y f s e. value_not p a x y f (goes_brace x s) e;
  }

  decl_unique : (c d : DeclPath) (x y : List ℕ) → IsFitDecl p c → IsFitDecl p d → length (decl_text c) ≤ n → Ends x → Ends y → decl_text c ++ x ≡ decl_text d ++ y → (c ≡ d) × (x ≡ y)
  decl_unique c d x y f g small a b e =
      let r = spine_unique p n items (AtDecl c) (AtDecl d) (decl_text c) (decl_text d) x y (decl_spine p c f) (decl_spine p d g) small a b e in
      (decl_one c d r.0, r.1)

  -- `T=v` and what follows
  typed_unique : (v w : Value) (x y : List ℕ) → HasType (out-Value v) → HasType (out-Value w) → IsFitValue p v → IsFitValue p w → length (value_ty_text v ++ (codes "=" ++ (value_text v ++ codes ")"))) < suc n → Ends x → Ends y
      → (value_ty_text v ++ (codes "=" ++ (value_text v ++ codes ")"))) ++ x ≡ (value_ty_text w ++ (codes "=" ++ (value_text w ++ codes ")"))) ++ y → (v ≡ w) × (x ≡ y)
  typed_unique v w x y h j f g small a b e =
      let size = length-append (value_ty_text v) (61 ∷ (value_text v ++ 41 ∷ [])) in
      let more = length-append (value_text v) (41 ∷ []) in
      let same = ap length (value_ty_out p v h) in
      let left = ap (λ z. z ++ 61 ∷ ((value_text v ++ 41 ∷ []) ++ x)) (sym (value_ty_out p v h)) ∙ sym (append_assoc (value_ty_text v) (61 ∷ (value_text v ++ 41 ∷ [])) x) in
      let right = append_assoc (value_ty_text w) (61 ∷ (value_text w ++ 41 ∷ [])) y ∙ ap (λ z. z ++ 61 ∷ ((value_text w ++ 41 ∷ []) ++ y)) (value_ty_out p w j) in
      let front = known.ty (value_ty p v) (value_ty p w) _ _ (value_ty_fit p v h f) (value_ty_fit p w j g) (omega (arith, small, size, more, same)) (equals ((value_text v ++ 41 ∷ []) ++ x)) (equals ((value_text w ++ 41 ∷ []) ++ y)) (left ∙ e ∙ right) in
      let back = known.value v w (41 ∷ x) (41 ∷ y) f g front.0 (omega (arith, small, size, more)) (round x) (round y)
      (sym (append_assoc (value_text v) (41 ∷ []) x) ∙ tails 61 61 _ _ front.1 ∙ append_assoc (value_text w) (41 ∷ []) y) in
      (back.0, tails 41 41 _ _ back.1)

  declaration_not : (d : DeclPath) (x z : List ℕ) → IsFitDecl p d → decl_text d ++ x ≡ 40 ∷ z → ⊥
  declaration_not d x z f e = let k = sym (decl_kind p d x f) ∙ ap kind e ∙ kind_open z in omega (arith, k)

  -- two addresses point to one thing, whatever their types are
  aim_unique : (l m : ValueLayer) (x y : List ℕ) → IsAddress l → IsAddress m → value_fits p l → value_fits p m → value_parts p l → value_parts p m → length (value_shape l) ≤ n → Ends x → Ends y
      → value_shape l ++ x ≡ value_shape m ++ y → (aim l ≡ aim m) × (x ≡ y)
  aim_unique (layer.Address t c) (layer.Address u d) x y k l h j f g small a b e =
      let r = decl_unique c d x y f.1 g.1 (omega (arith, small)) a b (tails 38 38 _ _ e) in (ap ToDecl r.0, r.1)
  aim_unique (layer.Address t c) (layer.Constant u w) x y k l h j f g small a b e = absurd (declaration_not c x _ f.1 (tails 38 38 _ _ e))
  aim_unique (layer.Constant t v) (layer.Address u d) x y k l h j f g small a b e = absurd (declaration_not d y _ g.1 (sym (tails 38 38 _ _ e)))
  aim_unique (layer.Constant t v) (layer.Constant u w) x y k l h j f g small a b e =
      let r = typed_unique v w x y h.1 j.1 f.1 g.1 (omega (arith, small)) a b (cut (codes "&(") _ _ e) in (ap ToValue r.0, r.1)
  aim_unique (layer.Address t c) _ x y k l h j f g small a b e = absurd l
  aim_unique (layer.Constant t v) _ x y k l h j f g small a b e = absurd l
  aim_unique _ _ x y k l h j f g small a b e = absurd k

  address_unique : (l m : ValueLayer) (x y : List ℕ) → IsAddress l → IsAddress m → layer_ty p l ≡ layer_ty p m → value_fits p l → value_fits p m → value_parts p l → value_parts p m → length (value_shape l) ≤ n → Ends x → Ends y
      → value_shape l ++ x ≡ value_shape m ++ y → IsSame l m x y
  address_unique l m x y k j te h i f g small a b e =
      let r = aim_unique l m x y k j h i f g small a b e in
      (sym (aimed_is p l k) ∙ ap (λ z. aimed z (aim l)) te ∙ ap (aimed (layer_ty p m)) r.0 ∙ aimed_is p m j, r.1)

  tagged_unique : (t u : Ty) (c d : List ℕ) (v w : Value) (x y : List ℕ) → t ≡ u → value_fits p (layer.Tagged t c v) → value_fits p (layer.Tagged u d w) → IsFitValue p v → IsFitValue p w
      → length (value_shape (layer.Tagged t c v)) < suc n → Ends x → Ends y
      → value_shape (layer.Tagged t c v) ++ x ≡ value_shape (layer.Tagged u d w) ++ y → IsSame (layer.Tagged t c v) (layer.Tagged u d w) x y
  tagged_unique t u c d v w x y te f g h j small a b e =
      let size = length-append (name_text c) (123 ∷ (value_text v ++ 125 ∷ [])) in
      let more = length-append (value_text v) (125 ∷ []) in
      let front = name_unique c d (123 ∷ ((value_text v ++ 125 ∷ []) ++ x)) (123 ∷ ((value_text w ++ 125 ∷ []) ++ y)) refl refl
      (sym (append_assoc (name_text c) (123 ∷ (value_text v ++ 125 ∷ [])) x) ∙ tails 46 46 _ _ e ∙ append_assoc (name_text d) (123 ∷ (value_text w ++ 125 ∷ [])) y) in
      let alike = some_one (value_ty p v) (value_ty p w) (sym f.1 ∙ ap (λ z. payload_of z (p.fields t).fields) front.0 ∙ ap (λ z. payload_of d (p.fields z).fields) te ∙ g.1) in
      let back = known.value v w (125 ∷ x) (125 ∷ y) h j alike (omega (arith, small, size, more)) (brace x) (brace y)
      (sym (append_assoc (value_text v) (125 ∷ []) x) ∙ tails 123 123 _ _ front.1 ∙ append_assoc (value_text w) (125 ∷ []) y) in
      (ap (λ z. layer.Tagged z c v) te ∙ ap (λ z. layer.Tagged u z v) front.0 ∙ ap (layer.Tagged u d) back.0, tails 125 125 _ _ back.1)

  tag_not : (c d : List ℕ) (v : Value) (x y : List ℕ) → Ends x → (46 ∷ name_text c) ++ x ≡ (46 ∷ (name_text d ++ (123 ∷ (value_text v ++ 125 ∷ [])))) ++ y → ⊥
  tag_not c d v x y a e =
      no_open x ((value_text v ++ 125 ∷ []) ++ y) a (name_unique c d x (123 ∷ ((value_text v ++ 125 ∷ []) ++ y)) (ends_word x a) refl
      (tails 46 46 _ _ e ∙ append_assoc (name_text d) (123 ∷ (value_text v ++ 125 ∷ [])) y)).1

  list_unique : (t u : Ty) (vs ws : List Value) (x y : List ℕ) → t ≡ u → value_fits p (layer.List t vs) → value_fits p (layer.List u ws) → AllByRecursion (IsFitValue p) vs → AllByRecursion (IsFitValue p) ws
      → length (value_shape (layer.List t vs)) < suc n → value_shape (layer.List t vs) ++ x ≡ value_shape (layer.List u ws) ++ y → IsSame (layer.List t vs) (layer.List u ws) x y
  list_unique t u vs ws x y te f g h j small e =
      let size = length-append (commas (map value_text vs)) (125 ∷ []) in
      let alike = parts_alike p (p.fields u) (out-Ty u) vs ws (subst (λ z. fits_parts p (p.fields z) vs (out-Ty z)) te f) g in
      let r = commas_unique value_text (IsFitValue p) (Alike p) n 125 value_items no_comma vs ws x y h j alike (omega (arith, small, size))
      (sym (append_assoc (commas (map value_text vs)) (125 ∷ []) x) ∙ tails 123 123 _ _ e ∙ append_assoc (commas (map value_text ws)) (125 ∷ []) y) in
      (ap (λ z. layer.List z vs) te ∙ ap (layer.List u) r.0, r.1)

  slice_unique : (t u : Ty) (v w : Value) (lo hi ko ki : ℕ) (x y : List ℕ) → t ≡ u → value_fits p (layer.Value::Slice t v lo hi) → value_fits p (layer.Value::Slice u w ko ki) → IsFitValue p v → IsFitValue p w
      → length (value_shape (layer.Value::Slice t v lo hi)) < suc n
      → value_shape (layer.Value::Slice t v lo hi) ++ x ≡ value_shape (layer.Value::Slice u w ko ki) ++ y → IsSame (layer.Value::Slice t v lo hi) (layer.Value::Slice u w ko ki) x y
  slice_unique t u v w lo hi ko ki x y te f g h j small e =
      let last : List ℕ = number_text hi ++ 93 ∷ [] in
      let last' : List ℕ = number_text ki ++ 93 ∷ [] in
      let middle : List ℕ = number_text lo ++ (46 ∷ 46 ∷ last) in
      let middle' : List ℕ = number_text ko ++ (46 ∷ 46 ∷ last') in
      let size = length-append (value_text v) (91 ∷ middle) in
      let is = ap length (value_out v) in
      let s = slice_pointer p v (out-Ty t) f.0 in
      let r = slice_pointer p w (out-Ty u) g.0 in
      let k = is_address p s.0 (value_ty p v) (out-Value v) s.3 in
      let l = is_address p r.0 (value_ty p w) (out-Value w) r.3 in
      let front = aim_unique (out-Value v) (out-Value w) (91 ∷ (middle ++ x)) (91 ∷ (middle' ++ y)) k l (value_here p v h) (value_here p w j) (value_held p v h) (value_held p w j) (omega (arith, small, size, is)) (square (middle ++ x)) (square (middle' ++ y))
      (ap (λ z. z ++ 91 ∷ (middle ++ x)) (sym (value_out v)) ∙ sym (append_assoc (value_text v) (91 ∷ middle) x) ∙ e ∙ append_assoc (value_text w) (91 ∷ middle') y ∙ ap (λ z. z ++ 91 ∷ (middle' ++ y)) (value_out w)) in
      let const = const_one s.0 r.0 s.1 r.1 (sym s.2 ∙ ap out-Ty te ∙ r.2) in
      let one = some_one (value_ty p v) (value_ty p w) (sym s.3 ∙ pointer_by p s.0 (out-Value v) ∙ ap (pointer_for p s.0) front.0 ∙ ap (λ z. pointer_for p z (aim (out-Value w))) const ∙ sym (pointer_by p r.0 (out-Value w)) ∙ r.3) in
      let low = number_unique lo ko (46 ∷ 46 ∷ (last ++ x)) (46 ∷ 46 ∷ (last' ++ y)) f.1 g.1 refl refl
      (sym (append_assoc (number_text lo) (46 ∷ 46 ∷ last) x) ∙ tails 91 91 _ _ front.1 ∙ append_assoc (number_text ko) (46 ∷ 46 ∷ last') y) in
      let high = number_unique hi ki (93 ∷ x) (93 ∷ y) f.2 g.2 refl refl
      (sym (append_assoc (number_text hi) (93 ∷ []) x) ∙ cut (codes "..") (last ++ x) (last' ++ y) low.1 ∙ append_assoc (number_text ki) (93 ∷ []) y) in
      let same : v ≡ w = pointer_same p v w k l one front.0 in
      (ap (λ z. layer.Value::Slice z v lo hi) te ∙ ap (λ z. layer.Value::Slice u z lo hi) same ∙ ap (λ z. layer.Value::Slice u w z hi) low.0 ∙ ap (layer.Value::Slice u w ko) high.0, tails 93 93 _ _ high.1)

  -- one layer
  layer_unique : (l m : ValueLayer) (x y : List ℕ) → value_kind l ≡ value_kind m → layer_ty p l ≡ layer_ty p m → value_fits p l → value_fits p m → value_parts p l → value_parts p m → length (value_shape l) < suc n → Ends x → Ends y
      → value_shape l ++ x ≡ value_shape m ++ y → IsSame l m x y
  layer_unique (layer.Value::Simple t s) (layer.Value::Simple u q) x y k te f g h j small a b e =
      let r = known_unique s q x y e in (ap (λ z. layer.Value::Simple z s) te ∙ ap (layer.Value::Simple u) r.0, r.1)
  layer_unique (layer.Value::Int t i) (layer.Value::Int u o) x y k te f g h j small a b e =
      let r = int_unique i o x y f.1 g.1 (ends_digit x a) (ends_digit y b) e in (ap (λ z. layer.Value::Int z i) te ∙ ap (layer.Value::Int u) r.0, r.1)
  layer_unique (layer.Tag t c) (layer.Tag u d) x y k te f g h j small a b e =
      let r = name_unique c d x y (ends_word x a) (ends_word y b) (tails 46 46 _ _ e) in (ap (λ z. layer.Tag z c) te ∙ ap (layer.Tag u) r.0, r.1)
  layer_unique (layer.Tag t c) (layer.Tagged u d w) x y k te f g h j small a b e = absurd (tag_not c d w x y a e)
  layer_unique (layer.Tagged t c v) (layer.Tag u d) x y k te f g h j small a b e = absurd (tag_not d c v y x b (sym e))
  layer_unique (layer.Tagged t c v) (layer.Tagged u d w) x y k te f g h j small a b e = tagged_unique t u c d v w x y te f g h.1 j.1 small a b e
  layer_unique (layer.Error t c) (layer.Error u d) x y k te f g h j small a b e =
      let r = name_unique c d x y (ends_word x a) (ends_word y b) (cut (codes "error.") _ _ e) in (ap (λ z. layer.Error z c) te ∙ ap (layer.Error u) r.0, r.1)
  layer_unique (layer.Some t v) (layer.Some u w) x y k te f g h j small a b e =
      let r = known.value v w x y h.1 j.1 (optional_one (value_ty p v) (value_ty p w) (sym f ∙ te ∙ g)) (omega (arith, small)) a b (tails 63 63 _ _ e) in
      (ap (λ z. layer.Some z v) te ∙ ap (layer.Some u) r.0, r.1)
  layer_unique (layer.Good t v) (layer.Good u w) x y k te f g h j small a b e =
      let r = known.value v w x y h.1 j.1 (union_one f.0 g.0 (value_ty p v) (value_ty p w) (sym f.1 ∙ te ∙ g.1)) (omega (arith, small)) a b (tails 33 33 _ _ e) in
      (ap (λ z. layer.Good z v) te ∙ ap (layer.Good u) r.0, r.1)
  layer_unique (layer.List t vs) (layer.List u ws) x y k te f g h j small a b e = list_unique t u vs ws x y te f g h.1 j.1 small e
  layer_unique (layer.Text t c) (layer.Text u d) x y k te f g h j small a b e =
      let r = quoted_unique c d x y (sym (append_assoc (quoted c) (34 ∷ []) x) ∙ tails 34 34 _ _ e ∙ append_assoc (quoted d) (34 ∷ []) y) in
      (ap (λ z. layer.Text z c) te ∙ ap (layer.Text u) r.0, r.1)
  layer_unique (layer.OfType t) (layer.OfType u) x y k te f g h j small a b e =
      let r = types t u x y h j small a b e in (ap layer.OfType r.0, r.1)
  layer_unique (layer.Value::Function c) (layer.Value::Function d) x y k te f g h j small a b e =
      let r = decl_unique c d x y h j (omega (arith, small)) a b e in (ap layer.Value::Function r.0, r.1)
  layer_unique (layer.Address t c) (layer.Address u d) x y k te f g h j small a b e = address_unique (layer.Address t c) (layer.Address u d) x y tt tt te f g h j (omega (arith, small)) a b e
  layer_unique (layer.Address t c) (layer.Constant u w) x y k te f g h j small a b e = address_unique (layer.Address t c) (layer.Constant u w) x y tt tt te f g h j (omega (arith, small)) a b e
  layer_unique (layer.Constant t v) (layer.Address u d) x y k te f g h j small a b e = address_unique (layer.Constant t v) (layer.Address u d) x y tt tt te f g h j (omega (arith, small)) a b e
  layer_unique (layer.Constant t v) (layer.Constant u w) x y k te f g h j small a b e = address_unique (layer.Constant t v) (layer.Constant u w) x y tt tt te f g h j (omega (arith, small)) a b e
  layer_unique (layer.Place t i) m x y k te f g h j small a b e = absurd f
  layer_unique (layer.Part t v i c) m x y k te f g h j small a b e = absurd f
  layer_unique (layer.Value::Slice t v lo hi) (layer.Value::Slice u w ko ki) x y k te f g h j small a b e = slice_unique t u v w lo hi ko ki x y te f g h.1 j.1 small e
  layer_unique _ _ x y k te f g h j small a b e = absurd (omega (arith, k))

  layers_unique : (v w : Value) (x y : List ℕ) → IsFitValue p v → IsFitValue p w → value_ty p v ≡ value_ty p w → length (value_text v) < suc n → Ends x → Ends y
      → value_text v ++ x ≡ value_text w ++ y → IsSame (out-Value v) (out-Value w) x y
  unfolding value_ty
  layers_unique v w x y f g te small a b e =
      let k = sym (value_at p v x f a) ∙ ap (λ z. kind_at (out-Ty z) (value_text v ++ x)) te ∙ ap (kind_at (out-Ty (value_ty p w))) e ∙ value_at p w y g b in
      layer_unique (out-Value v) (out-Value w) x y k te (value_here p v f) (value_here p w g) (value_held p v f) (value_held p w g) (subst (λ z. length z < suc n) (value_out v) small) a b
      (ap (λ z. z ++ x) (sym (value_out v)) ∙ e ∙ ap (λ z. z ++ y) (value_out w))

  -- a value of this length
  pub value_unique : (v w : Value) (x y : List ℕ) → IsFitValue p v → IsFitValue p w → value_ty p v ≡ value_ty p w → length (value_text v) < suc n → Ends x → Ends y
      → value_text v ++ x ≡ value_text w ++ y → (v ≡ w) × (x ≡ y)
  value_unique v w x y f g te small a b e =
      let r = layers_unique v w x y f g te small a b e in
      (value_same v w r.0, r.1)
