-- Types, values, arguments and units of any length are read back.
use Rattle.std.proofs.Common.{◌≡◌, ℕ, zero, suc, ◌<◌, ◌≤◌, ◌==◌, Bool, false, if◌then◌else◌, List, [], ◌∷◌, ◌++◌, length, map, codes, refl, sym, ap, subst, ◌∙◌, arith, append_assoc, append-nil, length-append, true≢false}
use Rattle.zw_base.specs.Path.{is_path_byte}
use Rattle.type_form.specs.declared.tree.Ty.{Ty, out-Ty}
use Rattle.type_form.specs.declared.tree.Value.{Value, out-Value, out-roll-Value}
use Rattle.type_form.specs.declared.tree.DeclPath.{DeclPath}
use Rattle.type_form.specs.declared.tree.Arg.{Arg, out-Arg}
use Rattle.type_form.specs.declared.tree.Arg.TheOpen as layer
use Rattle.type_form.specs.declared.tree.Ty.TheVariants as ty
use Rattle.type_form.specs.declared.tree.Value.TheVariants as value
use Rattle.type_form.specs.declared.unit.Instance.{Instance}
use Rattle.type_form.specs.declared.unit.Unit.{Unit as AnyUnit}
use Rattle.type_form.specs.declared.unit.Unit.TheVariants as unit
use Rattle.type_form.specs.Tree.{TyLayer, ArgLayer}
use Rattle.type_form.specs.Spelling.{number_text, in_parens, arg_text, decl_text, ty_text, value_text, value_ty_text, place_text, instance_text, unit_text}
use Rattle.type_form.proofs.SpellLemmas.{place_text-FileType, place_text-ContainerType, value_text-FunctionValue}
use Rattle.type_form.proofs.LengthLemmas.{instance_text-is, unit_text-Decl, unit_text-Body, unit_text-ErrorSet, unit_text-Fields, unit_text-Code, unit_text-Comptime}
use Rattle.type_form.specs.Fit.{Program, HasType, IsFunctional, IsNumber, IsPath, IsPlace, IsFit, IsFitValue, IsFitArg, IsFitDecl, IsFitInstance, IsFitUnit, ty_fits, arg_fits, value_fits, layer_ty, value_ty, arg_parts, ty_parts, value_parts}
use Rattle.type_laws.specs.Laws.{EqualTypes, EqualArguments, EqualUnits, EqualValues, EqualDeclarations, EqualInstances}
use Rattle.type_laws.proofs.Runs.{run_unique, number_unique, tails, cut}
use Rattle.type_laws.proofs.Commas.{Goes, Items}
use Rattle.type_laws.proofs.Commas.Goes.{more, done}
use Rattle.type_laws.proofs.Shapes.{arg_shape, arg_out, arg_same, value_ty_out, ty_is, ty_same}
use Rattle.type_laws.proofs.Parts.{arg_here, arg_held, value_ty_fit, ty_held, ty_here}
use Rattle.type_laws.proofs.Ends.{Ends, goes_round}
use Rattle.type_laws.proofs.Ends.Ends.{nothing, equals}
use Rattle.type_laws.proofs.HeadBytes.{kind_none}
use Rattle.type_laws.proofs.Steps.{Place, AnyTwo}
use Rattle.type_laws.proofs.Steps.Step.{OfArgs}
use Rattle.type_laws.proofs.Steps.Place.{AtDecl, AtInstance}
use Rattle.type_laws.proofs.Spines.{Spine, grow, decl_spine, spine_unique, container_place, container_of, container_is, container_spine}
use Rattle.type_laws.proofs.Types.{Unique, UniqueTypes, ty_unique, ty_not}
use Rattle.type_laws.proofs.Values.{value_unique}
use Rattle.type_laws.proofs.Builds.{value_made}

-- what follows an argument is no `=`
abbrev is_equal : List ℕ → Bool
is_equal [] = false
is_equal (c ∷ x) = c == 61

no_equal : (x z : List ℕ) → is_equal x ≡ false → x ≡ 61 ∷ z → ⊥
no_equal x z f e = true≢false (sym (ap is_equal e) ∙ f)

goes_equal : (x : List ℕ) → Goes 41 x → is_equal x ≡ false
goes_equal _ (more r) = refl
goes_equal _ (done r) = refl

-- an argument of a type and a value
record Valued (p : Program) (text : List ℕ) : Type 0 where
  pub ty : Ty
  pub value : Value
  pub fit_ty : IsFit p ty
  pub fit_value : IsFitValue p value
  pub is_ty : value_ty p value ≡ ty
  pub is : text ≡ ty_text ty ++ 61 ∷ value_text value

function_out : (d : DeclPath) → out-Value (value.Function d) ≡ layer.Value::Function d
function_out d = ap out-Value (sym (value.rolls-Function d)) ∙ out-roll-Value (layer.Value::Function d)

function_one : (d e : DeclPath) → value.Function d ≡ value.Function e → d ≡ e
function_one d e h = let f = sym (function_out d) ∙ ap out-Value h ∙ function_out e in cc

-- a function is no value that has a type
not_function : (v : Value) (d : DeclPath) → HasType (out-Value v) → v ≡ value.Function d → ⊥
not_function v d h e = subst HasType (ap out-Value e ∙ function_out d) h

module _ (p : Program) where
  known_valued : (v : Value) → arg_fits p (layer.Known v) → IsFitValue p v → Valued p (arg_shape (layer.Known v))
  known_valued v h f = record { ty = value_ty p v; value = v; fit_ty = value_ty_fit p v h f; fit_value = f; is_ty = refl; is = ap (λ z. z ++ 61 ∷ value_text v) (value_ty_out p v h) }

  function_fit : (t : Ty) (d : DeclPath) → arg_fits p (layer.Arg::Function t d) → IsFitDecl p d → IsFitValue p (value.Function d)
  function_fit t d h f = value_made p (value.Function d)
      (subst (value_fits p) (sym (function_out d)) (subst (λ z. IsFunctional (out-Ty z)) h.0 h.1))
      (subst (value_parts p) (sym (function_out d)) f)

  function_ty : (d : DeclPath) → value_ty p (value.Function d) ≡ p.declared d
  unfolding value_ty
  function_ty d = ap (layer_ty p) (function_out d)

  function_valued : (t : Ty) (d : DeclPath) → arg_fits p (layer.Arg::Function t d) → arg_parts p (layer.Arg::Function t d) → Valued p (arg_shape (layer.Arg::Function t d))
  function_valued t d h f = record {
    ty = t;
    value = value.Function d;
    fit_ty = f.0;
    fit_value = function_fit t d h f.1;
    is_ty = function_ty d ∙ sym h.0;
    is = ap (λ z. ty_text t ++ 61 ∷ z) (sym (value_text-FunctionValue d));
  }

module _ (p : Program) (n : ℕ) (known : Unique p n) where
  valued_text : (a : List ℕ) (v : Valued p a) (x : List ℕ) → a ++ x ≡ ty_text v.ty ++ 61 ∷ (value_text v.value ++ x)
  valued_text a v x = ap (λ z. z ++ x) v.is ∙ append_assoc (ty_text v.ty) (61 ∷ value_text v.value) x

  valued_size : (a : List ℕ) (v : Valued p a) → length a < n → (length (ty_text v.ty) < n) × (length (value_text v.value) < n)
  valued_size a v small =
      let size = length-append (ty_text v.ty) (61 ∷ value_text v.value) in
      let same = ap length v.is in
      (omega (arith, small, size, same), omega (arith, small, size, same))

  -- two such arguments have one type and one value
  valued_unique : (a b : List ℕ) (v : Valued p a) (w : Valued p b) (x y : List ℕ) → length a < n → Ends x → Ends y → a ++ x ≡ b ++ y → (v.ty ≡ w.ty) × (v.value ≡ w.value) × (x ≡ y)
  valued_unique a b v w x y small s t e =
      let front = known.ty v.ty w.ty _ _ v.fit_ty w.fit_ty (valued_size a v small).0 (equals (value_text v.value ++ x)) (equals (value_text w.value ++ y)) (sym (valued_text a v x) ∙ e ∙ valued_text b w y) in
      let back = known.value v.value w.value x y v.fit_value w.fit_value (v.is_ty ∙ front.0 ∙ sym w.is_ty) (valued_size a v small).1 s t (tails 61 61 _ _ front.1) in
      (front.0, back.0, back.1)

  -- a type alone is no type before `=`
  typed_not : (a : List ℕ) (v : Valued p a) (u : Ty) (x y : List ℕ) → IsFit p u → length a < n → Ends y → is_equal y ≡ false → a ++ x ≡ ty_text u ++ y → ⊥
  typed_not a v u x y g small b d e =
      no_equal y _ d (sym (known.ty v.ty u _ y v.fit_ty g (valued_size a v small).0 (equals (value_text v.value ++ x)) b (sym (valued_text a v x) ∙ e)).1)

  not_typed : (a : List ℕ) (v : Valued p a) (u : Ty) (x y : List ℕ) → IsFit p u → length (ty_text u) < n → Ends y → is_equal y ≡ false → ty_text u ++ y ≡ a ++ x → ⊥
  not_typed a v u x y g small b d e =
      no_equal y _ d (known.ty u v.ty y _ g v.fit_ty small b (equals (value_text v.value ++ x)) (e ∙ valued_text a v x)).1

  layer_unique : (l m : ArgLayer) (x y : List ℕ) → arg_fits p l → arg_fits p m → arg_parts p l → arg_parts p m → length (arg_shape l) < n → Ends x → Ends y → is_equal x ≡ false → is_equal y ≡ false
      → arg_shape l ++ x ≡ arg_shape m ++ y → (l ≡ m) × (x ≡ y)
  unfolding known_valued function_valued
  layer_unique (layer.Known v) (layer.Known w) x y h j f g small a b c d e =
      let r = valued_unique _ _ (known_valued p v h f) (known_valued p w j g) x y small a b e in (ap layer.Known r.1, r.2)
  layer_unique (layer.Known v) (layer.Arg::Function u i) x y h j f g small a b c d e =
      absurd (not_function v i h (valued_unique _ _ (known_valued p v h f) (function_valued p u i j g) x y small a b e).1)
  layer_unique (layer.Arg::Function t i) (layer.Known w) x y h j f g small a b c d e =
      absurd (not_function w i j (sym (valued_unique _ _ (function_valued p t i h f) (known_valued p w j g) x y small a b e).1))
  layer_unique (layer.Arg::Function t i) (layer.Arg::Function u o) x y h j f g small a b c d e =
      let r = valued_unique _ _ (function_valued p t i h f) (function_valued p u o j g) x y small a b e in
      (ap (λ z. layer.Arg::Function z i) r.0 ∙ ap (layer.Arg::Function u) (function_one i o r.1), r.2)
  layer_unique (layer.Known v) (layer.Typed u) x y h j f g small a b c d e = absurd (typed_not _ (known_valued p v h f) u x y g small b d e)
  layer_unique (layer.Arg::Function t i) (layer.Typed u) x y h j f g small a b c d e = absurd (typed_not _ (function_valued p t i h f) u x y g small b d e)
  layer_unique (layer.Typed t) (layer.Known w) x y h j f g small a b c d e = absurd (not_typed _ (known_valued p w j g) t y x f small a c e)
  layer_unique (layer.Typed t) (layer.Arg::Function u o) x y h j f g small a b c d e = absurd (not_typed _ (function_valued p u o j g) t y x f small a c e)
  layer_unique (layer.Typed t) (layer.Typed u) x y h j f g small a b c d e =
      let r = known.ty t u x y f g small a b e in (ap layer.Typed r.0, r.1)

  pub arg_unique : (s t : Arg) (x y : List ℕ) → IsFitArg p s → IsFitArg p t → length (arg_text s) < n → Ends x → Ends y → is_equal x ≡ false → is_equal y ≡ false
      → arg_text s ++ x ≡ arg_text t ++ y → (s ≡ t) × (x ≡ y)
  arg_unique s t x y f g small a b c d e =
      let r = layer_unique (out-Arg s) (out-Arg t) x y (arg_here p s f) (arg_here p t g) (arg_held p s f) (arg_held p t g) (subst (λ z. length z < n) (arg_out s) small) a b c d
      (ap (λ z. z ++ x) (sym (arg_out s)) ∙ e ∙ ap (λ z. z ++ y) (arg_out t)) in
      (arg_same s t r.0, r.1)

  valued_not : (a : List ℕ) (v : Valued p a) (x y : List ℕ) → a ++ x ≡ 41 ∷ y → ⊥
  valued_not a v x y e = ty_not p v.ty _ (41 ∷ y) v.fit_ty (equals (value_text v.value ++ x)) (kind_none y).0 (sym (valued_text a v x) ∙ e)

  layer_not : (l : ArgLayer) (x y : List ℕ) → arg_fits p l → arg_parts p l → Ends x → arg_shape l ++ x ≡ 41 ∷ y → ⊥
  layer_not (layer.Known v) x y h f a e = valued_not _ (known_valued p v h f) x y e
  layer_not (layer.Arg::Function t d) x y h f a e = valued_not _ (function_valued p t d h f) x y e
  layer_not (layer.Typed t) x y h f a e = ty_not p t x (41 ∷ y) f a (kind_none y).0 e

  pub arg_items : Items arg_text (IsFitArg p) AnyTwo n 41
  arg_items = record {
    unique = λ s t x y f g l h u v e. arg_unique s t x y f g h (goes_round x u) (goes_round y v) (goes_equal x u) (goes_equal y v) e;
    begins = λ s x y f u e. layer_not (out-Arg s) x y (arg_here p s f) (arg_held p s f) (goes_round x u) (ap (λ z. z ++ x) (sym (arg_out s)) ∙ e);
  }

-- types and values of each length are read back
pub all_unique : (p : Program) (n : ℕ) → Unique p n
all_unique p zero = record { ty = λ t u x y f g small a b e. absurd (omega (arith, small)); value = λ v w x y f g te small a b e. absurd (omega (arith, small)) }
all_unique p (suc n) =
    let known = all_unique p n in
    let items = arg_items p n known in
    let types : UniqueTypes p (suc n) = ty_unique p n known items in
    record { ty = types; value = value_unique p n known types items }

pub equal_types : EqualTypes
equal_types p t u f g e = ((all_unique p (suc (length (ty_text t)))).ty t u [] [] f g (omega arith) nothing nothing (ap (λ z. z ++ []) e)).0

pub equal_arguments : EqualArguments
equal_arguments p a b f g e =
    let n : ℕ = suc (length (arg_text a)) in
    (arg_unique p n (all_unique p n) a b [] [] f g (omega arith) nothing nothing refl refl (ap (λ z. z ++ []) e)).0

pub equal_values : EqualValues
equal_values p v w f g te e = ((all_unique p (suc (length (value_text v)))).value v w [] [] f g te (omega arith) nothing nothing (ap (λ z. z ++ []) e)).0

module _ (p : Program) where
  place_one : (n : ℕ) (a b : Place) (t u : List ℕ) → Spine p a t → Spine p b u → length t ≤ n → t ≡ u → a ≡ b
  place_one n a b t u s r small e = (spine_unique p n (arg_items p n (all_unique p n)) a b t u [] [] s r small nothing nothing (ap (λ z. z ++ []) e)).0

  decl_one : (c d : DeclPath) → AtDecl c ≡ AtDecl d → c ≡ d
  decl_one c d e = cc

  decls_equal : (c d : DeclPath) → IsFitDecl p c → IsFitDecl p d → decl_text c ≡ decl_text d → c ≡ d
  decls_equal c d f g e = decl_one c d (place_one (length (decl_text c)) (AtDecl c) (AtDecl d) (decl_text c) (decl_text d) (decl_spine p c f) (decl_spine p d g) (omega arith) e)

  instance_spine : (i : Instance) → IsFitInstance p i → Spine p (AtInstance i.decl i.args) (instance_text i)
  instance_spine i f = subst (Spine p (AtInstance i.decl i.args)) (sym (instance_text-is i)) (grow p (AtDecl i.decl) (decl_text i.decl) (OfArgs i.args) (decl_spine p i.decl f.decl) f.args)

  instance_one : (i j : Instance) → AtInstance i.decl i.args ≡ AtInstance j.decl j.args → i ≡ j
  instance_one i j e =
      let first : i.decl ≡ j.decl = cc in
      let second : i.args ≡ j.args = cc in
      λ k. record { decl = first k; args = second k }

  instances_equal : (i j : Instance) → IsFitInstance p i → IsFitInstance p j → instance_text i ≡ instance_text j → i ≡ j
  instances_equal i j f g e =
      instance_one i j (place_one (length (instance_text i)) (AtInstance i.decl i.args) (AtInstance j.decl j.args) (instance_text i) (instance_text j) (instance_spine i f) (instance_spine j g) (omega arith) e)

  -- files and containers as units name them

  abbrev place_shape : TyLayer → List ℕ
  place_shape (layer.File path) = path
  place_shape (layer.Container d n captures) = decl_text d ++ (codes "#" ++ (number_text n ++ in_parens (map arg_text captures)))
  place_shape _ = []

  place_is : (c : Ty) (l : TyLayer) → out-Ty c ≡ l → IsPlace l → place_text c ≡ place_shape l
  place_is c (layer.File path) e h = ap place_text (ty_is c (layer.File path) e ∙ ty.rolls-File path) ∙ place_text-FileType path
  place_is c (layer.Container d n captures) e h = ap place_text (ty_is c (layer.Container d n captures) e ∙ ty.rolls-Container d n captures) ∙ place_text-ContainerType d n captures
  place_is c _ e h = absurd h

  whole_spine : (d : DeclPath) (n : ℕ) (captures : List Arg) → ty_fits p (layer.Container d n captures) → ty_parts p (layer.Container d n captures) → Spine p (container_place d n captures) (place_shape (layer.Container d n captures))
  whole_spine d n captures f h = container_spine p d n captures (decl_text d) (decl_spine p d h.0) f h.1

  no_file : (path : List ℕ) (d : DeclPath) (n : ℕ) (captures : List Arg) → IsPath path → ty_fits p (layer.Container d n captures) → ty_parts p (layer.Container d n captures) → path ≡ place_shape (layer.Container d n captures) → ⊥
  no_file path d n captures f g h e =
      let s = whole_spine d n captures g h in
      let r = run_unique is_path_byte path s.path [] (58 ∷ s.rest) f s.is_path refl refl (append-nil path ∙ e ∙ s.is ∙ ap (λ z. s.path ++ z) s.begins) in
      let no : [] ≡ 58 ∷ s.rest = r.1 in
      absurd cc

  places_by : (l m : TyLayer) → IsPlace l → IsPlace m → ty_fits p l → ty_fits p m → ty_parts p l → ty_parts p m → place_shape l ≡ place_shape m → l ≡ m
  places_by (layer.File s) (layer.File t) k j f g h i e = ap layer.File e
  places_by (layer.File s) (layer.Container d n ys) k j f g h i e = absurd (no_file s d n ys f g i e)
  places_by (layer.Container c m xs) (layer.File t) k j f g h i e = absurd (no_file t c m xs g f h (sym e))
  places_by (layer.Container c m xs) (layer.Container d n ys) k j f g h i e =
      let one = place_one (length (place_shape (layer.Container c m xs))) (container_place c m xs) (container_place d n ys) (place_shape (layer.Container c m xs)) (place_shape (layer.Container d n ys)) (whole_spine c m xs f h) (whole_spine d n ys g i) (omega arith) e in
      sym (container_is c m xs) ∙ ap container_of one ∙ container_is d n ys
  places_by (layer.File s) _ k j f g h i e = absurd j
  places_by (layer.Container c m xs) _ k j f g h i e = absurd j
  places_by _ _ k j f g h i e = absurd k

  places_equal : (c d : Ty) → IsPlace (out-Ty c) → IsPlace (out-Ty d) → IsFit p c → IsFit p d → place_text c ≡ place_text d → c ≡ d
  places_equal c d k j f g e =
      ty_same c d (places_by (out-Ty c) (out-Ty d) k j (ty_here p c f) (ty_here p d g) (ty_held p c f) (ty_held p d g)
      (sym (place_is c (out-Ty c) refl k) ∙ e ∙ place_is d (out-Ty d) refl j))

  blocks_equal : (a b : List ℕ) (m n : ℕ) → IsPath a → IsPath b → IsNumber m → IsNumber n → a ++ (35 ∷ number_text m) ≡ b ++ (35 ∷ number_text n) → (a ≡ b) × (m ≡ n)
  blocks_equal a b m n f g h k e =
      let front = run_unique is_path_byte a b (35 ∷ number_text m) (35 ∷ number_text n) f g refl refl e in
      let back = number_unique m n [] [] h k refl refl (ap (λ z. z ++ []) (tails 35 35 _ _ front.1)) in
      (front.0, back.0)

pub equal_declarations : EqualDeclarations
equal_declarations = decls_equal

pub equal_instances : EqualInstances
equal_instances = instances_equal

-- units by their first word

abbrev unit_shape : AnyUnit → List ℕ
unit_shape (unit.Decl d) = codes "decl " ++ decl_text d
unit_shape (unit.Body i) = codes "body " ++ instance_text i
unit_shape (unit.ErrorSet i) = codes "errset " ++ instance_text i
unit_shape (unit.Fields c) = codes "fields " ++ place_text c
unit_shape (unit.Code i) = codes "code " ++ instance_text i
unit_shape (unit.Comptime path n) = codes "comptime " ++ (path ++ (codes "#" ++ number_text n))

unit_out : (u : AnyUnit) → unit_text u ≡ unit_shape u
unit_out (unit.Decl d) = unit_text-Decl d
unit_out (unit.Body i) = unit_text-Body i
unit_out (unit.ErrorSet i) = unit_text-ErrorSet i
unit_out (unit.Fields c) = unit_text-Fields c
unit_out (unit.Code i) = unit_text-Code i
unit_out (unit.Comptime path n) = unit_text-Comptime path n

abbrev third_tag : List ℕ → ℕ
third_tag [] = 0
third_tag (a ∷ []) = 0
third_tag (a ∷ b ∷ x) = if b == 100 then 5 else 6

abbrev unit_tag : List ℕ → ℕ
unit_tag [] = 0
unit_tag (c ∷ x) = if c == 100 then 1 else if c == 98 then 2 else if c == 101 then 3 else if c == 102 then 4 else third_tag x

abbrev unit_kind : AnyUnit → ℕ
unit_kind (unit.Decl d) = 1
unit_kind (unit.Body i) = 2
unit_kind (unit.ErrorSet i) = 3
unit_kind (unit.Fields c) = 4
unit_kind (unit.Code i) = 5
unit_kind (unit.Comptime path n) = 6

tag_is : (u : AnyUnit) → unit_tag (unit_shape u) ≡ unit_kind u
tag_is (unit.Decl d) = refl
tag_is (unit.Body i) = refl
tag_is (unit.ErrorSet i) = refl
tag_is (unit.Fields c) = refl
tag_is (unit.Code i) = refl
tag_is (unit.Comptime path n) = refl

units_by : (p : Program) (u v : AnyUnit) → unit_kind u ≡ unit_kind v → IsFitUnit p u → IsFitUnit p v → unit_shape u ≡ unit_shape v → u ≡ v
units_by p (unit.Decl c) (unit.Decl d) k f g e = ap unit.Decl (decls_equal p c d f g (cut (codes "decl ") (decl_text c) (decl_text d) e))
units_by p (unit.Body i) (unit.Body j) k f g e = ap unit.Body (instances_equal p i j f g (cut (codes "body ") (instance_text i) (instance_text j) e))
units_by p (unit.ErrorSet i) (unit.ErrorSet j) k f g e = ap unit.ErrorSet (instances_equal p i j f g (cut (codes "errset ") (instance_text i) (instance_text j) e))
units_by p (unit.Fields c) (unit.Fields d) k f g e = ap unit.Fields (places_equal p c d f.1 g.1 f.0 g.0 (cut (codes "fields ") (place_text c) (place_text d) e))
units_by p (unit.Code i) (unit.Code j) k f g e = ap unit.Code (instances_equal p i j f g (cut (codes "code ") (instance_text i) (instance_text j) e))
units_by p (unit.Comptime a m) (unit.Comptime b n) k f g e =
    let r = blocks_equal p a b m n f.0 g.0 f.1 g.1 (cut (codes "comptime ") (a ++ (35 ∷ number_text m)) (b ++ (35 ∷ number_text n)) e) in
    ap (λ z. unit.Comptime z m) r.0 ∙ ap (unit.Comptime b) r.1
units_by p _ _ k f g e = absurd (omega (arith, k))

pub equal_units : EqualUnits
equal_units p u v f g e =
    let shape = sym (unit_out u) ∙ e ∙ unit_out v in
    units_by p u v (sym (tag_is u) ∙ ap unit_tag shape ∙ tag_is v) f g shape
