-- The spelling of a tree by its outer layer.
use Rattle.std.proofs.Common.{◌≡◌, ℕ, List, [], ◌∷◌, ◌++◌, map, codes, if◌then◌else◌, sym, ap, ◌∙◌}
use Rattle.type_form.specs.declared.tree.Ty.{Ty, out-Ty, roll-Ty, roll-out-Ty}
use Rattle.type_form.specs.declared.tree.Value.{Value, out-Value, roll-Value, roll-out-Value}
use Rattle.type_form.specs.declared.tree.DeclPath.{DeclPath, out-DeclPath, roll-DeclPath, roll-out-DeclPath}
use Rattle.type_form.specs.declared.tree.Arg.{Arg, out-Arg, roll-Arg, roll-out-Arg}
use Rattle.type_form.specs.declared.tree.Ty.TheVariants as ty
use Rattle.type_form.specs.declared.tree.Value.TheVariants as value
use Rattle.type_form.specs.declared.tree.DeclPath.TheVariants as decl
use Rattle.type_form.specs.declared.tree.Arg.TheVariants as arg
use Rattle.type_form.specs.declared.tree.SimpleTy.TheVariants as simple
use Rattle.type_form.specs.declared.tree.Arg.TheOpen as layer
use Rattle.type_form.specs.Tree.{TyLayer, ValueLayer, DeclLayer, ArgLayer}
use Rattle.type_form.specs.Spelling.{number_text, int_text, quoted, name_text, commas, in_parens, simple_text, known_text, ty_text, place_text, mark_text, value_ty_text, value_text, decl_text, arg_text}
use Rattle.type_form.proofs.SpellLemmas.{ty_text-SimpleType, ty_text-IntType, ty_text-ErrorSetType, ty_text-PointerType, ty_text-SliceType, ty_text-ArrayType, ty_text-TerminatedType, ty_text-OptionalType, ty_text-ErrorUnionType, ty_text-FileType, ty_text-ContainerType, ty_text-FunctionType, ty_text-UnionTagType, value_text-SimpleValue, value_text-IntValue, value_text-TagValue, value_text-ErrorValue, value_text-SomeValue, value_text-GoodValue, value_text-ListValue, value_text-TextValue, value_text-TaggedValue, value_text-TypeValue, value_text-FunctionValue, value_text-AddressValue, value_text-ConstantValue, value_text-PlaceValue, value_text-PartValue, value_text-SliceValue, value_ty_text-SimpleValue, value_ty_text-IntValue, value_ty_text-TagValue, value_ty_text-ErrorValue, value_ty_text-SomeValue, value_ty_text-GoodValue, value_ty_text-ListValue, value_ty_text-TextValue, value_ty_text-TaggedValue, value_ty_text-TypeValue, value_ty_text-AddressValue, value_ty_text-ConstantValue, value_ty_text-PlaceValue, value_ty_text-PartValue, value_ty_text-SliceValue, decl_text-Named, decl_text-Comptime, arg_text-Known, arg_text-Function, arg_text-Typed}
use Rattle.type_form.specs.Fit.{Program, HasType, layer_ty, value_ty}

-- a type by its outer layer
abbrev pub ty_shape : TyLayer → List ℕ
ty_shape (layer.Ty::Simple s) = simple_text s
ty_shape (layer.Ty::Int s n) = (if s then codes "i" else codes "u") ++ number_text n
ty_shape (layer.ErrorSet ns) = codes "error{" ++ (commas (map name_text ns) ++ codes "}")
ty_shape (layer.Pointer c t) = (if c then codes "*const " else codes "*") ++ ty_text t
ty_shape (layer.Ty::Slice c t) = (if c then codes "[]const " else codes "[]") ++ ty_text t
ty_shape (layer.Array n t) = codes "[" ++ (number_text n ++ (codes "]" ++ ty_text t))
ty_shape (layer.Terminated n) = codes "[" ++ (number_text n ++ codes ":0]u8")
ty_shape (layer.Optional t) = codes "?" ++ ty_text t
ty_shape (layer.ErrorUnion e t) = ty_text e ++ (codes "!" ++ ty_text t)
ty_shape (layer.File path) = codes "@:" ++ path
ty_shape (layer.Container d n l) = decl_text d ++ (codes "#" ++ (number_text n ++ in_parens (map arg_text l)))
ty_shape (layer.UnionTag t) = codes "@tag(" ++ (ty_text t ++ codes ")")
ty_shape (layer.Ty::Function ps r) = codes "fn(" ++ (commas (map ty_text ps) ++ (codes ")" ++ ty_text r))

ty_rolled : (l : TyLayer) → ty_text (roll-Ty l) ≡ ty_shape l
ty_rolled (layer.Ty::Simple s) = ap ty_text (ty.rolls-Simple s) ∙ ty_text-SimpleType s
ty_rolled (layer.Ty::Int s n) = ap ty_text (ty.rolls-Int s n) ∙ ty_text-IntType s n
ty_rolled (layer.ErrorSet ns) = ap ty_text (ty.rolls-ErrorSet ns) ∙ ty_text-ErrorSetType ns
ty_rolled (layer.Pointer c t) = ap ty_text (ty.rolls-Pointer c t) ∙ ty_text-PointerType c t
ty_rolled (layer.Ty::Slice c t) = ap ty_text (ty.rolls-Slice c t) ∙ ty_text-SliceType c t
ty_rolled (layer.Array n t) = ap ty_text (ty.rolls-Array n t) ∙ ty_text-ArrayType n t
ty_rolled (layer.Terminated n) = ap ty_text (ty.rolls-Terminated n) ∙ ty_text-TerminatedType n
ty_rolled (layer.Optional t) = ap ty_text (ty.rolls-Optional t) ∙ ty_text-OptionalType t
ty_rolled (layer.ErrorUnion e t) = ap ty_text (ty.rolls-ErrorUnion e t) ∙ ty_text-ErrorUnionType e t
ty_rolled (layer.File path) = ap ty_text (ty.rolls-File path) ∙ ty_text-FileType path
ty_rolled (layer.Container d n l) = ap ty_text (ty.rolls-Container d n l) ∙ ty_text-ContainerType d n l
ty_rolled (layer.UnionTag t) = ap ty_text (ty.rolls-UnionTag t) ∙ ty_text-UnionTagType t
ty_rolled (layer.Ty::Function ps r) = ap ty_text (ty.rolls-Function ps r) ∙ ty_text-FunctionType ps r

pub ty_out : (t : Ty) → ty_text t ≡ ty_shape (out-Ty t)
ty_out t = ap ty_text (sym (roll-out-Ty t)) ∙ ty_rolled (out-Ty t)

-- a value by its outer layer
abbrev pub value_shape : ValueLayer → List ℕ
value_shape (layer.Value::Simple t s) = known_text s
value_shape (layer.Value::Int t z) = int_text z
value_shape (layer.Tag t name) = codes "." ++ name_text name
value_shape (layer.Error t name) = codes "error." ++ name_text name
value_shape (layer.Some t v) = codes "?" ++ value_text v
value_shape (layer.Good t v) = codes "!" ++ value_text v
value_shape (layer.List t vs) = codes "{" ++ (commas (map value_text vs) ++ codes "}")
value_shape (layer.Text t bs) = 34 ∷ (quoted bs ++ 34 ∷ [])
value_shape (layer.Tagged t name v) = codes "." ++ (name_text name ++ (codes "{" ++ (value_text v ++ codes "}")))
value_shape (layer.OfType t) = ty_text t
value_shape (layer.Value::Function d) = decl_text d
value_shape (layer.Address t d) = codes "&" ++ decl_text d
value_shape (layer.Constant t v) = codes "&(" ++ (value_ty_text v ++ (codes "=" ++ (value_text v ++ codes ")")))
value_shape (layer.Place t n) = codes "&@comptime" ++ number_text n
value_shape (layer.Part t v n c) = value_text v ++ (codes "." ++ number_text n)
value_shape (layer.Value::Slice t v lo hi) = value_text v ++ (codes "[" ++ (number_text lo ++ (codes ".." ++ (number_text hi ++ codes "]"))))

value_rolled : (l : ValueLayer) → value_text (roll-Value l) ≡ value_shape l
value_rolled (layer.Value::Simple t s) = ap value_text (value.rolls-Simple t s) ∙ value_text-SimpleValue t s
value_rolled (layer.Value::Int t z) = ap value_text (value.rolls-Int t z) ∙ value_text-IntValue t z
value_rolled (layer.Tag t name) = ap value_text (value.rolls-Tag t name) ∙ value_text-TagValue t name
value_rolled (layer.Error t name) = ap value_text (value.rolls-Error t name) ∙ value_text-ErrorValue t name
value_rolled (layer.Some t v) = ap value_text (value.rolls-Some t v) ∙ value_text-SomeValue t v
value_rolled (layer.Good t v) = ap value_text (value.rolls-Good t v) ∙ value_text-GoodValue t v
value_rolled (layer.List t vs) = ap value_text (value.rolls-List t vs) ∙ value_text-ListValue t vs
value_rolled (layer.Text t bs) = ap value_text (value.rolls-Text t bs) ∙ value_text-TextValue t bs
value_rolled (layer.Tagged t name v) = ap value_text (value.rolls-Tagged t name v) ∙ value_text-TaggedValue t name v
value_rolled (layer.OfType t) = ap value_text (value.rolls-OfType t) ∙ value_text-TypeValue t
value_rolled (layer.Value::Function d) = ap value_text (value.rolls-Function d) ∙ value_text-FunctionValue d
value_rolled (layer.Address t d) = ap value_text (value.rolls-Address t d) ∙ value_text-AddressValue t d
value_rolled (layer.Constant t v) = ap value_text (value.rolls-Constant t v) ∙ value_text-ConstantValue t v
value_rolled (layer.Place t n) = ap value_text (value.rolls-Place t n) ∙ value_text-PlaceValue t n
value_rolled (layer.Part t v n c) = ap value_text (value.rolls-Part t v n c) ∙ value_text-PartValue t v n c
value_rolled (layer.Value::Slice t v lo hi) = ap value_text (value.rolls-Slice t v lo hi) ∙ value_text-SliceValue t v lo hi

pub value_out : (v : Value) → value_text v ≡ value_shape (out-Value v)
value_out v = ap value_text (sym (roll-out-Value v)) ∙ value_rolled (out-Value v)

value_ty_rolled : (p : Program) (l : ValueLayer) → HasType l → value_ty_text (roll-Value l) ≡ ty_text (layer_ty p l)
value_ty_rolled p (layer.Value::Simple t s) h = ap value_ty_text (value.rolls-Simple t s) ∙ value_ty_text-SimpleValue t s
value_ty_rolled p (layer.Value::Int t z) h = ap value_ty_text (value.rolls-Int t z) ∙ value_ty_text-IntValue t z
value_ty_rolled p (layer.Tag t name) h = ap value_ty_text (value.rolls-Tag t name) ∙ value_ty_text-TagValue t name
value_ty_rolled p (layer.Error t name) h = ap value_ty_text (value.rolls-Error t name) ∙ value_ty_text-ErrorValue t name
value_ty_rolled p (layer.Some t v) h = ap value_ty_text (value.rolls-Some t v) ∙ value_ty_text-SomeValue t v
value_ty_rolled p (layer.Good t v) h = ap value_ty_text (value.rolls-Good t v) ∙ value_ty_text-GoodValue t v
value_ty_rolled p (layer.List t vs) h = ap value_ty_text (value.rolls-List t vs) ∙ value_ty_text-ListValue t vs
value_ty_rolled p (layer.Text t bs) h = ap value_ty_text (value.rolls-Text t bs) ∙ value_ty_text-TextValue t bs
value_ty_rolled p (layer.Tagged t name v) h = ap value_ty_text (value.rolls-Tagged t name v) ∙ value_ty_text-TaggedValue t name v
value_ty_rolled p (layer.OfType t) h = ap value_ty_text (value.rolls-OfType t) ∙ value_ty_text-TypeValue t ∙ sym (ty_text-SimpleType simple.Metatype)
value_ty_rolled p (layer.Value::Function d) h = absurd h
value_ty_rolled p (layer.Address t d) h = ap value_ty_text (value.rolls-Address t d) ∙ value_ty_text-AddressValue t d
value_ty_rolled p (layer.Constant t v) h = ap value_ty_text (value.rolls-Constant t v) ∙ value_ty_text-ConstantValue t v
value_ty_rolled p (layer.Place t n) h = ap value_ty_text (value.rolls-Place t n) ∙ value_ty_text-PlaceValue t n
value_ty_rolled p (layer.Part t v n c) h = ap value_ty_text (value.rolls-Part t v n c) ∙ value_ty_text-PartValue t v n c
value_ty_rolled p (layer.Value::Slice t v lo hi) h = ap value_ty_text (value.rolls-Slice t v lo hi) ∙ value_ty_text-SliceValue t v lo hi

-- what stands for the type of a value is its type as it is spelled
pub value_ty_out : (p : Program) (v : Value) → HasType (out-Value v) → value_ty_text v ≡ ty_text (value_ty p v)
unfolding value_ty
value_ty_out p v h = ap value_ty_text (sym (roll-out-Value v)) ∙ value_ty_rolled p (out-Value v) h

-- a declaration by its outer layer
abbrev pub decl_shape : DeclLayer → List ℕ
decl_shape (layer.Named c name) = place_text c ++ (mark_text c ++ name_text name)
decl_shape (layer.Comptime path n) = path ++ (codes ":comptime " ++ number_text n)

decl_rolled : (l : DeclLayer) → decl_text (roll-DeclPath l) ≡ decl_shape l
decl_rolled (layer.Named c name) = ap decl_text (decl.rolls-Named c name) ∙ decl_text-Named c name
decl_rolled (layer.Comptime path n) = ap decl_text (decl.rolls-Comptime path n) ∙ decl_text-Comptime path n

pub decl_out : (d : DeclPath) → decl_text d ≡ decl_shape (out-DeclPath d)
decl_out d = ap decl_text (sym (roll-out-DeclPath d)) ∙ decl_rolled (out-DeclPath d)

-- an argument by its outer layer
abbrev pub arg_shape : ArgLayer → List ℕ
arg_shape (layer.Known v) = value_ty_text v ++ (codes "=" ++ value_text v)
arg_shape (layer.Arg::Function t d) = ty_text t ++ (codes "=" ++ decl_text d)
arg_shape (layer.Typed t) = ty_text t

arg_rolled : (l : ArgLayer) → arg_text (roll-Arg l) ≡ arg_shape l
arg_rolled (layer.Known v) = ap arg_text (arg.rolls-Known v) ∙ arg_text-Known v
arg_rolled (layer.Arg::Function t d) = ap arg_text (arg.rolls-Function t d) ∙ arg_text-Function t d
arg_rolled (layer.Typed t) = ap arg_text (arg.rolls-Typed t) ∙ arg_text-Typed t

pub arg_out : (a : Arg) → arg_text a ≡ arg_shape (out-Arg a)
arg_out a = ap arg_text (sym (roll-out-Arg a)) ∙ arg_rolled (out-Arg a)

-- a tree is made of its outer layer
pub ty_is : (t : Ty) (l : TyLayer) → out-Ty t ≡ l → t ≡ roll-Ty l
ty_is t l e = sym (roll-out-Ty t) ∙ ap roll-Ty e

pub value_is : (v : Value) (l : ValueLayer) → out-Value v ≡ l → v ≡ roll-Value l
value_is v l e = sym (roll-out-Value v) ∙ ap roll-Value e

pub decl_is : (d : DeclPath) (l : DeclLayer) → out-DeclPath d ≡ l → d ≡ roll-DeclPath l
decl_is d l e = sym (roll-out-DeclPath d) ∙ ap roll-DeclPath e

pub arg_is : (a : Arg) (l : ArgLayer) → out-Arg a ≡ l → a ≡ roll-Arg l
arg_is a l e = sym (roll-out-Arg a) ∙ ap roll-Arg e

-- two trees with one outer layer are one tree
pub ty_same : (t u : Ty) → out-Ty t ≡ out-Ty u → t ≡ u
ty_same t u e = ty_is t (out-Ty u) e ∙ roll-out-Ty u

pub value_same : (v w : Value) → out-Value v ≡ out-Value w → v ≡ w
value_same v w e = value_is v (out-Value w) e ∙ roll-out-Value w

pub decl_same : (d e : DeclPath) → out-DeclPath d ≡ out-DeclPath e → d ≡ e
decl_same d e h = decl_is d (out-DeclPath e) h ∙ roll-out-DeclPath e

pub arg_same : (a b : Arg) → out-Arg a ≡ out-Arg b → a ≡ b
arg_same a b e = arg_is a (out-Arg b) e ∙ roll-out-Arg b
