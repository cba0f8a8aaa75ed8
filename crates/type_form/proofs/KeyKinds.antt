-- What is read below a reading: a line for each kind of key.
use Rattle.std.proofs.Common.{◌≡◌, ℕ, List, [], ◌∷◌, Option, Some}
use Rattle.type_form.specs.declared.index.Index.{Index}
use Rattle.type_form.specs.declared.key.Key.{Key}
use Rattle.type_form.specs.declared.key.Key.TheVariants as key
use Rattle.type_form.specs.Denote.{Node, Reading, node_of, ty_in, value_in, decl_in, instance_in, list_in, arg_in, bytes_in, each_in, names_in, tys_in, values_in, args_in}
use Rattle.type_form.proofs.Options.{Lower, lower_refl, then_lower, one_lower, two_lower, three_lower, each_lower}

-- each answer of a reading is one of another
abbrev pub Below : Reading → Reading → Type 0
Below r s = (i : Index) → Lower (r i) (s i)

pub ty_in-lower : (r s : Reading) → Below r s → (i : Index) → Lower (ty_in r i) (ty_in s i)
unfolding ty_in
ty_in-lower r s h i = then_lower _ _ _ _ (h i) (λ n. lower_refl _)

pub value_in-lower : (r s : Reading) → Below r s → (i : Index) → Lower (value_in r i) (value_in s i)
unfolding value_in
value_in-lower r s h i = then_lower _ _ _ _ (h i) (λ n. lower_refl _)

pub decl_in-lower : (r s : Reading) → Below r s → (i : Index) → Lower (decl_in r i) (decl_in s i)
unfolding decl_in
decl_in-lower r s h i = then_lower _ _ _ _ (h i) (λ n. lower_refl _)

pub instance_in-lower : (r s : Reading) → Below r s → (i : Index) → Lower (instance_in r i) (instance_in s i)
unfolding instance_in
instance_in-lower r s h i = then_lower _ _ _ _ (h i) (λ n. lower_refl _)

pub list_in-lower : (r s : Reading) → Below r s → (i : Index) → Lower (list_in r i) (list_in s i)
unfolding list_in
list_in-lower r s h i = then_lower _ _ _ _ (h i) (λ n. lower_refl _)

pub arg_in-lower : (r s : Reading) → Below r s → (i : Index) → Lower (arg_in r i) (arg_in s i)
unfolding arg_in
arg_in-lower r s h i = then_lower _ _ _ _ (h i) (λ n. lower_refl _)

pub bytes_in-lower : (r s : Reading) → Below r s → (i : Index) → Lower (bytes_in r i) (bytes_in s i)
unfolding bytes_in
bytes_in-lower r s h i = then_lower _ _ _ _ (list_in-lower r s h i) (λ ns. lower_refl _)

pub names_in-lower : (r s : Reading) → Below r s → (i : Index) → Lower (names_in r i) (names_in s i)
unfolding each_in names_in
names_in-lower r s h i = then_lower _ _ _ _ (list_in-lower r s h i) (each_lower _ _ (bytes_in-lower r s h))

pub tys_in-lower : (r s : Reading) → Below r s → (i : Index) → Lower (tys_in r i) (tys_in s i)
unfolding each_in tys_in
tys_in-lower r s h i = then_lower _ _ _ _ (list_in-lower r s h i) (each_lower _ _ (ty_in-lower r s h))

pub values_in-lower : (r s : Reading) → Below r s → (i : Index) → Lower (values_in r i) (values_in s i)
unfolding each_in values_in
values_in-lower r s h i = then_lower _ _ _ _ (list_in-lower r s h i) (each_lower _ _ (value_in-lower r s h))

pub args_in-lower : (r s : Reading) → Below r s → (i : Index) → Lower (args_in r i) (args_in s i)
unfolding each_in args_in
args_in-lower r s h i = then_lower _ _ _ _ (list_in-lower r s h i) (each_lower _ _ (arg_in-lower r s h))

pub node_of-lower : (r s : Reading) → Below r s → (key : Key) → Lower (node_of r key) (node_of s key)
node_of-lower r q h (key.SimpleType s) = lower_refl _
node_of-lower r q h (key.IntType b n) = lower_refl _
node_of-lower r q h (key.ErrorSetType l) = one_lower _ _ _ (names_in-lower r q h l)
node_of-lower r q h (key.PointerType b i) = one_lower _ _ _ (ty_in-lower r q h i)
node_of-lower r q h (key.SliceType b i) = one_lower _ _ _ (ty_in-lower r q h i)
node_of-lower r q h (key.ArrayType n i) = one_lower _ _ _ (ty_in-lower r q h i)
node_of-lower r q h (key.TerminatedType n) = lower_refl _
node_of-lower r q h (key.OptionalType i) = one_lower _ _ _ (ty_in-lower r q h i)
node_of-lower r q h (key.ErrorUnionType i j) = two_lower _ _ _ _ _ (ty_in-lower r q h i) (ty_in-lower r q h j)
node_of-lower r q h (key.FileType l) = one_lower _ _ _ (bytes_in-lower r q h l)
node_of-lower r q h (key.ContainerType d n l) = two_lower _ _ _ _ _ (decl_in-lower r q h d) (args_in-lower r q h l)
node_of-lower r q h (key.FunctionType l i) = two_lower _ _ _ _ _ (tys_in-lower r q h l) (ty_in-lower r q h i)
node_of-lower r q h (key.UnionTagType i) = one_lower _ _ _ (ty_in-lower r q h i)
node_of-lower r q h (key.SimpleValue i s) = one_lower _ _ _ (ty_in-lower r q h i)
node_of-lower r q h (key.IntValue i z) = one_lower _ _ _ (ty_in-lower r q h i)
node_of-lower r q h (key.TagValue i l) = two_lower _ _ _ _ _ (ty_in-lower r q h i) (bytes_in-lower r q h l)
node_of-lower r q h (key.ErrorValue i l) = two_lower _ _ _ _ _ (ty_in-lower r q h i) (bytes_in-lower r q h l)
node_of-lower r q h (key.SomeValue i j) = two_lower _ _ _ _ _ (ty_in-lower r q h i) (value_in-lower r q h j)
node_of-lower r q h (key.GoodValue i j) = two_lower _ _ _ _ _ (ty_in-lower r q h i) (value_in-lower r q h j)
node_of-lower r q h (key.ListValue i l) = two_lower _ _ _ _ _ (ty_in-lower r q h i) (values_in-lower r q h l)
node_of-lower r q h (key.TextValue i l) = two_lower _ _ _ _ _ (ty_in-lower r q h i) (bytes_in-lower r q h l)
node_of-lower r q h (key.TaggedValue i l j) = three_lower _ _ _ _ _ _ _ (ty_in-lower r q h i) (bytes_in-lower r q h l) (value_in-lower r q h j)
node_of-lower r q h (key.TypeValue i) = one_lower _ _ _ (ty_in-lower r q h i)
node_of-lower r q h (key.FunctionValue d) = one_lower _ _ _ (decl_in-lower r q h d)
node_of-lower r q h (key.AddressValue i d) = two_lower _ _ _ _ _ (ty_in-lower r q h i) (decl_in-lower r q h d)
node_of-lower r q h (key.ConstantValue i j) = two_lower _ _ _ _ _ (ty_in-lower r q h i) (value_in-lower r q h j)
node_of-lower r q h (key.PlaceValue i n) = one_lower _ _ _ (ty_in-lower r q h i)
node_of-lower r q h (key.PartValue i j n c) = two_lower _ _ _ _ _ (ty_in-lower r q h i) (value_in-lower r q h j)
node_of-lower r q h (key.SliceValue i j lo hi) = two_lower _ _ _ _ _ (ty_in-lower r q h i) (value_in-lower r q h j)
node_of-lower r q h (key.NamedDecl i l) = two_lower _ _ _ _ _ (ty_in-lower r q h i) (bytes_in-lower r q h l)
node_of-lower r q h (key.ComptimeDecl l n) = one_lower _ _ _ (bytes_in-lower r q h l)
node_of-lower r q h (key.KnownArg j) = one_lower _ _ _ (value_in-lower r q h j)
node_of-lower r q h (key.FunctionArg i d) = two_lower _ _ _ _ _ (ty_in-lower r q h i) (decl_in-lower r q h d)
node_of-lower r q h (key.TypedArg i) = one_lower _ _ _ (ty_in-lower r q h i)
node_of-lower r q h (key.Instance d l) = two_lower _ _ _ _ _ (decl_in-lower r q h d) (args_in-lower r q h l)
node_of-lower r q h (key.End ns) = lower_refl _
node_of-lower r q h (key.More ns i) = then_lower _ _ _ _ (list_in-lower r q h i) (λ ms. lower_refl _)
