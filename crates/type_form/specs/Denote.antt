-- What an index denotes: the tree got by following keys.
use Rattle.std.specs.Prelude.{◌≡◌, ℕ, zero, suc, ◌+◌, ◌++◌, ◌<◌, ◌≤◌, ◌==◌, Bool, true, false, if◌then◌else◌, List, [], ◌∷◌, length, Option, Some, None, IsSome, unwrap_or, option_and_then, nat_le, nat_lt}
use Rattle.std.specs.Option.{option_map}
use Rattle.std.specs.List.{list_all}
use Rattle.type_form.specs.declared.index.Index.{Index}
use Rattle.type_form.specs.declared.key.Key.{Key}
use Rattle.type_form.specs.declared.key.Key.TheVariants as key
use Rattle.type_form.specs.declared.tree.Ty.{Ty}
use Rattle.type_form.specs.declared.tree.Value.{Value}
use Rattle.type_form.specs.declared.tree.DeclPath.{DeclPath}
use Rattle.type_form.specs.declared.tree.Arg.{Arg}
use Rattle.type_form.specs.declared.unit.Instance.{Instance}
use Rattle.type_form.specs.declared.tree.Ty.TheVariants as ty
use Rattle.type_form.specs.declared.tree.Value.TheVariants as value
use Rattle.type_form.specs.declared.tree.DeclPath.TheVariants as decl
use Rattle.type_form.specs.declared.tree.Arg.TheVariants as arg
use Rattle.type_form.specs.Known.{Known, words_at, key_at}
use Rattle.type_form.specs.Words.{index_of}

-- one sort for all that an index may denote: a type, a value, a declaration, an argument, an instance, or a list of numbers, which are indices or bytes
pub data Node : Type 0 where
  OfTy : Ty → Node
  OfValue : Value → Node
  OfDecl : DeclPath → Node
  OfArg : Arg → Node
  OfInstance : Instance → Node
  OfList : List ℕ → Node

-- what each index is read as
abbrev pub Reading : Type 0
Reading = Index → Option Node

-- each answer of two
abbrev pub option_map2 : {A B C : Type 0} → (A → B → C) → Option A → Option B → Option C
option_map2 f None b = None
option_map2 f (Some x) b = option_map (f x) b

-- each answer of three
abbrev pub option_map3 : {A B C D : Type 0} → (A → B → C → D) → Option A → Option B → Option C → Option D
option_map3 f None b c = None
option_map3 f (Some x) b c = option_map2 (f x) b c

abbrev pub as_ty : Node → Option Ty
as_ty (OfTy t) = Some t
as_ty _ = None

abbrev pub as_value : Node → Option Value
as_value (OfValue v) = Some v
as_value _ = None

abbrev pub as_decl : Node → Option DeclPath
as_decl (OfDecl d) = Some d
as_decl _ = None

abbrev pub as_instance : Node → Option Instance
as_instance (OfInstance n) = Some n
as_instance _ = None

abbrev pub as_list : Node → Option (List ℕ)
as_list (OfList ns) = Some ns
as_list _ = None

abbrev pub as_arg : Node → Option Arg
as_arg (OfArg a) = Some a
as_arg _ = None

-- a number that is a byte
abbrev pub is_byte : ℕ → Bool
is_byte n = nat_lt n 256

-- a list of numbers that are bytes
unfoldable pub bytes_of : List ℕ → Option (List ℕ)
bytes_of ns = if list_all is_byte ns then Some ns else None

-- the answers of a reader at the indices of a list, where each has one
abbrev pub each : {A : Type 0} → (Index → Option A) → List ℕ → Option (List A)
each f [] = Some []
each f (n ∷ ns) = option_map2 (λ x xs. x ∷ xs) (f (index_of n)) (each f ns)

unfoldable pub ty_in : Reading → Index → Option Ty
ty_in r i = option_and_then as_ty (r i)

unfoldable pub value_in : Reading → Index → Option Value
value_in r i = option_and_then as_value (r i)

unfoldable pub decl_in : Reading → Index → Option DeclPath
decl_in r i = option_and_then as_decl (r i)

unfoldable pub instance_in : Reading → Index → Option Instance
instance_in r i = option_and_then as_instance (r i)

unfoldable pub list_in : Reading → Index → Option (List ℕ)
list_in r i = option_and_then as_list (r i)

unfoldable pub arg_in : Reading → Index → Option Arg
arg_in r i = option_and_then as_arg (r i)

-- a name, a path or a text: a list of bytes
unfoldable pub bytes_in : Reading → Index → Option (List ℕ)
bytes_in r i = option_and_then bytes_of (list_in r i)

-- the answers of a reader at the indices of the list at an index
unfoldable pub each_in : {A : Type 0} → (Index → Option A) → Reading → Index → Option (List A)
each_in f r l = option_and_then (each f) (list_in r l)

unfoldable pub names_in : Reading → Index → Option (List (List ℕ))
names_in r l = each_in (bytes_in r) r l

unfoldable pub tys_in : Reading → Index → Option (List Ty)
tys_in r l = each_in (ty_in r) r l

unfoldable pub values_in : Reading → Index → Option (List Value)
values_in r l = each_in (value_in r) r l

unfoldable pub args_in : Reading → Index → Option (List Arg)
args_in r l = each_in (arg_in r) r l

-- a list of at most 60 numbers stands in one key
abbrev pub end_of : List ℕ → Option Node
end_of ns = if nat_le (length ns) 60 then Some (OfList ns) else None

-- a longer one as 60 numbers and the list of the others
abbrev pub more_of : List ℕ → List ℕ → Option Node
more_of ns [] = None
more_of ns (m ∷ ms) = if length ns == 60 then Some (OfList (ns ++ m ∷ ms)) else None

-- what a key denotes where its parts are read so
abbrev pub node_of : Reading → Key → Option Node
node_of r (key.SimpleType s) = Some (OfTy (ty.Simple s))
node_of r (key.IntType b n) = Some (OfTy (ty.Int b n))
node_of r (key.ErrorSetType l) = option_map (λ l'. OfTy (ty.ErrorSet l')) (names_in r l)
node_of r (key.PointerType b i) = option_map (λ i'. OfTy (ty.Pointer b i')) (ty_in r i)
node_of r (key.SliceType b i) = option_map (λ i'. OfTy (ty.Slice b i')) (ty_in r i)
node_of r (key.ArrayType n i) = option_map (λ i'. OfTy (ty.Array n i')) (ty_in r i)
node_of r (key.TerminatedType n) = Some (OfTy (ty.Terminated n))
node_of r (key.OptionalType i) = option_map (λ i'. OfTy (ty.Optional i')) (ty_in r i)
node_of r (key.ErrorUnionType i j) = option_map2 (λ i' j'. OfTy (ty.ErrorUnion i' j')) (ty_in r i) (ty_in r j)
node_of r (key.FileType l) = option_map (λ l'. OfTy (ty.File l')) (bytes_in r l)
node_of r (key.ContainerType d n l) = option_map2 (λ d' l'. OfTy (ty.Container d' n l')) (decl_in r d) (args_in r l)
node_of r (key.FunctionType l i) = option_map2 (λ l' i'. OfTy (ty.Function l' i')) (tys_in r l) (ty_in r i)
node_of r (key.UnionTagType i) = option_map (λ i'. OfTy (ty.UnionTag i')) (ty_in r i)
node_of r (key.SimpleValue i s) = option_map (λ i'. OfValue (value.Simple i' s)) (ty_in r i)
node_of r (key.IntValue i z) = option_map (λ i'. OfValue (value.Int i' z)) (ty_in r i)
node_of r (key.TagValue i l) = option_map2 (λ i' l'. OfValue (value.Tag i' l')) (ty_in r i) (bytes_in r l)
node_of r (key.ErrorValue i l) = option_map2 (λ i' l'. OfValue (value.Error i' l')) (ty_in r i) (bytes_in r l)
node_of r (key.SomeValue i j) = option_map2 (λ i' j'. OfValue (value.Some i' j')) (ty_in r i) (value_in r j)
node_of r (key.GoodValue i j) = option_map2 (λ i' j'. OfValue (value.Good i' j')) (ty_in r i) (value_in r j)
node_of r (key.ListValue i l) = option_map2 (λ i' l'. OfValue (value.List i' l')) (ty_in r i) (values_in r l)
node_of r (key.TextValue i l) = option_map2 (λ i' l'. OfValue (value.Text i' l')) (ty_in r i) (bytes_in r l)
node_of r (key.TaggedValue i l j) = option_map3 (λ i' l' j'. OfValue (value.Tagged i' l' j')) (ty_in r i) (bytes_in r l) (value_in r j)
node_of r (key.TypeValue i) = option_map (λ i'. OfValue (value.OfType i')) (ty_in r i)
node_of r (key.FunctionValue d) = option_map (λ d'. OfValue (value.Function d')) (decl_in r d)
node_of r (key.AddressValue i d) = option_map2 (λ i' d'. OfValue (value.Address i' d')) (ty_in r i) (decl_in r d)
node_of r (key.ConstantValue i j) = option_map2 (λ i' j'. OfValue (value.Constant i' j')) (ty_in r i) (value_in r j)
node_of r (key.PlaceValue i n) = option_map (λ i'. OfValue (value.Place i' n)) (ty_in r i)
node_of r (key.PartValue i j n c) = option_map2 (λ i' j'. OfValue (value.Part i' j' n c)) (ty_in r i) (value_in r j)
node_of r (key.SliceValue i j lo hi) = option_map2 (λ i' j'. OfValue (value.Slice i' j' lo hi)) (ty_in r i) (value_in r j)
node_of r (key.NamedDecl i l) = option_map2 (λ i' l'. OfDecl (decl.Named i' l')) (ty_in r i) (bytes_in r l)
node_of r (key.ComptimeDecl l n) = option_map (λ l'. OfDecl (decl.Comptime l' n)) (bytes_in r l)
node_of r (key.KnownArg j) = option_map (λ j'. OfArg (arg.Known j')) (value_in r j)
node_of r (key.FunctionArg i d) = option_map2 (λ i' d'. OfArg (arg.Function i' d')) (ty_in r i) (decl_in r d)
node_of r (key.TypedArg i) = option_map (λ i'. OfArg (arg.Typed i')) (ty_in r i)
node_of r (key.Instance d l) = option_map2 (λ d' l'. OfInstance (record { decl = d'; args = l' })) (decl_in r d) (args_in r l)
node_of r (key.End ns) = end_of ns
node_of r (key.More ns i) = option_and_then (more_of ns) (list_in r i)

-- what each index is read as, following keys to this depth
abbrev pub reading : ℕ → Known → Reading
reading zero k = λ i. None
reading (suc n) k = λ i. option_and_then (node_of (reading n k)) (key_at k i)

-- what each index denotes: no way is longer than the list, unless it turns in a circle
unfoldable pub denoted : Known → Reading
denoted k = reading (length k + 1) k
