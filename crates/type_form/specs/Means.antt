-- The words by which clauses say what an index denotes, and that it stays.
use Rattle.std.specs.Prelude.{◌≡◌, ◌++◌, ◌<◌, ◌≤◌, length, ℕ, Bool, List, [], ◌∷◌, Option, Some, IsSome, unwrap_or}
use Rattle.std.specs.List.{All}
use Rattle.type_form.specs.declared.index.Index.{Index}
use Rattle.type_form.specs.declared.key.Key.{Key}
use Rattle.type_form.specs.declared.key.Key.TheVariants as key
use Rattle.type_form.specs.declared.tree.Ty.{Ty}
use Rattle.type_form.specs.declared.tree.Value.{Value}
use Rattle.type_form.specs.declared.tree.DeclPath.{DeclPath}
use Rattle.type_form.specs.declared.tree.Arg.{Arg}
use Rattle.type_form.specs.declared.unit.Instance.{Instance}
use Rattle.type_form.specs.declared.tree.Ty.TheVariants as ty
use Rattle.type_form.specs.declared.tree.Value.TheVariants as value
use Rattle.type_form.specs.declared.tree.DeclPath.TheVariants as decl
use Rattle.type_form.specs.declared.tree.Arg.TheVariants as arg
use Rattle.type_form.specs.declared.tree.SimpleTy.TheVariants as simple
use Rattle.type_form.specs.Known.{Known, key_at, Keeps, IsInjective}
use Rattle.type_form.specs.Denote.{denoted, ty_in, value_in, decl_in, instance_in, list_in, bytes_in, names_in, tys_in, values_in, args_in, arg_in, each}

-- it is the index of a type
unfoldable pub IsTy : Known → Index → Type 0
IsTy k i = IsSome (ty_in (denoted k) i)

-- and this is what it denotes
unfoldable pub ty_at : Known → Index → Ty
ty_at k i = unwrap_or (ty_in (denoted k) i) (ty.Simple simple.Bool)

pub record DenotesTy (k : Known) (i : Index) (x : Ty) : Type 0 where
  pub known : IsTy k i
  pub is : ty_at k i ≡ x

-- it is the index of a value
unfoldable pub IsValue : Known → Index → Type 0
IsValue k i = IsSome (value_in (denoted k) i)

-- and this is what it denotes
unfoldable pub value_at : Known → Index → Value
value_at k i = unwrap_or (value_in (denoted k) i) (value.OfType (ty.Simple simple.Bool))

pub record DenotesValue (k : Known) (i : Index) (x : Value) : Type 0 where
  pub known : IsValue k i
  pub is : value_at k i ≡ x

-- it is the index of a declaration
unfoldable pub IsDecl : Known → Index → Type 0
IsDecl k i = IsSome (decl_in (denoted k) i)

-- and this is what it denotes
unfoldable pub decl_at : Known → Index → DeclPath
decl_at k i = unwrap_or (decl_in (denoted k) i) (decl.Comptime [] 0)

pub record DenotesDecl (k : Known) (i : Index) (x : DeclPath) : Type 0 where
  pub known : IsDecl k i
  pub is : decl_at k i ≡ x

-- it is the index of an argument
unfoldable pub IsArg : Known → Index → Type 0
IsArg k i = IsSome (arg_in (denoted k) i)

-- and this is what it denotes
unfoldable pub arg_at : Known → Index → Arg
arg_at k i = unwrap_or (arg_in (denoted k) i) (arg.Typed (ty.Simple simple.Bool))

pub record DenotesArg (k : Known) (i : Index) (x : Arg) : Type 0 where
  pub known : IsArg k i
  pub is : arg_at k i ≡ x

-- it is the index of an instance
unfoldable pub IsInstance : Known → Index → Type 0
IsInstance k i = IsSome (instance_in (denoted k) i)

-- and this is what it denotes
unfoldable pub instance_at : Known → Index → Instance
instance_at k i = unwrap_or (instance_in (denoted k) i) (record { decl = decl.Comptime [] 0; args = [] })

pub record DenotesInstance (k : Known) (i : Index) (x : Instance) : Type 0 where
  pub known : IsInstance k i
  pub is : instance_at k i ≡ x

-- it is the index of a list of numbers
unfoldable pub IsList : Known → Index → Type 0
IsList k i = IsSome (list_in (denoted k) i)

-- and this is what it denotes
unfoldable pub list_at : Known → Index → List ℕ
list_at k i = unwrap_or (list_in (denoted k) i) ([])

pub record DenotesList (k : Known) (i : Index) (x : List ℕ) : Type 0 where
  pub known : IsList k i
  pub is : list_at k i ≡ x

-- numbers that are bytes
pub record AreBytes (ns : List ℕ) : Type 0 where
  pub are : All (λ n. n < 256) ns

-- it is the index of a list of bytes: a name, a path or a text
unfoldable pub IsBytes : Known → Index → Type 0
IsBytes k i = IsSome (bytes_in (denoted k) i)

-- and this is what it denotes
unfoldable pub bytes_at : Known → Index → List ℕ
bytes_at k i = unwrap_or (bytes_in (denoted k) i) ([])

pub record DenotesBytes (k : Known) (i : Index) (x : List ℕ) : Type 0 where
  pub known : IsBytes k i
  pub is : bytes_at k i ≡ x

-- it is the index of a list whose numbers are indices of names
unfoldable pub AreNames : Known → Index → Type 0
AreNames k i = IsSome (names_in (denoted k) i)

-- and this is what it denotes
unfoldable pub names_at : Known → Index → List (List ℕ)
names_at k i = unwrap_or (names_in (denoted k) i) ([])

pub record DenotesNames (k : Known) (i : Index) (x : List (List ℕ)) : Type 0 where
  pub known : AreNames k i
  pub is : names_at k i ≡ x

-- it is the index of a list of indices of types
unfoldable pub AreTys : Known → Index → Type 0
AreTys k i = IsSome (tys_in (denoted k) i)

-- and this is what it denotes
unfoldable pub tys_at : Known → Index → List Ty
tys_at k i = unwrap_or (tys_in (denoted k) i) ([])

pub record DenotesTys (k : Known) (i : Index) (x : List Ty) : Type 0 where
  pub known : AreTys k i
  pub is : tys_at k i ≡ x

-- it is the index of a list of indices of values
unfoldable pub AreValues : Known → Index → Type 0
AreValues k i = IsSome (values_in (denoted k) i)

-- and this is what it denotes
unfoldable pub values_at : Known → Index → List Value
values_at k i = unwrap_or (values_in (denoted k) i) ([])

pub record DenotesValues (k : Known) (i : Index) (x : List Value) : Type 0 where
  pub known : AreValues k i
  pub is : values_at k i ≡ x

-- it is the index of a list of indices of arguments
unfoldable pub AreArgs : Known → Index → Type 0
AreArgs k i = IsSome (args_in (denoted k) i)

-- and this is what it denotes
unfoldable pub args_at : Known → Index → List Arg
args_at k i = unwrap_or (args_in (denoted k) i) ([])

pub record DenotesArgs (k : Known) (i : Index) (x : List Arg) : Type 0 where
  pub known : AreArgs k i
  pub is : args_at k i ≡ x

-- the key at an index
pub record HasKey (k : Known) (i : Index) (key : Key) : Type 0 where
  pub is : key_at k i ≡ Some key

-- what was known is known, and equal keys still stand at one index
pub record KeepsAll (old new : Known) : Type 0 where
  pub keeps : Keeps old new
  pub injective : IsInjective old → IsInjective new

-- what an index denoted, it still denotes
pub record Stays (old new : Known) : Type 0 where
  pub is_ty : (i : Index) → IsTy old i → IsTy new i
  pub ty : (i : Index) → IsTy old i → ty_at new i ≡ ty_at old i
  pub is_value : (i : Index) → IsValue old i → IsValue new i
  pub value : (i : Index) → IsValue old i → value_at new i ≡ value_at old i
  pub is_decl : (i : Index) → IsDecl old i → IsDecl new i
  pub decl : (i : Index) → IsDecl old i → decl_at new i ≡ decl_at old i
  pub is_arg : (i : Index) → IsArg old i → IsArg new i
  pub arg : (i : Index) → IsArg old i → arg_at new i ≡ arg_at old i
  pub is_instance : (i : Index) → IsInstance old i → IsInstance new i
  pub instance : (i : Index) → IsInstance old i → instance_at new i ≡ instance_at old i
  pub is_list : (i : Index) → IsList old i → IsList new i
  pub list : (i : Index) → IsList old i → list_at new i ≡ list_at old i
  pub is_bytes : (i : Index) → IsBytes old i → IsBytes new i
  pub bytes : (i : Index) → IsBytes old i → bytes_at new i ≡ bytes_at old i
  pub is_names : (i : Index) → AreNames old i → AreNames new i
  pub names : (i : Index) → AreNames old i → names_at new i ≡ names_at old i
  pub is_tys : (i : Index) → AreTys old i → AreTys new i
  pub tys : (i : Index) → AreTys old i → tys_at new i ≡ tys_at old i
  pub is_values : (i : Index) → AreValues old i → AreValues new i
  pub values : (i : Index) → AreValues old i → values_at new i ≡ values_at old i
  pub is_args : (i : Index) → AreArgs old i → AreArgs new i
  pub args : (i : Index) → AreArgs old i → args_at new i ≡ args_at old i

-- a list of pairs grew: all that was known stays
pub record Grows (old new : Known) : Type 0 where
  pub kept : KeepsAll old new
  pub stays : Stays old new

-- this is the type that the key denotes
abbrev pub IsTyOf : Known → Key → Ty → Type 0
IsTyOf k (key.SimpleType s) x = x ≡ ty.Simple s
IsTyOf k (key.IntType b n) x = x ≡ ty.Int b n
IsTyOf k (key.ErrorSetType l) x = AreNames k l × (x ≡ ty.ErrorSet (names_at k l))
IsTyOf k (key.PointerType b i) x = IsTy k i × (x ≡ ty.Pointer b (ty_at k i))
IsTyOf k (key.SliceType b i) x = IsTy k i × (x ≡ ty.Slice b (ty_at k i))
IsTyOf k (key.ArrayType n i) x = IsTy k i × (x ≡ ty.Array n (ty_at k i))
IsTyOf k (key.TerminatedType n) x = x ≡ ty.Terminated n
IsTyOf k (key.OptionalType i) x = IsTy k i × (x ≡ ty.Optional (ty_at k i))
IsTyOf k (key.ErrorUnionType i j) x = IsTy k i × IsTy k j × (x ≡ ty.ErrorUnion (ty_at k i) (ty_at k j))
IsTyOf k (key.FileType l) x = IsBytes k l × (x ≡ ty.File (bytes_at k l))
IsTyOf k (key.ContainerType d n l) x = IsDecl k d × AreArgs k l × (x ≡ ty.Container (decl_at k d) n (args_at k l))
IsTyOf k (key.FunctionType l i) x = AreTys k l × IsTy k i × (x ≡ ty.Function (tys_at k l) (ty_at k i))
IsTyOf k (key.UnionTagType i) x = IsTy k i × (x ≡ ty.UnionTag (ty_at k i))
IsTyOf k _ x = ⊥

-- this is the value that the key denotes
abbrev pub IsValueOf : Known → Key → Value → Type 0
IsValueOf k (key.SimpleValue i s) x = IsTy k i × (x ≡ value.Simple (ty_at k i) s)
IsValueOf k (key.IntValue i z) x = IsTy k i × (x ≡ value.Int (ty_at k i) z)
IsValueOf k (key.TagValue i l) x = IsTy k i × IsBytes k l × (x ≡ value.Tag (ty_at k i) (bytes_at k l))
IsValueOf k (key.ErrorValue i l) x = IsTy k i × IsBytes k l × (x ≡ value.Error (ty_at k i) (bytes_at k l))
IsValueOf k (key.SomeValue i j) x = IsTy k i × IsValue k j × (x ≡ value.Some (ty_at k i) (value_at k j))
IsValueOf k (key.GoodValue i j) x = IsTy k i × IsValue k j × (x ≡ value.Good (ty_at k i) (value_at k j))
IsValueOf k (key.ListValue i l) x = IsTy k i × AreValues k l × (x ≡ value.List (ty_at k i) (values_at k l))
IsValueOf k (key.TextValue i l) x = IsTy k i × IsBytes k l × (x ≡ value.Text (ty_at k i) (bytes_at k l))
IsValueOf k (key.TaggedValue i l j) x = IsTy k i × IsBytes k l × IsValue k j × (x ≡ value.Tagged (ty_at k i) (bytes_at k l) (value_at k j))
IsValueOf k (key.TypeValue i) x = IsTy k i × (x ≡ value.OfType (ty_at k i))
IsValueOf k (key.FunctionValue d) x = IsDecl k d × (x ≡ value.Function (decl_at k d))
IsValueOf k (key.AddressValue i d) x = IsTy k i × IsDecl k d × (x ≡ value.Address (ty_at k i) (decl_at k d))
IsValueOf k (key.ConstantValue i j) x = IsTy k i × IsValue k j × (x ≡ value.Constant (ty_at k i) (value_at k j))
IsValueOf k (key.PlaceValue i n) x = IsTy k i × (x ≡ value.Place (ty_at k i) n)
IsValueOf k (key.PartValue i j n c) x = IsTy k i × IsValue k j × (x ≡ value.Part (ty_at k i) (value_at k j) n c)
IsValueOf k (key.SliceValue i j lo hi) x = IsTy k i × IsValue k j × (x ≡ value.Slice (ty_at k i) (value_at k j) lo hi)
IsValueOf k _ x = ⊥

-- this is the declaration that the key denotes
abbrev pub IsDeclOf : Known → Key → DeclPath → Type 0
IsDeclOf k (key.NamedDecl i l) x = IsTy k i × IsBytes k l × (x ≡ decl.Named (ty_at k i) (bytes_at k l))
IsDeclOf k (key.ComptimeDecl l n) x = IsBytes k l × (x ≡ decl.Comptime (bytes_at k l) n)
IsDeclOf k _ x = ⊥

-- this is the argument that the key denotes
abbrev pub IsArgOf : Known → Key → Arg → Type 0
IsArgOf k (key.KnownArg j) x = IsValue k j × (x ≡ arg.Known (value_at k j))
IsArgOf k (key.FunctionArg i d) x = IsTy k i × IsDecl k d × (x ≡ arg.Function (ty_at k i) (decl_at k d))
IsArgOf k (key.TypedArg i) x = IsTy k i × (x ≡ arg.Typed (ty_at k i))
IsArgOf k _ x = ⊥

-- this is the instance that the key denotes
abbrev pub IsInstanceOf : Known → Key → Instance → Type 0
IsInstanceOf k (key.Instance d l) x = IsDecl k d × AreArgs k l × (x ≡ record { decl = (decl_at k d); args = (args_at k l) })
IsInstanceOf k _ x = ⊥

-- this is the list of numbers that the key denotes
abbrev pub IsListOf : Known → Key → List ℕ → Type 0
IsListOf k (key.End ns) x = (length ns ≤ 60) × (x ≡ ns)
IsListOf k (key.More ns i) x = IsList k i × (length ns ≡ 60) × (0 < length (list_at k i)) × (x ≡ ns ++ list_at k i)
IsListOf k _ x = ⊥

-- each number is the index of a name, and these are they
pub record ListNames (k : Known) (ns : List ℕ) (xs : List (List ℕ)) : Type 0 where
  pub is : each (bytes_in (denoted k)) ns ≡ Some xs

-- each number is the index of a type, and these are they
pub record ListTys (k : Known) (ns : List ℕ) (xs : List (Ty)) : Type 0 where
  pub is : each (ty_in (denoted k)) ns ≡ Some xs

-- each number is the index of a value, and these are they
pub record ListValues (k : Known) (ns : List ℕ) (xs : List (Value)) : Type 0 where
  pub is : each (value_in (denoted k)) ns ≡ Some xs

-- each number is the index of an argument, and these are they
pub record ListArgs (k : Known) (ns : List ℕ) (xs : List (Arg)) : Type 0 where
  pub is : each (arg_in (denoted k)) ns ≡ Some xs
