-- The layers of trees, and that equal trees have one index.
use Rattle.std.proofs.Common.{◌≡◌, ◌⊎◌, inl, inr, ℤ, ℕ, zero, suc, ◌+◌, ◌<◌, ◌≤◌, ◌++◌, Bool, true, false, List, [], ◌∷◌, length, take, drop, Option, Some, None, option_and_then, option_map, refl, sym, ap, ap₂, ◌∙◌, subst, arith, length-append, length-take}
use Rattle.std.proofs.Math.Seq.{take-append_seam, drop-append_seam}
use Rattle.type_form.specs.declared.index.Index.{Index}
use Rattle.type_form.specs.declared.key.Key.{Key}
use Rattle.type_form.specs.declared.key.Key.TheVariants as key
use Rattle.type_form.specs.declared.tree.Ty.{Ty}
use Rattle.type_form.specs.declared.tree.Value.{Value}
use Rattle.type_form.specs.declared.tree.DeclPath.{DeclPath}
use Rattle.type_form.specs.declared.tree.Arg.{Arg}
use Rattle.type_form.specs.declared.unit.Instance.{Instance}
use Rattle.type_form.specs.declared.tree.Ty.TheVariants as ty
use Rattle.type_form.specs.declared.tree.Value.TheVariants as value
use Rattle.type_form.specs.declared.tree.DeclPath.TheVariants as decl
use Rattle.type_form.specs.declared.tree.Arg.TheVariants as arg
use Rattle.type_form.specs.declared.tree.SimpleTy.{SimpleTy}
use Rattle.type_form.specs.declared.tree.SimpleValue.{SimpleValue}
use Rattle.type_form.specs.declared.tree.Arg.TheOpen as layer
use Rattle.type_form.specs.declared.tree.Arg.TheViews.{out-Arg, out-roll-Arg, out-Ty, out-Value, out-DeclPath, out-roll-Ty, out-roll-Value, out-roll-DeclPath, roll-out-Ty, roll-out-Value, roll-out-DeclPath, roll-Ty, roll-Value, roll-DeclPath}
use Rattle.type_form.specs.Tree.{TyLayer, ValueLayer, DeclLayer, ArgLayer}
use Rattle.type_form.specs.Layers.{layer_at, value_layer_at, decl_layer_at, arg_layer_at}
use Rattle.type_form.specs.Known.{Known, words_at, key_at, Keeps, IsInjective}
use Rattle.type_form.specs.Words.{key_of, words_of, Fits, index_of}
use Rattle.type_form.specs.Denote.{Node, OfTy, OfValue, OfDecl, OfArg, OfInstance, OfList, Reading, option_map2, option_map3, node_of, reading, denoted, end_of, more_of, as_ty, as_value, as_decl, as_instance, as_list, as_arg, is_byte, bytes_of, each, each_in, arg_in, ty_in, value_in, decl_in, instance_in, list_in, bytes_in, names_in, tys_in, values_in, args_in}
use Rattle.type_form.specs.Means.{IsTy, ty_at, IsValue, value_at, IsDecl, decl_at, IsArg, arg_at, IsInstance, instance_at, IsList, list_at, IsBytes, bytes_at, AreNames, names_at, AreTys, tys_at, AreValues, values_at, AreArgs, args_at, DenotesTy, DenotesValue, DenotesDecl, DenotesArg, DenotesInstance, DenotesList, DenotesBytes, DenotesNames, DenotesTys, DenotesValues, DenotesArgs, HasKey, KeepsAll, Stays, Grows, IsTyOf, IsValueOf, IsDeclOf, IsArgOf, IsInstanceOf, IsListOf}
use Rattle.type_form.proofs.Options.{one_tells, two_tells, three_tells, then_tells, ap₃}
use Rattle.type_form.proofs.WordLemmas.{words_of-key_of}
use Rattle.type_form.proofs.Depth.{denoted-is}
use Rattle.type_form.proofs.MeansLemmas.{end_tells, more_tells, ty_node, value_node, decl_node, arg_node, instance_node, list_node, bytes_list, ty_whole, value_whole, decl_whole, arg_whole, instance_whole, list_whole, bytes_whole, names_whole, tys_whole, values_whole, args_whole}

out_SimpleType : (s : SimpleTy) → out-Ty (ty.Simple s) ≡ layer.Ty::Simple s
out_SimpleType s = ap out-Ty (sym (ty.rolls-Simple s)) ∙ out-roll-Ty (layer.Ty::Simple s)

out_IntType : (b : Bool) (n : ℕ) → out-Ty (ty.Int b n) ≡ layer.Ty::Int b n
out_IntType b n = ap out-Ty (sym (ty.rolls-Int b n)) ∙ out-roll-Ty (layer.Ty::Int b n)

out_ErrorSetType : (l : List (List ℕ)) → out-Ty (ty.ErrorSet l) ≡ layer.ErrorSet l
out_ErrorSetType l = ap out-Ty (sym (ty.rolls-ErrorSet l)) ∙ out-roll-Ty (layer.ErrorSet l)

out_PointerType : (b : Bool) (i : Ty) → out-Ty (ty.Pointer b i) ≡ layer.Pointer b i
out_PointerType b i = ap out-Ty (sym (ty.rolls-Pointer b i)) ∙ out-roll-Ty (layer.Pointer b i)

out_SliceType : (b : Bool) (i : Ty) → out-Ty (ty.Slice b i) ≡ layer.Ty::Slice b i
out_SliceType b i = ap out-Ty (sym (ty.rolls-Slice b i)) ∙ out-roll-Ty (layer.Ty::Slice b i)

out_ArrayType : (n : ℕ) (i : Ty) → out-Ty (ty.Array n i) ≡ layer.Array n i
out_ArrayType n i = ap out-Ty (sym (ty.rolls-Array n i)) ∙ out-roll-Ty (layer.Array n i)

out_TerminatedType : (n : ℕ) → out-Ty (ty.Terminated n) ≡ layer.Terminated n
out_TerminatedType n = ap out-Ty (sym (ty.rolls-Terminated n)) ∙ out-roll-Ty (layer.Terminated n)

out_OptionalType : (i : Ty) → out-Ty (ty.Optional i) ≡ layer.Optional i
out_OptionalType i = ap out-Ty (sym (ty.rolls-Optional i)) ∙ out-roll-Ty (layer.Optional i)

out_ErrorUnionType : (i : Ty) (j : Ty) → out-Ty (ty.ErrorUnion i j) ≡ layer.ErrorUnion i j
out_ErrorUnionType i j = ap out-Ty (sym (ty.rolls-ErrorUnion i j)) ∙ out-roll-Ty (layer.ErrorUnion i j)

out_FileType : (l : List ℕ) → out-Ty (ty.File l) ≡ layer.File l
out_FileType l = ap out-Ty (sym (ty.rolls-File l)) ∙ out-roll-Ty (layer.File l)

out_ContainerType : (d : DeclPath) (n : ℕ) (l : List Arg) → out-Ty (ty.Container d n l) ≡ layer.Container d n l
out_ContainerType d n l = ap out-Ty (sym (ty.rolls-Container d n l)) ∙ out-roll-Ty (layer.Container d n l)

out_FunctionType : (l : List Ty) (i : Ty) → out-Ty (ty.Function l i) ≡ layer.Ty::Function l i
out_FunctionType l i = ap out-Ty (sym (ty.rolls-Function l i)) ∙ out-roll-Ty (layer.Ty::Function l i)

out_UnionTagType : (i : Ty) → out-Ty (ty.UnionTag i) ≡ layer.UnionTag i
out_UnionTagType i = ap out-Ty (sym (ty.rolls-UnionTag i)) ∙ out-roll-Ty (layer.UnionTag i)

-- the layer of a tree, by the key that denotes it
pub out-IsTyOf : (k : Known) (key : Key) (x : Ty) → IsTyOf k key x → out-Ty x ≡ layer_at k key
out-IsTyOf k (key.SimpleType s) x h = ap out-Ty h ∙ out_SimpleType s
out-IsTyOf k (key.IntType b n) x h = ap out-Ty h ∙ out_IntType b n
out-IsTyOf k (key.ErrorSetType l) x h = ap out-Ty h.1 ∙ out_ErrorSetType (names_at k l)
out-IsTyOf k (key.PointerType b i) x h = ap out-Ty h.1 ∙ out_PointerType b (ty_at k i)
out-IsTyOf k (key.SliceType b i) x h = ap out-Ty h.1 ∙ out_SliceType b (ty_at k i)
out-IsTyOf k (key.ArrayType n i) x h = ap out-Ty h.1 ∙ out_ArrayType n (ty_at k i)
out-IsTyOf k (key.TerminatedType n) x h = ap out-Ty h ∙ out_TerminatedType n
out-IsTyOf k (key.OptionalType i) x h = ap out-Ty h.1 ∙ out_OptionalType (ty_at k i)
out-IsTyOf k (key.ErrorUnionType i j) x h = ap out-Ty h.2 ∙ out_ErrorUnionType (ty_at k i) (ty_at k j)
out-IsTyOf k (key.FileType l) x h = ap out-Ty h.1 ∙ out_FileType (bytes_at k l)
out-IsTyOf k (key.ContainerType d n l) x h = ap out-Ty h.2 ∙ out_ContainerType (decl_at k d) n (args_at k l)
out-IsTyOf k (key.FunctionType l i) x h = ap out-Ty h.2 ∙ out_FunctionType (tys_at k l) (ty_at k i)
out-IsTyOf k (key.UnionTagType i) x h = ap out-Ty h.1 ∙ out_UnionTagType (ty_at k i)
out-IsTyOf k _ x h = absurd h

out_SimpleValue : (i : Ty) (s : SimpleValue) → out-Value (value.Simple i s) ≡ layer.Value::Simple i s
out_SimpleValue i s = ap out-Value (sym (value.rolls-Simple i s)) ∙ out-roll-Value (layer.Value::Simple i s)

out_IntValue : (i : Ty) (z : ℤ) → out-Value (value.Int i z) ≡ layer.Value::Int i z
out_IntValue i z = ap out-Value (sym (value.rolls-Int i z)) ∙ out-roll-Value (layer.Value::Int i z)

out_TagValue : (i : Ty) (l : List ℕ) → out-Value (value.Tag i l) ≡ layer.Tag i l
out_TagValue i l = ap out-Value (sym (value.rolls-Tag i l)) ∙ out-roll-Value (layer.Tag i l)

out_ErrorValue : (i : Ty) (l : List ℕ) → out-Value (value.Error i l) ≡ layer.Error i l
out_ErrorValue i l = ap out-Value (sym (value.rolls-Error i l)) ∙ out-roll-Value (layer.Error i l)

out_SomeValue : (i : Ty) (j : Value) → out-Value (value.Some i j) ≡ layer.Some i j
out_SomeValue i j = ap out-Value (sym (value.rolls-Some i j)) ∙ out-roll-Value (layer.Some i j)

out_GoodValue : (i : Ty) (j : Value) → out-Value (value.Good i j) ≡ layer.Good i j
out_GoodValue i j = ap out-Value (sym (value.rolls-Good i j)) ∙ out-roll-Value (layer.Good i j)

out_ListValue : (i : Ty) (l : List Value) → out-Value (value.List i l) ≡ layer.List i l
out_ListValue i l = ap out-Value (sym (value.rolls-List i l)) ∙ out-roll-Value (layer.List i l)

out_TextValue : (i : Ty) (l : List ℕ) → out-Value (value.Text i l) ≡ layer.Text i l
out_TextValue i l = ap out-Value (sym (value.rolls-Text i l)) ∙ out-roll-Value (layer.Text i l)

out_TaggedValue : (i : Ty) (l : List ℕ) (j : Value) → out-Value (value.Tagged i l j) ≡ layer.Tagged i l j
out_TaggedValue i l j = ap out-Value (sym (value.rolls-Tagged i l j)) ∙ out-roll-Value (layer.Tagged i l j)

out_TypeValue : (i : Ty) → out-Value (value.OfType i) ≡ layer.OfType i
out_TypeValue i = ap out-Value (sym (value.rolls-OfType i)) ∙ out-roll-Value (layer.OfType i)

out_FunctionValue : (d : DeclPath) → out-Value (value.Function d) ≡ layer.Value::Function d
out_FunctionValue d = ap out-Value (sym (value.rolls-Function d)) ∙ out-roll-Value (layer.Value::Function d)

out_AddressValue : (i : Ty) (d : DeclPath) → out-Value (value.Address i d) ≡ layer.Address i d
out_AddressValue i d = ap out-Value (sym (value.rolls-Address i d)) ∙ out-roll-Value (layer.Address i d)

out_ConstantValue : (i : Ty) (j : Value) → out-Value (value.Constant i j) ≡ layer.Constant i j
out_ConstantValue i j = ap out-Value (sym (value.rolls-Constant i j)) ∙ out-roll-Value (layer.Constant i j)

out_PlaceValue : (i : Ty) (n : ℕ) → out-Value (value.Place i n) ≡ layer.Place i n
out_PlaceValue i n = ap out-Value (sym (value.rolls-Place i n)) ∙ out-roll-Value (layer.Place i n)

out_PartValue : (i : Ty) (j : Value) (n : ℕ) (c : ℕ) → out-Value (value.Part i j n c) ≡ layer.Part i j n c
out_PartValue i j n c = ap out-Value (sym (value.rolls-Part i j n c)) ∙ out-roll-Value (layer.Part i j n c)

out_SliceValue : (i : Ty) (j : Value) (lo : ℕ) (hi : ℕ) → out-Value (value.Slice i j lo hi) ≡ layer.Value::Slice i j lo hi
out_SliceValue i j lo hi = ap out-Value (sym (value.rolls-Slice i j lo hi)) ∙ out-roll-Value (layer.Value::Slice i j lo hi)

-- the layer of a tree, by the key that denotes it
pub out-IsValueOf : (k : Known) (key : Key) (x : Value) → IsValueOf k key x → out-Value x ≡ value_layer_at k key
out-IsValueOf k (key.SimpleValue i s) x h = ap out-Value h.1 ∙ out_SimpleValue (ty_at k i) s
out-IsValueOf k (key.IntValue i z) x h = ap out-Value h.1 ∙ out_IntValue (ty_at k i) z
out-IsValueOf k (key.TagValue i l) x h = ap out-Value h.2 ∙ out_TagValue (ty_at k i) (bytes_at k l)
out-IsValueOf k (key.ErrorValue i l) x h = ap out-Value h.2 ∙ out_ErrorValue (ty_at k i) (bytes_at k l)
out-IsValueOf k (key.SomeValue i j) x h = ap out-Value h.2 ∙ out_SomeValue (ty_at k i) (value_at k j)
out-IsValueOf k (key.GoodValue i j) x h = ap out-Value h.2 ∙ out_GoodValue (ty_at k i) (value_at k j)
out-IsValueOf k (key.ListValue i l) x h = ap out-Value h.2 ∙ out_ListValue (ty_at k i) (values_at k l)
out-IsValueOf k (key.TextValue i l) x h = ap out-Value h.2 ∙ out_TextValue (ty_at k i) (bytes_at k l)
out-IsValueOf k (key.TaggedValue i l j) x h = ap out-Value h.3 ∙ out_TaggedValue (ty_at k i) (bytes_at k l) (value_at k j)
out-IsValueOf k (key.TypeValue i) x h = ap out-Value h.1 ∙ out_TypeValue (ty_at k i)
out-IsValueOf k (key.FunctionValue d) x h = ap out-Value h.1 ∙ out_FunctionValue (decl_at k d)
out-IsValueOf k (key.AddressValue i d) x h = ap out-Value h.2 ∙ out_AddressValue (ty_at k i) (decl_at k d)
out-IsValueOf k (key.ConstantValue i j) x h = ap out-Value h.2 ∙ out_ConstantValue (ty_at k i) (value_at k j)
out-IsValueOf k (key.PlaceValue i n) x h = ap out-Value h.1 ∙ out_PlaceValue (ty_at k i) n
out-IsValueOf k (key.PartValue i j n c) x h = ap out-Value h.2 ∙ out_PartValue (ty_at k i) (value_at k j) n c
out-IsValueOf k (key.SliceValue i j lo hi) x h = ap out-Value h.2 ∙ out_SliceValue (ty_at k i) (value_at k j) lo hi
out-IsValueOf k _ x h = absurd h

out_NamedDecl : (i : Ty) (l : List ℕ) → out-DeclPath (decl.Named i l) ≡ layer.Named i l
out_NamedDecl i l = ap out-DeclPath (sym (decl.rolls-Named i l)) ∙ out-roll-DeclPath (layer.Named i l)

out_ComptimeDecl : (l : List ℕ) (n : ℕ) → out-DeclPath (decl.Comptime l n) ≡ layer.Comptime l n
out_ComptimeDecl l n = ap out-DeclPath (sym (decl.rolls-Comptime l n)) ∙ out-roll-DeclPath (layer.Comptime l n)

-- the layer of a tree, by the key that denotes it
pub out-IsDeclOf : (k : Known) (key : Key) (x : DeclPath) → IsDeclOf k key x → out-DeclPath x ≡ decl_layer_at k key
out-IsDeclOf k (key.NamedDecl i l) x h = ap out-DeclPath h.2 ∙ out_NamedDecl (ty_at k i) (bytes_at k l)
out-IsDeclOf k (key.ComptimeDecl l n) x h = ap out-DeclPath h.1 ∙ out_ComptimeDecl (bytes_at k l) n
out-IsDeclOf k _ x h = absurd h

out_KnownArg : (j : Value) → out-Arg (arg.Known j) ≡ layer.Known j
out_KnownArg j = ap out-Arg (sym (arg.rolls-Known j)) ∙ out-roll-Arg (layer.Known j)

out_FunctionArg : (i : Ty) (d : DeclPath) → out-Arg (arg.Function i d) ≡ layer.Arg::Function i d
out_FunctionArg i d = ap out-Arg (sym (arg.rolls-Function i d)) ∙ out-roll-Arg (layer.Arg::Function i d)

out_TypedArg : (i : Ty) → out-Arg (arg.Typed i) ≡ layer.Typed i
out_TypedArg i = ap out-Arg (sym (arg.rolls-Typed i)) ∙ out-roll-Arg (layer.Typed i)

-- the layer of a tree, by the key that denotes it
pub out-IsArgOf : (k : Known) (key : Key) (x : Arg) → IsArgOf k key x → out-Arg x ≡ arg_layer_at k key
out-IsArgOf k (key.KnownArg j) x h = ap out-Arg h.1 ∙ out_KnownArg (value_at k j)
out-IsArgOf k (key.FunctionArg i d) x h = ap out-Arg h.2 ∙ out_FunctionArg (ty_at k i) (decl_at k d)
out-IsArgOf k (key.TypedArg i) x h = ap out-Arg h.1 ∙ out_TypedArg (ty_at k i)
out-IsArgOf k _ x h = absurd h

-- what a key of a layer is, where parts are read so
abbrev TySays : Reading → TyLayer → Key → Type 0
TySays r (layer.Ty::Simple s) kk = kk ≡ key.SimpleType s
TySays r (layer.Ty::Int b n) kk = kk ≡ key.IntType b n
TySays r (layer.ErrorSet l) kk = (l' : Index) × (kk ≡ key.ErrorSetType l') × (names_in r l' ≡ Some l)
TySays r (layer.Pointer b i) kk = (i' : Index) × (kk ≡ key.PointerType b i') × (ty_in r i' ≡ Some i)
TySays r (layer.Ty::Slice b i) kk = (i' : Index) × (kk ≡ key.SliceType b i') × (ty_in r i' ≡ Some i)
TySays r (layer.Array n i) kk = (i' : Index) × (kk ≡ key.ArrayType n i') × (ty_in r i' ≡ Some i)
TySays r (layer.Terminated n) kk = kk ≡ key.TerminatedType n
TySays r (layer.Optional i) kk = (i' : Index) × (kk ≡ key.OptionalType i') × (ty_in r i' ≡ Some i)
TySays r (layer.ErrorUnion i j) kk = (i' : Index) × (j' : Index) × (kk ≡ key.ErrorUnionType i' j') × (ty_in r i' ≡ Some i) × (ty_in r j' ≡ Some j)
TySays r (layer.File l) kk = (l' : Index) × (kk ≡ key.FileType l') × (bytes_in r l' ≡ Some l)
TySays r (layer.Container d n l) kk = (d' : Index) × (l' : Index) × (kk ≡ key.ContainerType d' n l') × (decl_in r d' ≡ Some d) × (args_in r l' ≡ Some l)
TySays r (layer.Ty::Function l i) kk = (l' : Index) × (i' : Index) × (kk ≡ key.FunctionType l' i') × (tys_in r l' ≡ Some l) × (ty_in r i' ≡ Some i)
TySays r (layer.UnionTag i) kk = (i' : Index) × (kk ≡ key.UnionTagType i') × (ty_in r i' ≡ Some i)

-- what a key of a layer is, where parts are read so
abbrev ValueSays : Reading → ValueLayer → Key → Type 0
ValueSays r (layer.Value::Simple i s) kk = (i' : Index) × (kk ≡ key.SimpleValue i' s) × (ty_in r i' ≡ Some i)
ValueSays r (layer.Value::Int i z) kk = (i' : Index) × (kk ≡ key.IntValue i' z) × (ty_in r i' ≡ Some i)
ValueSays r (layer.Tag i l) kk = (i' : Index) × (l' : Index) × (kk ≡ key.TagValue i' l') × (ty_in r i' ≡ Some i) × (bytes_in r l' ≡ Some l)
ValueSays r (layer.Error i l) kk = (i' : Index) × (l' : Index) × (kk ≡ key.ErrorValue i' l') × (ty_in r i' ≡ Some i) × (bytes_in r l' ≡ Some l)
ValueSays r (layer.Some i j) kk = (i' : Index) × (j' : Index) × (kk ≡ key.SomeValue i' j') × (ty_in r i' ≡ Some i) × (value_in r j' ≡ Some j)
ValueSays r (layer.Good i j) kk = (i' : Index) × (j' : Index) × (kk ≡ key.GoodValue i' j') × (ty_in r i' ≡ Some i) × (value_in r j' ≡ Some j)
ValueSays r (layer.List i l) kk = (i' : Index) × (l' : Index) × (kk ≡ key.ListValue i' l') × (ty_in r i' ≡ Some i) × (values_in r l' ≡ Some l)
ValueSays r (layer.Text i l) kk = (i' : Index) × (l' : Index) × (kk ≡ key.TextValue i' l') × (ty_in r i' ≡ Some i) × (bytes_in r l' ≡ Some l)
ValueSays r (layer.Tagged i l j) kk = (i' : Index) × (l' : Index) × (j' : Index) × (kk ≡ key.TaggedValue i' l' j') × (ty_in r i' ≡ Some i) × (bytes_in r l' ≡ Some l) × (value_in r j' ≡ Some j)
ValueSays r (layer.OfType i) kk = (i' : Index) × (kk ≡ key.TypeValue i') × (ty_in r i' ≡ Some i)
ValueSays r (layer.Value::Function d) kk = (d' : Index) × (kk ≡ key.FunctionValue d') × (decl_in r d' ≡ Some d)
ValueSays r (layer.Address i d) kk = (i' : Index) × (d' : Index) × (kk ≡ key.AddressValue i' d') × (ty_in r i' ≡ Some i) × (decl_in r d' ≡ Some d)
ValueSays r (layer.Constant i j) kk = (i' : Index) × (j' : Index) × (kk ≡ key.ConstantValue i' j') × (ty_in r i' ≡ Some i) × (value_in r j' ≡ Some j)
ValueSays r (layer.Place i n) kk = (i' : Index) × (kk ≡ key.PlaceValue i' n) × (ty_in r i' ≡ Some i)
ValueSays r (layer.Part i j n c) kk = (i' : Index) × (j' : Index) × (kk ≡ key.PartValue i' j' n c) × (ty_in r i' ≡ Some i) × (value_in r j' ≡ Some j)
ValueSays r (layer.Value::Slice i j lo hi) kk = (i' : Index) × (j' : Index) × (kk ≡ key.SliceValue i' j' lo hi) × (ty_in r i' ≡ Some i) × (value_in r j' ≡ Some j)

-- what a key of a layer is, where parts are read so
abbrev DeclSays : Reading → DeclLayer → Key → Type 0
DeclSays r (layer.Named i l) kk = (i' : Index) × (l' : Index) × (kk ≡ key.NamedDecl i' l') × (ty_in r i' ≡ Some i) × (bytes_in r l' ≡ Some l)
DeclSays r (layer.Comptime l n) kk = (l' : Index) × (kk ≡ key.ComptimeDecl l' n) × (bytes_in r l' ≡ Some l)

-- what a key of a layer is, where parts are read so
abbrev ArgSays : Reading → ArgLayer → Key → Type 0
ArgSays r (layer.Known j) kk = (j' : Index) × (kk ≡ key.KnownArg j') × (value_in r j' ≡ Some j)
ArgSays r (layer.Arg::Function i d) kk = (i' : Index) × (d' : Index) × (kk ≡ key.FunctionArg i' d') × (ty_in r i' ≡ Some i) × (decl_in r d' ≡ Some d)
ArgSays r (layer.Typed i) kk = (i' : Index) × (kk ≡ key.TypedArg i') × (ty_in r i' ≡ Some i)

abbrev Says : Reading → Node → Key → Type 0
Says r (OfTy t) kk = TySays r (out-Ty t) kk
Says r (OfValue v) kk = ValueSays r (out-Value v) kk
Says r (OfDecl d) kk = DeclSays r (out-DeclPath d) kk
Says r (OfArg a) kk = ArgSays r (out-Arg a) kk
Says r (OfInstance n) kk = (d : Index) × (l : Index) × (kk ≡ key.Instance d l) × (decl_in r d ≡ Some n.decl) × (args_in r l ≡ Some n.args)
Says r (OfList ns) kk = ((length ns ≤ 60) × (kk ≡ key.End ns)) ⊎ ((i : Index) × (60 < length ns) × (kk ≡ key.More (take 60 ns) i) × (list_in r i ≡ Some (drop 60 ns)))

more_long : (ns ms : List ℕ) → length ns ≡ 60 → 0 < length ms → 60 < length (ns ++ ms)
more_long ns ms h g = omega (arith, length-append ns ms)

more_front : (ns ms : List ℕ) → length ns ≡ 60 → take 60 (ns ++ ms) ≡ ns
more_front ns ms h = subst (λ n. take n (ns ++ ms) ≡ ns) h (take-append_seam ns ms)

more_back : (ns ms : List ℕ) → length ns ≡ 60 → drop 60 (ns ++ ms) ≡ ms
more_back ns ms h = subst (λ n. drop n (ns ++ ms) ≡ ms) h (drop-append_seam ns ms)

says : (r : Reading) (key : Key) (n : Node) → node_of r key ≡ Some n → Says r n key
says r (key.SimpleType s) m e = let h : OfTy (ty.Simple s) ≡ m = cc in subst (λ x. Says r x (key.SimpleType s)) h (subst (λ y. TySays r y (key.SimpleType s)) (sym (out_SimpleType s)) refl)
says r (key.IntType b n) m e = let h : OfTy (ty.Int b n) ≡ m = cc in subst (λ x. Says r x (key.IntType b n)) h (subst (λ y. TySays r y (key.IntType b n)) (sym (out_IntType b n)) refl)
says r (key.ErrorSetType l) m e = let h = one_tells (λ (l' : List (List ℕ)). OfTy (ty.ErrorSet l')) (names_in r l) m e in subst (λ x. Says r x (key.ErrorSetType l)) h.2 (subst (λ y. TySays r y (key.ErrorSetType l)) (sym (out_ErrorSetType h.0)) (l, refl, h.1))
says r (key.PointerType b i) m e = let h = one_tells (λ (i' : Ty). OfTy (ty.Pointer b i')) (ty_in r i) m e in subst (λ x. Says r x (key.PointerType b i)) h.2 (subst (λ y. TySays r y (key.PointerType b i)) (sym (out_PointerType b h.0)) (i, refl, h.1))
says r (key.SliceType b i) m e = let h = one_tells (λ (i' : Ty). OfTy (ty.Slice b i')) (ty_in r i) m e in subst (λ x. Says r x (key.SliceType b i)) h.2 (subst (λ y. TySays r y (key.SliceType b i)) (sym (out_SliceType b h.0)) (i, refl, h.1))
says r (key.ArrayType n i) m e = let h = one_tells (λ (i' : Ty). OfTy (ty.Array n i')) (ty_in r i) m e in subst (λ x. Says r x (key.ArrayType n i)) h.2 (subst (λ y. TySays r y (key.ArrayType n i)) (sym (out_ArrayType n h.0)) (i, refl, h.1))
says r (key.TerminatedType n) m e = let h : OfTy (ty.Terminated n) ≡ m = cc in subst (λ x. Says r x (key.TerminatedType n)) h (subst (λ y. TySays r y (key.TerminatedType n)) (sym (out_TerminatedType n)) refl)
says r (key.OptionalType i) m e = let h = one_tells (λ (i' : Ty). OfTy (ty.Optional i')) (ty_in r i) m e in subst (λ x. Says r x (key.OptionalType i)) h.2 (subst (λ y. TySays r y (key.OptionalType i)) (sym (out_OptionalType h.0)) (i, refl, h.1))
says r (key.ErrorUnionType i j) m e = let h = two_tells (λ (i' : Ty) (j' : Ty). OfTy (ty.ErrorUnion i' j')) (ty_in r i) (ty_in r j) m e in subst (λ x. Says r x (key.ErrorUnionType i j)) h.4 (subst (λ y. TySays r y (key.ErrorUnionType i j)) (sym (out_ErrorUnionType h.0 h.1)) (i, j, refl, h.2, h.3))
says r (key.FileType l) m e = let h = one_tells (λ (l' : List ℕ). OfTy (ty.File l')) (bytes_in r l) m e in subst (λ x. Says r x (key.FileType l)) h.2 (subst (λ y. TySays r y (key.FileType l)) (sym (out_FileType h.0)) (l, refl, h.1))
says r (key.ContainerType d n l) m e = let h = two_tells (λ (d' : DeclPath) (l' : List Arg). OfTy (ty.Container d' n l')) (decl_in r d) (args_in r l) m e in subst (λ x. Says r x (key.ContainerType d n l)) h.4 (subst (λ y. TySays r y (key.ContainerType d n l)) (sym (out_ContainerType h.0 n h.1)) (d, l, refl, h.2, h.3))
says r (key.FunctionType l i) m e = let h = two_tells (λ (l' : List Ty) (i' : Ty). OfTy (ty.Function l' i')) (tys_in r l) (ty_in r i) m e in subst (λ x. Says r x (key.FunctionType l i)) h.4 (subst (λ y. TySays r y (key.FunctionType l i)) (sym (out_FunctionType h.0 h.1)) (l, i, refl, h.2, h.3))
says r (key.UnionTagType i) m e = let h = one_tells (λ (i' : Ty). OfTy (ty.UnionTag i')) (ty_in r i) m e in subst (λ x. Says r x (key.UnionTagType i)) h.2 (subst (λ y. TySays r y (key.UnionTagType i)) (sym (out_UnionTagType h.0)) (i, refl, h.1))
says r (key.SimpleValue i s) m e = let h = one_tells (λ (i' : Ty). OfValue (value.Simple i' s)) (ty_in r i) m e in subst (λ x. Says r x (key.SimpleValue i s)) h.2 (subst (λ y. ValueSays r y (key.SimpleValue i s)) (sym (out_SimpleValue h.0 s)) (i, refl, h.1))
says r (key.IntValue i z) m e = let h = one_tells (λ (i' : Ty). OfValue (value.Int i' z)) (ty_in r i) m e in subst (λ x. Says r x (key.IntValue i z)) h.2 (subst (λ y. ValueSays r y (key.IntValue i z)) (sym (out_IntValue h.0 z)) (i, refl, h.1))
says r (key.TagValue i l) m e = let h = two_tells (λ (i' : Ty) (l' : List ℕ). OfValue (value.Tag i' l')) (ty_in r i) (bytes_in r l) m e in subst (λ x. Says r x (key.TagValue i l)) h.4 (subst (λ y. ValueSays r y (key.TagValue i l)) (sym (out_TagValue h.0 h.1)) (i, l, refl, h.2, h.3))
says r (key.ErrorValue i l) m e = let h = two_tells (λ (i' : Ty) (l' : List ℕ). OfValue (value.Error i' l')) (ty_in r i) (bytes_in r l) m e in subst (λ x. Says r x (key.ErrorValue i l)) h.4 (subst (λ y. ValueSays r y (key.ErrorValue i l)) (sym (out_ErrorValue h.0 h.1)) (i, l, refl, h.2, h.3))
says r (key.SomeValue i j) m e = let h = two_tells (λ (i' : Ty) (j' : Value). OfValue (value.Some i' j')) (ty_in r i) (value_in r j) m e in subst (λ x. Says r x (key.SomeValue i j)) h.4 (subst (λ y. ValueSays r y (key.SomeValue i j)) (sym (out_SomeValue h.0 h.1)) (i, j, refl, h.2, h.3))
says r (key.GoodValue i j) m e = let h = two_tells (λ (i' : Ty) (j' : Value). OfValue (value.Good i' j')) (ty_in r i) (value_in r j) m e in subst (λ x. Says r x (key.GoodValue i j)) h.4 (subst (λ y. ValueSays r y (key.GoodValue i j)) (sym (out_GoodValue h.0 h.1)) (i, j, refl, h.2, h.3))
says r (key.ListValue i l) m e = let h = two_tells (λ (i' : Ty) (l' : List Value). OfValue (value.List i' l')) (ty_in r i) (values_in r l) m e in subst (λ x. Says r x (key.ListValue i l)) h.4 (subst (λ y. ValueSays r y (key.ListValue i l)) (sym (out_ListValue h.0 h.1)) (i, l, refl, h.2, h.3))
says r (key.TextValue i l) m e = let h = two_tells (λ (i' : Ty) (l' : List ℕ). OfValue (value.Text i' l')) (ty_in r i) (bytes_in r l) m e in subst (λ x. Says r x (key.TextValue i l)) h.4 (subst (λ y. ValueSays r y (key.TextValue i l)) (sym (out_TextValue h.0 h.1)) (i, l, refl, h.2, h.3))
says r (key.TaggedValue i l j) m e = let h = three_tells (λ (i' : Ty) (l' : List ℕ) (j' : Value). OfValue (value.Tagged i' l' j')) (ty_in r i) (bytes_in r l) (value_in r j) m e in subst (λ x. Says r x (key.TaggedValue i l j)) h.6 (subst (λ y. ValueSays r y (key.TaggedValue i l j)) (sym (out_TaggedValue h.0 h.1 h.2)) (i, l, j, refl, h.3, h.4, h.5))
says r (key.TypeValue i) m e = let h = one_tells (λ (i' : Ty). OfValue (value.OfType i')) (ty_in r i) m e in subst (λ x. Says r x (key.TypeValue i)) h.2 (subst (λ y. ValueSays r y (key.TypeValue i)) (sym (out_TypeValue h.0)) (i, refl, h.1))
says r (key.FunctionValue d) m e = let h = one_tells (λ (d' : DeclPath). OfValue (value.Function d')) (decl_in r d) m e in subst (λ x. Says r x (key.FunctionValue d)) h.2 (subst (λ y. ValueSays r y (key.FunctionValue d)) (sym (out_FunctionValue h.0)) (d, refl, h.1))
says r (key.AddressValue i d) m e = let h = two_tells (λ (i' : Ty) (d' : DeclPath). OfValue (value.Address i' d')) (ty_in r i) (decl_in r d) m e in subst (λ x. Says r x (key.AddressValue i d)) h.4 (subst (λ y. ValueSays r y (key.AddressValue i d)) (sym (out_AddressValue h.0 h.1)) (i, d, refl, h.2, h.3))
says r (key.ConstantValue i j) m e = let h = two_tells (λ (i' : Ty) (j' : Value). OfValue (value.Constant i' j')) (ty_in r i) (value_in r j) m e in subst (λ x. Says r x (key.ConstantValue i j)) h.4 (subst (λ y. ValueSays r y (key.ConstantValue i j)) (sym (out_ConstantValue h.0 h.1)) (i, j, refl, h.2, h.3))
says r (key.PlaceValue i n) m e = let h = one_tells (λ (i' : Ty). OfValue (value.Place i' n)) (ty_in r i) m e in subst (λ x. Says r x (key.PlaceValue i n)) h.2 (subst (λ y. ValueSays r y (key.PlaceValue i n)) (sym (out_PlaceValue h.0 n)) (i, refl, h.1))
says r (key.PartValue i j n c) m e = let h = two_tells (λ (i' : Ty) (j' : Value). OfValue (value.Part i' j' n c)) (ty_in r i) (value_in r j) m e in subst (λ x. Says r x (key.PartValue i j n c)) h.4 (subst (λ y. ValueSays r y (key.PartValue i j n c)) (sym (out_PartValue h.0 h.1 n c)) (i, j, refl, h.2, h.3))
says r (key.SliceValue i j lo hi) m e = let h = two_tells (λ (i' : Ty) (j' : Value). OfValue (value.Slice i' j' lo hi)) (ty_in r i) (value_in r j) m e in subst (λ x. Says r x (key.SliceValue i j lo hi)) h.4 (subst (λ y. ValueSays r y (key.SliceValue i j lo hi)) (sym (out_SliceValue h.0 h.1 lo hi)) (i, j, refl, h.2, h.3))
says r (key.NamedDecl i l) m e = let h = two_tells (λ (i' : Ty) (l' : List ℕ). OfDecl (decl.Named i' l')) (ty_in r i) (bytes_in r l) m e in subst (λ x. Says r x (key.NamedDecl i l)) h.4 (subst (λ y. DeclSays r y (key.NamedDecl i l)) (sym (out_NamedDecl h.0 h.1)) (i, l, refl, h.2, h.3))
says r (key.ComptimeDecl l n) m e = let h = one_tells (λ (l' : List ℕ). OfDecl (decl.Comptime l' n)) (bytes_in r l) m e in subst (λ x. Says r x (key.ComptimeDecl l n)) h.2 (subst (λ y. DeclSays r y (key.ComptimeDecl l n)) (sym (out_ComptimeDecl h.0 n)) (l, refl, h.1))
says r (key.KnownArg j) m e = let h = one_tells (λ (j' : Value). OfArg (arg.Known j')) (value_in r j) m e in subst (λ x. Says r x (key.KnownArg j)) h.2 (subst (λ y. ArgSays r y (key.KnownArg j)) (sym (out_KnownArg h.0)) (j, refl, h.1))
says r (key.FunctionArg i d) m e = let h = two_tells (λ (i' : Ty) (d' : DeclPath). OfArg (arg.Function i' d')) (ty_in r i) (decl_in r d) m e in subst (λ x. Says r x (key.FunctionArg i d)) h.4 (subst (λ y. ArgSays r y (key.FunctionArg i d)) (sym (out_FunctionArg h.0 h.1)) (i, d, refl, h.2, h.3))
says r (key.TypedArg i) m e = let h = one_tells (λ (i' : Ty). OfArg (arg.Typed i')) (ty_in r i) m e in subst (λ x. Says r x (key.TypedArg i)) h.2 (subst (λ y. ArgSays r y (key.TypedArg i)) (sym (out_TypedArg h.0)) (i, refl, h.1))
says r (key.Instance d l) m e = let h = two_tells (λ (d' : DeclPath) (l' : List Arg). OfInstance (record { decl = d'; args = l' })) (decl_in r d) (args_in r l) m e in subst (λ x. Says r x (key.Instance d l)) h.4 (d, l, refl, h.2, h.3)
says r (key.End ns) m e = let h = end_tells ns m e in subst (λ x. Says r x (key.End ns)) h.1 (inl (h.0, refl))
says r (key.More ns i) m e =
    let t = then_tells (more_of ns) (list_in r i) m e in
    let h = more_tells ns t.0 m t.2 in
    subst (λ x. Says r x (key.More ns i)) h.2 (inr (i, more_long ns t.0 h.0 h.1, ap (λ ms. key.More ms i) (sym (more_front ns t.0 h.0)), t.1 ∙ ap Some (sym (more_back ns t.0 h.0))))

-- the same reading at two places is at one place
abbrev Agree : Reading → Reading → Type 0
Agree r s = (i j : Index) (x : Node) → r i ≡ Some x → s j ≡ Some x → i ≡ j

ty_same : (r s : Reading) → Agree r s → (i j : Index) (x : Ty) → ty_in r i ≡ Some x → ty_in s j ≡ Some x → i ≡ j
ty_same r s h i j x e f = h i j (OfTy x) (ty_node r i x e) (ty_node s j x f)

value_same : (r s : Reading) → Agree r s → (i j : Index) (x : Value) → value_in r i ≡ Some x → value_in s j ≡ Some x → i ≡ j
value_same r s h i j x e f = h i j (OfValue x) (value_node r i x e) (value_node s j x f)

decl_same : (r s : Reading) → Agree r s → (i j : Index) (x : DeclPath) → decl_in r i ≡ Some x → decl_in s j ≡ Some x → i ≡ j
decl_same r s h i j x e f = h i j (OfDecl x) (decl_node r i x e) (decl_node s j x f)

list_same : (r s : Reading) → Agree r s → (i j : Index) (x : List ℕ) → list_in r i ≡ Some x → list_in s j ≡ Some x → i ≡ j
list_same r s h i j x e f = h i j (OfList x) (list_node r i x e) (list_node s j x f)

arg_same : (r s : Reading) → Agree r s → (i j : Index) (x : Arg) → arg_in r i ≡ Some x → arg_in s j ≡ Some x → i ≡ j
arg_same r s h i j x e f = h i j (OfArg x) (arg_node r i x e) (arg_node s j x f)

bytes_same : (r s : Reading) → Agree r s → (i j : Index) (x : List ℕ) → bytes_in r i ≡ Some x → bytes_in s j ≡ Some x → i ≡ j
bytes_same r s h i j x e f = list_same r s h i j x (bytes_list r i x e) (bytes_list s j x f)

each_same : {A : Type 0} (f g : Index → Option A) → ((i j : Index) (x : A) → f i ≡ Some x → g j ≡ Some x → i ≡ j) → (ns ms : List ℕ) (xs : List A) → each f ns ≡ Some xs → each g ms ≡ Some xs → ns ≡ ms
each_same f g h [] [] xs d e = refl
each_same f g h [] (m ∷ ms) xs d e = let t = two_tells _ (g (index_of m)) (each g ms) xs e in cc
each_same f g h (n ∷ ns) [] xs d e = let t = two_tells _ (f (index_of n)) (each f ns) xs d in cc
each_same f g h (n ∷ ns) (m ∷ ms) xs d e =
    let t = two_tells (λ x xs. x ∷ xs) (f (index_of n)) (each f ns) xs d in
    let u = two_tells (λ x xs. x ∷ xs) (g (index_of m)) (each g ms) xs e in
    let p : t.0 ≡ u.0 = cc in
    let q : t.1 ≡ u.1 = cc in
    ap₂ (λ x xs. x ∷ xs) (ap (λ (i : Index). i.0) (h (index_of n) (index_of m) t.0 t.2 (u.2 ∙ ap Some (sym p)))) (each_same f g h ns ms t.1 t.3 (u.3 ∙ ap Some (sym q)))

names_same : (r s : Reading) → Agree r s → (i j : Index) (x : List (List ℕ)) → names_in r i ≡ Some x → names_in s j ≡ Some x → i ≡ j
unfolding each_in names_in
names_same r s h i j x e f =
    let a = then_tells (each (bytes_in r)) (list_in r i) x e in
    let b = then_tells (each (bytes_in s)) (list_in s j) x f in
    let p = each_same (bytes_in r) (bytes_in s) (bytes_same r s h) a.0 b.0 x a.2 b.2 in
    list_same r s h i j a.0 a.1 (b.1 ∙ ap Some (sym p))

tys_same : (r s : Reading) → Agree r s → (i j : Index) (x : List Ty) → tys_in r i ≡ Some x → tys_in s j ≡ Some x → i ≡ j
unfolding each_in tys_in
tys_same r s h i j x e f =
    let a = then_tells (each (ty_in r)) (list_in r i) x e in
    let b = then_tells (each (ty_in s)) (list_in s j) x f in
    let p = each_same (ty_in r) (ty_in s) (ty_same r s h) a.0 b.0 x a.2 b.2 in
    list_same r s h i j a.0 a.1 (b.1 ∙ ap Some (sym p))

values_same : (r s : Reading) → Agree r s → (i j : Index) (x : List Value) → values_in r i ≡ Some x → values_in s j ≡ Some x → i ≡ j
unfolding each_in values_in
values_same r s h i j x e f =
    let a = then_tells (each (value_in r)) (list_in r i) x e in
    let b = then_tells (each (value_in s)) (list_in s j) x f in
    let p = each_same (value_in r) (value_in s) (value_same r s h) a.0 b.0 x a.2 b.2 in
    list_same r s h i j a.0 a.1 (b.1 ∙ ap Some (sym p))

args_same : (r s : Reading) → Agree r s → (i j : Index) (x : List Arg) → args_in r i ≡ Some x → args_in s j ≡ Some x → i ≡ j
unfolding each_in args_in
args_same r s h i j x e f =
    let a = then_tells (each (arg_in r)) (list_in r i) x e in
    let b = then_tells (each (arg_in s)) (list_in s j) x f in
    let p = each_same (arg_in r) (arg_in s) (arg_same r s h) a.0 b.0 x a.2 b.2 in
    list_same r s h i j a.0 a.1 (b.1 ∙ ap Some (sym p))

same_ty : (r s : Reading) → Agree r s → (x : TyLayer) (k l : Key) → TySays r x k → TySays s x l → k ≡ l
same_ty r q h (layer.Ty::Simple s) k' m' x y = x ∙ sym y
same_ty r q h (layer.Ty::Int b n) k' m' x y = x ∙ sym y
same_ty r q h (layer.ErrorSet l) k' m' x y = x.1 ∙ ap (λ (l' : Index). key.ErrorSetType l') (names_same r q h x.0 y.0 l x.2 y.2) ∙ sym y.1
same_ty r q h (layer.Pointer b i) k' m' x y = x.1 ∙ ap (λ (i' : Index). key.PointerType b i') (ty_same r q h x.0 y.0 i x.2 y.2) ∙ sym y.1
same_ty r q h (layer.Ty::Slice b i) k' m' x y = x.1 ∙ ap (λ (i' : Index). key.SliceType b i') (ty_same r q h x.0 y.0 i x.2 y.2) ∙ sym y.1
same_ty r q h (layer.Array n i) k' m' x y = x.1 ∙ ap (λ (i' : Index). key.ArrayType n i') (ty_same r q h x.0 y.0 i x.2 y.2) ∙ sym y.1
same_ty r q h (layer.Terminated n) k' m' x y = x ∙ sym y
same_ty r q h (layer.Optional i) k' m' x y = x.1 ∙ ap (λ (i' : Index). key.OptionalType i') (ty_same r q h x.0 y.0 i x.2 y.2) ∙ sym y.1
same_ty r q h (layer.ErrorUnion i j) k' m' x y = x.2 ∙ ap₂ (λ (i' : Index) (j' : Index). key.ErrorUnionType i' j') (ty_same r q h x.0 y.0 i x.3 y.3) (ty_same r q h x.1 y.1 j x.4 y.4) ∙ sym y.2
same_ty r q h (layer.File l) k' m' x y = x.1 ∙ ap (λ (l' : Index). key.FileType l') (bytes_same r q h x.0 y.0 l x.2 y.2) ∙ sym y.1
same_ty r q h (layer.Container d n l) k' m' x y = x.2 ∙ ap₂ (λ (d' : Index) (l' : Index). key.ContainerType d' n l') (decl_same r q h x.0 y.0 d x.3 y.3) (args_same r q h x.1 y.1 l x.4 y.4) ∙ sym y.2
same_ty r q h (layer.Ty::Function l i) k' m' x y = x.2 ∙ ap₂ (λ (l' : Index) (i' : Index). key.FunctionType l' i') (tys_same r q h x.0 y.0 l x.3 y.3) (ty_same r q h x.1 y.1 i x.4 y.4) ∙ sym y.2
same_ty r q h (layer.UnionTag i) k' m' x y = x.1 ∙ ap (λ (i' : Index). key.UnionTagType i') (ty_same r q h x.0 y.0 i x.2 y.2) ∙ sym y.1

same_value : (r s : Reading) → Agree r s → (x : ValueLayer) (k l : Key) → ValueSays r x k → ValueSays s x l → k ≡ l
same_value r q h (layer.Value::Simple i s) k' m' x y = x.1 ∙ ap (λ (i' : Index). key.SimpleValue i' s) (ty_same r q h x.0 y.0 i x.2 y.2) ∙ sym y.1
same_value r q h (layer.Value::Int i z) k' m' x y = x.1 ∙ ap (λ (i' : Index). key.IntValue i' z) (ty_same r q h x.0 y.0 i x.2 y.2) ∙ sym y.1
same_value r q h (layer.Tag i l) k' m' x y = x.2 ∙ ap₂ (λ (i' : Index) (l' : Index). key.TagValue i' l') (ty_same r q h x.0 y.0 i x.3 y.3) (bytes_same r q h x.1 y.1 l x.4 y.4) ∙ sym y.2
same_value r q h (layer.Error i l) k' m' x y = x.2 ∙ ap₂ (λ (i' : Index) (l' : Index). key.ErrorValue i' l') (ty_same r q h x.0 y.0 i x.3 y.3) (bytes_same r q h x.1 y.1 l x.4 y.4) ∙ sym y.2
same_value r q h (layer.Some i j) k' m' x y = x.2 ∙ ap₂ (λ (i' : Index) (j' : Index). key.SomeValue i' j') (ty_same r q h x.0 y.0 i x.3 y.3) (value_same r q h x.1 y.1 j x.4 y.4) ∙ sym y.2
same_value r q h (layer.Good i j) k' m' x y = x.2 ∙ ap₂ (λ (i' : Index) (j' : Index). key.GoodValue i' j') (ty_same r q h x.0 y.0 i x.3 y.3) (value_same r q h x.1 y.1 j x.4 y.4) ∙ sym y.2
same_value r q h (layer.List i l) k' m' x y = x.2 ∙ ap₂ (λ (i' : Index) (l' : Index). key.ListValue i' l') (ty_same r q h x.0 y.0 i x.3 y.3) (values_same r q h x.1 y.1 l x.4 y.4) ∙ sym y.2
same_value r q h (layer.Text i l) k' m' x y = x.2 ∙ ap₂ (λ (i' : Index) (l' : Index). key.TextValue i' l') (ty_same r q h x.0 y.0 i x.3 y.3) (bytes_same r q h x.1 y.1 l x.4 y.4) ∙ sym y.2
same_value r q h (layer.Tagged i l j) k' m' x y = x.3 ∙ ap₃ (λ (i' : Index) (l' : Index) (j' : Index). key.TaggedValue i' l' j') (ty_same r q h x.0 y.0 i x.4 y.4) (bytes_same r q h x.1 y.1 l x.5 y.5) (value_same r q h x.2 y.2 j x.6 y.6) ∙ sym y.3
same_value r q h (layer.OfType i) k' m' x y = x.1 ∙ ap (λ (i' : Index). key.TypeValue i') (ty_same r q h x.0 y.0 i x.2 y.2) ∙ sym y.1
same_value r q h (layer.Value::Function d) k' m' x y = x.1 ∙ ap (λ (d' : Index). key.FunctionValue d') (decl_same r q h x.0 y.0 d x.2 y.2) ∙ sym y.1
same_value r q h (layer.Address i d) k' m' x y = x.2 ∙ ap₂ (λ (i' : Index) (d' : Index). key.AddressValue i' d') (ty_same r q h x.0 y.0 i x.3 y.3) (decl_same r q h x.1 y.1 d x.4 y.4) ∙ sym y.2
same_value r q h (layer.Constant i j) k' m' x y = x.2 ∙ ap₂ (λ (i' : Index) (j' : Index). key.ConstantValue i' j') (ty_same r q h x.0 y.0 i x.3 y.3) (value_same r q h x.1 y.1 j x.4 y.4) ∙ sym y.2
same_value r q h (layer.Place i n) k' m' x y = x.1 ∙ ap (λ (i' : Index). key.PlaceValue i' n) (ty_same r q h x.0 y.0 i x.2 y.2) ∙ sym y.1
same_value r q h (layer.Part i j n c) k' m' x y = x.2 ∙ ap₂ (λ (i' : Index) (j' : Index). key.PartValue i' j' n c) (ty_same r q h x.0 y.0 i x.3 y.3) (value_same r q h x.1 y.1 j x.4 y.4) ∙ sym y.2
same_value r q h (layer.Value::Slice i j lo hi) k' m' x y = x.2 ∙ ap₂ (λ (i' : Index) (j' : Index). key.SliceValue i' j' lo hi) (ty_same r q h x.0 y.0 i x.3 y.3) (value_same r q h x.1 y.1 j x.4 y.4) ∙ sym y.2

same_decl : (r s : Reading) → Agree r s → (x : DeclLayer) (k l : Key) → DeclSays r x k → DeclSays s x l → k ≡ l
same_decl r q h (layer.Named i l) k' m' x y = x.2 ∙ ap₂ (λ (i' : Index) (l' : Index). key.NamedDecl i' l') (ty_same r q h x.0 y.0 i x.3 y.3) (bytes_same r q h x.1 y.1 l x.4 y.4) ∙ sym y.2
same_decl r q h (layer.Comptime l n) k' m' x y = x.1 ∙ ap (λ (l' : Index). key.ComptimeDecl l' n) (bytes_same r q h x.0 y.0 l x.2 y.2) ∙ sym y.1

same_arg : (r s : Reading) → Agree r s → (x : ArgLayer) (k l : Key) → ArgSays r x k → ArgSays s x l → k ≡ l
same_arg r q h (layer.Known j) k' m' x y = x.1 ∙ ap (λ (j' : Index). key.KnownArg j') (value_same r q h x.0 y.0 j x.2 y.2) ∙ sym y.1
same_arg r q h (layer.Arg::Function i d) k' m' x y = x.2 ∙ ap₂ (λ (i' : Index) (d' : Index). key.FunctionArg i' d') (ty_same r q h x.0 y.0 i x.3 y.3) (decl_same r q h x.1 y.1 d x.4 y.4) ∙ sym y.2
same_arg r q h (layer.Typed i) k' m' x y = x.1 ∙ ap (λ (i' : Index). key.TypedArg i') (ty_same r q h x.0 y.0 i x.2 y.2) ∙ sym y.1

same_key : (r s : Reading) → Agree r s → (n : Node) (k l : Key) → Says r n k → Says s n l → k ≡ l
same_key r s h (OfTy t) k l a b = same_ty r s h (out-Ty t) k l a b
same_key r s h (OfValue t) k l a b = same_value r s h (out-Value t) k l a b
same_key r s h (OfDecl t) k l a b = same_decl r s h (out-DeclPath t) k l a b
same_key r s h (OfArg t) k l a b = same_arg r s h (out-Arg t) k l a b
same_key r s h (OfInstance n) k l a b = a.2 ∙ ap₂ key.Instance (decl_same r s h a.0 b.0 n.decl a.3 b.3) (args_same r s h a.1 b.1 n.args a.4 b.4) ∙ sym b.2
same_key r s h (OfList ns) k l (inl a) (inl b) = a.1 ∙ sym b.1
same_key r s h (OfList ns) k l (inl a) (inr b) = absurd (omega (arith, a.0, b.1))
same_key r s h (OfList ns) k l (inr a) (inl b) = absurd (omega (arith, a.1, b.0))
same_key r s h (OfList ns) k l (inr a) (inr b) = a.2 ∙ ap (key.More (take 60 ns)) (list_same r s h a.0 b.0 (drop 60 ns) a.3 b.3) ∙ sym b.2

key_words : (k : Known) (i : Index) (key : Key) → key_at k i ≡ Some key → words_at k i ≡ Some (words_of key)
unfolding key_at
key_words k i key e = let t = then_tells key_of (words_at k i) key e in t.1 ∙ ap Some (sym (words_of-key_of t.0 key t.2))

one_place : (k : Known) → IsInjective k → (n : ℕ) → Agree (reading n k) (denoted k)
one_place k g zero = λ i j x e f. cc
one_place k g (suc n) = λ i j x e f.
    let a = then_tells (node_of (reading n k)) (key_at k i) x e in
    let b = then_tells (node_of (denoted k)) (key_at k j) x (sym (denoted-is k j) ∙ f) in
    let p = same_key (reading n k) (denoted k) (one_place k g n) x a.0 b.0 (says (reading n k) a.0 x a.2) (says (denoted k) b.0 x b.2) in
    g.once i j (words_of a.0) (key_words k i a.0 a.1) (key_words k j b.0 b.1 ∙ ap (λ m. Some (words_of m)) (sym p))

-- equal nodes have one index
pub one_index : (k : Known) → IsInjective k → Agree (denoted k) (denoted k)
one_index k g = let f : (n : ℕ) → Agree (reading n k) (denoted k) = one_place k g in unfold denoted in f (length k + 1)

pub ty_at-injective : (k : Known) (i j : Index) → IsInjective k → IsTy k i → IsTy k j → ty_at k i ≡ ty_at k j → i ≡ j
ty_at-injective k i j g a b e = one_index k g i j (OfTy (ty_at k i)) (ty_node (denoted k) i (ty_at k i) (ty_whole k i a)) (ty_node (denoted k) j (ty_at k i) (ty_whole k j b ∙ ap Some (sym e)))

pub value_at-injective : (k : Known) (i j : Index) → IsInjective k → IsValue k i → IsValue k j → value_at k i ≡ value_at k j → i ≡ j
value_at-injective k i j g a b e = one_index k g i j (OfValue (value_at k i)) (value_node (denoted k) i (value_at k i) (value_whole k i a)) (value_node (denoted k) j (value_at k i) (value_whole k j b ∙ ap Some (sym e)))

pub decl_at-injective : (k : Known) (i j : Index) → IsInjective k → IsDecl k i → IsDecl k j → decl_at k i ≡ decl_at k j → i ≡ j
decl_at-injective k i j g a b e = one_index k g i j (OfDecl (decl_at k i)) (decl_node (denoted k) i (decl_at k i) (decl_whole k i a)) (decl_node (denoted k) j (decl_at k i) (decl_whole k j b ∙ ap Some (sym e)))

pub arg_at-injective : (k : Known) (i j : Index) → IsInjective k → IsArg k i → IsArg k j → arg_at k i ≡ arg_at k j → i ≡ j
arg_at-injective k i j g a b e = one_index k g i j (OfArg (arg_at k i)) (arg_node (denoted k) i (arg_at k i) (arg_whole k i a)) (arg_node (denoted k) j (arg_at k i) (arg_whole k j b ∙ ap Some (sym e)))

pub instance_at-injective : (k : Known) (i j : Index) → IsInjective k → IsInstance k i → IsInstance k j → instance_at k i ≡ instance_at k j → i ≡ j
instance_at-injective k i j g a b e = one_index k g i j (OfInstance (instance_at k i)) (instance_node (denoted k) i (instance_at k i) (instance_whole k i a)) (instance_node (denoted k) j (instance_at k i) (instance_whole k j b ∙ ap Some (sym e)))

pub list_at-injective : (k : Known) (i j : Index) → IsInjective k → IsList k i → IsList k j → list_at k i ≡ list_at k j → i ≡ j
list_at-injective k i j g a b e = one_index k g i j (OfList (list_at k i)) (list_node (denoted k) i (list_at k i) (list_whole k i a)) (list_node (denoted k) j (list_at k i) (list_whole k j b ∙ ap Some (sym e)))

pub bytes_at-injective : (k : Known) (i j : Index) → IsInjective k → IsBytes k i → IsBytes k j → bytes_at k i ≡ bytes_at k j → i ≡ j
bytes_at-injective k i j g a b e = bytes_same (denoted k) (denoted k) (one_index k g) i j (bytes_at k i) (bytes_whole k i a) (bytes_whole k j b ∙ ap Some (sym e))

pub names_at-injective : (k : Known) (i j : Index) → IsInjective k → AreNames k i → AreNames k j → names_at k i ≡ names_at k j → i ≡ j
names_at-injective k i j g a b e = names_same (denoted k) (denoted k) (one_index k g) i j (names_at k i) (names_whole k i a) (names_whole k j b ∙ ap Some (sym e))

pub tys_at-injective : (k : Known) (i j : Index) → IsInjective k → AreTys k i → AreTys k j → tys_at k i ≡ tys_at k j → i ≡ j
tys_at-injective k i j g a b e = tys_same (denoted k) (denoted k) (one_index k g) i j (tys_at k i) (tys_whole k i a) (tys_whole k j b ∙ ap Some (sym e))

pub values_at-injective : (k : Known) (i j : Index) → IsInjective k → AreValues k i → AreValues k j → values_at k i ≡ values_at k j → i ≡ j
values_at-injective k i j g a b e = values_same (denoted k) (denoted k) (one_index k g) i j (values_at k i) (values_whole k i a) (values_whole k j b ∙ ap Some (sym e))

pub args_at-injective : (k : Known) (i j : Index) → IsInjective k → AreArgs k i → AreArgs k j → args_at k i ≡ args_at k j → i ≡ j
args_at-injective k i j g a b e = args_same (denoted k) (denoted k) (one_index k g) i j (args_at k i) (args_whole k i a) (args_whole k j b ∙ ap Some (sym e))
