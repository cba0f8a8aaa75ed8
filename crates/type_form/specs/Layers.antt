-- The layer of a tree that a key stands for, with the trees of its parts.
use Rattle.std.specs.Prelude.{[]}
use Rattle.type_form.specs.declared.tree.Arg.TheOpen as layer
use Rattle.type_form.specs.declared.key.Key.{Key}
use Rattle.type_form.specs.declared.key.Key.TheVariants as key
use Rattle.type_form.specs.declared.tree.SimpleTy.TheVariants as simple
use Rattle.type_form.specs.Tree.{TyLayer, ValueLayer, DeclLayer, ArgLayer}
use Rattle.type_form.specs.Known.{Known}
use Rattle.type_form.specs.Means.{ty_at, value_at, decl_at, bytes_at, names_at, tys_at, values_at, args_at}

-- the layer of the type that a key denotes
abbrev pub layer_at : Known → Key → TyLayer
layer_at k (key.SimpleType s) = layer.Ty::Simple s
layer_at k (key.IntType b n) = layer.Ty::Int b n
layer_at k (key.ErrorSetType l) = layer.ErrorSet (names_at k l)
layer_at k (key.PointerType b i) = layer.Pointer b (ty_at k i)
layer_at k (key.SliceType b i) = layer.Ty::Slice b (ty_at k i)
layer_at k (key.ArrayType n i) = layer.Array n (ty_at k i)
layer_at k (key.TerminatedType n) = layer.Terminated n
layer_at k (key.OptionalType i) = layer.Optional (ty_at k i)
layer_at k (key.ErrorUnionType i j) = layer.ErrorUnion (ty_at k i) (ty_at k j)
layer_at k (key.FileType l) = layer.File (bytes_at k l)
layer_at k (key.ContainerType d n l) = layer.Container (decl_at k d) n (args_at k l)
layer_at k (key.FunctionType l i) = layer.Ty::Function (tys_at k l) (ty_at k i)
layer_at k (key.UnionTagType i) = layer.UnionTag (ty_at k i)
layer_at k _ = layer.Ty::Simple simple.Bool

-- the layer of the value that a key denotes
abbrev pub value_layer_at : Known → Key → ValueLayer
value_layer_at k (key.SimpleValue i s) = layer.Value::Simple (ty_at k i) s
value_layer_at k (key.IntValue i z) = layer.Value::Int (ty_at k i) z
value_layer_at k (key.TagValue i l) = layer.Tag (ty_at k i) (bytes_at k l)
value_layer_at k (key.ErrorValue i l) = layer.Error (ty_at k i) (bytes_at k l)
value_layer_at k (key.SomeValue i j) = layer.Some (ty_at k i) (value_at k j)
value_layer_at k (key.GoodValue i j) = layer.Good (ty_at k i) (value_at k j)
value_layer_at k (key.ListValue i l) = layer.List (ty_at k i) (values_at k l)
value_layer_at k (key.TextValue i l) = layer.Text (ty_at k i) (bytes_at k l)
value_layer_at k (key.TaggedValue i l j) = layer.Tagged (ty_at k i) (bytes_at k l) (value_at k j)
value_layer_at k (key.TypeValue i) = layer.OfType (ty_at k i)
value_layer_at k (key.FunctionValue d) = layer.Value::Function (decl_at k d)
value_layer_at k (key.AddressValue i d) = layer.Address (ty_at k i) (decl_at k d)
value_layer_at k (key.ConstantValue i j) = layer.Constant (ty_at k i) (value_at k j)
value_layer_at k (key.PlaceValue i n) = layer.Place (ty_at k i) n
value_layer_at k (key.PartValue i j n c) = layer.Part (ty_at k i) (value_at k j) n c
value_layer_at k (key.SliceValue i j lo hi) = layer.Value::Slice (ty_at k i) (value_at k j) lo hi
value_layer_at k _ = layer.Error (ty_at k (record { 0 = 0 })) []

-- the layer of the declaration that a key denotes
abbrev pub decl_layer_at : Known → Key → DeclLayer
decl_layer_at k (key.NamedDecl i l) = layer.Named (ty_at k i) (bytes_at k l)
decl_layer_at k (key.ComptimeDecl l n) = layer.Comptime (bytes_at k l) n
decl_layer_at k _ = layer.Comptime [] 0

-- the layer of the argument that a key denotes
abbrev pub arg_layer_at : Known → Key → ArgLayer
arg_layer_at k (key.KnownArg j) = layer.Known (value_at k j)
arg_layer_at k (key.FunctionArg i d) = layer.Arg::Function (ty_at k i) (decl_at k d)
arg_layer_at k (key.TypedArg i) = layer.Typed (ty_at k i)
arg_layer_at k _ = layer.Typed (ty_at k (record { 0 = 0 }))
