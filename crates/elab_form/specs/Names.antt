-- Names: primitive types and values, and declarations (Zig Language Reference 0.14, "Primitive Types", "Primitive
-- Values", "Container Level Variables").
use Rattle.std.specs.Prelude.{ℕ, ◌==◌, Bool, true, false, ◌&&◌, if◌then◌else◌, List, Option, Some, None}
use Rattle.zir_form.specs.declared.primitive.Primitive.{Primitive}
use Rattle.zir_form.specs.declared.primitive.Primitive.TheVariants as primitive
use Rattle.type_form.specs.declared.tree.Ty.{Ty, out-Ty}
use Rattle.type_form.specs.declared.tree.Ty.TheVariants as ty
use Rattle.type_form.specs.declared.tree.Value.{Value}
use Rattle.type_form.specs.declared.tree.Value.TheVariants as value
use Rattle.type_form.specs.declared.tree.DeclPath.TheVariants as path
use Rattle.type_form.specs.declared.tree.Arg.TheOpen as layer
use Rattle.type_form.specs.declared.tree.SimpleTy.{SimpleTy}
use Rattle.type_form.specs.declared.tree.SimpleTy.TheVariants as simple
use Rattle.type_form.specs.declared.tree.SimpleValue.TheVariants as word
use Rattle.type_form.specs.declared.unit.Unit.TheVariants as unit
use Rattle.type_form.specs.Tree.{TyLayer}
use Rattle.elab_form.specs.Questions.{Answer, given, constant, result}
use Rattle.elab_form.specs.State.{Frame, Operand, known}
use Rattle.elab_form.specs.Coercion.{is_width}
use Rattle.elab_form.specs.Asking.{Elab, pure, asking, not_built}

-- ---- primitives

abbrev pub simple_type : SimpleTy → Value
simple_type s = value.OfType (ty.Simple s)

abbrev pub primitive_value : Primitive → Value
primitive_value (primitive.Unsigned bits) = value.OfType (ty.Int false bits)
primitive_value (primitive.Signed bits) = value.OfType (ty.Int true bits)
primitive_value primitive.Usize = simple_type simple.Usize
primitive_value primitive.Isize = simple_type simple.Isize
primitive_value primitive.Bool = simple_type simple.Bool
primitive_value primitive.Void = simple_type simple.Void
primitive_value primitive.Noreturn = simple_type simple.Noreturn
primitive_value primitive.Type = simple_type simple.Metatype
primitive_value primitive.ComptimeInt = simple_type simple.ComptimeInt
primitive_value primitive.AnyError = simple_type simple.AnyError
primitive_value primitive.True = value.Simple (ty.Simple simple.Bool) word.True
primitive_value primitive.False = value.Simple (ty.Simple simple.Bool) word.False
primitive_value primitive.Null = value.Simple (ty.Simple simple.NullLiteral) word.Null
primitive_value primitive.Undefined = value.Simple (ty.Simple simple.UndefinedLiteral) word.Undefined

abbrev pub has_width : Primitive → Bool
has_width (primitive.Unsigned bits) = is_width bits
has_width (primitive.Signed bits) = is_width bits
has_width _ = true

-- a primitive type or value asks nothing; no name is that of another width
abbrev pub primitive_form : Frame → (place : ℕ) → Primitive → Elab Operand
primitive_form f place p = if has_width p then pure (known (primitive_value p)) else not_built f place

-- ---- declarations

-- the value of a constant or a function, where the answer gives one
abbrev pub constant_in : Answer → Option Value
constant_in (given (constant v)) = Some v
constant_in _ = None

abbrev pub declared_value : Frame → (place : ℕ) → Option Value → Elab Operand
declared_value f place (Some v) = pure (known v)
declared_value f place None = not_built f place

-- a name of a declaration in a container asks for the declaration's result
abbrev pub declared_in : Frame → (place : ℕ) → Ty → List ℕ → Elab Operand
declared_in f place container name = asking (result (unit.Decl (path.Named container name))) (λ a. declared_value f place (constant_in a))

abbrev pub is_file : TyLayer → Bool
is_file (layer.File file) = true
is_file _ = false

-- A name of a declaration of a container around the part, by the container's depth. The file is the container of
-- depth 0; parts of other containers have no rule yet.
abbrev pub declared_form : Frame → (place : ℕ) → (depth : ℕ) → List ℕ → Elab Operand
declared_form f place depth name =
    if (depth == 0) && is_file (out-Ty f.container) then declared_in f place f.container name else not_built f place
