-- Types and values by what they are made of.
use Rattle.std.specs.Prelude.{ℕ, List}
use Rattle.type_form.specs.declared.tree.Ty.TheVariants as ty
use Rattle.type_form.specs.declared.tree.Ty.{Ty}
use Rattle.type_form.specs.declared.tree.Value.{Value}
use Rattle.type_form.specs.declared.tree.Value.TheVariants as value
use Rattle.type_trees.specs.declared.shape.OfBytes.{OfBytes}
use Rattle.type_trees.specs.declared.shape.OfBytes.TheVariants as bytes
use Rattle.type_trees.specs.declared.shape.OfValue.{OfValue}
use Rattle.type_trees.specs.declared.shape.OfValue.TheVariants as held
use Rattle.type_trees.specs.declared.shape.OfChild.{OfChild}
use Rattle.type_trees.specs.declared.shape.OfChild.TheVariants as child

-- of a type and bytes
abbrev pub of_bytes : OfBytes → Ty → List ℕ → Value
of_bytes bytes.Tag t bs = value.Tag t bs
of_bytes bytes.Error t bs = value.Error t bs
of_bytes bytes.Text t bs = value.Text t bs

-- of a type and another value
abbrev pub of_value : OfValue → Ty → Value → Value
of_value held.Some t v = value.Some t v
of_value held.Good t v = value.Good t v
of_value held.Constant t v = value.Constant t v
of_value (held.Part n c) t v = value.Part t v n c
of_value (held.Slice lo hi) t v = value.Slice t v lo hi

-- of another type
abbrev pub of_child : OfChild → Ty → Ty
of_child (child.Pointer b) t = ty.Pointer b t
of_child (child.Slice b) t = ty.Slice b t
of_child (child.Array n) t = ty.Array n t
of_child child.Optional t = ty.Optional t
of_child child.UnionTag t = ty.UnionTag t
