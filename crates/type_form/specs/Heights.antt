-- Which containers a type holds, and that heights rise from the held to the holder.
use Rattle.std.specs.Prelude.{◌≡◌, ◌<◌, ◌⊎◌, ℕ, List, Contains}
use Rattle.type_form.specs.declared.tree.Ty.{Ty}
use Rattle.type_form.specs.declared.tree.Ty.TheVariants as ty
use Rattle.type_form.specs.declared.table.ContainerKind.{ContainerKind}
use Rattle.type_form.specs.declared.table.ContainerKind.TheVariants as kind
use Rattle.type_form.specs.declared.table.Field.{Field}
use Rattle.type_form.specs.declared.table.Fields.{Fields}
use Rattle.type_form.specs.declared.table.FieldsResult.TheVariants.{Good}
use Rattle.type_form.specs.declared.table.FieldsOf.{FieldsOf}

-- a type is this one, or holds it through arrays, optionals and error unions alone
pub data Holds : Ty → Ty → Type 0 where
  itself : (t : Ty) → Holds t t
  in_array : (n : ℕ) (t c : Ty) → Holds t c → Holds (ty.Array n t) c
  in_optional : (t c : Ty) → Holds t c → Holds (ty.Optional t) c
  in_payload : (e t c : Ty) → Holds t c → Holds (ty.ErrorUnion e t) c

-- a struct or a union
abbrev pub IsWide : ContainerKind → Type 0
IsWide kind.Struct = Unit {0}
IsWide kind.Union = Unit {0}
IsWide kind.Enum = ⊥

-- a container whose fields hold a struct or a union of the list is higher than that one
pub record AreHigh (entries : List FieldsOf) : Type 0 where
  pub rise : (outer inner : FieldsOf) (g h : Fields) (field : Field)
      → Contains entries outer → Contains entries inner → outer.result ≡ Good g → inner.result ≡ Good h
      → Contains g.fields field → Holds field.ty inner.container → IsWide h.kind → h.height < g.height
