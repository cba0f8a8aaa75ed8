-- Which entry of a list of containers is taken.
use Rattle.std.specs.Prelude.{◌≡◌, ℕ, ◌<◌, List, length}
use Rattle.std.specs.List.{HoldsAt}
use Rattle.type_form.specs.declared.tree.Ty.{Ty}
use Rattle.type_form.specs.declared.table.FieldsOf.{FieldsOf}

-- the entry at a place is that of a container
pub record IsEntry (entries : List FieldsOf) (t : Ty) (at : ℕ) : Type 0 where
  pub within : at < length entries
  pub is : HoldsAt (λ e. e.container ≡ t) entries at

-- and no earlier one is
pub record IsFirst (entries : List FieldsOf) (t : Ty) (at : ℕ) : Type 0 where
  pub here : IsEntry entries t at
  pub none : (before : ℕ) → before < at → IsEntry entries t before → ⊥
