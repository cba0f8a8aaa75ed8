-- What contracts see of the names in scope: what is bound, earliest first.
use Rattle.std.specs.Prelude.{ℕ, ◌==◌, if◌then◌else◌, List, [], ◌∷◌, Option, None, Some}
use Rattle.std.specs.Option.{option_or}
use Rattle.zir_scope.specs.declared.bindings.Binding.{Binding}

-- names are below a number; a name may be bound more than once
pub record BindingsState : Type 0 where
  pub names : ℕ
  pub entries : List Binding

-- the value of the last binding of a list that has the name
unfoldable pub latest : List Binding → ℕ → Option ℕ
latest [] name = None
latest (b ∷ rest) name = option_or (latest rest name) (if b.name == name then Some b.value else None)
