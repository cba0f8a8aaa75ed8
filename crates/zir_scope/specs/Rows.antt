-- The table of newest bindings, and what each binding hid, against the list of bindings.
use Rattle.std.specs.Prelude.{◌≡◌, ℕ, ◌<◌, List, [], ◌∷◌, ◌++◌, length, slice_index_or, Option, None}
use Rattle.zir_scope.specs.declared.bindings.Binding.{Binding}
use Rattle.zir_scope.specs.declared.bindings.Row.{Row}
use Rattle.zir_scope.specs.Bindings.{latest}

-- the bindings of the rows
abbrev pub bindings_of : List Row → List Binding
bindings_of [] = []
bindings_of (r ∷ rest) = r.binding ∷ bindings_of rest

-- each row has a name below the number, and keeps what its name was bound to by those before it
abbrev pub Hide : ℕ → List Binding → List Row → Type 0
Hide names before [] = Unit {0}
Hide names before (r ∷ rest) = (r.binding.name < names) × (r.hidden ≡ latest before r.binding.name) × Hide names (before ++ r.binding ∷ []) rest

-- the table has what each name is bound to last
pub record Agrees (newest : List (Option ℕ)) (rows : List Row) : Type 0 where
  pub last : (name : ℕ) → slice_index_or newest name None ≡ latest (bindings_of rows) name
  pub hide : Hide (length newest) [] rows
