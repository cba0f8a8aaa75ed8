-- A map from names to their numbers.
use Rattle.std.specs.Str.{bytes_eq}
use Rattle.std.specs.Prelude.{◌≡◌, ℕ, List, Option, Some, None, if◌then◌else◌, Vec}
use Rattle.std.specs.Ordering.{nat_cmp}
use Rattle.std.specs.Cmp.Lexicographic.{slice_cmp}
use Rattle.std.specs.BTreeMap.{BTreeMap, get_by}
use Rattle.std.specs.declared.alloc.Global.{Global}
use Rattle.wasm_link.specs.Names.{number_of, stands_in}

-- the number of a name in the map
unfoldable pub place_in : BTreeMap (Vec ℕ Global) ℕ → List ℕ → Option ℕ
place_in places name = get_by (λ k. slice_cmp nat_cmp name k.items) places

-- the number of a name among names, where it stands there
abbrev pub number_in : List (List ℕ) → List ℕ → Option ℕ
number_in names name = if stands_in names name then Some (number_of names name) else None

-- a map with this number at a name, and else what it had
abbrev pub Enters : List ℕ → ℕ → BTreeMap (Vec ℕ Global) ℕ → BTreeMap (Vec ℕ Global) ℕ → Type 0
Enters name number old new =
    (other : List ℕ) → place_in new other ≡ (if bytes_eq name other then Some number else place_in old other)

-- the map has each name at its number, and no other
pub record AreNumbered (places : BTreeMap (Vec ℕ Global) ℕ) (names : List (List ℕ)) : Type 0 where
  pub placed : (name : List ℕ) → place_in places name ≡ number_in names name
