-- The keys of a plain pool, and the map beside them.
use Rattle.std.specs.Prelude.{◌≡◌, ℕ, suc, ◌≤◌, List, [], ◌∷◌, length, Option, Some, slice_get, Vec}
use Rattle.std.specs.Ordering.{nat_cmp}
use Rattle.std.specs.Cmp.Lexicographic.{slice_cmp}
use Rattle.std.specs.BTreeMap.{BTreeMap, get_by}
use Rattle.std.specs.declared.alloc.Global.{Global}
use Rattle.type_form.specs.Known.{Known}
use Rattle.type_form.specs.Words.{index_of}

-- keys as pairs of index and key, from this number on
abbrev pub numbered : ℕ → List (List ℕ) → Known
numbered n [] = []
numbered n (row ∷ rows) = (index_of n, row) ∷ numbered (suc n) rows

-- the place of a key in the map
unfoldable pub place_in : BTreeMap (Vec ℕ Global) ℕ → List ℕ → Option ℕ
place_in places ws = get_by (λ k. slice_cmp nat_cmp ws k.items) places

-- the map has each key at its place, and no other; keys have at most 64 words
pub record Matches (places : BTreeMap (Vec ℕ Global) ℕ) (rows : List (List ℕ)) : Type 0 where
  pub found : (ws : List ℕ) (n : ℕ) → place_in places ws ≡ Some n → slice_get rows n ≡ Some ws
  pub placed : (ws : List ℕ) (n : ℕ) → slice_get rows n ≡ Some ws → place_in places ws ≡ Some n
  pub few : (ws : List ℕ) (n : ℕ) → slice_get rows n ≡ Some ws → length ws ≤ 64
