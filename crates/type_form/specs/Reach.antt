-- What indices reach.
use Rattle.std.specs.Prelude.{◌≡◌, ℕ, ◌<◌, Bool, true, false, List, ◌∷◌, length, slice_index, Some}
use Rattle.type_form.specs.declared.index.Index.{Index}
use Rattle.type_form.specs.Known.{Known, words_at}
use Rattle.type_form.specs.Words.{index_of}
use Rattle.type_form.specs.Roles.{role_at}
use Rattle.type_form.specs.declared.roles.Role.{Role}
use Rattle.type_form.specs.declared.roles.Role.TheVariants as role

-- A word of a key is the index of a part, or of a list of parts. The rest of a list is what the list is
abbrev pub IsIndex : Bool → Role → Bool → Type 0
IsIndex of_parts role.Number b = ⊥
IsIndex of_parts role.Part b = b ≡ false
IsIndex of_parts role.List b = b ≡ true
IsIndex of_parts role.Rest b = b ≡ of_parts

-- Some indices, and those in the keys at indices that they reach. One is reached as what it denotes, or as a list of parts, which are indices
pub data Reaches (k : Known) (IsLive : Index → Type 0) : Bool → ℕ → Type 0 where
  Live : (i : Index) → IsLive i → Reaches k IsLive false i.0
  Word : (of_parts : Bool) (i kind : ℕ) (ws : List ℕ) (p : ℕ) (b : Bool) → Reaches k IsLive of_parts i → words_at k (index_of i) ≡ Some (kind ∷ ws) → p < length ws → IsIndex of_parts (role_at kind of_parts p) b → Reaches k IsLive b (slice_index ws p)
