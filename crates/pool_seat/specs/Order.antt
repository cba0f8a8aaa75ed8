-- In which order rows are moved.
use Rattle.std.specs.Prelude.{◌≡◌, ℕ, zero, suc, ◌<◌, ◌==◌, ◌||◌, ◌⊎◌, Bool, false, if◌then◌else◌, List, [], ◌∷◌, ◌++◌, length, map, slice_index, Some}
use Rattle.type_form.specs.declared.index.Index.{Index}
use Rattle.type_form.specs.Known.{Known, words_at}
use Rattle.type_form.specs.Words.{index_of}
use Rattle.type_form.specs.Roles.{role_at}
use Rattle.type_form.specs.Reach.{IsIndex}
use Rattle.type_form.specs.declared.roles.Role.TheVariants as role
use Rattle.pool_words.specs.Layout.{Row}
use Rattle.pool_shard.specs.Pairs.{Rows, known}
use Rattle.pool_seat.specs.Moves.{Pairs, IsNewKey}

-- what a new row is made of: an index, which is taken as a list of parts or as what it denotes
abbrev pub Source : Type 0
Source = Bool × ℕ

-- the lists that stand at the places below n, one behind the other
abbrev pub joined : (ℕ → List Source) → ℕ → List Source
joined parts zero = []
joined parts (suc n) = joined parts n ++ parts n

-- The sources in the tree of an index: each behind those that its key holds, and these from the left
pub data Listed (k : Known) : Bool → ℕ → List Source → Type 0 where
  Whole : (of_parts : Bool) (i kind : ℕ) (ws : List ℕ) (parts : ℕ → List Source)
      → words_at k (index_of i) ≡ Some (kind ∷ ws)
      → ((p : ℕ) (b : Bool) → p < length ws → IsIndex of_parts (role_at kind of_parts p) b → Listed k b (slice_index ws p) (parts p))
      → ((p : ℕ) → p < length ws → role_at kind of_parts p ≡ role.Number → parts p ≡ [])
      → Listed k of_parts i (joined parts (length ws) ++ (of_parts, i) ∷ [])

-- the trees of the live indices, one behind the other
abbrev pub AllListed : Known → List Index → List Source → Type 0
AllListed k [] sources = sources ≡ []
AllListed k (i ∷ live) sources =
    (a : List Source) × (b : List Source) × Listed k false i.0 a × AllListed k live b × (sources ≡ a ++ b)

-- The sources in the tree of an index that stand before one of them
pub data ListedUpTo (k : Known) (next : Source) : Bool → ℕ → List Source → Type 0 where
  Own : (of_parts : Bool) (i : ℕ) (done : List Source) → next ≡ (of_parts, i)
      → Listed k of_parts i (done ++ (of_parts, i) ∷ []) → ListedUpTo k next of_parts i done
  Inside : (of_parts : Bool) (i kind : ℕ) (ws : List ℕ) (parts : ℕ → List Source) (n : ℕ) (b : Bool) (done : List Source)
      → words_at k (index_of i) ≡ Some (kind ∷ ws)
      → ((p : ℕ) (c : Bool) → p < n → IsIndex of_parts (role_at kind of_parts p) c → Listed k c (slice_index ws p) (parts p))
      → ((p : ℕ) → p < n → role_at kind of_parts p ≡ role.Number → parts p ≡ [])
      → n < length ws → IsIndex of_parts (role_at kind of_parts n) b
      → ListedUpTo k next b (slice_index ws n) done
      → ListedUpTo k next of_parts i (joined parts n ++ done)

-- the same of the trees of the live indices, one behind the other
abbrev pub AllListedUpTo : Known → Source → List Index → List Source → Type 0
AllListedUpTo k next [] done = ⊥
AllListedUpTo k next (i ∷ live) done =
    ListedUpTo k next false i.0 done
    ⊎ ((a : List Source) × (b : List Source) × Listed k false i.0 a × AllListedUpTo k next live b × (done ≡ a ++ b))

-- the number stands in the list
abbrev pub is_among : List ℕ → ℕ → Bool
is_among [] n = false
is_among (m ∷ ms) n = m == n || is_among ms n

-- with a number behind those that are there, where it is none of them
abbrev pub added : List ℕ → ℕ → List ℕ
added there n = if is_among there n then there else there ++ n ∷ []

-- the same for each of some numbers, one after the other
abbrev pub adding : List ℕ → List ℕ → List ℕ
adding there [] = there
adding there (n ∷ ns) = adding (added there n) ns

-- the old indices, in the order in which they were moved
abbrev pub olds : Pairs → List ℕ
olds moved = map (λ (pair : Index × Index). (pair.0).0) moved

-- the places of the rows, in the order in which they became known
abbrev pub places : Rows → List ℕ
places p = map (λ (r : Row). r.0) p.view.log

-- the indices that stand for themselves. A list of parts has no pair of its own
abbrev pub with_pairs : List Source → List ℕ
with_pairs [] = []
with_pairs (source ∷ sources) = if source.0 then with_pairs sources else source.1 ∷ with_pairs sources

-- the row at a place has the new key of a source
pub record IsNewRow (k l : Known) (moved : Pairs) (source : Source) (place : ℕ) : Type 0 where
  pub key : List ℕ
  pub there : words_at l (index_of place) ≡ Some key
  pub new : IsNewKey k l moved source.0 source.1 key

abbrev pub AreNewRows : Known → Known → Pairs → List Source → List ℕ → Type 0
AreNewRows k l moved [] [] = Unit {0}
AreNewRows k l moved (source ∷ sources) (place ∷ more) =
    IsNewRow k l moved source place × AreNewRows k l moved sources more
AreNewRows k l moved _ _ = ⊥

-- Sources that were moved one after the other: behind the rows that were there stand their new rows,
-- each once, and behind the pairs those of the indices that have one, each once
pub record Adds (k : Known) (rows_before pairs_before : List ℕ) (p : Rows) (moved : Pairs)
    (sources : List Source) : Type 0 where
  pub new_places : List ℕ
  pub are : AreNewRows k (known p) moved sources new_places
  pub rows : places p ≡ adding rows_before new_places
  pub pairs : olds moved ≡ adding pairs_before (with_pairs sources)

-- the rows and the pairs are those of the trees of the live indices
pub record IsInOrder (k : Known) (live : List Index) (p : Rows) (moved : Pairs) : Type 0 where
  pub listing : List Source
  pub listed : AllListed k live listing
  pub adds : Adds k [] [] p moved listing
