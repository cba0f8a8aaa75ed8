-- How the mover of rows goes on.
use Rattle.std.specs.Prelude.{◌≡◌, ℕ, zero, suc, ◌+◌, ◌*◌, ◌<◌, ◌⊎◌, max, Bool, true, false, if◌then◌else◌, List, [], ◌∷◌, ◌++◌, length, slice_index, IsSome, is_some, Some, unwrap_or}
use Rattle.type_form.specs.declared.index.Index.{Index}
use Rattle.type_form.specs.Known.{Known, words_at, Keeps}
use Rattle.type_form.specs.Words.{index_of}
use Rattle.type_form.specs.Roles.{role_at}
use Rattle.type_form.specs.Denote.{reading, denoted, list_in}
use Rattle.pool_words.specs.Rule.{In}
use Rattle.pool_shard.specs.Pairs.{Rows, known, ArePlaced}
use Rattle.pool_seat.specs.Reach.{Reached}
use Rattle.pool_seat.specs.Moves.{IsSame, Pairs, IsMoved, IsListMoved, IsNewKey, HasMoved, IsRefused, SameRows}
use Rattle.pool_seat.specs.Order.{Source, joined, Listed, AllListed, ListedUpTo, AllListedUpTo, added, adding, olds, places, with_pairs, IsNewRow, AreNewRows, Adds}
use Rattle.type_form.specs.declared.roles.Role.{Role}
use Rattle.type_form.specs.declared.roles.Role.TheVariants as role
use Rattle.pool_seat.specs.declared.mover.Mover.{Mover}
use Rattle.pool_seat.specs.declared.mover.Stop.{Stop}
use Rattle.pool_seat.specs.declared.mover.Stop.TheVariants.{Full, OutOfMemory}

-- each number is an index that denotes something
abbrev pub AllDenote : Known → List ℕ → Type 0
AllDenote k ns = (n : ℕ) → In n ns → IsSome (denoted k (index_of n))

-- what an index needs to be moved: that it denotes something, and as a list of parts, that these do
abbrev pub Needs : Known → Bool → ℕ → Type 0
Needs k false i = IsSome (denoted k (index_of i))
Needs k true i = (ns : List ℕ) × (list_in (denoted k) (index_of i) ≡ Some ns) × AllDenote k ns

-- what a word of a key needs
abbrev pub WordNeeds : Known → Role → ℕ → Type 0
WordNeeds k role.Number w = Unit {0}
WordNeeds k role.Part w = Needs k false w
WordNeeds k role.List w = Needs k true w
WordNeeds k role.Rest w = Unit {0}

-- where its indices were reached
abbrev pub WordReached : Known → List Index → Role → ℕ → Type 0
WordReached k live role.Number w = Unit {0}
WordReached k live role.Part w = Reached k live false w
WordReached k live role.List w = Reached k live true w
WordReached k live role.Rest w = Unit {0}

-- the first number below n that passes a test, or n
abbrev pub lowest : (ℕ → Bool) → ℕ → ℕ
lowest test zero = zero
lowest test (suc n) = if test zero then zero else suc (lowest (λ m. test (suc m)) n)

-- how deep keys have to be followed from an index
unfoldable pub height : Known → ℕ → ℕ
height k i = lowest (λ n. is_some (reading n k (index_of i))) (length k + 1)

-- the greatest of numbers
abbrev pub greatest : (ℕ → ℕ) → List ℕ → ℕ
greatest f [] = 0
greatest f (n ∷ ns) = max (f n) (greatest f ns)

-- how much is left to do where an index is moved
unfoldable pub work : Known → Bool → ℕ → ℕ
work k false i = 2 * height k i
work k true i = 2 * greatest (height k) (unwrap_or (list_in (denoted k) (index_of i)) []) + 1

-- the same for a word of a key
abbrev pub word_work : Known → Role → ℕ → ℕ
word_work k role.Number w = 0
word_work k role.Part w = 4 * work k false w + 4
word_work k role.List w = 4 * work k true w + 4
word_work k role.Rest w = 0

-- from an index on, these are the parts of a list that have a rest, and the last rest is at another index
abbrev pub IsChain : Known → ℕ → List ℕ → ℕ → Type 0
IsChain k i [] e = i ≡ e
IsChain k i (c ∷ cs) e = (i ≡ c) × (x : ℕ) × (ns : List ℕ) × (words_at k (index_of c) ≡ Some (37 ∷ x ∷ ns)) × IsChain k x cs e

-- what became of a word of a key whose rest, if it has one, became this
abbrev pub WordBecomes : Mover → Role → ℕ → ℕ → ℕ → Type 0
WordBecomes m role.Number rest w v = v ≡ w
WordBecomes m role.Part rest w v = IsMoved m.moved.items w v
WordBecomes m role.List rest w v = IsListMoved (known m.from) (known m.to) m.moved.items w v
WordBecomes m role.Rest rest w v = v ≡ rest

-- the row at an index denotes what another denoted, or lists what its parts were moved to
abbrev pub RowMeans : Mover → Bool → ℕ → ℕ → Type 0
RowMeans m false i j = IsSame (known m.from) (known m.to) i j
RowMeans m true i j = IsListMoved (known m.from) (known m.to) m.moved.items i j

-- the new row of an index
pub record HasRow (m : Mover) (of_parts : Bool) (i j : ℕ) : Type 0 where
  pub row : IsNewRow (known m.from) (known m.to) m.moved.items (of_parts, i) j
  pub means : RowMeans m of_parts i j

-- what every step keeps: the old rows, and all that was moved
pub record Later (m n : Mover) : Type 0 where
  pub from : SameRows m.from n.from
  pub live : n.live ≡ m.live
  pub layout : n.to.view.layout ≡ m.to.view.layout
  pub keeps : Keeps (known m.to) (known n.to)
  pub long : length n.table.items ≡ length m.table.items
  pub moved : (i j : ℕ) → IsMoved m.moved.items i j → IsMoved n.moved.items i j

-- nothing was moved
pub record SameNew (m n : Mover) : Type 0 where
  pub to : n.to ≡ m.to
  pub moved : n.moved.items ≡ m.moved.items

-- ---- what was moved

-- some sources were moved
pub record HasAll (k : Known) (p : Rows) (moved : Pairs) (sources : List Source) : Type 0 where
  pub new_places : List ℕ
  pub are : AreNewRows k (known p) moved sources new_places
  pub pairs : (n : ℕ) → In n (with_pairs sources) → In n (olds moved)

-- the tree of an index was moved
pub record HasTree (k : Known) (p : Rows) (moved : Pairs) (of_parts : Bool) (i : ℕ) : Type 0 where
  pub listing : List Source
  pub listed : Listed k of_parts i listing
  pub has : HasAll k p moved listing

-- the same but for the index itself
pub record HasParts (k : Known) (p : Rows) (moved : Pairs) (of_parts : Bool) (i : ℕ) : Type 0 where
  pub listing : List Source
  pub listed : Listed k of_parts i (listing ++ (of_parts, i) ∷ [])
  pub has : HasAll k p moved listing

-- ---- what a step moves

-- some sources, one after the other
abbrev pub Moves : Known → Mover → Mover → List Source → Type 0
Moves k m n sources = Adds k (places m.to) (olds m.moved.items) n.to n.moved.items sources

-- the tree of an index
pub record MovesTree (k : Known) (of_parts : Bool) (i : ℕ) (m n : Mover) : Type 0 where
  pub listing : List Source
  pub listed : Listed k of_parts i listing
  pub moves : Moves k m n listing

-- the same for a word of a key. The rest of a list was moved before
abbrev pub WordMoved : Known → Role → ℕ → Mover → Mover → Type 0
WordMoved k role.Number w m n = Moves k m n []
WordMoved k role.Part w m n = MovesTree k false w m n
WordMoved k role.List w m n = MovesTree k true w m n
WordMoved k role.Rest w m n = Moves k m n []

-- a word is the index of a part or of a list of parts, and no rest
abbrev pub IsInner : Role → Bool → Type 0
IsInner role.Number b = ⊥
IsInner role.Part b = b ≡ false
IsInner role.List b = b ≡ true
IsInner role.Rest b = ⊥

-- the trees of the first n words behind the kind of a key, but for its rest
pub record Front (k : Known) (of_parts : Bool) (kind : ℕ) (ws : List ℕ) (n : ℕ) (sources : List Source) : Type 0 where
  pub parts : ℕ → List Source
  pub each : (p : ℕ) (b : Bool) → p < n → IsInner (role_at kind of_parts p) b → Listed k b (slice_index ws p) (parts p)
  pub none : (p : ℕ) → p < n → ((b : Bool) → IsInner (role_at kind of_parts p) b → ⊥) → parts p ≡ []
  pub whole : sources ≡ joined parts n

-- the first n words
pub record MovesFront (k : Known) (of_parts : Bool) (kind : ℕ) (ws : List ℕ) (n : ℕ) (m o : Mover) : Type 0 where
  pub sources : List Source
  pub front : Front k of_parts kind ws n sources
  pub moves : Moves k m o sources

-- all words behind the kind of the key at an index
pub record InKey (k : Known) (of_parts : Bool) (i : ℕ) (sources : List Source) : Type 0 where
  pub kind : ℕ
  pub ws : List ℕ
  pub words : words_at k (index_of i) ≡ Some (kind ∷ ws)
  pub front : Front k of_parts kind ws (length ws) sources

-- what the key at an index holds but for its rest, and then its row, which has no pair yet
pub record MovesRow (k : Known) (of_parts : Bool) (i : ℕ) (m n : Mover) (j : ℕ) : Type 0 where
  pub sources : List Source
  pub inner : InKey k of_parts i sources
  pub new_places : List ℕ
  pub are : AreNewRows k (known n.to) n.moved.items sources new_places
  pub rows : places n.to ≡ added (adding (places m.to) new_places) j
  pub pairs : olds n.moved.items ≡ adding (olds m.moved.items) (with_pairs sources)

-- with its pair
pub record MovesKey (k : Known) (of_parts : Bool) (i : ℕ) (m n : Mover) : Type 0 where
  pub sources : List Source
  pub inner : InKey k of_parts i sources
  pub moves : Moves k m n (sources ++ (of_parts, i) ∷ [])

-- the trees of some indices
pub record MovesAll (k : Known) (live : List Index) (m n : Mover) : Type 0 where
  pub listing : List Source
  pub listed : AllListed k live listing
  pub moves : Moves k m n listing

-- ---- where no more is moved

-- some sources, but not the next one, whose new key its shard doesn't take
pub record StopsAt (k : Known) (m n : Mover) (shard : ℕ) (done : List Source) (next : Source) : Type 0 where
  pub moves : Moves k m n done
  pub key : List ℕ
  pub new : IsNewKey k (known n.to) n.moved.items next.0 next.1 key
  pub refused : IsRefused n.to key shard

-- in the tree of an index
pub record StopsInTree (k : Known) (of_parts : Bool) (i : ℕ) (m n : Mover) (shard : ℕ) : Type 0 where
  pub done : List Source
  pub next : Source
  pub before : ListedUpTo k next of_parts i done
  pub at : StopsAt k m n shard done next

abbrev pub IsStopInTree : Known → Bool → ℕ → Mover → Mover → Stop → Type 0
IsStopInTree k of_parts i m n (Full s) = StopsInTree k of_parts i m n s
IsStopInTree k of_parts i m n OutOfMemory = Unit {0}

-- in the tree of a word of a key
abbrev pub IsStopInWord : Known → Role → ℕ → Mover → Mover → Stop → Type 0
IsStopInWord k role.Number w m n e = ⊥
IsStopInWord k role.Part w m n e = IsStopInTree k false w m n e
IsStopInWord k role.List w m n e = IsStopInTree k true w m n e
IsStopInWord k role.Rest w m n e = ⊥

-- what the key at an index holds but for its rest, up to a source: in the tree of the word behind the first n, or the index itself
pub record InKeyUpTo (k : Known) (of_parts : Bool) (i : ℕ) (done : List Source) (next : Source) : Type 0 where
  pub kind : ℕ
  pub ws : List ℕ
  pub words : words_at k (index_of i) ≡ Some (kind ∷ ws)
  pub n : ℕ
  pub sources : List Source
  pub front : Front k of_parts kind ws n sources
  pub way : ((n ≡ length ws) × (next ≡ (of_parts, i)) × (done ≡ sources))
      ⊎ ((n < length ws) × (b : Bool) × (inner : List Source) × IsInner (role_at kind of_parts n) b × ListedUpTo k next b (slice_index ws n) inner × (done ≡ sources ++ inner))

pub record StopsInKey (k : Known) (of_parts : Bool) (i : ℕ) (m n : Mover) (shard : ℕ) : Type 0 where
  pub done : List Source
  pub next : Source
  pub before : InKeyUpTo k of_parts i done next
  pub at : StopsAt k m n shard done next

abbrev pub IsStopInKey : Known → Bool → ℕ → Mover → Mover → Stop → Type 0
IsStopInKey k of_parts i m n (Full s) = StopsInKey k of_parts i m n s
IsStopInKey k of_parts i m n OutOfMemory = Unit {0}

-- in the trees of some indices
pub record StopsInAll (k : Known) (live : List Index) (m n : Mover) (shard : ℕ) : Type 0 where
  pub done : List Source
  pub next : Source
  pub before : AllListedUpTo k next live done
  pub at : StopsAt k m n shard done next

abbrev pub IsStopInAll : Known → List Index → Mover → Mover → Stop → Type 0
IsStopInAll k live m n (Full s) = StopsInAll k live m n s
IsStopInAll k live m n OutOfMemory = Unit {0}

-- a new key's shard doesn't take it
abbrev pub IsStopAtKey : Mover → List ℕ → Stop → Type 0
IsStopAtKey m key (Full s) = IsRefused m.to key s
IsStopAtKey m key OutOfMemory = ⊥

-- ---- at every moment

-- the table has a place for each index, and at each that was moved its new index plus 1. The tree of each that was moved was moved
pub record IsMover (m : Mover) : Type 0 where
  pub has : HasMoved (known m.from) m.live.now m.to m.moved.items
  pub placed : ArePlaced m.to.view.layout m.to.view.log
  pub inside : (i : Index) → IsSome (words_at (known m.from) i) → i.0 < length m.table.items
  pub listed : (i j : ℕ) → slice_index m.table.items i ≡ suc j → IsMoved m.moved.items i j
  pub entered : (i j : Index) → In (i, j) m.moved.items → slice_index m.table.items i.0 ≡ suc j.0
  pub trees : (i j : ℕ) → IsMoved m.moved.items i j → HasTree (known m.from) m.to m.moved.items false i
