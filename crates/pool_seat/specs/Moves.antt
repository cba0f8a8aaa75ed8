-- What is moved from one pool to another, and that it stays the same.
use Rattle.std.specs.Prelude.{◌≡◌, ℕ, ◌<◌, Bool, true, false, List, [], ◌∷◌, length, slice_index, Some}
use Rattle.type_form.specs.declared.index.Index.{Index}
use Rattle.type_form.specs.Means.{IsTy, ty_at, DenotesTy, IsValue, value_at, DenotesValue, IsDecl, decl_at, DenotesDecl, IsInstance, instance_at, DenotesInstance, IsList, list_at, DenotesList}
use Rattle.type_form.specs.Known.{Known, words_at, IsInjective}
use Rattle.type_form.specs.Words.{index_of}
use Rattle.type_form.specs.Denote.{Node, denoted, list_in}
use Rattle.pool_words.specs.Layout.{Row, shard_of, IsLayout}
use Rattle.pool_words.specs.Rule.{In}
use Rattle.pool_shard.specs.Pairs.{Rows, known, HasNot, IsAtNumbers, ArePlaced}
use Rattle.type_form.specs.Roles.{role_at}
use Rattle.pool_seat.specs.Reach.{Reached}
use Rattle.type_form.specs.declared.roles.Role.{Role}
use Rattle.type_form.specs.declared.roles.Role.TheVariants as role

-- an index that denotes something in one list of pairs, and an index that denotes the same in another
pub record IsSame (k l : Known) (i j : ℕ) : Type 0 where
  pub node : Node
  pub before : denoted k (index_of i) ≡ Some node
  pub after : denoted l (index_of j) ≡ Some node

-- the old and the new indices
abbrev pub Pairs : Type 0
Pairs = List (Index × Index)

-- an index was moved to another
abbrev pub IsMoved : Pairs → ℕ → ℕ → Type 0
IsMoved moved i j = In (index_of i, index_of j) moved

-- each was moved to the one at its place
abbrev pub AreMoved : Pairs → List ℕ → List ℕ → Type 0
AreMoved moved [] [] = Unit {0}
AreMoved moved (n ∷ ns) (m ∷ ms) = IsMoved moved n m × AreMoved moved ns ms
AreMoved moved _ _ = ⊥

-- the list of parts at an index, and a list of what these were moved to
pub record IsListMoved (k l : Known) (moved : Pairs) (i j : ℕ) : Type 0 where
  pub parts : List ℕ
  pub before : list_in (denoted k) (index_of i) ≡ Some parts
  pub new_parts : List ℕ
  pub after : list_in (denoted l) (index_of j) ≡ Some new_parts
  pub are : AreMoved moved parts new_parts

-- what became of an index, or of a list of parts
abbrev pub Becomes : Known → Known → Pairs → Bool → ℕ → ℕ → Type 0
Becomes k l moved false i j = IsMoved moved i j
Becomes k l moved true i j = IsListMoved k l moved i j

-- what became of a word of a key
abbrev pub WordMoves : Known → Known → Pairs → Bool → Role → ℕ → ℕ → Type 0
WordMoves k l moved of_parts role.Number w v = v ≡ w
WordMoves k l moved of_parts role.Part w v = IsMoved moved w v
WordMoves k l moved of_parts role.List w v = IsListMoved k l moved w v
WordMoves k l moved of_parts role.Rest w v = Becomes k l moved of_parts w v

-- the key at an index, with what its words became
pub record IsNewKey (k l : Known) (moved : Pairs) (of_parts : Bool) (i : ℕ) (new : List ℕ) : Type 0 where
  pub kind : ℕ
  pub old_words : List ℕ
  pub new_words : List ℕ
  pub before : words_at k (index_of i) ≡ Some (kind ∷ old_words)
  pub after : new ≡ kind ∷ new_words
  pub as_long : length new_words ≡ length old_words
  pub words : (p : ℕ) → p < length old_words → WordMoves k l moved of_parts (role_at kind of_parts p) (slice_index old_words p) (slice_index new_words p)

-- no two rows have one key
abbrev pub AreApart : List Row → Type 0
AreApart [] = Unit {0}
AreApart (r ∷ log) = HasNot log r.1 × AreApart log

-- Of the pairs so far each was reached, denotes the same, and has the new key. Each new row is the new key of what was reached, and the rows have different keys
pub record HasMoved (k : Known) (live : List Index) (p : Rows) (moved : Pairs) : Type 0 where
  pub same : (i j : ℕ) → IsMoved moved i j → IsSame k (known p) i j
  pub reached : (i j : ℕ) → IsMoved moved i j → Reached k live false i
  pub keys : (i j : ℕ) → IsMoved moved i j → (key : List ℕ) × (words_at (known p) (index_of j) ≡ Some key) × IsNewKey k (known p) moved false i key
  pub rows : (r : Row) → In r p.view.log → (of_parts : Bool) × (i : ℕ) × Reached k live of_parts i × IsNewKey k (known p) moved of_parts i r.1
  pub apart : AreApart p.view.log
  pub injective : IsInjective (known p)

-- a key that its shard doesn't take: the shard's rows are at the numbers, and it is none of them
pub record IsRefused (p : Rows) (key : List ℕ) (shard : ℕ) : Type 0 where
  pub place : shard ≡ shard_of p.view.layout key
  pub numbers : IsAtNumbers p.view.layout p.view.log shard (length key)
  pub absent : (i : Index) → words_at (known p) i ≡ Some key → ⊥

-- all was moved: each index that is reached, and to one index alone
pub record IsRehomed (k : Known) (live : List Index) (p : Rows) (moved : Pairs) : Type 0 where
  pub has : HasMoved k live p moved
  pub whole : (i : ℕ) → Reached k live false i → (j : ℕ) × IsMoved moved i j
  pub once : (i j n : ℕ) → IsMoved moved i j → IsMoved moved i n → j ≡ n

-- a pool of so many shards and words, whose rows are such as it takes from its opening on
pub record IsOpened (shards words : ℕ) (p : Rows) : Type 0 where
  pub laid : IsLayout p.view.layout
  pub placed : ArePlaced p.view.layout p.view.log
  pub shards_are : p.view.layout.shards ≡ shards
  pub words_are : p.view.layout.words ≡ words

-- the old rows are what they were
pub record SameRows (p q : Rows) : Type 0 where
  pub id : q.id ≡ p.id
  pub layout : q.view.layout ≡ p.view.layout
  pub log : q.view.log ≡ p.view.log

-- ---- what denotes the same is the same type, value, declaration, instance or list of numbers

abbrev pub SameTypes : Type 0
SameTypes = (k l : Known) (i j : ℕ) → IsSame k l i j → IsTy k (index_of i) → DenotesTy l (index_of j) (ty_at k (index_of i))

abbrev pub SameValues : Type 0
SameValues = (k l : Known) (i j : ℕ) → IsSame k l i j → IsValue k (index_of i) → DenotesValue l (index_of j) (value_at k (index_of i))

abbrev pub SameDeclarations : Type 0
SameDeclarations = (k l : Known) (i j : ℕ) → IsSame k l i j → IsDecl k (index_of i) → DenotesDecl l (index_of j) (decl_at k (index_of i))

abbrev pub SameInstances : Type 0
SameInstances = (k l : Known) (i j : ℕ) → IsSame k l i j → IsInstance k (index_of i) → DenotesInstance l (index_of j) (instance_at k (index_of i))

abbrev pub SameLists : Type 0
SameLists = (k l : Known) (i j : ℕ) → IsSame k l i j → IsList k (index_of i) → DenotesList l (index_of j) (list_at k (index_of i))
