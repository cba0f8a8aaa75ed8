-- What a seat knows: the pool as it was at its last step. A seat that has the writer's part of a shard knows that shard as it is.
use Rattle.std.specs.Prelude.{◌≡◌, ◌≢◌, ℕ, zero, suc, ◌+◌, ◌<◌, ◌≤◌, nat_lt, if◌then◌else◌, List, [], ◌∷◌, ◌++◌, length, take, drop, replicate, slice_index, slice_set}
use mathlib.Core.Option.{some}
use lib.ListN.{get_elem?}
use Rattle.atomic_table.specs.Table.{State, Me, Step}
use Rattle.pool_words.specs.declared.view.Layout.{Layout}
use Rattle.pool_words.specs.declared.view.View.{View}
use Rattle.pool_words.specs.Layout.{Row, window, width, half, level_at, spot, used, shard_of, base, start, rows_of, head, level, IsLayout}
use Rattle.pool_words.specs.Rule.{In, HasRows, IsPool, Extends, Earlier, Same}

-- the numbers below n
abbrev pub below : ℕ → List ℕ
below zero = []
below (suc n) = n ∷ below n

-- the first seat knows the empty pool, and has the writer's part of each shard
abbrev pub first_view : Layout → View
first_view z = record { layout = z; words = replicate z.words 0; log = []; writes = below z.shards; told = [] }

-- what a seat knows of a pool with these words and this log
pub record Knows (z : Layout) (ws : List ℕ) (log : List Row) (v : View) : Type 0 where
  pub layout : v.layout ≡ z
  pub pool : IsPool z v.words v.log
  pub earlier : Earlier z v.words v.log ws log
  pub owns : (s : ℕ) → In s v.writes → Same z s v.words v.log ws log
  pub told : Extends v.told log

abbrev pub Seats : Type 0
Seats = List View

-- each number is above all that come after it
abbrev pub Falls : List ℕ → Type 0
Falls [] = Unit {0}
Falls (s ∷ ss) = ((t : ℕ) → In t ss → t < s) × Falls ss

-- exactly one seat has the writer's part of a shard. Each view lists its shards from the last to the first
pub record IsShared (z : Layout) (views : Seats) : Type 0 where
  pub falling : (id : ℕ) (v : View) → get_elem? views id ≡ some v → Falls v.writes
  pub in_range : (id : ℕ) (v : View) (s : ℕ) → get_elem? views id ≡ some v → In s v.writes → s < z.shards
  pub alone : (id id' : ℕ) (v v' : View) (s : ℕ) → get_elem? views id ≡ some v → get_elem? views id' ≡ some v' → In s v.writes → In s v'.writes → id ≡ id'
  pub owned : (s : ℕ) → s < z.shards → (id : ℕ) × (v : View) × (get_elem? views id ≡ some v) × In s v.writes

-- it was not spent by a join
abbrev pub IsLive : View → Type 0
IsLive v = 0 < v.layout.shards

-- the rule
pub record Holds {S : Type 0} (z : Layout) (st : State S View) : Type 0 where
  pub log : List Row
  pub laid : IsLayout z
  pub pool : IsPool z st.words log
  pub known : (id : ℕ) (v : View) → get_elem? st.views id ≡ some v → IsLive v → Knows z st.words log v
  pub shared : IsShared z st.views

-- what a step tells its seat: the pool as it then is, in which the seat's own shards have these words and rows
pub record Moves (v : View) (ws : List ℕ) (log : List Row) (w : View) : Type 0 where
  pub layout : w.layout ≡ v.layout
  pub writes : w.writes ≡ v.writes
  pub laid : IsLayout v.layout
  pub pool : IsPool v.layout w.words w.log
  pub later : Earlier v.layout v.words v.log w.words w.log
  pub owns : (s : ℕ) → In s v.writes → Same v.layout s ws log w.words w.log
  pub heard : Extends v.told w.log
  pub told : w.told ≡ []

-- the seat was shown the pool
abbrev pub Shown : View → View → Type 0
Shown v w = Moves v v.words v.log w

-- a word that is the seat's alone: one behind the rows of a shard whose writer's part it has
pub record IsPrivate (v : View) (i : ℕ) : Type 0 where
  pub shard : ℕ
  pub ours : In shard v.writes
  pub above : base v.layout shard + (start v.layout + used (rows_of v.layout shard v.log)) ≤ i
  pub inside : i < base v.layout shard + v.layout.size

-- The row lies whole behind the rows of its shard, its key is none of theirs, and the word is the first slot of the live level that is 0 in the key's circle, in which one more row may stand
pub record IsFree (z : Layout) (ws : List ℕ) (log : List Row) (word : ℕ) (r : Row) : Type 0 where
  pub some : 0 < length r.1
  pub few : length r.1 ≤ 64
  pub behind : r.0 ≡ base z (shard_of z r.1) + (start z + used (rows_of z (shard_of z r.1) log))
  pub room : start z + used (rows_of z (shard_of z r.1) log) + (length r.1 + 1) ≤ z.size
  pub whole : window ws r.0 (suc (length r.1)) ≡ length r.1 ∷ r.1
  pub few_rows : length (rows_of z (shard_of z r.1) log) < half (head z ws (shard_of z r.1))
  pub far : ℕ
  pub within : far < width (head z ws (shard_of z r.1))
  pub slot : word ≡ base z (shard_of z r.1) + (level_at (head z ws (shard_of z r.1)) + spot r.1 (head z ws (shard_of z r.1)) far)
  pub free : slice_index (level z ws (shard_of z r.1) (head z ws (shard_of z r.1))) (spot r.1 (head z ws (shard_of z r.1)) far) ≡ 0
  pub run : (d : ℕ) → d < far → slice_index (level z ws (shard_of z r.1) (head z ws (shard_of z r.1))) (spot r.1 (head z ws (shard_of z r.1)) d) ≢ 0
  pub new : (i : ℕ) → In (i, r.1) (rows_of z (shard_of z r.1) log) → ⊥

-- the row can be published by the seat in the word
pub record IsReady (v : View) (word : ℕ) (r : Row) : Type 0 where
  pub ours : In (shard_of v.layout r.1) v.writes
  pub free : IsFree v.layout v.words v.log word r

-- The first n rows of the shard stand in the level after the live one, h, and the word is the first slot of that level that is 0 in the next row's circle
pub record IsNext (z : Layout) (ws : List ℕ) (log : List Row) (s h n word : ℕ) (r : Row) : Type 0 where
  pub live : head z ws s ≡ h
  pub below_top : h < z.top
  pub filled : HasRows (level z ws s (suc h)) (suc h) (take n (rows_of z s log))
  pub left : n < length (rows_of z s log)
  pub next : take (suc n) (rows_of z s log) ≡ take n (rows_of z s log) ++ r ∷ []
  pub far : ℕ
  pub within : far < width (suc h)
  pub slot : word ≡ base z s + (level_at (suc h) + spot r.1 (suc h) far)
  pub free : slice_index (level z ws s (suc h)) (spot r.1 (suc h) far) ≡ 0
  pub run : (d : ℕ) → d < far → slice_index (level z ws s (suc h)) (spot r.1 (suc h) d) ≢ 0

-- the seat can fill the word with this number, by which one more row of a shard of its own stands in the level after the live one
pub record CanFill (v : View) (word value : ℕ) : Type 0 where
  pub shard : ℕ
  pub ours : In shard v.writes
  pub head_is : ℕ
  pub done : ℕ
  pub row : Row
  pub next : IsNext v.layout v.words v.log shard head_is done word row
  pub is : value ≡ row.0 + 1

-- every row of the shard stands in the level after the live one, h, of whose slots they take half
pub record IsFull (z : Layout) (ws : List ℕ) (log : List Row) (s h : ℕ) : Type 0 where
  pub live : head z ws s ≡ h
  pub below_top : h < z.top
  pub filled : HasRows (level z ws s (suc h)) (suc h) (rows_of z s log)
  pub many : half h ≤ length (rows_of z s log)

-- the seat can move the head, which is the word, of a shard of its own to this level
pub record CanMove (v : View) (word value : ℕ) : Type 0 where
  pub shard : ℕ
  pub ours : In shard v.writes
  pub head_is : ℕ
  pub full : IsFull v.layout v.words v.log shard head_is
  pub at : word ≡ base v.layout shard
  pub is : value ≡ suc head_is

-- a load tells the word of the pool that it shows, and the order in which the seat's shards are listed
abbrev pub loaded : {S : Type 0} → Step S → Me S View → ℕ → Me S View → Type 0
loaded st m n m' = Shown m.0 m'.0 × (n ≡ slice_index m'.0.words st.word) × (m'.1 ≡ m.1) × Falls m'.0.writes

-- a store of a word of the seat's own shards, by which no row becomes known
abbrev pub stored : {S : Type 0} → Step S → Me S View → ℕ → Me S View → Type 0
stored st m n m' = Moves m.0 (slice_set m.0.words st.word st.first) m.0.log m'.0 × (m'.1 ≡ m.1)

-- a store in a slot of the live level, by which a row becomes known
abbrev pub published : {S : Type 0} → Step S → Me S View → ℕ → Me S View → Type 0
published st m n m' =
    ((r : Row) → IsReady m.0 st.word r → st.first ≡ r.0 + 1 → Moves m.0 (slice_set m.0.words st.word st.first) (m.0.log ++ r ∷ []) m'.0) × (m'.1 ≡ m.1)

-- a view that has no writer's part
abbrev pub reader : View → View
reader v = record { layout = v.layout; words = v.words; log = v.log; writes = []; told = v.told }

abbrev pub first_of : List ℕ → List ℕ
first_of [] = []
first_of (s ∷ ss) = s ∷ []

abbrev pub others_of : List ℕ → List ℕ
others_of [] = []
others_of (s ∷ ss) = ss

-- a view that has the first of the writer's parts, and one that has the others
abbrev pub with_first : View → View
with_first v = record { layout = v.layout; words = v.words; log = v.log; writes = first_of v.writes; told = v.told }

abbrev pub with_others : View → View
with_others v = record { layout = v.layout; words = v.words; log = v.log; writes = others_of v.writes; told = v.told }

-- a view that was told of what another one knew
abbrev pub informed : View → View → View
informed v w = record { layout = v.layout; words = v.words; log = v.log; writes = v.writes; told = w.log }

-- words in which a shard is as it is in others
abbrev pub patched : Layout → List ℕ → List ℕ → ℕ → List ℕ
patched z ws us s = take (base z s) ws ++ (window us (base z s) z.size ++ drop (base z s + z.size) ws)

-- a falling list with one number more
abbrev pub put_in : ℕ → List ℕ → List ℕ
put_in s [] = s ∷ []
put_in s (t ∷ ts) = if nat_lt t s then s ∷ t ∷ ts else t ∷ put_in s ts

-- the one shard whose writer's part a view has
abbrev pub own_shard : View → ℕ
own_shard v = slice_index v.writes 0

-- a view that took over the writer's part of another one, and with it that shard as it is
abbrev pub gathered : View → View → View
gathered v w = record { layout = v.layout; words = patched v.layout v.words w.words (own_shard w); log = v.log; writes = put_in (own_shard w) v.writes; told = w.log }

-- a view with one shard, whose rows in the log of v are those that it knows
pub record CanGather (v w : View) : Type 0 where
  pub one : w.writes ≡ own_shard w ∷ []
  pub rows : rows_of v.layout (own_shard w) v.log ≡ rows_of v.layout (own_shard w) w.log

-- what is left of a view that was joined
abbrev pub spent_view : View
spent_view = record { layout = record { shards = 0; size = 0; top = 0; words = 0 }; words = []; log = []; writes = []; told = [] }
