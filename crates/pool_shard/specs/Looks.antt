-- What the calls on a seat need and keep.
use Rattle.std.specs.Prelude.{◌≡◌, ◌≢◌, ℕ, suc, ◌+◌, ◌<◌, ◌≤◌, List, [], ◌∷◌, ◌++◌, length, take, slice_index}
use Rattle.atomic_table.specs.Seated.{TableId}
use Rattle.atomic_table.specs.declared.shared.Seat.{Seat}
use Rattle.pool_words.specs.declared.view.Layout.{Layout}
use Rattle.pool_words.specs.declared.view.View.{View}
use Rattle.pool_words.specs.Layout.{Row, width, half, spot, level_at, base, used, rows_of, head, level, IsLayout}
use Rattle.pool_words.specs.Rule.{In, HasRows, IsPool, Earlier}
use Rattle.pool_words.specs.Views.{Falls, below}
pub use Rattle.pool_shard.specs.Pairs.{HasNot}
use Rattle.pool_shard.specs.Pairs.{PoolId}

-- a seat at a table of this layout
pub record IsSeat {S : Type 0} (z : Layout) (t : TableId) (q : Seat S View) : Type 0 where
  pub of : q.table_id ≡ t
  pub wide : t.words ≡ z.words
  pub layout : q.me.0.layout ≡ z
  pub laid : IsLayout z
  pub pool : IsPool z q.me.0.words q.me.0.log

-- Steps that publish no row of the seat and fill no slot: in the shards whose writer it is, the head, the levels and the rows stay
pub record Keeps (v w : View) : Type 0 where
  pub layout : w.layout ≡ v.layout
  pub writes : w.writes ≡ v.writes
  pub later : Earlier v.layout v.words v.log w.words w.log
  pub heads : (s : ℕ) → In s v.writes → head v.layout w.words s ≡ head v.layout v.words s
  pub levels : (s k : ℕ) → In s v.writes → k ≤ v.layout.top → level v.layout w.words s k ≡ level v.layout v.words s k
  pub rows : (s : ℕ) → In s v.writes → rows_of v.layout s w.log ≡ rows_of v.layout s v.log

-- the slot after so many others in the key's circle is the first that is 0
pub record IsSpot (slots : List ℕ) (k : ℕ) (key : List ℕ) (far : ℕ) : Type 0 where
  pub within : far < width k
  pub free : slice_index slots (spot key k far) ≡ 0
  pub run : (d : ℕ) → d < far → slice_index slots (spot key k d) ≢ 0

-- a slot of the key's circle has the row of another key
pub record IsPassed (slots : List ℕ) (k : ℕ) (key : List ℕ) (log : List Row) (d : ℕ) : Type 0 where
  pub row : Row
  pub there : In row log
  pub here : slice_index slots (spot key k d) ≡ row.0 + 1
  pub differs : row.1 ≡ key → ⊥

-- Steps that change the head and the levels of one shard alone
pub record Touches (s : ℕ) (v w : View) : Type 0 where
  pub layout : w.layout ≡ v.layout
  pub writes : w.writes ≡ v.writes
  pub later : Earlier v.layout v.words v.log w.words w.log
  pub heads : (t : ℕ) → In t v.writes → (t ≡ s → ⊥) → head v.layout w.words t ≡ head v.layout v.words t
  pub levels : (t k : ℕ) → In t v.writes → (t ≡ s → ⊥) → k ≤ v.layout.top → level v.layout w.words t k ≡ level v.layout v.words t k
  pub rows : (t : ℕ) → In t v.writes → rows_of v.layout t w.log ≡ rows_of v.layout t v.log

-- Steps that fill slots of one level of a shard
pub record Fills (s at : ℕ) (v w : View) : Type 0 where
  pub touches : Touches s v w
  pub own_head : head v.layout w.words s ≡ head v.layout v.words s
  pub own_levels : (k : ℕ) → (k ≡ at → ⊥) → k ≤ v.layout.top → level v.layout w.words s k ≡ level v.layout v.words s k

-- no row stands in the level after the live one
abbrev pub IsReadyShard : Layout → List ℕ → ℕ → Type 0
IsReadyShard z ws s = head z ws s < z.top → HasRows (level z ws s (suc (head z ws s))) (suc (head z ws s)) []

-- the first n rows of the shard stand in the level after the live one, and this is the next row
pub record IsNextRow (z : Layout) (w : View) (s at n : ℕ) (r : Row) : Type 0 where
  pub filled : HasRows (level z w.words s (suc at)) (suc at) (take n (rows_of z s w.log))
  pub left : n < length (rows_of z s w.log)
  pub next : take (suc n) (rows_of z s w.log) ≡ take n (rows_of z s w.log) ++ r ∷ []

-- a slot of the shard's live level, where one more row may stand, for this key
pub record IsOpen (z : Layout) (w : View) (s at far slot : ℕ) (key : List ℕ) : Type 0 where
  pub live : head z w.words s ≡ at
  pub first_free : IsSpot (level z w.words s at) at key far
  pub place : slot ≡ base z s + (level_at at + spot key at far)
  pub few : length (rows_of z s w.log) < half at
  pub ready : IsReadyShard z w.words s

-- the counts that a shard's writer keeps
pub record IsPart (z : Layout) (w : View) (s count taken : ℕ) : Type 0 where
  pub counted : count ≡ length (rows_of z s w.log)
  pub summed : taken ≡ used (rows_of z s w.log)
  pub ready : IsReadyShard z w.words s

-- the rows' seat, with the counts of each shard
pub record IsRows {S : Type 0} (z : Layout) (t : TableId) (q : Seat S View) (counts sums : List ℕ) : Type 0 where
  pub seat : IsSeat z t q
  pub slots : q.me.1 ≡ []
  pub many_counts : length counts ≡ z.shards
  pub many_sums : length sums ≡ z.shards
  pub all : q.me.0.writes ≡ below z.shards
  pub owns : (s : ℕ) → s < z.shards → In s q.me.0.writes
  pub parts : (s : ℕ) → s < z.shards → IsPart z q.me.0 s (slice_index counts s) (slice_index sums s)

-- Steps by which one row more is published in a shard
pub record Adds (s : ℕ) (r : Row) (v w : View) : Type 0 where
  pub layout : w.layout ≡ v.layout
  pub writes : w.writes ≡ v.writes
  pub later : Earlier v.layout v.words v.log w.words w.log
  pub heads : (t : ℕ) → In t v.writes → (t ≡ s → ⊥) → head v.layout w.words t ≡ head v.layout v.words t
  pub levels : (t k : ℕ) → In t v.writes → (t ≡ s → ⊥) → k ≤ v.layout.top → level v.layout w.words t k ≡ level v.layout v.words t k
  pub rows : (t : ℕ) → In t v.writes → (t ≡ s → ⊥) → rows_of v.layout t w.log ≡ rows_of v.layout t v.log
  pub added : rows_of v.layout s w.log ≡ rows_of v.layout s v.log ++ r ∷ []
  pub ready : IsReadyShard v.layout w.words s

-- a seat that is no shard's writer
pub record IsReader {S : Type 0} (q : Seat S View) : Type 0 where
  pub seat : IsSeat q.me.0.layout q.table_id q
  pub slots : q.me.1 ≡ []
  pub none : q.me.0.writes ≡ []

-- the seat of a shard's writer, with the counts that it keeps
pub record IsWriter {S : Type 0} (z : Layout) (t : TableId) (q : Seat S View) (s count taken : ℕ) : Type 0 where
  pub seat : IsSeat z t q
  pub slots : q.me.1 ≡ []
  pub one : q.me.0.writes ≡ s ∷ []
  pub in_range : s < z.shards
  pub part : IsPart z q.me.0 s count taken

-- a seat that has the writer's part of some shards, with their counts
pub record IsGathered {S : Type 0} (z : Layout) (t : TableId) (q : Seat S View) (counts sums : List ℕ) : Type 0 where
  pub seat : IsSeat z t q
  pub slots : q.me.1 ≡ []
  pub falls : Falls q.me.0.writes
  pub many_counts : length counts ≡ z.shards
  pub many_sums : length sums ≡ z.shards
  pub in_range : (s : ℕ) → In s q.me.0.writes → s < z.shards
  pub parts : (s : ℕ) → In s q.me.0.writes → IsPart z q.me.0 s (slice_index counts s) (slice_index sums s)

-- a pool that is shared, which its name names, with room for the counts of each shard and as many locks
pub record IsPoolOf (n : PoolId) (z : Layout) (t : TableId) (counts sums locks : ℕ) : Type 0 where
  pub layout : z ≡ n.layout
  pub table : t ≡ n.table
  pub laid : IsLayout z
  pub wide : t.words ≡ z.words
  pub many_counts : counts ≡ z.shards
  pub many_sums : sums ≡ z.shards
  pub many_locks : locks ≡ z.shards
