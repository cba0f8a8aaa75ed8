-- The pairs of index and key that rows know, and when a shard takes no further row.
use Rattle.std.specs.Prelude.{◌≡◌, ℕ, ◌+◌, ◌*◌, ◌^◌, ◌<◌, ◌≤◌, ◌⊎◌, List, [], ◌∷◌, ◌++◌, length}
use Rattle.atomic_table.specs.Seated.{TableId}
use Rattle.type_form.specs.Known.{Known}
use Rattle.type_form.specs.Words.{index_of}
use Rattle.pool_words.specs.declared.view.Layout.{Layout}
use Rattle.pool_words.specs.declared.view.View.{View}
use Rattle.pool_words.specs.Layout.{Row, used, base, start, rows_of, IsLayout}
use Rattle.pool_words.specs.Rule.{In, Laid, Extends}

-- the published rows as pairs of index and key
abbrev pub known_of : List Row → Known
known_of [] = []
known_of (r ∷ log) = (index_of r.0, r.1) ∷ known_of log

-- what contracts see of a pool's rows: which table they are, and what its one seat knows
pub record Rows : Type 0 where
  pub id : TableId
  pub view : View

-- the pairs that the rows know
abbrev pub known : Rows → Known
known p = known_of p.view.log

-- which table a pool is, and how it is laid out
pub record PoolId : Type 0 where
  pub table : TableId
  pub layout : Layout

-- the pool of rows, and of a seat at it
abbrev pub pool_of : Rows → PoolId
pool_of p = record { table = p.id; layout = p.view.layout }

-- no pool
abbrev pub no_pool : PoolId
no_pool = record {
  table = record { words = 0; slots = 0; views_name = 0; atom = 0; block = 0; offset = 0; slot_names = [] };
  layout = record { shards = 0; size = 0; top = 0; words = 0 };
}

-- The shard's rows are at the numbers: there are as many as half of the slots of its last level, or the words of one more row with a key of this length don't fit
abbrev pub IsAtNumbers : Layout → List Row → ℕ → ℕ → Type 0
IsAtNumbers z log s n = (length (rows_of z s log) ≡ 32 * 2 ^ z.top) ⊎ (z.size < start z + used (rows_of z s log) + (n + 1))

-- Rows as a pool takes them: those of each shard stand one behind the other, from the shard's first
-- place for rows on, and fit its words. They are at most half as many as its last level has slots
pub record ArePlaced (z : Layout) (log : List Row) : Type 0 where
  pub placed : (s : ℕ) → s < z.shards → Laid (base z s + start z) (rows_of z s log)
  pub fit : (s : ℕ) → s < z.shards → start z + used (rows_of z s log) ≤ z.size
  pub most : (s : ℕ) → s < z.shards → length (rows_of z s log) ≤ 32 * 2 ^ z.top

-- what every call on the rows keeps: the table and its layout, and every row
pub record GoesOn (p q : Rows) : Type 0 where
  pub id : q.id ≡ p.id
  pub layout : q.view.layout ≡ p.view.layout
  pub laid : IsLayout q.view.layout
  pub log : Extends p.view.log q.view.log
  pub placed : ArePlaced q.view.layout q.view.log

-- no row has the key
abbrev pub HasNot : List Row → List ℕ → Type 0
HasNot log key = (i : ℕ) → In (i, key) log → ⊥

-- the log as it was, or with this row at its end, whose key no other row has
abbrev pub AddsAtMost : List Row → Row → List Row → Type 0
AddsAtMost log r log' = (log' ≡ log) ⊎ ((log' ≡ log ++ r ∷ []) × HasNot log r.1)

-- The shard is full: it has that many rows, or they leave fewer than 65 words
abbrev pub IsFullShard : Layout → List Row → ℕ → Type 0
IsFullShard z log s = (length (rows_of z s log) ≡ 32 * 2 ^ z.top) ⊎ (z.size < start z + used (rows_of z s log) + 65)
