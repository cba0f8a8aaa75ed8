-- The rule of the pool's words: what holds of them and of the published rows, the log, between any two steps.
use Rattle.std.specs.Prelude.{◌≡◌, ◌≢◌, ℕ, zero, suc, ◌+◌, ◌<◌, ◌≤◌, ◌⊎◌, List, [], ◌∷◌, ◌++◌, length, take, slice_index}
use Rattle.pool_words.specs.declared.view.Layout.{Layout}
use Rattle.pool_words.specs.Layout.{Row, window, width, half, spot, used, shard_of, base, start, rows_of, head, level}

-- it stands in the list
abbrev pub In : {X : Type 0} → X → List X → Type 0
In x [] = ⊥
In x (y ∷ ys) = (x ≡ y) ⊎ In x ys

-- the row stands in the slots: no slot from its key's first one to its own, in the circle, is 0
pub record Stands (slots : List ℕ) (k : ℕ) (r : Row) : Type 0 where
  pub far : ℕ
  pub within : far < width k
  pub here : slice_index slots (spot r.1 k far) ≡ r.0 + 1
  pub run : (d : ℕ) → d < far → slice_index slots (spot r.1 k d) ≢ 0

-- how many slots are not 0
abbrev pub taken : List ℕ → ℕ
taken [] = 0
taken (zero ∷ xs) = taken xs
taken (suc x ∷ xs) = suc (taken xs)

-- exactly these rows stand in the slots of level k, each once
pub record HasRows (slots : List ℕ) (k : ℕ) (rows : List Row) : Type 0 where
  pub stands : (r : Row) → In r rows → Stands slots k r
  pub backed : (j : ℕ) → j < width k → slice_index slots j ≢ 0 → (r : Row) × In r rows × (slice_index slots j ≡ r.0 + 1)
  pub counted : taken slots ≡ length rows

-- A shard whose live level is h, with these levels and rows. Each level has the first rows, in order of place, as many as `held` says: the live one all of them,
-- the next one those that a writer has filled in so far, and those behind it none. A row of a level stands in each later level up to the live one
pub record IsShard (z : Layout) (h : ℕ) (levels : ℕ → List ℕ) (rows : List Row) : Type 0 where
  pub held : ℕ → ℕ
  pub head_in : h ≤ z.top
  pub grown : (k : ℕ) → h ≡ suc k → half k ≤ length rows
  pub has : (k : ℕ) → k ≤ z.top → HasRows (levels k) k (take (held k) rows)
  pub halves : (k : ℕ) → k ≤ z.top → held k ≤ half k
  pub rising : (k l : ℕ) → k ≤ l → l ≤ h → held k ≤ held l
  pub live : held h ≡ length rows
  pub next : held (suc h) ≤ length rows
  pub later : (k : ℕ) → suc h < k → held k ≡ 0
  pub fits : start z + used rows ≤ z.size

-- a row lies whole among the rows of its key's shard
pub record IsRow (z : Layout) (ws : List ℕ) (log : List Row) (r : Row) : Type 0 where
  pub some : 0 < length r.1
  pub few : length r.1 ≤ 64
  pub begins : base z (shard_of z r.1) + start z ≤ r.0
  pub ends : r.0 + length r.1 < base z (shard_of z r.1) + (start z + used (rows_of z (shard_of z r.1) log))
  pub whole : window ws r.0 (suc (length r.1)) ≡ length r.1 ∷ r.1

-- rows one behind the other, from a place on
abbrev pub Laid : ℕ → List Row → Type 0
Laid place [] = Unit {0}
Laid place (r ∷ rows) = (r.0 ≡ place) × Laid (place + (length r.1 + 1)) rows

-- the words and the log of a pool. Two rows have different keys
pub record IsPool (z : Layout) (ws : List ℕ) (log : List Row) : Type 0 where
  pub long : length ws ≡ z.words
  pub shard : (s : ℕ) → s < z.shards → IsShard z (head z ws s) (level z ws s) (rows_of z s log)
  pub row : (r : Row) → In r log → IsRow z ws log r
  pub placed : (s : ℕ) → s < z.shards → Laid (base z s + start z) (rows_of z s log)
  pub once : (i j : ℕ) (key : List ℕ) → In (i, key) log → In (j, key) log → i ≡ j

-- the log goes on
abbrev pub Extends : List Row → List Row → Type 0
Extends log log' = (more : List Row) × (log' ≡ log ++ more)

-- what every step keeps: heads never fall, a slot that is not 0 never changes, and each row of the older log stands in each level from the older head to the newer
pub record Earlier (z : Layout) (ws : List ℕ) (log : List Row) (ws' : List ℕ) (log' : List Row) : Type 0 where
  pub grows : Extends log log'
  pub heads : (s : ℕ) → s < z.shards → head z ws s ≤ head z ws' s
  pub slots : (s k j : ℕ) → s < z.shards → k ≤ head z ws s → j < width k → slice_index (level z ws s k) j ≢ 0 → slice_index (level z ws' s k) j ≡ slice_index (level z ws s k) j
  pub reached : (s k : ℕ) (r : Row) → s < z.shards → head z ws s ≤ k → k ≤ head z ws' s → In r log → shard_of z r.1 ≡ s → Stands (level z ws' s k) k r

-- a shard that is the same in both
pub record Same (z : Layout) (s : ℕ) (ws : List ℕ) (log : List Row) (ws' : List ℕ) (log' : List Row) : Type 0 where
  pub words : window ws (base z s) z.size ≡ window ws' (base z s) z.size
  pub rows : rows_of z s log ≡ rows_of z s log'
