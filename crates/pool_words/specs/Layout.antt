-- How the words of a pool are laid out, and where the row of a key belongs.
-- Each shard has `size` words: its head, the levels 0 to `top` of slots one behind the other, and then rows.
-- A row is a word with the key's length, and the key. A slot is 0, or a row's place plus 1.
use Rattle.std.specs.Prelude.{ℕ, ◌+◌, ◌-◌, ◌*◌, ◌/◌, ◌%◌, ◌^◌, ◌<◌, ◌≤◌, ◌==◌, List, [], ◌∷◌, length, take, drop, bit_xor, slice_index}
use Rattle.std.specs.List.{filter, sum_by}
use Rattle.pool_words.specs.declared.view.Layout.{Layout}

-- a row that is published: its place among all words, and its key
abbrev pub Row : Type 0
Row = ℕ × List ℕ

-- so many words from a place on
unfoldable pub window : List ℕ → ℕ → ℕ → List ℕ
window ws from count = take count (drop from ws)

-- the hash of the words, begun with h
unfoldable pub hash_from : ℕ → List ℕ → ℕ
hash_from h [] = h
hash_from h (w ∷ ws) = hash_from (bit_xor h w * 0x0000_0100_0000_01b3 % 2 ^ 64) ws

-- the hash of a key
unfoldable pub hash_of : List ℕ → ℕ
hash_of ws = bit_xor (hash_from 0xcbf2_9ce4_8422_2325 ws) (hash_from 0xcbf2_9ce4_8422_2325 ws / 2 ^ 32)

-- the slots of a level
unfoldable pub width : ℕ → ℕ
width k = 64 * 2 ^ k

-- half of them
unfoldable pub half : ℕ → ℕ
half k = 32 * 2 ^ k

-- the first slot of a level in its shard. The next level begins where a level ends
unfoldable pub level_at : ℕ → ℕ
level_at k = 64 * 2 ^ k - 63

-- the slot at which a key is looked for after d others, in a circle
unfoldable pub spot : List ℕ → ℕ → ℕ → ℕ
spot ws k d = (hash_of ws / 2 ^ 8 + d) % width k

-- the words that the rows take
unfoldable pub used : List Row → ℕ
used = sum_by (λ (r : Row). length r.1 + 1)

-- the shard of a key
unfoldable pub shard_of : Layout → List ℕ → ℕ
shard_of z ws = hash_of ws % z.shards

-- the first word of a shard
unfoldable pub base : Layout → ℕ → ℕ
base z s = s * z.size

-- where the rows begin in a shard
unfoldable pub start : Layout → ℕ
start z = level_at (z.top + 1)

-- the rows of a shard, in order of place
unfoldable pub rows_of : Layout → ℕ → List Row → List Row
rows_of z s log = filter (λ (r : Row). shard_of z r.1 == s) log

-- the live level of a shard
abbrev pub head : Layout → List ℕ → ℕ → ℕ
head z ws s = slice_index ws (base z s)

-- the slots of a level of a shard
abbrev pub level : Layout → List ℕ → ℕ → ℕ → List ℕ
level z ws s k = window ws (base z s + level_at k) (width k)

-- A layout of 1 to 64 shards. Each has as many words as all words give, so that fewer are left over
-- than there are shards. The levels take at most a quarter of a shard, and a further level would take
-- more
pub record IsLayout (z : Layout) : Type 0 where
  pub some : 0 < z.shards
  pub few : z.shards ≤ 64
  pub fits : z.shards * z.size ≤ z.words
  pub left_over : z.words < z.shards * z.size + z.shards
  pub small : z.words < 2 ^ 60
  pub large : 1024 ≤ z.size
  pub quarter : level_at (z.top + 1) ≤ z.size / 4
  pub most : z.size / 4 < level_at (z.top + 2)
