-- What contracts see of a seat, and when it answers Full.
use Rattle.std.specs.Prelude.{◌≡◌, ℕ, ◌<◌, List, Some, length}
use Rattle.type_form.specs.declared.index.Index.{Index}
use Rattle.type_form.specs.declared.pool.InternFault.{InternFault}
use Rattle.type_form.specs.declared.pool.InternFault.TheVariants.{Full, OutOfMemory}
use Rattle.type_form.specs.Known.{Known, words_at}
use Rattle.pool_words.specs.Layout.{shard_of}
use Rattle.pool_shard.specs.Pairs.{Rows, PoolId, pool_of, known, IsAtNumbers, IsFullShard}

-- the rows, and the number of Full answers
pub record Sole : Type 0 where
  pub rows : Rows
  pub fulls : ℕ

-- the pairs that the seat knows
abbrev pub pairs : Sole → Known
pairs s = known s.rows

-- its pool: which table, and how it is laid out
abbrev pub home : Sole → PoolId
home s = pool_of s.rows

-- its Full answers
abbrev pub full_answers : Sole → ℕ
full_answers s = s.fulls

-- where a Full was answered, some shard is full
pub record KeepsFull (rows : Rows) (fulls : ℕ) : Type 0 where
  pub some : 0 < fulls → (s : ℕ) × (s < rows.view.layout.shards) × IsFullShard rows.view.layout rows.view.log s

-- a seat of the pool that is named
pub record IsSeatOf (n : PoolId) (rows : Rows) (fulls : ℕ) : Type 0 where
  pub of : pool_of rows ≡ n
  pub kept : KeepsFull rows fulls

-- the answer Full names the key's shard, whose rows are at the numbers, and the key is none of them. Want of memory is no answer
abbrev pub IsFullFor : Rows → List ℕ → InternFault → Type 0
IsFullFor rows key (Full s) = (s ≡ shard_of rows.view.layout key) × IsAtNumbers rows.view.layout rows.view.log s (length key) × ((i : Index) → words_at (known rows) i ≡ Some key → ⊥)
IsFullFor rows key OutOfMemory = ⊥
