-- A shard that is full stays so.
use Rattle.std.proofs.Common.{◌≡◌, ℕ, ◌<◌, ◌≤◌, List, length, sym, ◌∙◌, subst}
use Rattle.pool_words.specs.declared.view.Layout.{Layout}
use Rattle.pool_words.specs.Layout.{shard_of}
use Rattle.pool_words.proofs.Places.{shard_in}
use Rattle.pool_shard.specs.Pairs.{Rows, PoolId, pool_of, GoesOn, IsAtNumbers}
use Rattle.pool_shard.proofs.Counting.{full_later, full_at}
use Rattle.pool_seat.specs.Seats.{KeepsFull, IsSeatOf}

pub KeepsFull-later : (p q : Rows) (n : ℕ) → GoesOn p q → KeepsFull p n → KeepsFull q n
KeepsFull-later p q n g k = record {
  some = λ l. let f = k.some l in (f.0, subst (λ (y : Layout). f.0 < y.shards) (sym g.layout) f.1, full_later p q f.0 g f.1 f.2);
}

pub KeepsFull-at : (p q : Rows) (n s : ℕ) (key : List ℕ) → GoesOn p q → s ≡ shard_of q.view.layout key → length key ≤ 64 → IsAtNumbers q.view.layout q.view.log s (length key) → KeepsFull q n
KeepsFull-at p q n s key g e few f = record {
  some = λ l. (s, subst (λ t. t < q.view.layout.shards) (sym e) (shard_in q.view.layout key g.laid), full_at q.view.layout q.view.log s (length key) few f);
}

-- a seat stays one of its pool
pool_goes_on : (p q : Rows) → GoesOn p q → pool_of q ≡ pool_of p
pool_goes_on p q g i = record { table = g.id i; layout = g.layout i }

pub IsSeatOf-later : (m : PoolId) (p q : Rows) (n : ℕ) → GoesOn p q → IsSeatOf m p n → IsSeatOf m q n
IsSeatOf-later m p q n g h = record { of = pool_goes_on p q g ∙ h.of; kept = KeepsFull-later p q n g h.kept }

pub IsSeatOf-full : (m : PoolId) (p q : Rows) (n k s : ℕ) (key : List ℕ) → GoesOn p q → IsSeatOf m p k → s ≡ shard_of q.view.layout key → length key ≤ 64 → IsAtNumbers q.view.layout q.view.log s (length key) → IsSeatOf m q n
IsSeatOf-full m p q n k s key g h e few f = record { of = pool_goes_on p q g ∙ h.of; kept = KeepsFull-at p q n s key g e few f }
