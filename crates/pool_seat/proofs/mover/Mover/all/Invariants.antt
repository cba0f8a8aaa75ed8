use Rattle.std.proofs.Common.{◌≡◌, ℕ, ◌<◌, get_or, take}
use Rattle.type_form.specs.Words.{index_of}
use Rattle.pool_shard.specs.Pairs.{known}
use Rattle.pool_seat.specs.Moves.{IsMoved}
use Rattle.pool_seat.specs.Movers.{Later, MovesAll, IsMover}
use Rattle.pool_seat.proofs.mover.Mover.all.Given as goal

abbrev pub invariant-loop-at : goal.invariant-loop-at
invariant-loop-at l = record {
  mover : IsMover l.self;
  later : Later l.fn.self l.self;
  same : l.live ≡ l.fn.self.live.now;
  done : (p : ℕ) → p < l.at → (j : ℕ) × IsMoved l.self.moved.items (get_or l.live p (index_of 0)).0 j;
  moves : MovesAll (known l.fn.self.from) (take l.at l.live) l.fn.self l.self;
}
