use Rattle.std.proofs.Common.{◌≡◌, ℕ, ◌+◌, ◌*◌, ◌-◌, ◌<◌, length, slice_index, drop}
use Rattle.pool_shard.specs.Pairs.{known}
use Rattle.type_form.specs.Roles.{role_at}
use Rattle.pool_seat.specs.Moves.{Becomes}
use Rattle.pool_seat.specs.Movers.{WordBecomes, work, word_work, IsChain, Later, MovesTree, MovesFront, IsMover}
use Rattle.pool_seat.proofs.mover.Mover.+walk.Given as goal

abbrev pub decreases-visit : goal.decreases-visit
decreases-visit l = 4 * work (known l.self.now.from) l.of_parts l.i + 3

abbrev pub decreases-chunk : goal.decreases-chunk
decreases-chunk l = 4 * work (known l.self.now.from) l.of_parts l.i + 2

abbrev pub decreases-row : goal.decreases-row
decreases-row l = 4 * work (known l.self.now.from) l.of_parts l.i + 1

abbrev pub decreases-word : goal.decreases-word
decreases-word l = word_work (known l.self.now.from) l.role l.word

abbrev pub invariant-visit-loop-chunk : goal.invariant-visit-loop-chunk
invariant-visit-loop-chunk l = record {
  mover : IsMover l.self;
  later : Later l.fn.self l.self;
  end : ℕ;
  chain : IsChain (known l.fn.self.from) l.i l.chunks.items end;
  done : Becomes (known l.self.from) (known l.self.to) l.self.moved.items l.of_parts end l.new;
  moves : MovesTree (known l.fn.self.from) l.of_parts end l.fn.self l.self;
}

abbrev pub decreases-visit-loop-chunk : goal.decreases-visit-loop-chunk
decreases-visit-loop-chunk l = length l.chunks.items

abbrev pub invariant-row-loop-at : goal.invariant-row-loop-at
invariant-row-loop-at l = record {
  mover : IsMover l.self;
  later : Later l.fn.self l.self;
  as_long : length l.into ≡ l.at;
  first : slice_index l.into 0 ≡ l.kind;
  built : (q : ℕ) → 0 < q → q < l.at → WordBecomes l.self (role_at l.kind l.of_parts (q - 1)) l.rest (slice_index l.words q) (slice_index l.into q);
  moves : MovesFront (known l.fn.self.from) l.of_parts (slice_index l.words 0) (drop 1 l.words) (l.at - 1) l.fn.self l.self;
}
