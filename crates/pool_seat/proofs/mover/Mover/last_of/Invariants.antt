use Rattle.std.proofs.Common.{IsSome}
use Rattle.type_form.specs.Words.{index_of}
use Rattle.type_form.specs.Denote.{denoted}
use Rattle.pool_shard.specs.Pairs.{known}
use Rattle.pool_seat.specs.Movers.{height, IsChain, Later, SameNew, IsMover}
use Rattle.pool_seat.proofs.mover.Mover.last_of.Given as goal

abbrev pub invariant-loop-words : goal.invariant-loop-words
invariant-loop-words l = record {
  mover : IsMover l.self;
  later : Later l.fn.self l.self;
  same : SameNew l.fn.self l.self;
  there : IsSome (denoted (known l.fn.self.from) (index_of l.at));
  chain : IsChain (known l.fn.self.from) l.i l.chunks.items l.at;
}

abbrev pub decreases-loop-words : goal.decreases-loop-words
decreases-loop-words l = height (known l.fn.self.from) l.at
