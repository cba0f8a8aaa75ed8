use Rattle.std.proofs.Common.{◌≡◌, ◌+◌, ◌≤◌, ◌++◌, length}
use Rattle.zw_bytes.specs.Leb.{groups}
use Rattle.zw_bytes.proofs.buffer.ByteBuf.put_groups.Given as goal

-- what stands and the groups of the rest are what is wanted, and the room is enough for them
abbrev pub invariant-loop-rest : goal.invariant-loop-rest
invariant-loop-rest l = record {
  bytes : l.self.bytes ++ groups l.limit l.negative 10 l.rest ≡ l.initial.self.bytes ++ groups l.limit l.negative 10 l.n;
  spare : l.self.spare + length (groups l.limit l.negative 10 l.n) ≡ l.initial.self.spare + length (groups l.limit l.negative 10 l.rest);
  room : length (groups l.limit l.negative 10 l.rest) ≤ l.self.spare;
}

abbrev pub decreases-loop-rest : goal.decreases-loop-rest
decreases-loop-rest l = l.rest
