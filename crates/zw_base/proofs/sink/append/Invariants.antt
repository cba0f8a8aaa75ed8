use Rattle.std.proofs.Common.{◌≡◌, ◌++◌, ◌+◌, take}
use Rattle.std.specs.Vec.{vec_len, vec_capacity}
use Rattle.zw_base.proofs.sink.append.Given as goal

-- the bytes so far have been appended
abbrev pub invariant-loop-b : goal.invariant-loop-b
invariant-loop-b l = record {
  items : l.taken.items ≡ l.initial.taken.items ++ take l.b-index l.bytes;
  room : vec_capacity l.taken ≡ vec_capacity l.initial.taken;
  len : vec_len l.taken ≡ vec_len l.initial.taken + l.b-index;
}
