use Rattle.std.proofs.Common.{◌≡◌, ◌++◌, take}
use Rattle.zir_same.proofs.words.put_bytes.Given as goal

abbrev pub invariant-loop-byte : goal.invariant-loop-byte
invariant-loop-byte l = l.words.items ≡ l.initial.words.items ++ take l.byte-index l.bytes
