use Rattle.std.proofs.Common.{◌≡◌, ◌++◌, ◌+◌, take}
use Rattle.type_form.proofs.spelling.append.Given as goal

-- the bytes so far are appended, and took their room
abbrev pub invariant-loop-byte : goal.invariant-loop-byte
invariant-loop-byte l = record {
  bytes : l.into.bytes ≡ l.initial.into.bytes ++ take l.byte-index l.bytes;
  spare : l.into.spare + l.byte-index ≡ l.initial.into.spare;
}
