use Rattle.std.proofs.Common.{◌≡◌, min, length, take}
use Rattle.type_form.specs.Spelling.{quoted}
use Rattle.type_form.proofs.measure.quoted_len.Given as goal

abbrev pub invariant-loop-byte : goal.invariant-loop-byte
invariant-loop-byte l = l.sum ≡ min (length (quoted (take l.byte-index l.bytes))) 4097
