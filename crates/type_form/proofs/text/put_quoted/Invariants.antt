use Rattle.std.proofs.Common.{◌≡◌, ◌++◌, take}
use Rattle.type_form.specs.Spelling.{quoted}
use Rattle.type_form.proofs.text.put_quoted.Given as goal

abbrev pub invariant-loop-byte : goal.invariant-loop-byte
invariant-loop-byte l = l.out.items ≡ l.initial.out.items ++ quoted (take l.byte-index l.bytes)
