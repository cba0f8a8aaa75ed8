use Rattle.std.proofs.Common.{◌≡◌, min, length, map, take}
use Rattle.type_form.specs.Spelling.{commas, name_text}
use Rattle.type_form.proofs.measure.names_len.Given as goal

abbrev pub invariant-loop-i : goal.invariant-loop-i
invariant-loop-i l = l.sum ≡ min (length (commas (map name_text (take l.i l.names)))) 4097
