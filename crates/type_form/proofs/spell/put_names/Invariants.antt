use Rattle.std.proofs.Common.{◌≡◌, ◌++◌, map, take}
use Rattle.type_form.specs.Spelling.{commas, name_text}
use Rattle.type_form.proofs.spell.put_names.Given as goal

-- the names so far are written
abbrev pub invariant-loop-i : goal.invariant-loop-i
invariant-loop-i l = l.out.items ≡ l.initial.out.items ++ commas (map name_text (take l.i l.names))
