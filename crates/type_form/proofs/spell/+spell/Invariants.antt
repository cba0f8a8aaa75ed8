use Rattle.std.proofs.Common.{◌≡◌, ◌++◌, map, take}
use Rattle.type_form.specs.Spelling.{commas, ty_text, value_text, arg_text}
use Rattle.type_form.proofs.spell.+spell.Given as goal

-- what is so far in the list is written
abbrev pub invariant-put_tys-loop-i : goal.invariant-put_tys-loop-i
invariant-put_tys-loop-i l = l.out.items ≡ l.initial.out.items ++ commas (map ty_text (take l.i l.tys))

abbrev pub invariant-put_values-loop-i : goal.invariant-put_values-loop-i
invariant-put_values-loop-i l = l.out.items ≡ l.initial.out.items ++ commas (map value_text (take l.i l.values))

abbrev pub invariant-put_args-loop-i : goal.invariant-put_args-loop-i
invariant-put_args-loop-i l = l.out.items ≡ l.initial.out.items ++ commas (map arg_text (take l.i l.args))
