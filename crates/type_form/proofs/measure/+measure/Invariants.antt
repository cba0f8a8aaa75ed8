use Rattle.std.proofs.Common.{◌≡◌, min, length, map, take}
use Rattle.type_form.specs.Spelling.{commas, ty_text, value_text, arg_text}
use Rattle.type_form.proofs.measure.+measure.Given as goal

-- what is so far in the list is counted
abbrev pub invariant-tys_len-loop-i : goal.invariant-tys_len-loop-i
invariant-tys_len-loop-i l = l.sum ≡ min (length (commas (map ty_text (take l.i l.tys)))) 4097

abbrev pub invariant-values_len-loop-i : goal.invariant-values_len-loop-i
invariant-values_len-loop-i l = l.sum ≡ min (length (commas (map value_text (take l.i l.values)))) 4097

abbrev pub invariant-args_len-loop-i : goal.invariant-args_len-loop-i
invariant-args_len-loop-i l = l.sum ≡ min (length (commas (map arg_text (take l.i l.args)))) 4097
