use Rattle.std.proofs.Common.{◌≡◌, ◌++◌, ◌-◌, length, drop}
use Rattle.zir_form.specs.Escapes.{value_from}
use Rattle.zir_form.proofs.escape.quoted_value.Given as goal

-- what is there and what is left give the whole
abbrev pub invariant-loop-at : goal.invariant-loop-at
invariant-loop-at l = l.value.items ++ value_from 0 (drop l.at l.quoted) ≡ value_from 0 l.quoted

abbrev pub decreases-loop-at : goal.decreases-loop-at
decreases-loop-at l = length l.quoted - l.at
