use Rattle.std.proofs.Common.{◌≡◌, ◌++◌, ◌-◌, length, drop}
use Rattle.zir_astgen.specs.Values.{lines_from}
use Rattle.zir_astgen.proofs.values.text.multiline_value.Given as goal

-- what is there and what is left give the whole
abbrev pub invariant-loop-at : goal.invariant-loop-at
invariant-loop-at l = l.value.items ++ lines_from 0 (drop l.at l.bytes) ≡ lines_from 2 l.bytes

abbrev pub decreases-loop-at : goal.decreases-loop-at
decreases-loop-at l = length l.bytes - l.at
