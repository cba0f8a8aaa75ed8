use Rattle.std.proofs.Common.{◌≡◌, ◌≤◌, min, drop}
use Rattle.zig_tree.specs.TokenNumbers.{number_behind}
use Rattle.zir_astgen.specs.Numbers.{largest}
use Rattle.zir_astgen.proofs.values.number.digits_value.Given as goal

-- the digits that are left go on from the number so far
abbrev pub invariant-loop-byte : goal.invariant-loop-byte
invariant-loop-byte l = record {
  number : min (number_behind l.base l.value (drop l.byte-index l.digits)) largest ≡ min (number_behind l.base 0 l.digits) largest;
  small : l.value ≤ largest;
}
