use Rattle.std.proofs.Common.{◌≡◌, ◌+◌, ◌≤◌, min, drop}
use Rattle.zir_form.specs.Escapes.{number_at_front, digit_count}
use Rattle.zir_form.proofs.bytes.digits_at_front.Given as goal

-- the digits that are left go on from those so far
abbrev pub invariant-loop-i : goal.invariant-loop-i
invariant-loop-i l = record {
  number : min (number_at_front l.number (drop l.i l.bytes)) 0x110000 ≡ min (number_at_front 0 l.bytes) 0x110000;
  count : l.i + digit_count (drop l.i l.bytes) ≡ digit_count l.bytes;
  small : l.number ≤ 0x110000;
}
