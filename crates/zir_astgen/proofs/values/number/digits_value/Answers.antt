use Rattle.std.proofs.Common.{◌∙◌, ◌+◌, ap, min, drop, arith}
use Rattle.zig_tree.specs.TokenNumbers.{number_behind}
use Rattle.zir_astgen.specs.Numbers.{largest}
use Rattle.zir_astgen.proofs.NumberLemmas.{number_bar, number_next}
use Rattle.zir_astgen.proofs.values.number.digits_value.Goals as goal
use Rattle.zir_astgen.proofs.values.number.digits_value.Goals.{then-byte-ne-BAR, else-byte-ne-BAR}

pub loop-byte-preserved : goal.loop-byte-preserved
loop-byte-preserved c =
    let base = c.args.base in
    let digits = c.args.digits.now in
    let i = c.loop-byte.byte-index in
    let value = c.loop-byte.value in
    elim c.if-byte-ne-BAR.branch [
      | then-byte-ne-BAR w ↦ record {
        number = number_next base value digits i c.loop-byte-test.true c.if-byte-ne-BAR.value w.digit_value.result c.requires w.if-byte-ne-BAR.true w.digit_value.ensures (w.value-is ∙ w.next_value-value.ensures) ∙ c.loop-byte.invariant.number;
        small = omega (arith, w.value-is, w.next_value-value.ensures);
      }
      | else-byte-ne-BAR w ↦ record {
        number = ap (λ v. min (number_behind base v (drop (i + 1) digits)) largest) w.value-is ∙ number_bar base value digits i c.loop-byte-test.true w.if-byte-ne-BAR.false ∙ c.loop-byte.invariant.number;
        small = omega (arith, w.value-is, c.loop-byte.invariant.small);
      }
    ]
