use Rattle.std.proofs.Common.{pos, negsuc, sym, ◌≡◌, ◌≢◌, ◌∙◌, ap, ◌-ℤ◌, int_div, int_rem, true, false, of_z}
use Rattle.std.proofs.lemmas.Int.{to_z-of_z, quot_is, rem_is}
use Rattle.std.specs.Int.{w128}
use Rattle.int_ops.specs.Division.{int_floor_div, has_other_sign}
use Rattle.int_ops.proofs.Rounding.{floor_other, floor_same, floor_fits, quotient_fits}
use Rattle.int_ops.proofs.division.exact_floor.Goals as goal

pub returns-then-has_other_sign : goal.returns-then-has_other_sign
returns-then-has_other_sign c =
    let other : c.args.b ≢ negsuc 0 = λ e. c.if-b-eqminus1.false (ap (of_z w128) e) in
    let turned : has_other_sign (int_rem c.args.a c.args.b) c.args.b ≡ true =
    sym (rw (rem_is w128 c.args.a c.args.b c.ranges.a c.ranges.b, to_z-of_z w128 c.args.b c.ranges.b) at c.has_other_sign.ensures) ∙ c.if-has_other_sign.true in
    let quotient = quot_is w128 c.args.a c.args.b c.ranges.a c.ranges.b (quotient_fits c.args.a c.args.b c.ranges.a other) in
    let down : int_div c.args.a c.args.b -ℤ pos 1 ≡ int_floor_div c.args.a c.args.b = floor_other c.args.a c.args.b c.requires turned in
    rw (quotient, down) (to_z-of_z w128 _ (floor_fits c.args.a c.args.b c.ranges.a other))

pub returns-else-has_other_sign : goal.returns-else-has_other_sign
returns-else-has_other_sign c =
    let other : c.args.b ≢ negsuc 0 = λ e. c.if-b-eqminus1.false (ap (of_z w128) e) in
    let same : has_other_sign (int_rem c.args.a c.args.b) c.args.b ≡ false =
    sym (rw (rem_is w128 c.args.a c.args.b c.ranges.a c.ranges.b, to_z-of_z w128 c.args.b c.ranges.b) at c.has_other_sign.ensures) ∙ c.if-has_other_sign.false in
    let quotient = quot_is w128 c.args.a c.args.b c.ranges.a c.ranges.b (quotient_fits c.args.a c.args.b c.ranges.a other) in
    quotient ∙ floor_same c.args.a c.args.b c.requires same
