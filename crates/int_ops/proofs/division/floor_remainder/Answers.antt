use Rattle.std.proofs.Common.{sym, ◌≡◌, ◌∙◌, FitsSigned, int_rem, true, false}
use Rattle.std.proofs.lemmas.Int.{to_z-of_z}
use Rattle.std.specs.Int.{w128}
use Rattle.int_ops.specs.Division.{has_other_sign}
use Rattle.int_ops.proofs.Laws.{modulo_laws}
use Rattle.int_ops.proofs.Rounding.{modulo_other, modulo_same, modulo_fits}
use Rattle.int_ops.proofs.division.floor_remainder.Goals as goal

pub returns-then-has_other_sign-clause-value : goal.returns-then-has_other_sign-clause-value
returns-then-has_other_sign-clause-value c =
    let fits : FitsSigned w128 c.wrapping_rem-remainder.result = record { sfits = c.wrapping_rem-remainder.type_inv } in
    let rest : c.wrapping_rem-remainder.result ≡ int_rem c.args.a c.args.b =
    rw (to_z-of_z w128 c.args.a c.ranges.a, to_z-of_z w128 c.args.b c.ranges.b) at c.wrapping_rem-remainder.ensures in
    let turned : has_other_sign (int_rem c.args.a c.args.b) c.args.b ≡ true =
    sym (rw (to_z-of_z w128 c.wrapping_rem-remainder.result fits, to_z-of_z w128 c.args.b c.ranges.b, rest) at c.has_other_sign.ensures) ∙ c.if-has_other_sign.true in
    rw (to_z-of_z w128 c.wrapping_rem-remainder.result fits, to_z-of_z w128 c.args.b c.ranges.b, rest, modulo_other c.args.a c.args.b c.requires turned)
    (to_z-of_z w128 _ (modulo_fits c.args.a c.args.b c.ranges.b c.requires))

pub returns-else-has_other_sign-clause-value : goal.returns-else-has_other_sign-clause-value
returns-else-has_other_sign-clause-value c =
    let fits : FitsSigned w128 c.wrapping_rem-remainder.result = record { sfits = c.wrapping_rem-remainder.type_inv } in
    let rest : c.wrapping_rem-remainder.result ≡ int_rem c.args.a c.args.b =
    rw (to_z-of_z w128 c.args.a c.ranges.a, to_z-of_z w128 c.args.b c.ranges.b) at c.wrapping_rem-remainder.ensures in
    let same : has_other_sign (int_rem c.args.a c.args.b) c.args.b ≡ false =
    sym (rw (to_z-of_z w128 c.wrapping_rem-remainder.result fits, to_z-of_z w128 c.args.b c.ranges.b, rest) at c.has_other_sign.ensures) ∙ c.if-has_other_sign.false in
    to_z-of_z w128 c.wrapping_rem-remainder.result fits ∙ rest ∙ modulo_same c.args.a c.args.b c.requires same

pub returns-then-has_other_sign-clause-split : goal.returns-then-has_other_sign-clause-split
returns-then-has_other_sign-clause-split c = (modulo_laws _ c.args.a c.args.b c.requires (returns-then-has_other_sign-clause-value c)).0

pub returns-then-has_other_sign-clause-small : goal.returns-then-has_other_sign-clause-small
returns-then-has_other_sign-clause-small c = (modulo_laws _ c.args.a c.args.b c.requires (returns-then-has_other_sign-clause-value c)).1

pub returns-then-has_other_sign-clause-sign : goal.returns-then-has_other_sign-clause-sign
returns-then-has_other_sign-clause-sign c = (modulo_laws _ c.args.a c.args.b c.requires (returns-then-has_other_sign-clause-value c)).2

pub returns-else-has_other_sign-clause-split : goal.returns-else-has_other_sign-clause-split
returns-else-has_other_sign-clause-split c = (modulo_laws _ c.args.a c.args.b c.requires (returns-else-has_other_sign-clause-value c)).0

pub returns-else-has_other_sign-clause-small : goal.returns-else-has_other_sign-clause-small
returns-else-has_other_sign-clause-small c = (modulo_laws _ c.args.a c.args.b c.requires (returns-else-has_other_sign-clause-value c)).1

pub returns-else-has_other_sign-clause-sign : goal.returns-else-has_other_sign-clause-sign
returns-else-has_other_sign-clause-sign c = (modulo_laws _ c.args.a c.args.b c.requires (returns-else-has_other_sign-clause-value c)).2
