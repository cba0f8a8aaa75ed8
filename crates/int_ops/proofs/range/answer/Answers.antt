use Rattle.std.proofs.Common.{◌∙◌, FitsSigned}
use Rattle.std.proofs.lemmas.Int.{to_z-of_z, SFits-int_wrap}
use Rattle.std.specs.Int.{w128}
use Rattle.int_ops.specs.Exact.{StandsFor}
use Rattle.int_ops.specs.declared.exact.Exact.TheVariants.{Above, Below}
use Rattle.int_ops.proofs.Ranges.{outcome_above, outcome_below}
use Rattle.int_ops.proofs.range.answer.Goals as goal

pub returns-in-Above : goal.returns-in-Above
returns-in-Above c = λ z stands.
    let known : StandsFor (Above c.in-Above.left) z = rw c.in-Above.is at stands in
    let fits : FitsSigned w128 c.in-Above.left = rw known.1 (SFits-int_wrap w128 z) in
    let bound : FitsSigned w128 c.highest-in-Above.result = record { sfits = c.highest-in-Above.type_inv } in
    c.answer_beyond-in-Above.ensures
    ∙ rw (to_z-of_z w128 c.in-Above.left fits, to_z-of_z w128 c.highest-in-Above.result bound, c.highest-in-Above.ensures) (outcome_above z _ c.args.t c.args.mode known.0 known.1)

pub returns-in-Below : goal.returns-in-Below
returns-in-Below c = λ z stands.
    let known : StandsFor (Below c.in-Below.left) z = rw c.in-Below.is at stands in
    let fits : FitsSigned w128 c.in-Below.left = rw known.1 (SFits-int_wrap w128 z) in
    let bound : FitsSigned w128 c.lowest-in-Below.result = record { sfits = c.lowest-in-Below.type_inv } in
    c.answer_beyond-in-Below.ensures
    ∙ rw (to_z-of_z w128 c.in-Below.left fits, to_z-of_z w128 c.lowest-in-Below.result bound, c.lowest-in-Below.ensures) (outcome_below z _ c.args.t c.args.mode known.0 known.1)
