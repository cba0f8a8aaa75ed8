use Rattle.std.proofs.Common.{ap, of_z}
use Rattle.std.specs.Int.{w128}
use Rattle.int_ops.proofs.Shifts.{far_overflows}
use Rattle.int_ops.proofs.shift.doubled_far.Goals as goal
use Rattle.int_ops.proofs.shift.doubled_far.Goals.{else-a-eqminus1-via-then-a-eqminus1+else-amount-eq127, else-a-eqminus1-via-else-a-eqminus1}

pub returns-else-a-eqminus1 : goal.returns-else-a-eqminus1
returns-else-a-eqminus1 c = λ mode.
    far_overflows c.args.a c.args.amount mode c.requires
    (λ e. c.if-a-eq0.false (ap (of_z w128) e))
    (elim c.else-a-eqminus1.branch [
      | else-a-eqminus1-via-then-a-eqminus1+else-amount-eq127 w ↦ λ _ e. w.if-amount-eq127.false (ap (of_z w128) e)
      | else-a-eqminus1-via-else-a-eqminus1 w ↦ λ e _. w.if-a-eqminus1.false (ap (of_z w128) e)
    ])
