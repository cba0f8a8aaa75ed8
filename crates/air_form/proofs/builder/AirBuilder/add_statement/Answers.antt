use Rattle.air_form.proofs.Below.{IsBuilt-state}
use Rattle.air_form.proofs.builder.AirBuilder.add_statement.Goals as goal

pub invariant_of-self-2 : goal.invariant_of-self-2
invariant_of-self-2 c = rw c.in_ok-push.ensures.items (IsBuilt-state _ c.args.statement c.self.invariant (rw (← c.self.view_is) at c.requires))
