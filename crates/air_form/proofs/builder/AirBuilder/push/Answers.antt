use Rattle.air_form.proofs.Below.{IsBuilt-push}
use Rattle.air_form.proofs.builder.AirBuilder.push.Goals as goal

pub invariant_of-self-2 : goal.invariant_of-self-2
invariant_of-self-2 c = rw c.in_ok-push.ensures.items (IsBuilt-push _ c.args.node c.self.invariant (rw (← c.self.view_is) at c.requires))
