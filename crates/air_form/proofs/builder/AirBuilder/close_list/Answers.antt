use Rattle.air_form.proofs.Below.{AreBelow-drop, IsBuilt-close}
use Rattle.air_form.proofs.builder.AirBuilder.close_list.Goals as goal

pub invariant_of-self-2 : goal.invariant_of-self-2
invariant_of-self-2 c = rw c.in_ok-list.ensures.items (IsBuilt-close _ c.args.start c.self.invariant)

pub returns-clause-below : goal.returns-clause-below
returns-clause-below c = rw (c.of.ensures, c.in_ok-list.ensures.tail, ← c.self.view_is) (AreBelow-drop c.args.start _ _ c.self.invariant.statements)
