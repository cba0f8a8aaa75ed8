use Rattle.std.proofs.Common.{sym, subst}
use Rattle.zir_scope.specs.Rows.{Agrees}
use Rattle.zir_scope.proofs.BindingLemmas.{Agrees-wider}
use Rattle.zir_scope.proofs.bindings.Bindings.widen.Goals as goal

pub invariant_of-self-2 : goal.invariant_of-self-2
invariant_of-self-2 c =
    subst (λ newest. Agrees newest c.self.inside.rows.items) (sym c.in_ok-push.ensures.items)
    (Agrees-wider c.self.inside.newest.items c.self.inside.rows.items c.self.invariant)
