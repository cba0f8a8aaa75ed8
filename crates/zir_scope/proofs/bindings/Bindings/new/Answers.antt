use Rattle.std.proofs.Common.{sym, subst, []}
use Rattle.zir_scope.specs.Rows.{Agrees}
use Rattle.zir_scope.proofs.BindingLemmas.{Agrees-empty, none_alone}
use Rattle.zir_scope.proofs.bindings.Bindings.new.Goals as goal

pub invariant_of-result : goal.invariant_of-result
invariant_of-result c =
    let filled = c.in_ok-newest.ensures.items_if_clones_equal (none_alone _ (λ v h. absurd h)) in
    subst (λ rows. Agrees c.in_ok-newest.newest.items rows) (sym c.new.ensures.items)
    (subst (λ newest. Agrees newest []) (sym filled) (Agrees-empty c.args.names))
