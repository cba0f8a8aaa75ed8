use Rattle.std.proofs.Common.{◌-◌, ◌∙◌, ap, subst, length, take, arith}
use Rattle.zir_scope.specs.Bindings.{BindingsState}
use Rattle.zir_scope.specs.Rows.{Agrees}
use Rattle.zir_scope.proofs.BindingLemmas.{Agrees-below, Agrees-pop, bindings_of-pop, state}
use Rattle.zir_scope.proofs.bindings.Bindings.pop.Goals as goal

pub index_mut-requires : goal.index_mut-requires
index_mut-requires c =
    let agrees = subst (λ rows. Agrees c.self.inside.newest.items rows) c.in-Some.ensures.items c.self.invariant in
    let below = Agrees-below c.self.inside.newest.items c.pop.new.self.items c.in-Some.row agrees in
    omega (arith, below, c.self.inside.newest.ok.0)

pub invariant_of-self : goal.invariant_of-self
invariant_of-self c =
    let agrees = subst (λ rows. Agrees c.self.inside.newest.items rows) c.in-Some.ensures.items c.self.invariant in
    Agrees-pop c.self.inside.newest.items c.pop.new.self.items c.in-Some.row agrees

pub returns-in-Some : goal.returns-in-Some
returns-in-Some c =
    ap (state c.self.inside.newest.len) (bindings_of-pop c.self.inside.rows.items c.pop.new.self.items c.in-Some.row c.in-Some.ensures.items)
    ∙ ap (λ (s : BindingsState). state s.names (take (length s.entries - 1) s.entries)) c.self.view_is
