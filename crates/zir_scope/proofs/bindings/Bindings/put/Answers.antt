use Rattle.std.proofs.Common.{◌≡◌, ◌<◌, ◌∙◌, ◌∷◌, ◌++◌, [], sym, ap, subst, length, set, Some, None, arith}
use Rattle.std.proofs.lemmas.List.{get_or_read}
use Rattle.zir_scope.specs.declared.bindings.Binding.{Binding}
use Rattle.zir_scope.specs.declared.bindings.Row.{Row}
use Rattle.zir_scope.specs.Bindings.{BindingsState}
use Rattle.zir_scope.specs.Rows.{bindings_of, Agrees}
use Rattle.zir_scope.proofs.BindingLemmas.{Agrees-push, bindings_of-push, state}
use Rattle.zir_scope.proofs.bindings.Bindings.put.Goals as goal

pub invariant_of-self-2 : goal.invariant_of-self-2
invariant_of-self-2 c =
    let row : Row = record { binding = record { name = c.args.name; value = c.args.value }; hidden = c.index-hidden.result.now } in
    let newest = c.self.inside.newest.items in
    let names : c.self.inside.newest.len ≡ c.args.self.now.names = ap (λ (s : BindingsState). s.names) c.self.view_is in
    let below : c.args.name < length newest = omega (arith, c.self.inside.newest.ok.0, c.requires) in
    let hidden = get_or_read newest _ _ below c.index-hidden.ensures None in
    subst (λ rows. Agrees (set newest c.args.name (Some c.args.value)) rows) (sym c.in_ok-push.ensures.items)
    (Agrees-push newest c.self.inside.rows.items row c.self.invariant below hidden)

pub returns-clause-ok : goal.returns-clause-ok
returns-clause-ok c =
    let binding : Binding = record { name = c.args.name; value = c.args.value } in
    let row : Row = record { binding = binding; hidden = c.index-hidden.result.now } in
    ap (λ rows. state c.self.inside.newest.len (bindings_of rows)) c.in_ok-push.ensures.items
    ∙ ap (state c.self.inside.newest.len) (bindings_of-push c.self.inside.rows.items row)
    ∙ ap (λ (s : BindingsState). state s.names (s.entries ++ binding ∷ [])) c.self.view_is
