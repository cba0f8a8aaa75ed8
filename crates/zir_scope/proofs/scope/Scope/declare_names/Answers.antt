use Rattle.std.proofs.Common.{◌++◌, ◌∷◌, [], arith, ◌∙◌, ap, List}
use Rattle.std.proofs.lemmas.Grind.{common_steps}
use Rattle.zir_scope.specs.declared.bindings.Binding.{Binding}
use Rattle.zir_scope.specs.declared.event.Sort.TheVariants as sort
use Rattle.zir_scope.specs.Binders.{names_in}
use Rattle.zir_scope.specs.Scoping.{bound_with, declaration}
use Rattle.zir_scope.specs.Syntax.{row_in, inside_of}
use Rattle.zir_scope.proofs.Prefixes.{prefix_steps, declare_step}
use Rattle.zir_scope.proofs.scope.Scope.declare_names.Goals as goal

pub loop-rest-preserved-in_ok-declare-in-Node : goal.loop-rest-preserved-in_ok-declare-in-Node
unfolding names_in row_in inside_of
loop-rest-preserved-in_ok-declare-in-Node c =
    let facts = c.args.outline.now.facts.now in
    let t = c.in-Some.token in
    let before = c.loop-rest.self in
    let events = c.in_ok-declare-in-Node.ensures.events ∙ ap (λ (m : List Binding). before.events.items ++ declaration facts sort.Constant m before.locals.entries t ∷ []) c.loop-rest.invariant.members in
    let locals = c.in_ok-declare-in-Node.ensures.locals ∙ ap (λ (m : List Binding). bound_with facts m before.locals.entries t) c.loop-rest.invariant.members in
    record {
      members = grind (arith, common_steps);
      exits = grind (arith, common_steps);
      same = declare_step _ _ _ _ _ _ _ t _ events locals ∙ (let h = c.loop-rest.invariant.same in grind (arith, common_steps, h));
      locals = grind (arith, common_steps, prefix_steps);
    }
