use Rattle.std.proofs.Common.{◌++◌, ◌∙◌, ap, arith, List, subst, sym, take}
use Rattle.std.proofs.lemmas.Grind.{common_steps}
use Rattle.zir_scope.specs.declared.bindings.Binding.{Binding}
use Rattle.zir_scope.specs.declared.walk.Marks.{Marks}
use Rattle.zir_scope.specs.State.{seen, place, Seen, Extends}
use Rattle.zir_scope.specs.Scoping.{walk}
use Rattle.zir_scope.specs.Syntax.{Syntax, row_in, inside_of}
use Rattle.zir_scope.proofs.Prefixes.{extends_all}
use Rattle.zir_scope.proofs.Trees.{earlier_steps}
use Rattle.zir_scope.proofs.Walks.{visit_step, walk_done, word_step, node_step}
use Rattle.zir_scope.proofs.scope.Scope.+walk.Goals as goal

pub visit-returns : goal.visit-returns
visit-returns t c =
    let o = c.args.outline.now in
    let inner = c.in_ok-inner.inner in
    let changed = seen c.changes.new.self in
    let last = seen c.walk.new.self in
    visit_step _ o (seen c.args.self.now) (seen c.declared.new.self) (seen c.enter.new.self) changed last (seen c.cut.new.self) (seen c.behind.new.self)
    c.args.context inner _ _
    c.in_ok-declared.ensures c.in_ok-inner.ensures.place c.in_ok-inner.ensures.events c.in_ok-inner.ensures.locals c.in_ok-inner.ensures.members c.in_ok-inner.ensures.exits
    c.in_ok-changes.ensures
    (c.in_ok-walk.ensures.events ∙ ap (λ (row : Syntax). changed.events ++ walk o.facts.now (place o changed inner) row) c.kids.ensures.row)
    c.in_ok-walk.ensures.members c.in_ok-walk.ensures.exits c.in_ok-walk.ensures.locals
    (c.cut.ensures ∙ ap (λ (m : Marks). record last { locals = take m.locals last.locals; members = take m.members last.members; exits = take m.exits last.exits }) c.marks-marks.ensures)
    c.in_ok-behind.ensures

pub walk-loop-rest-preserved-in_ok-word-in-Token : goal.walk-loop-rest-preserved-in_ok-word-in-Token
unfolding row_in inside_of
walk-loop-rest-preserved-in_ok-word-in-Token t c =
    record {
      events = word_step _ c.args.outline.now (seen c.loop-rest.self) (seen c.word.new.self) c.loop-rest.now c.past_word-now.result _ _ _ c.in_ok-word-in-Token.ensures c.past_word-now.ensures ∙ (let h = c.loop-rest.invariant.events in grind (arith, common_steps, h));
      members = grind (arith, common_steps);
      exits = grind (arith, common_steps);
      locals = subst (λ (l : List Binding). Extends (seen c.args.self.now).locals l) (sym (ap (λ (s : Seen). s.locals) c.in_ok-word-in-Token.ensures)) c.loop-rest.invariant.locals;
      earlier = grind (arith, common_steps, earlier_steps);
    }

pub walk-loop-rest-preserved : goal.walk-loop-rest-preserved
unfolding row_in inside_of
walk-loop-rest-preserved t c =
    record {
      events = node_step _ c.args.outline.now (seen c.loop-rest.self) (seen c.visit.new.self) (seen c.past_node.new.self) c.loop-rest.now c.in_ok-now-in-Node.now _ _ _ c.in_ok-visit-in-Node.ensures c.in_ok-now-in-Node.ensures.events c.in_ok-now-in-Node.ensures.place ∙ (let h = c.loop-rest.invariant.events in grind (arith, common_steps, h));
      members = grind (arith, common_steps);
      exits = grind (arith, common_steps);
      locals = extends_all _ _ _ (subst (λ (l : List Binding). Extends (seen c.args.self.now).locals l) (sym (ap (λ (s : Seen). s.locals) c.in_ok-visit-in-Node.ensures)) c.loop-rest.invariant.locals) c.in_ok-now-in-Node.ensures.locals;
      earlier = grind (arith, common_steps, earlier_steps);
    }

pub walk-returns-clause-events : goal.walk-returns-clause-events
walk-returns-clause-events t c = sym (walk_done _ _ (seen c.loop-rest.self).events c.args.outline.now c.loop-rest.rest.now c.in_default.len_below) ∙ c.loop-rest.invariant.events
