use Rattle.std.proofs.Common.{◌≡◌, ◌∙◌, refl, false, length, rules, arith}
use Rattle.std.proofs.lemmas.Grind.{common_steps}
use Rattle.zir_scope.proofs.Trees.{earlier_steps}
use Rattle.std.proofs.lemmas.Result.{IfOk-weaker}
use Rattle.zir_scope.specs.Syntax.{inside_of, row_in, rule_at}
use Rattle.zir_astgen.specs.declared.around.Place.{Place}
use Rattle.zir_astgen.specs.declared.walk.Visited.{Visited}
use Rattle.zir_astgen.specs.Firsts.{Adds}
use Rattle.zir_astgen.specs.Frames.{around_of}
use Rattle.zir_astgen.specs.Trees.{is_apart, tree_at}
use Rattle.zir_astgen.specs.Walks.{node_tree}
use Rattle.zir_astgen.specs.Writing.{file, site, trees}
use Rattle.zir_astgen.proofs.AddLemmas.{absent_tree, grown, two_lines}
use Rattle.zir_astgen.proofs.FrameLemmas.{frames_below_stay}
use Rattle.zir_astgen.proofs.WalkLemmas.{enter_all, node_turn, token_turn, visit_tree, walked_done, within_is}
use Rattle.zir_astgen.proofs.writer.Writer.+walk.Goals as goal

pub enter-walk-requires : goal.enter-walk-requires
enter-walk-requires t c =
    let w = c.args.self.now in
    let two = two_lines w.lines w.has_firsts in
    (search rules, (c.pushed-inner.ensures.below (length (trees w)) two (c.pushed-outer.ensures.below (length (trees w)) two c.requires.frames), c.requires.earlier))

pub enter-made_by-requires-clause-around : goal.enter-made_by-requires-clause-around
enter-made_by-requires-clause-around t c =
    let w = c.args.self.now in
    let two = two_lines w.lines w.has_firsts in
    frames_below_stay (trees w) (trees c.walk.new.self) c.pushed-inner.result c.in_ok-pieces.ensures.walked.grows
    (c.pushed-inner.ensures.below (length (trees w)) two (c.pushed-outer.ensures.below (length (trees w)) two c.requires.frames))

pub enter-returns-clause-first : goal.enter-returns-clause-first
enter-returns-clause-first t c =
    let w = c.args.self.now in
    let two = two_lines w.lines w.has_firsts in
    let inner : Place = record { frames = c.pushed-inner.result; stage = c.stage_within.result } in
    (enter_all w.source c.walk.new.self.source (trees w) (trees c.walk.new.self) (trees c.made_by.new.self) c.args.place inner _ _ _ c.args.rule _ _
    (within_is (trees w) c.args.place inner c.pushed-outer.result c.args.rule c.layer_into.result c.layer_within.result (absent_tree w.lines w.has_firsts) c.layer_into.ensures c.layer_within.ensures c.pushed-outer.ensures.levels c.pushed-inner.ensures.levels c.stage_within.ensures)
    (c.pushed-inner.ensures.below (length (trees w)) two (c.pushed-outer.ensures.below (length (trees w)) two c.requires.frames))
    c.in_ok-pieces.ensures.walked c.in_ok-pieces.ensures.source c.as_slice-held.ensures.value c.in_ok-line.ensures.tree c.first_of-first.ensures).0

pub enter-returns-clause-tree : goal.enter-returns-clause-tree
enter-returns-clause-tree t c =
    let w = c.args.self.now in
    let two = two_lines w.lines w.has_firsts in
    let inner : Place = record { frames = c.pushed-inner.result; stage = c.stage_within.result } in
    (enter_all w.source c.walk.new.self.source (trees w) (trees c.walk.new.self) (trees c.made_by.new.self) c.args.place inner _ _ _ c.args.rule _ _
    (within_is (trees w) c.args.place inner c.pushed-outer.result c.args.rule c.layer_into.result c.layer_within.result (absent_tree w.lines w.has_firsts) c.layer_into.ensures c.layer_within.ensures c.pushed-outer.ensures.levels c.pushed-inner.ensures.levels c.stage_within.ensures)
    (c.pushed-inner.ensures.below (length (trees w)) two (c.pushed-outer.ensures.below (length (trees w)) two c.requires.frames))
    c.in_ok-pieces.ensures.walked c.in_ok-pieces.ensures.source c.as_slice-held.ensures.value c.in_ok-line.ensures.tree c.first_of-first.ensures).1

pub visit-returns-clause-tree : goal.visit-returns-clause-tree
visit-returns-clause-tree t c =
    let w = c.args.self.now in
    let a = around_of (trees w) c.args.place in
    let o = w.source.outline.now in
    let rule = c.rule_at-rule.result in
    let row = row_in o c.kids-2.result.now in
    let last = trees c.enter.new.self in
    let apart : is_apart rule ≡ false = cc in
    IfOk-weaker c.enter.result (λ (v : Visited). Adds (trees w) last (tree_at (file w) (site w) a rule row) v.line)
    (λ (v : Visited). Adds (trees w) last (node_tree (file w) (site w) a (rule_at o.nodes.now c.args.node) (inside_of o c.args.node)) v.line)
    (λ v k. visit_tree (file w) (site w) a (trees w) last rule (rule_at o.nodes.now c.args.node) row (inside_of o c.args.node) v.line apart c.rule_at-rule.ensures c.kids-2.ensures.row k)
    c.enter.ensures.tree

pub walk-past_node-requires-clause-below : goal.walk-past_node-requires-clause-below
walk-past_node-requires-clause-below t c =
    frames_below_stay (trees c.loop-rest.self) (trees c.visit.new.self) c.loop-rest.now.frames (grown _ _ _ _ c.in_ok-first-in-Node.ensures.tree) c.loop-rest.invariant.walked.around

pub walk-loop-rest-preserved-in_ok-push-in-Token : goal.walk-loop-rest-preserved-in_ok-push-in-Token
walk-loop-rest-preserved-in_ok-push-in-Token t c =
    record {
      walked = token_turn c.args.self.now.source c.loop-rest.self.source (trees c.args.self.now) (trees c.loop-rest.self) _ c.loop-rest.now c.past_token-now.result c.loop-rest.pieces.items _ c.in-Token.token c.kind_at-kind.result c.loop-rest.rest.now _
          c.loop-rest.invariant.walked (grind (arith, common_steps)) c.loop-rest.invariant.source c.kind_at-kind.ensures c.in_ok-push-in-Token.ensures.items c.past_token-now.ensures.around c.past_token-now.ensures.frames;
      earlier = grind (arith, common_steps, earlier_steps);
      source = c.loop-rest.invariant.source;
    }

pub walk-loop-rest-preserved : goal.walk-loop-rest-preserved
walk-loop-rest-preserved t c =
    record {
      walked = node_turn c.args.self.now.source c.loop-rest.self.source c.visit.new.self.source (trees c.args.self.now) (trees c.loop-rest.self) (trees c.visit.new.self) (trees c.past_node.new.self) _ c.loop-rest.now c.in_ok-now-in-Node.now c.loop-rest.pieces.items _ c.in-Node.node _ _ c.rule_at-rule.result c.loop-rest.rest.now _
          c.loop-rest.invariant.walked (grind (arith, common_steps)) c.loop-rest.invariant.source c.in_ok-first-in-Node.ensures.source c.rule_at-rule.ensures c.in_ok-first-in-Node.ensures.first c.in_ok-first-in-Node.ensures.tree c.in_ok-push-in-Node.ensures.items c.in_ok-now-in-Node.ensures.around;
      earlier = grind (arith, common_steps, earlier_steps);
      source = c.in_ok-now-in-Node.ensures.source ∙ c.in_ok-first-in-Node.ensures.source ∙ c.loop-rest.invariant.source;
    }

pub walk-returns-clause-walked : goal.walk-returns-clause-walked
walk-returns-clause-walked t c =
    walked_done c.args.self.now.source.outline.now (file c.args.self.now) (site c.args.self.now) (trees c.args.self.now) (trees c.loop-rest.self) _ c.loop-rest.now _ c.loop-rest.rest.now c.loop-rest.invariant.walked c.in_default.len_below refl
