use Rattle.std.proofs.Common.{◌≡◌, ◌<◌, arith, sym, ◌∙◌, ap, length, refl}
use Rattle.std.proofs.lemmas.Grind.{common_steps}
use Rattle.zir_form.specs.Lines.{tree_at}
use Rattle.zir_astgen.specs.Firsts.{Grows}
use Rattle.zir_astgen.specs.Pieces.{parts_of}
use Rattle.zir_astgen.specs.declared.source.Source.{Source}
use Rattle.zir_astgen.specs.Site.{offset}
use Rattle.zir_astgen.specs.Writing.{file, site, trees}
use Rattle.zir_scope.specs.Syntax.{inside_of}
use Rattle.zir_astgen.proofs.AddLemmas.{absent_tree, grown, grows_more, grows_none, tree_stays, two_lines}
use Rattle.zir_astgen.proofs.ChainLemmas.{chain_word, chain_joined}
use Rattle.zir_astgen.proofs.writer.Writer.chain.Goals as goal

pub loop-rest-init : goal.loop-rest-init
loop-rest-init c =
    record {
      grows = grows_none _;
      source = refl;
      left = c.requires.inside;
      capture = two_lines _ c.args.self.now.has_firsts;
      below = c.requires.below;
      same = rw (absent_tree _ c.args.self.now.has_firsts);
    }

pub loop-rest-preserved-in-Token : goal.loop-rest-preserved-in-Token
unfolding parts_of
loop-rest-preserved-in-Token c =
    let h = c.loop-rest.invariant.same in
    let b = c.loop-rest.invariant.below in
    record {
      grows = c.loop-rest.invariant.grows;
      source = c.loop-rest.invariant.source;
      left = c.loop-rest.invariant.left;
      capture = two_lines _ c.loop-rest.self.has_firsts;
      below = grind (arith, common_steps, b);
      same = chain_word _ _ _ c.loop-rest.operator c.loop-rest.kind _ _ _ _ _ (tree_at (trees c.loop-rest.self) c.loop-rest.capture) _ (absent_tree _ c.loop-rest.self.has_firsts) (grind (arith, common_steps, h));
    }

pub loop-rest-preserved : goal.loop-rest-preserved
unfolding parts_of
loop-rest-preserved c =
    let h = c.loop-rest.invariant.same in
    let b = c.loop-rest.invariant.below in
    let adds = c.in_ok-left-in-Node.ensures.tree in
    let g : Grows (trees c.args.self.now) (trees c.joined.new.self) = grows_more _ _ _ c.loop-rest.invariant.grows (grown _ _ _ _ adds) in
    let place : c.offset-operator_place.result ≡ offset (file c.args.self.now) (site c.args.self.now) c.loop-rest.operator = c.offset-operator_place.ensures ∙ ap (λ (x : Source). offset (file (record c.args.self.now { source = x })) (site (record c.args.self.now { source = x })) c.loop-rest.operator) c.loop-rest.invariant.source in
    let here : c.in-Node.tree < length (trees c.args.self.now) = grind (arith, common_steps, b) in
    let there : tree_at (trees c.loop-rest.self) c.in-Node.tree ≡ tree_at (trees c.args.self.now) c.in-Node.tree = tree_stays _ _ _ c.loop-rest.invariant.grows here in
    record {
      grows = g;
      source = c.in_ok-left-in-Node.ensures.source ∙ c.loop-rest.invariant.source;
      left = adds.inside;
      capture = two_lines _ c.joined.new.self.has_firsts;
      below = grind (arith, common_steps, b);
      same = chain_joined _ _ _ _ _ _ c.in-Node.rule (inside_of c.args.self.now.source.outline.now c.in-Node.node) c.in-Node.first c.offset-operator_place.result _
          (tree_at (trees c.loop-rest.self) c.loop-rest.left) (tree_at (trees c.loop-rest.self) c.loop-rest.capture) _ (tree_at (trees c.args.self.now) c.in-Node.tree) (tree_at (trees c.loop-rest.self) c.in-Node.tree) _
          (sym c.same_rule.ensures ∙ c.if-same_rule.false) place there adds.stands (absent_tree _ c.joined.new.self.has_firsts)
          (grind (arith, common_steps, h));
    }
