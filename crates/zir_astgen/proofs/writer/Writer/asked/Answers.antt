use Rattle.std.proofs.Common.{◌≡◌, ◌<◌, arith, ◌∙◌, ap, length}
use Rattle.std.proofs.lemmas.Grind.{common_steps}
use Rattle.zir_form.specs.Lines.{tree_at}
use Rattle.zir_scope.specs.Syntax.{inside_of}
use Rattle.zir_astgen.specs.declared.source.Source.{Source}
use Rattle.zir_astgen.specs.Asking.{asked_of}
use Rattle.zir_astgen.specs.Names.{Asked, asked_by}
use Rattle.zir_astgen.specs.Pieces.{parts_of}
use Rattle.zir_astgen.specs.Writing.{file, site, trees}
use Rattle.zir_astgen.proofs.AddLemmas.{grows_more, tree_stays}
use Rattle.zir_astgen.proofs.AskLemmas.{asked_word, asked_node}
use Rattle.zir_astgen.proofs.writer.Writer.asked.Goals as goal

pub loop-rest-preserved-in_ok-asking-in-Token : goal.loop-rest-preserved-in_ok-asking-in-Token
unfolding parts_of
loop-rest-preserved-in_ok-asking-in-Token c =
    let h = c.loop-rest.invariant.same in
    let b = c.loop-rest.invariant.below in
    let asks = c.in_ok-asking-in-Token.ensures.asks in
    let a : Asked = asked_of (trees c.loop-rest.self) c.loop-rest.asking in
    record {
      grows = grows_more _ _ _ c.loop-rest.invariant.grows asks.grows;
      source = c.in_ok-asking-in-Token.ensures.source ∙ c.loop-rest.invariant.source;
      below = grind (arith, common_steps, b);
      object = asks.object;
      items = asks.items;
      same = asked_word _ _ _ _ c.in-Token.token c.in-Token.kind _ a _
          (asks.is ∙ ap (λ (x : Source). asked_by (file (record c.args.self.now { source = x })) (site (record c.args.self.now { source = x })) c.args.place c.in-Token.token c.in-Token.kind a) c.loop-rest.invariant.source)
          (grind (arith, common_steps, h));
    }

pub loop-rest-preserved : goal.loop-rest-preserved
unfolding parts_of
loop-rest-preserved c =
    let h = c.loop-rest.invariant.same in
    let b = c.loop-rest.invariant.below in
    let asks = c.in_ok-asking-in-Node.ensures in
    let a : Asked = asked_of (trees c.loop-rest.self) c.loop-rest.asking in
    let here : c.in-Node.item < length (trees c.args.self.now) = grind (arith, common_steps, b) in
    let there : tree_at (trees c.loop-rest.self) c.in-Node.item ≡ tree_at (trees c.args.self.now) c.in-Node.item = tree_stays _ _ _ c.loop-rest.invariant.grows here in
    record {
      grows = c.loop-rest.invariant.grows;
      source = c.loop-rest.invariant.source;
      below = grind (arith, common_steps, b);
      object = asks.object;
      items = asks.items;
      same = asked_node _ _ _ _ c.in-Node.rule (inside_of c.args.self.now.source.outline.now c.in-Node.node) c.in-Node.first _ a _
          (tree_at (trees c.args.self.now) c.in-Node.item) (tree_at (trees c.loop-rest.self) c.in-Node.item) asks.is there (grind (arith, common_steps, h));
    }
