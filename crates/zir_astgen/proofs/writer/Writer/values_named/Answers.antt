use Rattle.std.proofs.Common.{◌≡◌, ◌<◌, ℕ, List, arith, sym, ◌∙◌, ap, subst, length}
use Rattle.std.proofs.lemmas.Grind.{common_steps}
use Rattle.zir_form.specs.Core.{Core}
use Rattle.zir_form.specs.Core as core
use Rattle.zir_form.specs.Lines.{tree_at}
use Rattle.zir_scope.specs.Syntax.{inside_of}
use Rattle.zir_astgen.specs.declared.source.Source.{Source}
use Rattle.zir_astgen.specs.Firsts.{Adds, AreBelow, Grows}
use Rattle.zir_astgen.specs.Pieces.{parts_of}
use Rattle.zir_astgen.specs.Site.{bytes_of_name}
use Rattle.zir_astgen.specs.Writing.{file, trees}
use Rattle.zir_astgen.proofs.AddLemmas.{adds_same, are_below_more, are_below_push, grown, grows_more, longer, tree_stays}
use Rattle.zir_astgen.proofs.AskLemmas.{named_step}
use Rattle.zir_astgen.proofs.writer.Writer.values_named.Goals as goal

pub loop-rest-preserved : goal.loop-rest-preserved
unfolding parts_of
loop-rest-preserved c =
    let h = c.loop-rest.invariant.same in
    let b = c.loop-rest.invariant.below in
    let given = c.in_ok-value-in-Node.ensures.tree in
    let pushed = c.in_ok-push-in-Node.ensures.items in
    let old = trees c.args.self.now in
    let between = trees c.loop-rest.self in
    let here : c.in-Node.line < length old = grind (arith, common_steps, b) in
    let there : tree_at between c.in-Node.line ≡ tree_at old c.in-Node.line = tree_stays _ _ _ c.loop-rest.invariant.grows here in
    let tree : Core = core.named_value (bytes_of_name (file c.args.self.now) c.loop-rest.name) (tree_at old c.in-Node.line) in
    let adds : Adds between (trees c.value_named.new.self) tree c.in_ok-value-in-Node.value = adds_same _ _ _ tree _ given
    (ap (λ (x : Source). core.named_value (bytes_of_name (file (record c.args.self.now { source = x })) c.loop-rest.name) (tree_at between c.in-Node.line)) c.loop-rest.invariant.source
    ∙ ap (core.named_value (bytes_of_name (file c.args.self.now) c.loop-rest.name)) there) in
    let g : Grows between (trees c.value_named.new.self) = grown _ _ _ _ adds in
    record {
      grows = grows_more _ _ _ c.loop-rest.invariant.grows g;
      source = c.in_ok-value-in-Node.ensures.source ∙ c.loop-rest.invariant.source;
      below = grind (arith, common_steps, b);
      inside = subst (λ (l : List ℕ). AreBelow (length (trees c.value_named.new.self)) l) (sym pushed) (are_below_push _ _ _ (are_below_more _ _ _ (longer _ _ g) c.loop-rest.invariant.inside) adds.inside);
      same = named_step (file c.args.self.now) c.loop-rest.name c.in-Node.rule (inside_of c.args.self.now.source.outline.now c.in-Node.node) c.in-Node.first (tree_at old c.in-Node.line) _ between (trees c.value_named.new.self) _ _ _ _
          c.loop-rest.invariant.inside adds pushed (grind (arith, common_steps, h));
    }
