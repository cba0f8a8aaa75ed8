use Rattle.zir_form.specs.Core as core
use Rattle.zir_form.specs.Lines.{over_cores, tree_at}
use Rattle.zir_astgen.specs.Writing.{trees}
use Rattle.zir_astgen.proofs.AddLemmas.{adds_after, grows_none}
use Rattle.zir_astgen.proofs.FrameLemmas.{when_true}
use Rattle.zir_astgen.proofs.writer.Writer.run_before.Goals as goal

pub returns-then-runs-clause-tree : goal.returns-then-runs-clause-tree
unfolding over_cores
returns-then-runs-clause-tree c =
    let a = trees c.args.self.now in
    adds_after c.put.result a a (trees c.put.new.self) _ _ (grows_none a) c.put.ensures.tree (when_true c.args.runs (core.runs (tree_at a c.args.run) (tree_at a c.args.after)) (tree_at a c.args.after) c.if-runs.true)
