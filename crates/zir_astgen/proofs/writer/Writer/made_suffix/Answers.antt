use Rattle.std.proofs.Common.{arith}
use Rattle.std.proofs.lemmas.Grind.{common_steps}
use Rattle.zir_form.specs.Core as core
use Rattle.zir_astgen.specs.Names.{made_suffix}
use Rattle.zir_astgen.specs.Pieces.{parts_of}
use Rattle.zir_astgen.proofs.AddLemmas.{adds_same}
use Rattle.zir_astgen.proofs.ChainLemmas.{missing_adds}
use Rattle.zir_astgen.proofs.writer.Writer.made_suffix.Goals as goal

pub returns-in-empty-clause-tree : goal.returns-in-empty-clause-tree
unfolding made_suffix parts_of
returns-in-empty-clause-tree c = adds_same _ _ core.missing _ 0 (missing_adds _ c.args.self.now.has_firsts) (grind (arith, common_steps))

pub returns-in-Token-clause-tree : goal.returns-in-Token-clause-tree
unfolding made_suffix parts_of
returns-in-Token-clause-tree c = adds_same _ _ core.missing _ 0 (missing_adds _ c.args.self.now.has_firsts) (grind (arith, common_steps))
