use Rattle.zir_astgen.specs.Chains.{made_type}
use Rattle.zir_astgen.specs.Pieces.{parts_of}
use Rattle.zir_astgen.proofs.ChainLemmas.{missing_adds}
use Rattle.zir_astgen.proofs.writer.Writer.type_part.Goals as goal

pub returns-in-Token-clause-tree : goal.returns-in-Token-clause-tree
unfolding made_type parts_of
returns-in-Token-clause-tree c = rw c.in-Token.is (missing_adds _ c.args.self.now.has_firsts)
