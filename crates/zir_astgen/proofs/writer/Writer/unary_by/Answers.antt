use Rattle.zir_astgen.proofs.ChainLemmas.{missing_adds}
use Rattle.zir_astgen.proofs.writer.Writer.unary_by.Goals as goal

pub returns-in-None-clause-tree : goal.returns-in-None-clause-tree
returns-in-None-clause-tree c = rw c.in-None.is (missing_adds _ c.args.self.now.has_firsts)
