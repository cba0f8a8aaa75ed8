use Rattle.zir_astgen.proofs.AddLemmas.{missing_tree, two_lines}
use Rattle.std.proofs.Common.{arith}
use Rattle.zir_astgen.proofs.writer.Writer.missing.Goals as goal

pub returns-clause-tree : goal.returns-clause-tree
returns-clause-tree c = missing_tree c.args.self.now.lines c.args.self.now.has_firsts

pub returns-clause-inside : goal.returns-clause-inside
returns-clause-inside c = omega (arith, two_lines c.args.self.now.lines c.args.self.now.has_firsts)
