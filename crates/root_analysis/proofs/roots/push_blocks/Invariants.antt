use Rattle.std.proofs.Common.{◌≡◌, ◌++◌}
use Rattle.root_analysis.specs.Denoting.{block_indices}
use Rattle.root_analysis.proofs.roots.push_blocks.Given as goal

abbrev pub invariant-loop-number : goal.invariant-loop-number
invariant-loop-number l = l.units.items ≡ l.fn.units.items ++ block_indices l.path l.number
