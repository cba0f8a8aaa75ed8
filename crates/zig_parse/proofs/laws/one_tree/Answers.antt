use Rattle.zig_parse.proofs.Unique.{one_tree}
use Rattle.zig_parse.proofs.laws.one_tree.Goals as goal

pub returns : goal.returns
returns c = one_tree
