use Rattle.zig_parse.proofs.Costs.{more_moves}
use Rattle.zig_parse.proofs.laws.moves_suffice.Goals as goal

pub returns : goal.returns
returns c = more_moves
