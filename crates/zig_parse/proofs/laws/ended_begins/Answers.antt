use Rattle.zig_parse.proofs.EndingLaw.{ended_begins}
use Rattle.zig_parse.proofs.laws.ended_begins.Goals as goal

pub returns : goal.returns
returns c = ended_begins
