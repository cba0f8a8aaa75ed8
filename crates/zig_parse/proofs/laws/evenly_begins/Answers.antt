use Rattle.zig_parse.proofs.EvenLaw.{evenly_begins}
use Rattle.zig_parse.proofs.laws.evenly_begins.Goals as goal

pub returns : goal.returns
returns c = evenly_begins
