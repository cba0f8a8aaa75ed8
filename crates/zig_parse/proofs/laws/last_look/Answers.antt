use Rattle.zig_parse.proofs.Spared.{last_verdict}
use Rattle.zig_parse.proofs.laws.last_look.Goals as goal

pub returns : goal.returns
returns c = last_verdict
