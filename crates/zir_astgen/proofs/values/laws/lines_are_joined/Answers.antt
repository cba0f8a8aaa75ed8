use Rattle.zir_astgen.proofs.LineLaw.{lines_hold}
use Rattle.zir_astgen.proofs.values.laws.lines_are_joined.Goals as goal

pub returns : goal.returns
returns c = lines_hold
