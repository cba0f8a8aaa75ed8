use Rattle.zir_astgen.proofs.StringLaw.{char_holds}
use Rattle.zir_astgen.proofs.values.laws.characters_are_read.Goals as goal

pub returns : goal.returns
returns c = char_holds
