use Rattle.zir_astgen.proofs.StringLaw.{string_holds}
use Rattle.zir_astgen.proofs.values.laws.strings_are_read.Goals as goal

pub returns : goal.returns
returns c = string_holds
