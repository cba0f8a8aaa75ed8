use Rattle.zir_astgen.proofs.NumberLemmas.{int_value-whole}
use Rattle.zir_astgen.proofs.values.laws.integers_are_whole.Goals as goal

pub returns : goal.returns
returns c = int_value-whole
