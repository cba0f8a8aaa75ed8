use Rattle.script_read.proofs.Meanings.{computed_means, means_computed}
use Rattle.script_read.proofs.laws.bytes_have_one_meaning.Goals as goal

pub returns-clause-meant : goal.returns-clause-meant
returns-clause-meant c = computed_means

pub returns-clause-computed : goal.returns-clause-computed
returns-clause-computed c = means_computed
