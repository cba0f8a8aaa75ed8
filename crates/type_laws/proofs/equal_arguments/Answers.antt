use Rattle.type_laws.proofs.Whole.{equal_arguments}
use Rattle.type_laws.proofs.equal_arguments.Goals as goal

pub returns : goal.returns
returns c = equal_arguments
