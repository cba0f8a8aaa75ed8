use Rattle.type_laws.proofs.Whole.{equal_types}
use Rattle.type_laws.proofs.equal_types.Goals as goal

pub returns : goal.returns
returns c = equal_types
