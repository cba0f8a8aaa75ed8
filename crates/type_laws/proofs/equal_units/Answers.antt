use Rattle.type_laws.proofs.Whole.{equal_units}
use Rattle.type_laws.proofs.equal_units.Goals as goal

pub returns : goal.returns
returns c = equal_units
