use Rattle.type_laws.proofs.Whole.{equal_declarations, equal_instances, equal_values}
use Rattle.type_laws.proofs.equal_parts.Goals as goal

pub returns-clause-declarations : goal.returns-clause-declarations
returns-clause-declarations c = equal_declarations

pub returns-clause-instances : goal.returns-clause-instances
returns-clause-instances c = equal_instances

pub returns-clause-values : goal.returns-clause-values
returns-clause-values c = equal_values
