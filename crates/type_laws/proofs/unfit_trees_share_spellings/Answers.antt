use Rattle.type_laws.proofs.Pairs.{any_set, any_path, any_place, any_optional, any_empty, any_part, any_payload, any_pointer}
use Rattle.type_laws.proofs.unfit_trees_share_spellings.Goals as goal

pub returns-clause-set : goal.returns-clause-set
returns-clause-set c = any_set

pub returns-clause-path : goal.returns-clause-path
returns-clause-path c = any_path

pub returns-clause-place : goal.returns-clause-place
returns-clause-place c = any_place

pub returns-clause-optional : goal.returns-clause-optional
returns-clause-optional c = any_optional

pub returns-clause-empty : goal.returns-clause-empty
returns-clause-empty c = any_empty

pub returns-clause-part : goal.returns-clause-part
returns-clause-part c = any_part

pub returns-clause-payload : goal.returns-clause-payload
returns-clause-payload c = any_payload

pub returns-clause-pointer : goal.returns-clause-pointer
returns-clause-pointer c = any_pointer
