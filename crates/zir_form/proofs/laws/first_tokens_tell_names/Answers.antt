use Rattle.zir_form.proofs.NameLemmas.{first_names_tell, first_names-at, first_name-within}
use Rattle.zir_form.proofs.laws.first_tokens_tell_names.Goals as goal

pub returns-clause-same : goal.returns-clause-same
returns-clause-same c = first_names_tell

pub returns-clause-each : goal.returns-clause-each
returns-clause-each c = first_names-at

pub returns-clause-within : goal.returns-clause-within
returns-clause-within c = first_name-within
