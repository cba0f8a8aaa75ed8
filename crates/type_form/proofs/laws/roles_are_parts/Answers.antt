use Rattle.type_form.proofs.PartLemmas.{parts_denote, parts_turn}
use Rattle.type_form.proofs.laws.roles_are_parts.Goals as goal

pub returns-clause-denote : goal.returns-clause-denote
returns-clause-denote c = parts_denote

pub returns-clause-turn : goal.returns-clause-turn
returns-clause-turn c = parts_turn
