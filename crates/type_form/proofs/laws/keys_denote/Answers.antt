use Rattle.type_form.proofs.Depth.{denoted-is}
use Rattle.type_form.proofs.MeansLemmas.{Grows-keeps}
use Rattle.type_form.proofs.laws.keys_denote.Goals as goal

pub returns-clause-layer : goal.returns-clause-layer
returns-clause-layer c = denoted-is

pub returns-clause-stays : goal.returns-clause-stays
returns-clause-stays c = Grows-keeps
