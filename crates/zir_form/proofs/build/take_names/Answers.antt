use Rattle.std.proofs.Common.{◌∙◌, ap}
use Rattle.zir_form.specs.Tables.{in_members}
use Rattle.zir_form.proofs.PlaceLemmas.{place_in-empty}
use Rattle.zir_form.proofs.build.take_names.Goals as goal

pub returns-in-None-clause-names : goal.returns-in-None-clause-names
returns-in-None-clause-names c name = place_in-empty c.new.result name c.new.ensures.empty ∙ ap (λ o. in_members o name) c.in-None.ensures.value
