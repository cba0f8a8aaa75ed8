use Rattle.zir_form.proofs.MapLemmas.{row_placed}
use Rattle.zir_form.proofs.build.place.Goals as goal

pub returns : goal.returns
returns c = row_placed c.args.row.now c.args.at c.args.places.now c.insert.new.self c.in_ok-insert.ensures.updates
