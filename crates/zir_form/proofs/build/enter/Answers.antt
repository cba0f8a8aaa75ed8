use Rattle.zir_form.proofs.MapLemmas.{row_entered}
use Rattle.zir_form.proofs.build.enter.Goals as goal

pub returns : goal.returns
returns c = row_entered c.args.row.now c.args.at c.as_slice-name.result.now c.args.members.now c.take_names-names.new.members c.insert.new.self c.take_names-names.result c.put_name.new.names c.as_slice-name.ensures c.take_names-names.ensures.names c.take_names-names.ensures.others c.in_ok-put_name.ensures c.in_ok-insert.ensures.updates
