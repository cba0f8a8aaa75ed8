use Rattle.std.proofs.Common.{Some}
use Rattle.zir_form.proofs.PlaceLemmas.{place_in-inserted}
use Rattle.zir_form.proofs.build.put_name.Goals as goal

pub returns : goal.returns
returns c = place_in-inserted c.in_ok-key.key.items c.args.name.now c.args.names.now c.insert.new.self (Some c.args.at) c.in_ok-key.ensures.items c.in_ok-insert.ensures.updates
