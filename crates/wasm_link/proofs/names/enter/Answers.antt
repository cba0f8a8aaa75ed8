use Rattle.wasm_link.proofs.NameLemmas.{place_in-inserted}
use Rattle.wasm_link.proofs.names.enter.Goals as goal

pub returns : goal.returns
returns c = place_in-inserted c.in_ok-key.key.items c.args.name.now c.args.places.now c.insert.new.self _ c.in_ok-key.ensures.items c.in_ok-insert.ensures.updates
