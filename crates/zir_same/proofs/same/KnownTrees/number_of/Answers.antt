use Rattle.std.proofs.Common.{◌∙◌, sym, ap, refl, Some}
use Rattle.zir_form.specs.Places.{place_in}
use Rattle.zir_form.proofs.PlaceLemmas.{place_in-inserted}
use Rattle.zir_same.proofs.SameLemmas.{entered}
use Rattle.zir_same.proofs.same.KnownTrees.number_of.Goals as goal

pub returns-in_ok-insert-in-None-clause-numbers : goal.returns-in_ok-insert-in-None-clause-numbers
returns-in_ok-insert-in-None-clause-numbers c w =
    place_in-inserted c.args.key.items c.args.key.items c.args.self.now.numbers c.insert.new.self (Some c.args.self.now.next) refl c.in_ok-insert-in-None.ensures.updates w
    ∙ entered c.args.key.items w c.args.self.now.next (place_in c.args.self.now.numbers) (ap (place_in c.args.self.now.numbers) (sym c.as_slice.ensures.value) ∙ sym c.in-None.ensures)
