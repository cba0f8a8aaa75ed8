use Rattle.std.proofs.Common.{◌∙◌, sym, Some}
use Rattle.zir_form.specs.Places.{place_in}
use Rattle.zir_form.proofs.NameLemmas.{kept-nameless, kept-known, added}
use Rattle.zir_form.proofs.PlaceLemmas.{place_in-inserted}
use Rattle.zir_form.proofs.names.enter.Goals as goal

pub returns-then-not-same_kind-clause-places : goal.returns-then-not-same_kind-clause-places
returns-then-not-same_kind-clause-places c cs = kept-nameless c.args.text.now cs c.args.token.now c.args.at (place_in c.args.places.now cs) (sym c.if-not-same_kind.ensures)

pub returns-in-Some-clause-places : goal.returns-in-Some-clause-places
returns-in-Some-clause-places c cs = kept-known c.args.text.now cs c.as_slice.result.now c.args.token.now c.args.at c.in-Some.first (place_in c.args.places.now) (c.as_slice.ensures.value ∙ c.into_vec-name.ensures ∙ c.in_ok-name_of.ensures) (sym c.in-Some.ensures)

pub returns-in_ok-insert-in-None-clause-places : goal.returns-in_ok-insert-in-None-clause-places
returns-in_ok-insert-in-None-clause-places c cs =
    let name = c.as_slice.result.now in
    let is = c.into_vec-name.ensures ∙ c.in_ok-name_of.ensures in
    place_in-inserted c.into_vec-name.result.items name c.args.places.now c.insert.new.self (Some c.args.at) (sym c.as_slice.ensures.value) c.in_ok-insert-in-None.ensures.updates cs
    ∙ added c.args.text.now cs name c.args.token.now c.args.at (place_in c.args.places.now) (sym c.same_kind.ensures ∙ c.if-not-same_kind.false) (c.as_slice.ensures.value ∙ is) (sym c.in-None.ensures)
