use Rattle.std.proofs.Common.{◌≡◌, ◌++◌, ◌∷◌, [], Some, length, sym, ap, ◌∙◌, subst, arith}
use Rattle.std.specs.Prelude.{slice_get}
use Rattle.std.specs.Option.{option_copied}
use Rattle.trace_log.specs.TableStates.{unit_get}
use Rattle.unit_rounds.specs.KnownUnits.{with_index}
use Rattle.unit_rounds.proofs.NumberLemmas.{with-number, numbers-put, slice_get-last}
use Rattle.unit_rounds.proofs.known_units.KnownUnits.note.Goals as goal

pub returns-in-Some-clause-ok : goal.returns-in-Some-clause-ok
returns-in-Some-clause-ok c =
    let e : unit_get c.self.inside.numbers c.args.unit ≡ Some c.in-Some.number.now = sym c.get.ensures ∙ ap option_copied c.in-Some.is in
    subst (λ k. k ≡ with_index k c.args.unit) c.self.view_is (sym (with-number _ _ c.args.unit _ c.self.invariant e))

pub returns-in-Some-clause-number : goal.returns-in-Some-clause-number
returns-in-Some-clause-number c =
    let e : unit_get c.self.inside.numbers c.args.unit ≡ Some c.in-Some.number.now = sym c.get.ensures ∙ ap option_copied c.in-Some.is in
    subst (λ k. slice_get k c.get-in-Some.result.now ≡ Some c.args.unit) c.self.view_is
    (ap (slice_get c.self.inside.units.items) c.get-in-Some.ensures ∙ c.self.invariant.finds c.args.unit c.in-Some.number.now e)

pub invariant_of-self-in-Ok : goal.invariant_of-self-in-Ok
invariant_of-self-in-Ok c =
    rw c.in_ok-push.ensures.items
    (numbers-put _ _ _ c.args.unit c.in_ok-number.number c.self.invariant
    (omega (arith, c.in_ok-number.ensures, c.len-place.ensures, c.self.inside.units.ok)) c.in-Ok.ensures.ok)

pub returns-in-Ok-clause-number : goal.returns-in-Ok-clause-number
returns-in-Ok-clause-number c =
    let at : c.len-place.result ≡ length c.self.inside.units.items = omega (arith, c.len-place.ensures, c.self.inside.units.ok) in
    rw c.in_ok-push.ensures.items (ap (slice_get (c.self.inside.units.items ++ c.args.unit ∷ [])) at ∙ slice_get-last c.self.inside.units.items c.args.unit)
