use Rattle.std.proofs.Common.{◌≡◌, true, false, sym, ap, ◌∙◌, arith, ℤ, pos, to_z}
use Rattle.std.proofs.lemmas.Int.{to_z_pos}
use Rattle.std.specs.Int.{w128}
use Rattle.type_form.specs.declared.tree.Ty.TheVariants as ty
use Rattle.type_form.specs.declared.tree.Value.TheVariants as value
use Rattle.type_form.specs.declared.tree.SimpleTy.TheVariants as simple
use Rattle.elab_form.specs.State.{known}
use Rattle.elab_form.specs.Asking.{pure}
use Rattle.std.proofs.lemmas.Bool.Decides.{nat_tests}
use Rattle.std.specs.Prelude.{nat_lt, ◌^◌}
use Rattle.zw_base.specs.declared.diag.DiagCode.TheVariants as code
use Rattle.sema_body.proofs.Reaching.{reach-first, reach-grows, reach-known, reach-wrong, chosen, passed}
use Rattle.sema_body.proofs.numbers.integer_form.Goals as goal

pub returns-in_ok-value-clause-meets : goal.returns-in_ok-value-clause-meets
returns-in_ok-value-clause-meets g c =
    let small : nat_lt c.args.number (2 ^ 127) ≡ true = grind (arith, nat_tests) in
    let cast : to_z w128 c.args.number ≡ pos c.args.number = to_z_pos w128 c.args.number c.if-number.true in
    let begun = reach-first (chosen _ _ _ small ∙ ap (λ (z : ℤ). pure (known (value.Int (ty.Simple simple.ComptimeInt) z))) (sym cast)) c.requires.stands in
    reach-known _ _ (reach-grows begun c.known_integer.ensures.interns.grows c.known_integer.ensures.agrees) c.in_ok-value.ensures.value

pub returns-else-number-clause-meets : goal.returns-else-number-clause-meets
returns-else-number-clause-meets g c =
    let large : nat_lt c.args.number (2 ^ 127) ≡ false = grind (arith, nat_tests) in
    reach-wrong c.args.f.now c.args.place code.BadNumber c.wrong.result (reach-first (passed _ _ _ large) c.requires.stands) c.requires.frame c.wrong.ensures
