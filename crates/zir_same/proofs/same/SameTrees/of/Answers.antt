use Rattle.std.proofs.Common.{refl}
use Rattle.zir_form.proofs.PlaceLemmas.{place_in-empty}
use Rattle.zir_same.proofs.SameLemmas.{known_begun, tells}
use Rattle.zir_same.proofs.same.SameTrees.of.Goals as goal

pub returns : goal.returns
returns c =
    tells c.args.left.now c.args.right.now _ _ _ _ _
    (known_begun (record { numbers = c.new.result; next = 1 }) refl (λ w. place_in-empty c.new.result w c.new.ensures.empty))
    c.in_ok-numbers.ensures c.in_ok-numbers-2.ensures
