use Rattle.std.proofs.Common.{◌++◌, ◌∷◌, [], sym, ap, ◌∙◌}
use Rattle.wasm_link.proofs.Steps.{places_kept, places_passed}
use Rattle.wasm_link.proofs.exports.places_of.Goals as goal

pub loop-function-preserved-then-has_name : goal.loop-function-preserved-then-has_name
loop-function-preserved-then-has_name c =
    c.in_ok-push.ensures.items ∙ ap (λ places. places ++ c.in-Some.function.place ∷ []) c.loop-function.invariant
    ∙ sym (places_kept c.args.name.now c.loop-function.yielded c.in-Some.function (sym c.has_name.ensures ∙ c.if-has_name.true))

pub loop-function-preserved : goal.loop-function-preserved
loop-function-preserved c = c.loop-function.invariant ∙ sym (places_passed c.args.name.now c.loop-function.yielded c.in-Some.function (sym c.has_name.ensures ∙ c.if-has_name.false))
