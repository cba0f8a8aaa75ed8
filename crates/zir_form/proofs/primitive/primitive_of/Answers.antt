use Rattle.std.proofs.Common.{◌∙◌, ap}
use Rattle.std.specs.Option.{option_or}
use Rattle.zir_form.specs.Primitives.{integer_of, primitive_of}
use Rattle.zir_form.proofs.primitive.primitive_of.Goals as goal

pub returns-in-Some : goal.returns-in-Some
unfolding primitive_of
returns-in-Some c = ap (λ o. option_or o (integer_of c.args.name.now)) c.in-Some.ensures

pub returns-in-None : goal.returns-in-None
unfolding primitive_of
returns-in-None c = c.integer_of.ensures ∙ ap (λ o. option_or o (integer_of c.args.name.now)) c.in-None.ensures
