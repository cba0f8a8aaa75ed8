use Rattle.std.proofs.Common.{arith}
use Rattle.watch_core.proofs.TokenLemmas.{few_tokens}
use Rattle.watch_core.proofs.front.tokens_in.Goals as goal

pub returns-in-Ok-clause-few : goal.returns-in-Ok-clause-few
returns-in-Ok-clause-few c =
    let few = few_tokens c.args.text.now c.in-Ok.tokens.items 67108864 c.in-Ok.ensures.exact c.requires in
    omega (arith, few)
