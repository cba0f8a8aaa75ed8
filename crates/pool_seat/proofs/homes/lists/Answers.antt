use Rattle.std.proofs.Common.{⊎_elim, get_or, IsSome, [], ◌∷◌, sym, ◌∙◌, subst, arith}
use Rattle.type_form.specs.Denote.{denoted}
use Rattle.pool_words.specs.Rule.{In}
use Rattle.pool_words.proofs.Members.{In-push}
use Rattle.pool_shard.specs.Pairs.{known}
use Rattle.pool_seat.proofs.Trees.{still_denotes, end_denotes}
use Rattle.pool_seat.proofs.homes.lists.Goals as goal

pub loop-n-preserved : goal.loop-n-preserved
loop-n-preserved c =
    let k = known c.intern.new.self in
    record {
      layout = c.intern.ensures.rows.layout ∙ c.loop-n.invariant.layout;
      denote = λ i h. ⊎_elim
          (λ o. still_denotes (known c.loop-n.rows) k i c.intern.ensures.grows.kept.keeps (c.loop-n.invariant.denote i o))
          (λ e. subst (λ x. IsSome (denoted k x)) (sym e) (end_denotes k c.in-Ok.i (get_or c.args.numbers.now c.loop-n.n-index 0 ∷ []) (omega arith) c.in-Ok.ensures.place))
          (In-push i c.in-Ok.i c.loop-n.all.items (subst (In i) c.in-Ok-push.ensures.items h));
    }
