use Rattle.std.proofs.Common.{◌≡◌, false, IsSome, sym, ap, subst}
use Rattle.type_form.specs.Known.{Known, words_at}
use Rattle.pool_shard.specs.Pairs.{known, known_of}
use Rattle.pool_seat.specs.Moves.{HasMoved}
use Rattle.pool_seat.specs.Movers.{HasTree}
use Rattle.pool_seat.proofs.mover.Mover.read.Goals as goal

pub returns-clause-mover : goal.returns-clause-mover
returns-clause-mover c =
    let m = c.args.self.now in
    let h = c.requires.mover in
    let e : known c.key_into.new.self ≡ known m.from = ap known_of c.key_into.ensures.same in
    record {
      has = subst (λ (k : Known). HasMoved k m.live.now m.to m.moved.items) (sym e) h.has;
      placed = h.placed;
      inside = λ i s. h.inside i (subst (λ (k : Known). IsSome (words_at k i)) e s);
      listed = h.listed;
      entered = h.entered;
      trees = λ i j s. subst (λ (k : Known). HasTree k m.to m.moved.items false i) (sym e) (h.trees i j s);
    }
