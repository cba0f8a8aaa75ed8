use Rattle.std.proofs.Common.{inl, inr, ⊎_elim, false, map, sym, ap, subst}
use Rattle.pool_words.specs.Layout.{Row}
use Rattle.pool_words.specs.Rule.{In}
use Rattle.pool_shard.specs.Pairs.{known}
use Rattle.pool_seat.specs.Moves.{IsNewKey, AreApart}
use Rattle.pool_seat.proofs.Moving.{row_cases, apart_adds, HasMoved-adds}
use Rattle.pool_seat.proofs.Ordering.{tree_later, places_added}
use Rattle.pool_seat.proofs.mover.Mover.intern.Goals as goal

pub returns-in-Ok-clause-mover : goal.returns-in-Ok-clause-mover
returns-in-Ok-clause-mover c =
    let m = c.args.self.now in
    let h = c.requires.mover in
    let x : Row = (c.in-Ok.j.0, c.args.key.now) in
    record {
      has = HasMoved-adds (known m.from) m.live.now m.to c.intern.new.self m.moved.items h.has c.intern.ensures.grows.kept.keeps c.intern.ensures.agrees (apart_adds x m.to.view.log c.intern.new.self.view.log c.in-Ok.ensures.added h.has.apart)
          (λ r i. ⊎_elim (λ o. inl o) (λ e. inr (c.requires.new.0, c.requires.new.1, c.requires.new.2, subst (λ (y : Row). IsNewKey (known m.from) (known m.to) m.moved.items c.requires.new.0 c.requires.new.1 y.1) (sym e) c.requires.new.3)) (row_cases r x m.to.view.log c.intern.new.self.view.log c.in-Ok.ensures.added i));
      placed = c.intern.ensures.rows.placed;
      inside = h.inside;
      listed = h.listed;
      entered = h.entered;
      trees = λ i j t. tree_later (known m.from) m.to c.intern.new.self m.moved.items m.moved.items false i c.intern.ensures.grows.kept.keeps (λ a b x. x) (h.trees i j t);
    }

pub returns-in-Err-clause-mover : goal.returns-in-Err-clause-mover
returns-in-Err-clause-mover c =
    let m = c.args.self.now in
    let h = c.requires.mover in
    record {
      has = HasMoved-adds (known m.from) m.live.now m.to c.intern.new.self m.moved.items h.has c.intern.ensures.grows.kept.keeps c.intern.ensures.agrees (subst AreApart (sym c.in-Err.ensures.same) h.has.apart) (λ r i. inl (subst (In r) c.in-Err.ensures.same i));
      placed = c.intern.ensures.rows.placed;
      inside = h.inside;
      listed = h.listed;
      entered = h.entered;
      trees = λ i j t. tree_later (known m.from) m.to c.intern.new.self m.moved.items m.moved.items false i c.intern.ensures.grows.kept.keeps (λ a b x. x) (h.trees i j t);
    }

pub returns-in-Ok-clause-row : goal.returns-in-Ok-clause-row
returns-in-Ok-clause-row c = places_added c.args.self.now.to c.intern.new.self c.in-Ok.j.0 c.args.key.now c.in-Ok.ensures.added c.intern.ensures.grows.kept.keeps c.in-Ok.ensures.place

pub returns-in-Err-clause-rows : goal.returns-in-Err-clause-rows
returns-in-Err-clause-rows c = ap (map (λ (r : Row). r.0)) c.in-Err.ensures.same
