use Rattle.std.proofs.Common.{◌≡◌, ◌<◌, ◌++◌, ◌∷◌, ⊎_elim, ℕ, suc, false, List, length, get_or, take, drop, IsSome, refl, sym, ap, ◌∙◌, subst, arith, rules, drop-cons}
use Rattle.std.proofs.lemmas.Bool.{cases_lt}
use Rattle.std.proofs.lemmas.List.{take_all, take_more, take-append-drop}
use Rattle.type_form.specs.declared.index.Index.{Index}
use Rattle.type_form.specs.Words.{index_of}
use Rattle.type_form.specs.Denote.{denoted}
use Rattle.pool_words.specs.Rule.{In}
use Rattle.pool_shard.specs.Pairs.{known}
use Rattle.type_form.specs.Reach.{Live}
use Rattle.pool_seat.specs.Reach.{Reached}
use Rattle.pool_seat.specs.Moves.{IsMoved}
use Rattle.pool_seat.specs.Movers.{MovesTree, MovesAll, IsStopInTree, IsStopInAll}
use Rattle.pool_seat.proofs.Moving.{Later-trans, Later-known}
use Rattle.pool_seat.proofs.Closing.{In-get, get-In}
use Rattle.pool_seat.proofs.Fronts.{more_live, live_stop}
use Rattle.pool_seat.proofs.mover.Mover.all.Goals as goal

pub visit-requires-clause-needs : goal.visit-requires-clause-needs
visit-requires-clause-needs c =
    let live = c.args.self.now.live.now in
    let x = get_or live c.loop-at.at (index_of 0) in
    subst (λ k. IsSome (denoted k (index_of x.0))) (sym (Later-known c.args.self.now c.loop-at.self c.loop-at.invariant.later)) (c.requires.needs x (In-get live c.loop-at.at (index_of 0) c.loop-at-test.true))

pub visit-requires-clause-reached : goal.visit-requires-clause-reached
visit-requires-clause-reached c =
    let m = c.args.self.now in
    let live = m.live.now in
    let x = get_or live c.loop-at.at (index_of 0) in
    let n = c.loop-at.self in
    let v = c.loop-at.invariant.later in
    subst (λ k. Reached k n.live.now false x.0) (sym (Later-known m n v)) (subst (λ y. Reached (known m.from) y.now false x.0) (sym v.live) (Live x (In-get live c.loop-at.at (index_of 0) c.loop-at-test.true)))

pub returns-in_err-visit-clause-later : goal.returns-in_err-visit-clause-later
returns-in_err-visit-clause-later c = Later-trans c.args.self.now c.loop-at.self c.visit.new.self c.loop-at.invariant.later c.visit.ensures.later

pub loop-at-preserved : goal.loop-at-preserved
loop-at-preserved c =
    let v = c.loop-at.invariant in
    let live = c.args.self.now.live.now in
    let t = c.visit.new.self.moved.items in
    record {
      mover = c.visit.ensures.mover;
      later = Later-trans c.args.self.now c.loop-at.self c.visit.new.self v.later c.visit.ensures.later;
      same = refl;
      done = λ p l. ⊎_elim
          (λ a. let d = v.done p a in (d.0, c.visit.ensures.later.moved (get_or live p (index_of 0)).0 d.0 d.1))
          (λ g. let e : c.loop-at.at ≡ p = omega (arith, g, l) in (c.in_ok-visit.field-0, subst (λ q. IsMoved t (get_or live q (index_of 0)).0 c.in_ok-visit.field-0) e c.in_ok-visit.ensures.moved))
          (cases_lt p c.loop-at.at);
      moves = subst (λ (xs : List Index). MovesAll (known c.args.self.now.from) xs c.args.self.now c.visit.new.self) (sym (take_more live c.loop-at.at (index_of 0) c.loop-at-test.true))
          (more_live (known c.args.self.now.from) (take c.loop-at.at live) (get_or live c.loop-at.at (index_of 0)) c.args.self.now c.loop-at.self c.visit.new.self c.visit.ensures.later v.moves
          (subst (λ k. MovesTree k false (get_or live c.loop-at.at (index_of 0)).0 c.loop-at.self c.visit.new.self) (Later-known c.args.self.now c.loop-at.self v.later) c.in_ok-visit.ensures.moves));
    }

pub returns-clause-live : goal.returns-clause-live
returns-clause-live c i h =
    let v = c.loop-at.invariant in
    let live = c.args.self.now.live.now in
    let g = get-In live (index_of 0) i (subst (λ y. In i y.now) v.later.live h) in
    let f = c.loop-at-test.false in
    let l = g.1 in
    let d = v.done g.0 (omega arith) in
    (d.0, subst (λ (x : Index). IsMoved c.loop-at.self.moved.items x.0 d.0) g.2 d.1)

pub returns-clause-moves : goal.returns-clause-moves
returns-clause-moves c =
    let live = c.args.self.now.live.now in
    let f = c.loop-at-test.false in
    subst (λ (xs : List Index). MovesAll (known c.args.self.now.from) xs c.args.self.now c.loop-at.self) (take_all c.loop-at.at live (omega arith)) c.loop-at.invariant.moves

-- where no more is moved
split_at : (live : List Index) (n : ℕ) → n < length live → take n live ++ get_or live n (index_of 0) ∷ drop (suc n) live ≡ live
split_at live n l = ap (λ (xs : List Index). take n live ++ xs) (sym (drop-cons live n (index_of 0) l)) ∙ take-append-drop n live

pub returns-in_err-visit-clause-stop : goal.returns-in_err-visit-clause-stop
returns-in_err-visit-clause-stop c =
    let m = c.args.self.now in
    let l = c.loop-at.self in
    let v = c.loop-at.invariant in
    let live = m.live.now in
    let x = get_or live c.loop-at.at (index_of 0) in
    let k = known m.from in
    let e = c.in_err-visit.field-0.0 in
    let split : take c.loop-at.at live ++ x ∷ drop (suc c.loop-at.at) live ≡ live = split_at live c.loop-at.at c.loop-at-test.true in
    let at : IsStopInTree k false x.0 l c.visit.new.self e = subst (λ y. IsStopInTree y false x.0 l c.visit.new.self e) (Later-known m l v.later) c.in_err-visit.ensures.stop in
    let stop : IsStopInAll k live m c.visit.new.self e = subst (λ (xs : List Index). IsStopInAll k xs m c.visit.new.self e) split (live_stop k (take c.loop-at.at live) (drop (suc c.loop-at.at) live) x m l c.visit.new.self e c.visit.ensures.later v.moves at) in
    search rules
