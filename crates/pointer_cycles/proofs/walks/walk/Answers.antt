-- Each step of a walk visits one more place.
use Rattle.std.proofs.Common.{◌≡◌, ◌+◌, suc, sym, subst, get_or, set, length, arith}
use Rattle.pointer_cycles.specs.Walks.{Walked, after}
use Rattle.pointer_cycles.proofs.Walking.{walked-more}
use Rattle.pointer_cycles.proofs.walks.walk.Goals as goal

pub loop-place-preserved : goal.loop-place-preserved
loop-place-preserved c =
    let f = after c.args.next.now in
    let w = c.loop-place.invariant in
    let none : get_or c.loop-place.visits c.loop-place.place 0 ≡ 0 = omega (arith, c.if-visits-place-ne0.false) in
    let one : suc c.loop-place.reached ≡ c.loop-place.reached + 1 = omega arith in
    let more = walked-more f (length c.args.next.now) c.args.visits.now c.args.count c.args.start c.loop-place.visits c.loop-place.reached c.loop-place.place w c.loop-place-test.true none in
    subst (λ stop. Walked f (length c.args.next.now) c.args.visits.now c.args.count c.args.start (set c.loop-place.visits c.loop-place.place (c.loop-place.reached + 1)) (c.loop-place.reached + 1) stop) (sym c.place_after-place.ensures)
    (subst (λ n. Walked f (length c.args.next.now) c.args.visits.now c.args.count c.args.start (set c.loop-place.visits c.loop-place.place n) n (f c.loop-place.place)) one more)
