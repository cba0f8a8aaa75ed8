-- When all places are visited, the marks are those that are wanted.
use Rattle.std.proofs.Common.{arith}
use Rattle.pointer_cycles.proofs.Pointers.{all-marked}
use Rattle.pointer_cycles.proofs.cycles.mark_all.Goals as goal

pub returns : goal.returns
returns c =
    let s = c.loop-start.invariant in
    all-marked c.args.next.now c.args.texts.now c.loop-start.visits c.loop-start.marks c.loop-start.count s.settled
    (λ i low. s.visited i (let t = c.loop-start-test.false in omega arith))
