-- What a walk keeps: it has numbered the places on its way. Each step visits one more place.
use Rattle.std.proofs.Common.{length}
use Rattle.std.specs.List.{sum_by}
use Rattle.pointer_cycles.specs.Walks.{Walked, after, unvisited}
use Rattle.pointer_cycles.proofs.walks.walk.Given as goal

abbrev pub invariant-loop-place : goal.invariant-loop-place
invariant-loop-place l = Walked (after l.next) (length l.next) l.initial.visits l.count l.start l.visits l.reached l.place

abbrev pub decreases-loop-place : goal.decreases-loop-place
decreases-loop-place l = sum_by unvisited l.visits
