-- All places before this one are visited, and the walks so far are settled.
use Rattle.std.proofs.Common.{ℕ, ◌<◌, length, get_or}
use Rattle.pointer_cycles.specs.Cycles.{text_of}
use Rattle.pointer_cycles.specs.Walks.{Settled, after}
use Rattle.pointer_cycles.proofs.cycles.mark_all.Given as goal

abbrev pub invariant-loop-start : goal.invariant-loop-start
invariant-loop-start l = record {
  settled : Settled (after l.next) (length l.next) (text_of l.texts) l.visits l.marks l.count;
  visited : (i : ℕ) → i < l.start → 0 < get_or l.visits i 0;
}
