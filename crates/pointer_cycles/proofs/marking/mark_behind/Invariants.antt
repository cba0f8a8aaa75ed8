-- The place so far, and the marks of those before it.
use Rattle.std.proofs.Common.{◌≡◌}
use Rattle.pointer_cycles.specs.Cycles.{text_of}
use Rattle.pointer_cycles.specs.Walks.{Passed, after, times}
use Rattle.pointer_cycles.proofs.marking.mark_behind.Given as goal

abbrev pub invariant-loop-step : goal.invariant-loop-step
invariant-loop-step l = record {
  at : times (after l.next) l._step l.start ≡ l.place;
  passed : Passed (after l.next) (text_of l.texts) (text_of l.texts l.least) l.initial.marks l.start l._step l.marks;
}
