-- The place so far, and one of least text of those so far.
use Rattle.std.proofs.Common.{◌≡◌, ℕ, ◌≤◌, false}
use Rattle.pointer_cycles.specs.Cycles.{is_before, text_of}
use Rattle.pointer_cycles.specs.Walks.{after, times}
use Rattle.pointer_cycles.proofs.walks.least_behind.Given as goal

abbrev pub invariant-loop-step : goal.invariant-loop-step
invariant-loop-step l = record {
  at : times (after l.next) l._step l.start ≡ l.place;
  among : (k : ℕ) × (times (after l.next) k l.start ≡ l.least);
  lowest : (k : ℕ) → k ≤ l._step → is_before (text_of l.texts (times (after l.next) k l.start)) (text_of l.texts l.least) ≡ false;
}
