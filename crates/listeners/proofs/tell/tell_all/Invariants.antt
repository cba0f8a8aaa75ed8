use Rattle.std.proofs.Common.{◌≡◌, ◌≤◌, ◌+◌, vec_len}
use Rattle.std.specs.Vec.{vec_capacity}
use Rattle.std.specs.VecDeque.{deque_len}
use Rattle.listeners.proofs.Turns.{SoFar}
use Rattle.listeners.proofs.tell.tell_all.Given as goal

-- the listeners so far were told
abbrev pub invariant-loop : goal.invariant-loop
invariant-loop g l = record {
  told : SoFar (λ b. (goal.Listener-dyn g (b.vtable, b.value)).heard b.value) (λ b. (goal.Listener-dyn g (b.vtable, b.value)).faults b.value) (λ b. (goal.Listener-dyn g (b.vtable, b.value)).calls b.value) l.report l.fn.list.items l.counter l.queue.items l.initial.gone.items l.gone.items;
  count : deque_len l.queue + vec_len l.gone ≡ l.count + vec_len l.initial.gone;
  few : vec_len l.gone ≤ vec_len l.initial.gone + l.counter;
  capacity : vec_capacity l.gone ≡ vec_capacity l.initial.gone;
}
