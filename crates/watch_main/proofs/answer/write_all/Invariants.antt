use Rattle.std.proofs.Common.{◌≡◌, ◌≤◌, ◌++◌, ℕ, List, length}
use Rattle.watch_main.specs.Steps.{taken_with}
use Rattle.watch_main.proofs.answer.write_all.Given as goal

-- the sink has taken what stood before the rest
abbrev pub invariant-loop-rest : goal.invariant-loop-rest
invariant-loop-rest g l =
    (written : List ℕ) × (l.bytes ≡ written ++ l.rest)
    × (g.K.Sink.taken l.out ≡ taken_with (g.K.Sink.taken l.initial.out) written)
    × (g.K.Sink.faults l.initial.out ≤ g.K.Sink.faults l.out)

abbrev pub decreases-loop-rest : goal.decreases-loop-rest
decreases-loop-rest g l = length l.rest
