use Rattle.std.proofs.Common.{◌≡◌, take}
use Rattle.unit_rounds.specs.KnownUnits.{with_indices}
use Rattle.unit_rounds.specs.MetUnits.{units_of_moves}
use Rattle.unit_rounds.proofs.known_units.KnownUnits.note_moves.Given as goal

abbrev pub invariant-loop-done : goal.invariant-loop-done
invariant-loop-done l = l.self ≡ with_indices l.initial.self (units_of_moves (take l.done-index l.moves))
