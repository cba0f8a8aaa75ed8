use Rattle.std.proofs.Common.{◌≡◌, take}
use Rattle.unit_rounds.specs.KnownUnits.{with_indices}
use Rattle.unit_rounds.proofs.known_units.KnownUnits.note_all.Given as goal

abbrev pub invariant-loop-unit : goal.invariant-loop-unit
invariant-loop-unit l = l.self ≡ with_indices l.initial.self (take l.unit-index l.units)
