use Rattle.unit_rounds.proofs.NumberLemmas.{next-known}
use Rattle.unit_rounds.proofs.known_units.KnownUnits.note_all.Goals as goal

pub loop-unit-preserved : goal.loop-unit-preserved
loop-unit-preserved c = next-known c.args.self.now c.args.units.now c.loop-unit.unit-index _ _ _ c.loop-unit-test.true c.loop-unit.invariant c.in_ok-note.ensures.ok
