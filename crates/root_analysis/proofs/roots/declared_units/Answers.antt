use Rattle.type_form.proofs.PoolLemmas.{Interns-then}
use Rattle.root_analysis.proofs.RootUnits.{next-units}
use Rattle.root_analysis.proofs.roots.declared_units.Goals as goal

pub loop-name-preserved : goal.loop-name-preserved
loop-name-preserved g c =
    let i = c.loop-name.invariant in
    let turn = rw c.in_ok-unit.was at c.declared_unit.ensures.interns in
    record {
      interns = Interns-then i.interns turn;
      agrees = c.declared_unit.ensures.agrees;
      units =
          next-units _ _ _ _ _ c.in_ok-unit.unit c.args.file _ _ _ _ c.requires.file i.interns.grows turn.grows c.loop-name-test.true c.as_slice.ensures c.name-item.is
          i.units c.in_ok-unit.ensures.unit c.in_ok-push_unit.ensures;
    }
