use Rattle.std.proofs.Common.{false, map, take}
use Rattle.type_form.specs.Known.{IsInjective}
use Rattle.type_form.specs.Means.{ty_at}
use Rattle.type_form.specs.Pool.{Interns}
use Rattle.root_analysis.specs.Denoting.{DenoteUnits}
use Rattle.root_analysis.specs.Roots.{declared_in}
use Rattle.root_analysis.proofs.roots.declared_units.Given as goal

-- the units of the names so far
abbrev pub invariant-loop-name : goal.invariant-loop-name
invariant-loop-name g l =
    let known = g.I.Keys.known in
    record {
      interns : Interns known g.I.Keys.home g.I.Keys.fulls l.fn.p l.p false;
      agrees : IsInjective (known l.p);
      units : DenoteUnits (known l.p) l.units.items (map (declared_in (ty_at (known l.fn.p) l.file)) (take l.name-index l.names));
    }
