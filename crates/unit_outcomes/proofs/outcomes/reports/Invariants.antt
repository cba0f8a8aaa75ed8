use Rattle.std.proofs.Common.{◌≡◌, ◌++◌, false}
use Rattle.type_form.specs.Known.{IsInjective}
use Rattle.type_form.specs.Pool.{Interns}
use Rattle.trace_log.specs.Readings.{unit_at}
use Rattle.trace_log.specs.Snapshots.{files_at, results_at}
use Rattle.unit_outcomes.proofs.ReportLemmas.{from}
use Rattle.unit_outcomes.proofs.outcomes.reports.Given as goal

-- what is told, and the reports of the units that are left
abbrev pub invariant-loop-number : goal.invariant-loop-number
invariant-loop-number g l =
    let known = g.I.Keys.known in
    let first = known l.fn.p in
    let from_unit = from l.root (files_at first l.answers) (results_at first l.answers) (unit_at first) l.units l.waits in
    record {
      interns : Interns known g.I.Keys.home g.I.Keys.fulls l.fn.p l.p false;
      agrees : IsInjective (known l.p);
      told : l.told.items ++ from_unit l.number ≡ from_unit 0;
    }
