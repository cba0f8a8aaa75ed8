use Rattle.std.proofs.Common.{ap, length, map, arith}
use Rattle.std.proofs.lemmas.List.{length-map}
use Rattle.trace_log.specs.Readings.{unit_at}
use Rattle.trace_log.specs.Snapshots.{files_at, results_at}
use Rattle.root_analysis.proofs.Telling.{reports-few}
use Rattle.root_analysis.proofs.analysis.told.Goals as goal

pub tell-requires : goal.tell-requires
tell-requires g c =
    let known = g.I.Keys.known c.args.p.now in
    let few =
    reports-few c.args.root.now (files_at known c.args.rest.answers) (results_at known c.args.rest.answers) (map (unit_at known) c.as_slice.result.now)
    c.as_slice-2.result.now in
    let same = ap (λ xs. length xs) c.in_ok-list.ensures.reports in
    let units = ap (λ xs. length xs) c.as_slice.ensures.value in
    let mapped = length-map c.as_slice.result.now (unit_at known) in
    record { few = omega (arith, few, same, units, mapped, c.requires.few) }
