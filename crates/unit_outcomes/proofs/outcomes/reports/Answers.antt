use Rattle.std.proofs.Common.{◌∙◌, None, get_or, arith}
use Rattle.std.proofs.lemmas.List.Elements.{All-get_or}
use Rattle.std.proofs.lemmas.Option.{slice_get-get_or}
use Rattle.type_form.proofs.PoolLemmas.{Interns-then}
use Rattle.trace_log.specs.declared.question.UnitIndex.{UnitIndex}
use Rattle.trace_log.specs.declared.question.UnitIndex.TheVariants as index
use Rattle.trace_log.specs.Readings.{IsUnit, unit_at}
use Rattle.trace_log.specs.Snapshots.{files_at, results_at}
use Rattle.trace_log.proofs.SnapshotLemmas.{AreAnswers-grows}
use Rattle.unit_outcomes.proofs.ReportLemmas.{contains-at, told-more}
use Rattle.unit_outcomes.proofs.StayLemmas.{report-stays, spelled-stays}
use Rattle.unit_outcomes.proofs.outcomes.reports.Goals as goal

abbrev some-unit : UnitIndex
some-unit = index.Decl (record { 0 = 0 })

pub report-requires-clause-answers : goal.report-requires-clause-answers
report-requires-clause-answers g c = AreAnswers-grows _ _ _ c.loop-number.invariant.interns.grows c.requires.answers

pub report-requires-clause-spelled : goal.report-requires-clause-spelled
report-requires-clause-spelled g c =
    let k = g.I.Keys.known c.args.p.now in
    let inv = c.loop-number.invariant in
    let unit = get_or c.args.units.now c.loop-number.number some-unit in
    let is = All-get_or (IsUnit k) c.args.units.now c.loop-number.number some-unit c.loop-number-test.true c.requires.units in
    spelled-stays k _ c.args.answers.now inv.interns.grows c.requires.one inv.agrees c.requires.answers unit is
    (c.requires.spelled (unit_at k unit) (contains-at (unit_at k) c.args.units.now c.loop-number.number some-unit c.loop-number-test.true))

pub loop-number-preserved : goal.loop-number-preserved
loop-number-preserved g c =
    let k = g.I.Keys.known c.args.p.now in
    let inv = c.loop-number.invariant in
    let n = c.loop-number.number in
    let unit = get_or c.args.units.now n some-unit in
    let is = All-get_or (IsUnit k) c.args.units.now n some-unit c.loop-number-test.true c.requires.units in
    let one = c.in_ok-one.ensures.report
    ∙ report-stays k _ c.args.answers.now inv.interns.grows c.requires.one inv.agrees c.requires.answers c.args.root.now unit _ is in
    record {
      interns = Interns-then inv.interns (rw c.in_ok-one.was at c.report.ensures.interns);
      agrees = c.report.ensures.agrees;
      told = told-more c.args.root.now (files_at k c.args.answers.now) (results_at k c.args.answers.now) (unit_at k) c.args.units.now c.args.waits.now n unit _
          c.loop-number.told.items c.put.new.told.items c.in_ok-one.one (slice_get-get_or _ n some-unit c.loop-number-test.true)
          (slice_get-get_or _ n None (omega (arith, c.requires.long, c.loop-number-test.true))) one c.in_ok-put.ensures inv.told;
    }
