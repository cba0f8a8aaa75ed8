use Rattle.std.proofs.Common.{◌∙◌, List, ℕ, ap, ap₂, sym}
use Rattle.zw_base.specs.declared.diag.Found.{Found}
use Rattle.trace_log.specs.Readings.{unit_at}
use Rattle.trace_log.specs.Snapshots.{files_at}
use Rattle.trace_log.proofs.SnapshotLemmas.{AreAnswers-grows}
use Rattle.unit_reports.specs.declared.report.UnitReport.TheVariants as report
use Rattle.unit_outcomes.specs.Reports as plain
use Rattle.unit_outcomes.proofs.StayLemmas.{loop-stays}
use Rattle.unit_outcomes.proofs.outcomes.waiting_report.Goals as goal

pub loop_found-requires-clause-answers : goal.loop_found-requires-clause-answers
loop_found-requires-clause-answers g c = AreAnswers-grows _ _ _ c.unit_bytes.ensures.reads.grows c.requires.answers

pub returns-in_ok-found-in-Some-clause-report : goal.returns-in_ok-found-in-Some-clause-report
returns-in_ok-found-in-Some-clause-report g c =
    let k = g.I.Keys.known c.args.p.now in
    let text = c.of.ensures ∙ c.in_ok-text-in-Some.ensures.text in
    let found = c.in_ok-found-in-Some.ensures.found
    ∙ loop-stays _ _ c.args.answers.now c.unit_bytes.ensures.reads.grows c.requires.one c.unit_bytes.ensures.agrees c.requires.answers
    c.args.unit c.requires.unit in
    ap₂ (λ (t : List ℕ) (f : Found). report.Waits (record { next = c.in-Some.next; text = t; found = f })) text found
    ∙ ap (plain.waiting_report (files_at k c.args.answers.now) (unit_at k c.args.unit)) (sym c.in-Some.is)
