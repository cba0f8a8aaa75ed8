use Rattle.std.proofs.Common.{◌≡◌, ◌∙◌, None, Option, Some, ap, sym}
use Rattle.std.specs.Option.{option_copied}
use Rattle.elab_form.specs.Questions as plain
use Rattle.trace_log.specs.Readings.{unit_at}
use Rattle.trace_log.specs.Snapshots.{files_at, result_get}
use Rattle.unit_outcomes.specs.Reports.{report_by}
use Rattle.unit_outcomes.proofs.ReportLemmas.{none-short, result-is}
use Rattle.unit_outcomes.proofs.outcomes.report.Goals as goal

pub result_report-requires-clause-found : goal.result_report-requires-clause-found
result_report-requires-clause-found g c =
    c.requires.answers.results c.args.unit c.get.result.now
    (sym c.result.ensures ∙ ap option_copied c.in-Some.is ∙ ap Some (sym c.get.ensures))

pub result_report-requires-clause-spelled : goal.result_report-requires-clause-spelled
result_report-requires-clause-spelled g c =
    let k = g.I.Keys.known c.args.p.now in
    let there : result_get c.args.answers.now c.args.unit ≡ Some c.get.result.now = sym c.result.ensures ∙ ap option_copied c.in-Some.is ∙ ap Some (sym c.get.ensures) in
    λ long. sym (result-is k c.args.answers.now c.args.unit (Some c.get.result.now) c.requires.one c.requires.unit there) ∙ c.requires.spelled long

pub waiting_report-requires-clause-short : goal.waiting_report-requires-clause-short
waiting_report-requires-clause-short g c =
    let k = g.I.Keys.known c.args.p.now in
    let absent : result_get c.args.answers.now c.args.unit ≡ None = sym c.result.ensures ∙ ap option_copied c.in-None.is in
    none-short (unit_at k c.args.unit)
    (λ long. sym (result-is k c.args.answers.now c.args.unit None c.requires.one c.requires.unit absent) ∙ c.requires.spelled long)

pub returns-in_ok-told-in-Some-clause-report : goal.returns-in_ok-told-in-Some-clause-report
returns-in_ok-told-in-Some-clause-report g c =
    let k = g.I.Keys.known c.args.p.now in
    let there : result_get c.args.answers.now c.args.unit ≡ Some c.get.result.now = sym c.result.ensures ∙ ap option_copied c.in-Some.is ∙ ap Some (sym c.get.ensures) in
    c.in_ok-told-in-Some.ensures.report c.args.wait
    ∙ ap (λ (r : Option plain.UnitResult). report_by c.args.root.now (files_at k c.args.answers.now) (unit_at k c.args.unit) r c.args.wait)
    (sym (result-is k c.args.answers.now c.args.unit (Some c.get.result.now) c.requires.one c.requires.unit there))

pub returns-in_ok-told-in-None-clause-report : goal.returns-in_ok-told-in-None-clause-report
returns-in_ok-told-in-None-clause-report g c =
    let k = g.I.Keys.known c.args.p.now in
    let absent : result_get c.args.answers.now c.args.unit ≡ None = sym c.result.ensures ∙ ap option_copied c.in-None.is in
    c.in_ok-told-in-None.ensures.report
    ∙ ap (λ (r : Option plain.UnitResult). report_by c.args.root.now (files_at k c.args.answers.now) (unit_at k c.args.unit) r c.args.wait)
    (sym (result-is k c.args.answers.now c.args.unit None c.requires.one c.requires.unit absent))
