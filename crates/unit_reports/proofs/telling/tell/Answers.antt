-- All diagnostics: those of the failed units, and those of the marked ones.
use Rattle.std.proofs.Common.{◌∙◌}
use Rattle.unit_reports.specs.Told.{told_functions}
use Rattle.unit_reports.proofs.Loops.{founds-told}
use Rattle.unit_reports.proofs.telling.tell.Goals as goal

pub returns-clause-founds : goal.returns-clause-founds
returns-clause-founds c =
    let p = c.in_ok-failures.ensures in
    c.in_ok-founds.ensures
    ∙ founds-told c.args.reports.items c.in_ok-failures.field-0.failures.items c.as_slice.result.now c.as_slice-2.result.now c.in_ok-failures.field-0.loops.items c.in_ok-marks.marks.items
    p.failures (c.as_slice.ensures.value ∙ p.next) (c.as_slice-2.ensures.value ∙ p.texts) p.loops c.in_ok-marks.ensures

pub returns-clause-functions : goal.returns-clause-functions
unfolding told_functions
returns-clause-functions c = c.in_ok-failures.ensures.functions
