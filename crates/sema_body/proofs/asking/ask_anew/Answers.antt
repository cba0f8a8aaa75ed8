use Rattle.std.proofs.Common.{ap, sym, ◌∙◌}
use Rattle.std.specs.Option.{option_map}
use Rattle.trace_log.specs.Readings.{answer_at}
use Rattle.trace_log.specs.Snapshots.{lines_of}
use Rattle.sema_body.specs.Faults.{unless_failure}
use Rattle.sema_body.proofs.AskLemmas.{heard-anew, heard-needs}
use Rattle.sema_body.proofs.asking.ask_anew.Goals as goal

pub returns-in_ok-push_asked-in-Some-clause-hears : goal.returns-in_ok-push_asked-in-Some-clause-hears
returns-in_ok-push_asked-in-Some-clause-hears g c =
    let given = ap (option_map (answer_at (g.I.Keys.known c.args.p.now) (lines_of c.args.cx.now))) (sym c.in-Some.is) ∙ c.in_ok-answer.ensures.answer in
    heard-anew _ _ _ _ _ _ c.in-Some.answer _ c.requires.stands c.answer.ensures.reads.grows c.answer.ensures.agrees c.requires.question c.requires.new given
    (c.in_ok-answer.ensures.known _ c.in-Some.is) (ap (λ t. record c.args.s.now { trace = t }) c.in_ok-push_asked-in-Some.ensures.ok)
    (c.unless_failure.ensures ∙ ap unless_failure c.in_ok-copy-in-Some.ensures)

pub returns-in-None-clause-hears : goal.returns-in-None-clause-hears
returns-in-None-clause-hears g c =
    let given = ap (option_map (answer_at (g.I.Keys.known c.args.p.now) (lines_of c.args.cx.now))) (sym c.in-None.is) ∙ c.in_ok-answer.ensures.answer in
    heard-needs _ _ _ _ _ c.requires.stands c.answer.ensures.reads.grows c.answer.ensures.agrees c.requires.question c.requires.new given
