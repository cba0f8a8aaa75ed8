use Rattle.std.proofs.Common.{ap, sym, ◌∙◌}
use Rattle.sema_body.specs.Faults.{unless_failure}
use Rattle.sema_body.proofs.AskLemmas.{heard-again}
use Rattle.sema_body.proofs.asking.ask.Goals as goal

pub returns-in_ok-answer-in-Some-clause-hears : goal.returns-in_ok-answer-in-Some-clause-hears
returns-in_ok-answer-in-Some-clause-hears g c =
    heard-again _ _ _ _ c.in-Some.answer.now _ c.requires.stands c.requires.question (sym c.in-Some.ensures) (c.unless_failure.ensures ∙ ap unless_failure c.in_ok-answer-in-Some.ensures)
