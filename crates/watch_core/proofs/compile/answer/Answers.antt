use Rattle.std.proofs.Common.{◌≡◌, List, ap, sym, ◌∙◌}
use Rattle.diag_order.specs.declared.line.Diag.{Diag}
use Rattle.watch_core.specs.declared.session.Update.TheVariants as update
use Rattle.watch_core.specs.Compile.{compile, placed}
use Rattle.watch_core.specs.Counts.{Nothing, counts, update_of}
use Rattle.watch_core.proofs.CaseLemmas.{absent, same_answer}
use Rattle.watch_core.proofs.compile.answer.Goals as goal

pub returns-in_ok-absent-in-None-clause-answer : goal.returns-in_ok-absent-in-None-clause-answer
returns-in_ok-absent-in-None-clause-answer c =
    same_answer c.refused.result (update.Errors (placed c.args.files.now.entries c.in_ok-absent-in-None.absent.items) 0 0)
    (update_of (compile c.args.root.now c.args.files.now.entries) (counts c.args.root.now c.args.files.now.entries Nothing))
    (ap (λ (ds : List Diag). update.Errors (placed c.args.files.now.entries ds) 0 0) c.in_ok-absent-in-None.ensures
    ∙ sym (absent c.args.root.now c.args.files.now.entries (sym c.in-None.ensures)))
    c.refused.ensures
