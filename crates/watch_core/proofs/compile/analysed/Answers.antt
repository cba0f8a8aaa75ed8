use Rattle.std.proofs.Common.{List, ap, sym, ◌∙◌}
use Rattle.diag_order.specs.declared.line.Diag.{Diag}
use Rattle.zir_form.specs.Front.{front_in}
use Rattle.root_analysis.specs.Analysis.{analysis}
use Rattle.watch_core.specs.declared.session.Update.TheVariants as update
use Rattle.watch_core.specs.Answers.{analysis_answer}
use Rattle.watch_core.specs.Compile.{placed}
use Rattle.watch_core.proofs.CaseLemmas.{answer_of_many, same_answer}
use Rattle.watch_core.proofs.compile.analysed.Goals as goal

pub returns-in_ok-many-in-TooMany : goal.returns-in_ok-many-in-TooMany
returns-in_ok-many-in-TooMany c =
    same_answer c.refused.result (update.Errors (placed c.args.files.now.entries c.in_ok-many-in-TooMany.many.items) 0 0)
    (analysis_answer c.args.root.now c.args.files.now.entries (analysis c.args.root.now (front_in c.args.front.now)))
    (ap (λ (ds : List Diag). update.Errors (placed c.args.files.now.entries ds) 0 0) c.in_ok-many-in-TooMany.ensures
    ∙ answer_of_many c.args.root.now c.args.files.now.entries
    ∙ ap (analysis_answer c.args.root.now c.args.files.now.entries) (sym c.in-TooMany.is ∙ c.in_ok-analyse_root.ensures))
    c.refused.ensures
