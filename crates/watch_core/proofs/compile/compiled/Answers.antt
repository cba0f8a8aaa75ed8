use Rattle.std.proofs.Common.{◌≡◌, ◌==◌, List, ap, length, map, sym, ◌∙◌}
use Rattle.zw_base.specs.declared.diag.Found.{Found}
use Rattle.zir_form.specs.declared.front.Front.{Front}
use Rattle.zir_form.specs.Front.{front_in}
use Rattle.root_analysis.specs.Analysis.{analysis}
use Rattle.watch_core.specs.declared.session.Update.TheVariants as update
use Rattle.watch_core.specs.Answers.{analysis_answer}
use Rattle.watch_core.specs.Compile.{compile, diag_of, placed}
use Rattle.watch_core.specs.Counts.{Nothing, counts, update_of}
use Rattle.watch_core.proofs.CaseLemmas.{judged_clean, judged_faulty, same_answer}
use Rattle.watch_core.proofs.compile.compiled.Goals as goal

pub returns-then-not-is_empty-clause-answer : goal.returns-then-not-is_empty-clause-answer
returns-then-not-is_empty-clause-answer c =
    let found : c.as_slice-found.result.now ≡ c.front_at-front.result.now.found = c.as_slice-found.ensures ∙ ap (λ (f : Front). f.found) c.get.ensures in
    same_answer c.refused.result (update.Errors (placed c.args.files.now.entries c.in_ok-diags.diags.items) 0 0)
    (update_of (compile c.args.root.now c.args.files.now.entries) (counts c.args.root.now c.args.files.now.entries Nothing))
    (judged_faulty c.args.root.now c.args.files.now.entries c.front_at-front.result.now c.in_ok-diags.diags.items c.requires.there c.front_at-front.ensures
    (c.in_ok-diags.ensures ∙ ap (map (diag_of c.args.root.now)) found)
    (sym c.if-not-is_empty.true ∙ c.is_empty.ensures ∙ ap (λ (fs : List Found). length fs == 0) found))
    c.refused.ensures

pub returns-clause-answer : goal.returns-clause-answer
returns-clause-answer c =
    let found : c.as_slice-found.result.now ≡ c.front_at-front.result.now.found = c.as_slice-found.ensures ∙ ap (λ (f : Front). f.found) c.get.ensures in
    same_answer c.analysed.result (analysis_answer c.args.root.now c.args.files.now.entries (analysis c.args.root.now (front_in c.front_at-front.result.now)))
    (update_of (compile c.args.root.now c.args.files.now.entries) (counts c.args.root.now c.args.files.now.entries Nothing))
    (judged_clean c.args.root.now c.args.files.now.entries c.front_at-front.result.now c.requires.there c.front_at-front.ensures
    (sym c.if-not-is_empty.false ∙ c.is_empty.ensures ∙ ap (λ (fs : List Found). length fs == 0) found))
    c.analysed.ensures
