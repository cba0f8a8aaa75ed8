use Rattle.std.proofs.Common.{◌≡◌, ◌==◌, ℕ, List, [], length, map, ap, sym, ◌∙◌, arith}
use Rattle.diag_order.specs.declared.line.Diag.{Diag}
use Rattle.wasm_link.specs.Link.{linked}
use Rattle.unit_reports.specs.LinkAnswers.{link_answer}
use Rattle.root_analysis.specs.declared.analysis.RootAnalysis.TheVariants as analysed
use Rattle.watch_core.specs.declared.session.Update.TheVariants as update
use Rattle.watch_core.specs.Answers.{analysis_answer}
use Rattle.watch_core.specs.Compile.{compiled, diag_of, placed}
use Rattle.watch_core.specs.Counts.{update_of}
use Rattle.watch_core.proofs.CaseLemmas.{answer_of_failed, answer_of_linked, same_answer}
use Rattle.watch_core.proofs.compile.told.Goals as goal

pub returns-then-is_empty : goal.returns-then-is_empty
returns-then-is_empty c =
    let len : c.args.founds.len ≡ length c.args.founds.items = omega (arith, c.args.founds.ok) in
    same_answer c.linked.result
    (update_of (compiled c.args.files.now.entries [] (link_answer c.args.root.now (linked c.args.functions.items [] []))) (record { analysed = c.args.units; reused = 0 }))
    (analysis_answer c.args.root.now c.args.files.now.entries (analysed.Told c.args.units c.args.founds.items c.args.functions.items))
    (answer_of_linked c.args.root.now c.args.files.now.entries c.args.units c.args.founds.items c.args.functions.items (sym c.if-is_empty.true ∙ c.is_empty.ensures ∙ ap (λ (n : ℕ). n == 0) len))
    c.linked.ensures

pub returns : goal.returns
returns c =
    let len : c.args.founds.len ≡ length c.args.founds.items = omega (arith, c.args.founds.ok) in
    same_answer c.refused.result (update.Errors (placed c.args.files.now.entries c.in_ok-diags.diags.items) c.args.units 0)
    (analysis_answer c.args.root.now c.args.files.now.entries (analysed.Told c.args.units c.args.founds.items c.args.functions.items))
    (answer_of_failed c.args.root.now c.args.files.now.entries c.args.units c.args.founds.items c.args.functions.items c.in_ok-diags.diags.items
    (c.in_ok-diags.ensures ∙ ap (map (diag_of c.args.root.now)) c.as_slice.ensures.value)
    (sym c.if-is_empty.false ∙ c.is_empty.ensures ∙ ap (λ (n : ℕ). n == 0) len))
    c.refused.ensures
