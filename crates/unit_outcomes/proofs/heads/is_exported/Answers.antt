use Rattle.std.proofs.Common.{ap, ◌∙◌}
use Rattle.std.specs.Option.{option_map}
use Rattle.type_form.specs.Means.{decl_at}
use Rattle.elab_form.specs.Questions.{head}
use Rattle.unit_outcomes.specs.Heads as plain
use Rattle.unit_outcomes.proofs.HeadLemmas.{text_told}
use Rattle.unit_outcomes.proofs.heads.is_exported.Goals as goal

pub returns-clause-exported : goal.returns-clause-exported
returns-clause-exported g c =
    let k = g.P.Keys.known c.args.p.now in
    c.is_exported_tree.ensures
    ∙ ap plain.is_exported (ap (option_map (plain.tree_at c.args.answers.now)) c.tree_in.ensures
    ∙ text_told k c.args.answers.now (head (decl_at k c.args.decl)) c.in_ok-answer.answer c.in_ok-answer.ensures.answer)
