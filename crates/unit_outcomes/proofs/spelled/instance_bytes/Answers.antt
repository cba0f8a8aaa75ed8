use Rattle.std.proofs.Common.{◌∙◌}
use Rattle.type_form.specs.Means.{instance_at}
use Rattle.unit_outcomes.proofs.SpellLemmas.{code-long, code-rest}
use Rattle.unit_outcomes.proofs.spelled.instance_bytes.Goals as goal

pub behind_code-requires : goal.behind_code-requires
behind_code-requires g c =
    code-long (instance_at (g.P.Keys.known c.args.p.now) c.args.instance) _ (c.as_slice.ensures.value ∙ c.in_ok-whole.ensures.text)

pub returns-clause-text : goal.returns-clause-text
returns-clause-text g c =
    c.in_ok-text.ensures
    ∙ code-rest (instance_at (g.P.Keys.known c.args.p.now) c.args.instance) _ (c.as_slice.ensures.value ∙ c.in_ok-whole.ensures.text)
