use Rattle.std.proofs.Common.{Some, refl, sym, ap, ◌∙◌}
use Rattle.trace_log.specs.declared.question.UnitIndex.TheVariants as index
use Rattle.trace_log.specs.declared.result.UnitResult.TheVariants as result
use Rattle.wasm_gen.proofs.Runs.{attempt-needs, attempt-ends, both-ok}
use Rattle.wasm_gen.proofs.unit.attempt_spelled_code.Goals as goal

pub with_body-requires-clause-value : goal.with_body-requires-clause-value
with_body-requires-clause-value g c =
    c.requires.answers.results (index.Body c.args.instance) (result.Good c.in-Good.value) (sym c.in-Some.ensures ∙ ap Some (sym c.get.ensures ∙ c.in-Good.is))

pub returns-in-Good-clause-attempt : goal.returns-in-Good-clause-attempt
returns-in-Good-clause-attempt g c =
    let there = sym c.in-Some.ensures ∙ ap Some (sym c.get.ensures ∙ c.in-Good.is) in
    let known = c.requires.answers.results (index.Body c.args.instance) (result.Good c.in-Good.value) there in
    both-ok c.with_body.result c.with_body.ensures.trace c.with_body.ensures.outcome
    (λ a. attempt-ends _ c.args.cx.now c.args.instance c.requires.one c.requires.instance c.requires.short a c.in-Good.value there known)

pub returns-in-None-clause-attempt : goal.returns-in-None-clause-attempt
returns-in-None-clause-attempt g c =
    attempt-needs _ c.args.cx.now c.args.instance c.requires.one c.requires.instance c.requires.short _ (sym c.in-None.ensures) c.new.ensures refl
