use Rattle.std.proofs.Common.{ap, sym, ◌∙◌, subst}
use Rattle.std.specs.Option.{option_map}
use Rattle.trace_log.specs.Readings.{IsQuestion, answer_at, part_at, question_at}
use Rattle.trace_log.specs.Snapshots.{given_at, lines_of}
use Rattle.trace_log.proofs.GivenLemmas.{given-text, given-name, given-exports, given-known, given-result}
use Rattle.trace_log.proofs.answers.Answers.answer.Goals as goal

pub returns-in_ok-text-in-Text-clause-answer : goal.returns-in_ok-text-in-Text-clause-answer
returns-in_ok-text-in-Text-clause-answer g c =
    let k = g.P.Keys.known c.args.p.now in
    let a = c.args.self.now in
    given-text k a (part_at k c.in-Text.part) _ c.in_ok-text-in-Text.ensures.text
    ∙ ap (λ q. given_at k a (question_at k q)) (sym c.in-Text.is)

pub returns-in_ok-declaration-in-Name-clause-answer : goal.returns-in_ok-declaration-in-Name-clause-answer
returns-in_ok-declaration-in-Name-clause-answer g c =
    let k = g.P.Keys.known c.args.p.now in
    let a = c.args.self.now in
    given-name k a c.in-Name.container c.in-Name.name _ c.in_ok-declaration-in-Name.ensures.name
    ∙ ap (λ q. given_at k a (question_at k q)) (sym c.in-Name.is)

pub returns-in_ok-exports-in-Import-clause-answer : goal.returns-in_ok-exports-in-Import-clause-answer
returns-in_ok-exports-in-Import-clause-answer g c =
    let k = g.P.Keys.known c.args.p.now in
    let a = c.args.self.now in
    given-exports k a c.in-Import.path _ c.requires.one (subst (λ q. IsQuestion k q) c.in-Import.is c.requires.question) c.in_ok-exports-in-Import.ensures
    ∙ ap (λ q. given_at k a (question_at k q)) (sym c.in-Import.is)

pub returns-in_ok-given-in-Result-clause-known : goal.returns-in_ok-given-in-Result-clause-known
returns-in_ok-given-in-Result-clause-known g c =
    let k = g.P.Keys.known c.args.p.now in
    λ x e. given-known k c.args.self.now c.in-Result.unit x c.requires.answers (sym c.in_ok-given-in-Result.ensures ∙ e)

pub returns-in_ok-given-in-Result-clause-answer : goal.returns-in_ok-given-in-Result-clause-answer
returns-in_ok-given-in-Result-clause-answer g c =
    let k = g.P.Keys.known c.args.p.now in
    let a = c.args.self.now in
    ap (option_map (answer_at k (lines_of a))) c.in_ok-given-in-Result.ensures
    ∙ (given-result k (lines_of a) a c.in-Result.unit c.requires.one (subst (λ q. IsQuestion k q) c.in-Result.is c.requires.question)
    ∙ ap (λ q. given_at k a (question_at k q)) (sym c.in-Result.is))
