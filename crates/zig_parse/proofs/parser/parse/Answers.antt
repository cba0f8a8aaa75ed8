use Rattle.std.proofs.Common.{◌≡◌, ◌+◌, ◌<◌, IfOk, Result, Ok, Err, Bool, List, length, rules, subst, sym, ap, ◌∙◌, arith}
use Rattle.std.specs.Prelude.{IfErr, ◌^◌}
use Rattle.zig_tree.specs.declared.token.Token.{Token}
use Rattle.zig_tree.specs.declared.tree.Tree.{Tree}
use Rattle.zig_parse.specs.declared.fault.SyntaxFault.{SyntaxFault}
use Rattle.zig_parse.specs.Growth.{grown_from}
use Rattle.zig_parse.specs.Surveys.{Fails, Gives}
use Rattle.zig_parse.specs.Trees.{EarlierShallow, HoldsAll, IsChosen, IsRefusedFor, IsSentence, NamesToken, NoneShallow, kinds_of}
use Rattle.zig_parse.proofs.Sound.{grown_sound}
use Rattle.zig_parse.proofs.Preferred.{sentence_some}
use Rattle.zig_parse.proofs.Names.{grow_fails, survey_fails}
use Rattle.zig_parse.specs.declared.fault.SyntaxFault.TheVariants.{Unexpected, TooDeep, OutOfMemory}
use Rattle.zig_parse.proofs.Answers.{parsed_chosen, survey_of, survey_refused}
use Rattle.zig_parse.proofs.WholeAnswers.{grown_refused}
use Rattle.zig_parse.proofs.DeepRefusals.{grown_shallow, survey_shallow}
use Rattle.zig_parse.proofs.EarlierTokens.{grown_earlier, survey_earlier}
use Rattle.zig_parse.proofs.parser.parse.Goals as goal

call_sound : (tokens : List Token) (marks : List Bool) (r : Result Tree SyntaxFault) → length tokens < 2 ^ 32 → Gives (λ t. t.nodes) r (grown_from tokens marks) → IfOk r (λ t. t.root + 1 ≡ length t.nodes)
    → IfOk r (λ t. HoldsAll tokens t.nodes t.root)
call_sound tokens marks (Ok t) fits h k = grown_sound tokens marks t.nodes t.root fits h k
call_sound tokens marks (Err e) fits h k = tt

call_sentence : (tokens : List Token) (r : Result Tree SyntaxFault) → IfOk r (λ t. HoldsAll tokens t.nodes t.root) → IfOk r (λ _. IsSentence (kinds_of tokens))
unfolding IsSentence
call_sentence tokens (Ok t) h = sentence_some (kinds_of tokens) h.tree h.derived
call_sentence tokens (Err e) h = tt

call_named : (tokens : List Token) (marks : List Bool) (r : Result Tree SyntaxFault) → length tokens < 2 ^ 32 → Gives (λ t. t.nodes) r (grown_from tokens marks) → IfErr r (NamesToken tokens)
call_named tokens marks (Ok t) fits h = tt
call_named tokens marks (Err e) fits h = grow_fails tokens marks e fits h

pub returns-clause-tree : goal.returns-clause-tree
returns-clause-tree c = call_sound c.args.tokens.now c.as_slice.result.now c.grow.result (omega (arith, c.in-Ok.ensures)) c.grow.ensures.nodes c.grow.ensures.root

pub returns-clause-sentence : goal.returns-clause-sentence
returns-clause-sentence c =
    call_sentence c.args.tokens.now c.grow.result (call_sound c.args.tokens.now c.as_slice.result.now c.grow.result (omega (arith, c.in-Ok.ensures)) c.grow.ensures.nodes c.grow.ensures.root)

pub returns-clause-refused : goal.returns-clause-refused
returns-clause-refused c = call_named c.args.tokens.now c.as_slice.result.now c.grow.result (omega (arith, c.in-Ok.ensures)) c.grow.ensures.nodes

pub returns-in_err-chosen-clause-refused : goal.returns-in_err-chosen-clause-refused
returns-in_err-chosen-clause-refused c =
    let same : c.from_residual.result ≡ Err c.in_err-chosen.field-0.0 = search rules in
    subst (λ (r : Result Tree SyntaxFault). IfErr r (NamesToken c.args.tokens.now)) (sym same) (survey_fails c.args.tokens.now c.in_err-chosen.field-0.0 c.in_err-chosen.ensures)

call_chosen : (tokens : List Token) (marks : List Bool) (r : Result Tree SyntaxFault) → length tokens < 2 ^ 32 → survey_of tokens ≡ Ok marks → Gives (λ t. t.nodes) r (grown_from tokens marks) → IfOk r (λ t. t.root + 1 ≡ length t.nodes)
    → IfOk r (λ t. IsChosen tokens t.nodes t.root)
call_chosen tokens marks (Ok t) fits found h k = parsed_chosen tokens marks t.nodes t.root fits found h k
call_chosen tokens marks (Err e) fits found h k = tt

call_reason : (tokens : List Token) (marks : List Bool) (r : Result Tree SyntaxFault) → length tokens < 2 ^ 32 → survey_of tokens ≡ Ok marks → Gives (λ t. t.nodes) r (grown_from tokens marks) → IfErr r (IsRefusedFor tokens)
call_reason tokens marks (Ok t) fits found h = tt
call_reason tokens marks (Err (Unexpected k at)) fits found h = grown_refused tokens marks (Unexpected k at) fits found h
call_reason tokens marks (Err (TooDeep at)) fits found h = grown_refused tokens marks (TooDeep at) fits found h
call_reason tokens marks (Err OutOfMemory) fits found h = tt

survey_reason : (tokens : List Token) (e : SyntaxFault) → length tokens < 2 ^ 32 → Fails e (survey_of tokens) → IsRefusedFor tokens e
survey_reason tokens (Unexpected k at) fits h = survey_refused tokens (Unexpected k at) fits h
survey_reason tokens (TooDeep at) fits h = survey_refused tokens (TooDeep at) fits h
survey_reason tokens OutOfMemory fits h = tt

found_marks : (tokens : List Token) (marks items : List Bool) → survey_of tokens ≡ Ok items → marks ≡ items → survey_of tokens ≡ Ok marks
found_marks tokens marks items h e = h ∙ ap (λ (m : List Bool). Ok m) (sym e)

pub returns-clause-chosen : goal.returns-clause-chosen
returns-clause-chosen c =
    call_chosen c.args.tokens.now c.as_slice.result.now c.grow.result (omega (arith, c.in-Ok.ensures)) (found_marks c.args.tokens.now c.as_slice.result.now c.in_ok-chosen.chosen.items c.in_ok-chosen.ensures c.as_slice.ensures.value) c.grow.ensures.nodes c.grow.ensures.root

pub returns-clause-reason : goal.returns-clause-reason
returns-clause-reason c =
    call_reason c.args.tokens.now c.as_slice.result.now c.grow.result (omega (arith, c.in-Ok.ensures)) (found_marks c.args.tokens.now c.as_slice.result.now c.in_ok-chosen.chosen.items c.in_ok-chosen.ensures c.as_slice.ensures.value) c.grow.ensures.nodes

pub returns-in_err-chosen-clause-reason : goal.returns-in_err-chosen-clause-reason
returns-in_err-chosen-clause-reason c =
    let same : c.from_residual.result ≡ Err c.in_err-chosen.field-0.0 = search rules in
    subst (λ (r : Result Tree SyntaxFault). IfErr r (IsRefusedFor c.args.tokens.now)) (sym same) (survey_reason c.args.tokens.now c.in_err-chosen.field-0.0 (omega (arith, c.in-Ok.ensures)) c.in_err-chosen.ensures)

call_shallow : (tokens : List Token) (marks : List Bool) (r : Result Tree SyntaxFault) → length tokens < 2 ^ 32 → survey_of tokens ≡ Ok marks → Gives (λ t. t.nodes) r (grown_from tokens marks) → IfErr r (NoneShallow tokens)
call_shallow tokens marks (Ok t) fits found h = tt
call_shallow tokens marks (Err (Unexpected k at)) fits found h = grown_shallow tokens marks (Unexpected k at) fits found h
call_shallow tokens marks (Err (TooDeep at)) fits found h = grown_shallow tokens marks (TooDeep at) fits found h
call_shallow tokens marks (Err OutOfMemory) fits found h = tt

shallow_reason : (tokens : List Token) (e : SyntaxFault) → length tokens < 2 ^ 32 → Fails e (survey_of tokens) → NoneShallow tokens e
shallow_reason tokens (Unexpected k at) fits h = survey_shallow tokens (Unexpected k at) fits h
shallow_reason tokens (TooDeep at) fits h = survey_shallow tokens (TooDeep at) fits h
shallow_reason tokens OutOfMemory fits h = tt

pub returns-clause-shallow : goal.returns-clause-shallow
returns-clause-shallow c =
    call_shallow c.args.tokens.now c.as_slice.result.now c.grow.result (omega (arith, c.in-Ok.ensures)) (found_marks c.args.tokens.now c.as_slice.result.now c.in_ok-chosen.chosen.items c.in_ok-chosen.ensures c.as_slice.ensures.value) c.grow.ensures.nodes

pub returns-in_err-chosen-clause-shallow : goal.returns-in_err-chosen-clause-shallow
returns-in_err-chosen-clause-shallow c =
    let same : c.from_residual.result ≡ Err c.in_err-chosen.field-0.0 = search rules in
    subst (λ (r : Result Tree SyntaxFault). IfErr r (NoneShallow c.args.tokens.now)) (sym same) (shallow_reason c.args.tokens.now c.in_err-chosen.field-0.0 (omega (arith, c.in-Ok.ensures)) c.in_err-chosen.ensures)

call_earlier : (tokens : List Token) (marks : List Bool) (r : Result Tree SyntaxFault) → length tokens < 2 ^ 32 → survey_of tokens ≡ Ok marks → Gives (λ t. t.nodes) r (grown_from tokens marks) → IfErr r (EarlierShallow tokens)
call_earlier tokens marks (Ok t) fits found h = tt
call_earlier tokens marks (Err (Unexpected k at)) fits found h = grown_earlier tokens marks (Unexpected k at) fits found h
call_earlier tokens marks (Err (TooDeep at)) fits found h = grown_earlier tokens marks (TooDeep at) fits found h
call_earlier tokens marks (Err OutOfMemory) fits found h = tt

earlier_reason : (tokens : List Token) (e : SyntaxFault) → Fails e (survey_of tokens) → EarlierShallow tokens e
earlier_reason tokens (Unexpected k at) h = survey_earlier tokens (Unexpected k at) h
earlier_reason tokens (TooDeep at) h = survey_earlier tokens (TooDeep at) h
earlier_reason tokens OutOfMemory h = tt

pub returns-clause-earlier : goal.returns-clause-earlier
returns-clause-earlier c =
    call_earlier c.args.tokens.now c.as_slice.result.now c.grow.result (omega (arith, c.in-Ok.ensures)) (found_marks c.args.tokens.now c.as_slice.result.now c.in_ok-chosen.chosen.items c.in_ok-chosen.ensures c.as_slice.ensures.value) c.grow.ensures.nodes

pub returns-in_err-chosen-clause-earlier : goal.returns-in_err-chosen-clause-earlier
returns-in_err-chosen-clause-earlier c =
    let same : c.from_residual.result ≡ Err c.in_err-chosen.field-0.0 = search rules in
    subst (λ (r : Result Tree SyntaxFault). IfErr r (EarlierShallow c.args.tokens.now)) (sym same) (earlier_reason c.args.tokens.now c.in_err-chosen.field-0.0 c.in_err-chosen.ensures)
