use Rattle.std.proofs.Common.{◌∙◌, ◌++◌, sym, ap, drop, min}
use Rattle.zir_form.specs.Escapes.{code_value, number_at_front}
use Rattle.zir_form.proofs.Digits.{code_capped, escape_code}
use Rattle.zir_form.proofs.escape.put_escape.Goals as goal

pub returns-in_ok-put_code-clause-value : goal.returns-in_ok-put_code-clause-value
returns-in_ok-put_code-clause-value c =
    let number = number_at_front 0 (drop 2 c.args.rest.now) in
    let out = c.args.out.now.items in
    c.in_ok-put_code.ensures ∙ ap (λ n. out ++ code_value n) (c.digits_at_front-digits.ensures.number ∙ ap (λ bytes. min (number_at_front 0 bytes) 0x110000) c.behind.ensures)
    ∙ ap (λ v. out ++ v) (code_capped number ∙ sym (escape_code c.args.rest.now (sym c.byte_at-letter.ensures ∙ c.if-letter-eq117.true)))
