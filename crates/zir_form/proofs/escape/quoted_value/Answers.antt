use Rattle.std.proofs.Common.{ℕ, ◌∙◌, ◌+◌, ◌++◌, ◌∷◌, [], sym, ap, drop, get_or, append_assoc}
use Rattle.std.proofs.lemmas.List.{append-nil}
use Rattle.zir_form.specs.Escapes.{escape_value, escape_length, value_from}
use Rattle.zir_form.proofs.Digits.{value_ends, value_escape, value_char, value_done}
use Rattle.zir_form.proofs.escape.quoted_value.Goals as goal

pub returns-then-byte-eq34 : goal.returns-then-byte-eq34
returns-then-byte-eq34 c =
    sym (append-nil c.loop-at.value.items) ∙ ap (λ v. c.loop-at.value.items ++ v) (sym (value_ends c.args.quoted.now c.loop-at.at c.loop-at-test.true c.if-byte-eq34.true)) ∙ c.loop-at.invariant

pub loop-at-preserved-then-byte-eq92 : goal.loop-at-preserved-then-byte-eq92
loop-at-preserved-then-byte-eq92 c =
    let bytes = c.args.quoted.now in
    let value = c.loop-at.value.items in
    let rest = drop (c.loop-at.at + 1) bytes in
    let further = λ (n : ℕ). value_from 0 (drop (c.loop-at.at + (1 + n)) bytes) in
    ap (λ v. v ++ further c.in_ok-len.len) c.in_ok-len.ensures.value
    ∙ append_assoc value (escape_value c.behind.result.now) (further c.in_ok-len.len)
    ∙ ap (λ n. value ++ (escape_value c.behind.result.now ++ further n)) c.in_ok-len.ensures.length
    ∙ ap (λ r. value ++ (escape_value r ++ further (escape_length r))) c.behind.ensures
    ∙ ap (λ v. value ++ v) (sym (value_escape bytes c.loop-at.at c.loop-at-test.true c.if-byte-eq92.true))
    ∙ c.loop-at.invariant

pub loop-at-preserved : goal.loop-at-preserved
loop-at-preserved c =
    let bytes = c.args.quoted.now in
    let value = c.loop-at.value.items in
    let byte = get_or bytes c.loop-at.at 0 in
    let further = value_from 0 (drop (c.loop-at.at + 1) bytes) in
    ap (λ v. v ++ further) c.in_ok-push.ensures.items
    ∙ append_assoc value (byte ∷ []) further
    ∙ ap (λ v. value ++ v) (sym (value_char bytes c.loop-at.at c.loop-at-test.true c.if-byte-eq34.false c.if-byte-eq92.false))
    ∙ c.loop-at.invariant

pub returns : goal.returns
returns c =
    sym (append-nil c.loop-at.value.items) ∙ ap (λ v. c.loop-at.value.items ++ v) (sym (value_done c.args.quoted.now c.loop-at.at c.loop-at-test.false)) ∙ c.loop-at.invariant
