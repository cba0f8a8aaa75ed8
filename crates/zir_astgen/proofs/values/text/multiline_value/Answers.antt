use Rattle.std.proofs.Common.{◌∙◌, ◌+◌, ◌++◌, ◌∷◌, [], sym, ap, drop, get_or, append_assoc}
use Rattle.std.proofs.lemmas.List.{append-nil}
use Rattle.zir_astgen.specs.Values.{margin, lines_from, multiline_value}
use Rattle.zir_astgen.proofs.LineLemmas.{lines_begun, line_ends, line_cr, line_byte, lines_done}
use Rattle.zir_astgen.proofs.values.text.multiline_value.Goals as goal

pub loop-at-init : goal.loop-at-init
loop-at-init c = ap (λ v. v ++ lines_from 0 (drop 2 c.args.bytes.now)) c.new-value.ensures.items ∙ lines_begun c.args.bytes.now

pub loop-at-preserved-then-byte-eq10 : goal.loop-at-preserved-then-byte-eq10
loop-at-preserved-then-byte-eq10 c =
    let bytes = c.args.bytes.now in
    let value = c.loop-at.value.items in
    let further = lines_from 0 (drop (c.loop-at.at + (1 + c.margin.result)) bytes) in
    ap (λ v. v ++ further) c.in_ok-push.ensures.items
    ∙ append_assoc value (10 ∷ []) further
    ∙ ap (λ n. value ++ (10 ∷ lines_from 0 (drop (c.loop-at.at + (1 + n)) bytes))) (c.margin.ensures.exact ∙ ap margin c.behind.ensures)
    ∙ ap (λ v. value ++ v) (sym (line_ends bytes c.loop-at.at c.loop-at-test.true c.if-byte-eq10.true))
    ∙ c.loop-at.invariant

pub loop-at-preserved-then-is_cr_lf : goal.loop-at-preserved-then-is_cr_lf
loop-at-preserved-then-is_cr_lf c =
    ap (λ v. c.loop-at.value.items ++ v) (sym (line_cr c.args.bytes.now c.loop-at.at c.loop-at-test.true (sym c.is_cr_lf.ensures ∙ c.if-is_cr_lf.true))) ∙ c.loop-at.invariant

pub loop-at-preserved : goal.loop-at-preserved
loop-at-preserved c =
    let bytes = c.args.bytes.now in
    let value = c.loop-at.value.items in
    let byte = get_or bytes c.loop-at.at 0 in
    let further = lines_from 0 (drop (c.loop-at.at + 1) bytes) in
    ap (λ v. v ++ further) c.in_ok-push-2.ensures.items
    ∙ append_assoc value (byte ∷ []) further
    ∙ ap (λ v. value ++ v) (sym (line_byte bytes c.loop-at.at c.loop-at-test.true c.if-byte-eq10.false (sym c.is_cr_lf.ensures ∙ c.if-is_cr_lf.false)))
    ∙ c.loop-at.invariant

pub returns : goal.returns
unfolding multiline_value
returns c =
    c.of.ensures ∙ sym (append-nil c.loop-at.value.items) ∙ ap (λ v. c.loop-at.value.items ++ v) (sym (lines_done c.args.bytes.now c.loop-at.at c.loop-at-test.false)) ∙ c.loop-at.invariant
