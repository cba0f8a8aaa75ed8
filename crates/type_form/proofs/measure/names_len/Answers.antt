use Rattle.std.proofs.Common.{◌∙◌, ◌≡◌, min, length, sym, ap, arith}
use Rattle.type_form.specs.Spelling.{name_text}
use Rattle.type_form.proofs.LengthLemmas.{step_len}
use Rattle.type_form.proofs.measure.names_len.Goals as goal

pub loop-i-preserved : goal.loop-i-preserved
loop-i-preserved c =
    step_len name_text c.args.names.now c.loop-i.i c.index-names-i.result (omega (arith, c.loop-i-test.true)) (sym c.index-names-i.is)
    c.loop-i.sum c.name_len.result c.after-sum.result c.loop-i.invariant
    (c.name_len.ensures ∙ ap (λ n. min (length (name_text n)) 4097) c.as_slice.ensures)
    c.after-sum.ensures
