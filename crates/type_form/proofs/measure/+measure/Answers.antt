use Rattle.std.proofs.Common.{sym, arith}
use Rattle.type_form.specs.Spelling.{ty_text, value_text, arg_text}
use Rattle.type_form.proofs.LengthLemmas.{step_len}
use Rattle.type_form.proofs.measure.+measure.Goals as goal

pub tys_len-loop-i-preserved : goal.tys_len-loop-i-preserved
tys_len-loop-i-preserved t c =
    step_len ty_text c.args.tys.now c.loop-i.i c.index-tys-i.result (omega (arith, c.loop-i-test.true)) (sym c.index-tys-i.is)
    c.loop-i.sum c.spelled_len.result c.after-sum.result c.loop-i.invariant c.spelled_len.ensures c.after-sum.ensures

pub values_len-loop-i-preserved : goal.values_len-loop-i-preserved
values_len-loop-i-preserved t c =
    step_len value_text c.args.values.now c.loop-i.i c.index-values-i.result (omega (arith, c.loop-i-test.true)) (sym c.index-values-i.is)
    c.loop-i.sum c.value_len.result c.after-sum.result c.loop-i.invariant c.value_len.ensures c.after-sum.ensures

pub args_len-loop-i-preserved : goal.args_len-loop-i-preserved
args_len-loop-i-preserved t c =
    step_len arg_text c.args.args.now c.loop-i.i c.index-args-i.result (omega (arith, c.loop-i-test.true)) (sym c.index-args-i.is)
    c.loop-i.sum c.arg_len.result c.after-sum.result c.loop-i.invariant c.arg_len.ensures c.after-sum.ensures
