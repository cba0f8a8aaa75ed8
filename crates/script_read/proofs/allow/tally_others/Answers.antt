use Rattle.std.proofs.Common.{arith, sym}
use Rattle.zw_base.proofs.SizeLemmas.{others_are_no_more, others_have_no_more, next_fits}
use Rattle.script_read.proofs.allow.tally_others.Goals as goal

pub overflow_add-tally : goal.overflow_add-tally
overflow_add-tally c = omega (arith, others_are_no_more c.args.path.now c.args.have.now)

pub overflow_add-tally-then-ne : goal.overflow_add-tally-then-ne
overflow_add-tally-then-ne c = omega (arith, others_have_no_more c.args.path.now c.args.have.now, next_fits c.args.path.now c.args.have.now c.loop-held.held-index c.loop-held-item.result c.loop-held-test.true c.loop-held-item.is (sym c.if-ne.ensures))
