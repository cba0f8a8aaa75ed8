use Rattle.std.proofs.Common.{arith}
use Rattle.std.proofs.lemmas.List.{take_all}
use Rattle.script_read.proofs.Contents.{more_came, content_whole}
use Rattle.script_read.proofs.reading.read_content.Goals as goal

pub loop-at-preserved : goal.loop-at-preserved
loop-at-preserved g c = record {
  left = more_came _ _ _ c.loop-at.at c.in_ok-n.n _ _ c.loop-at.invariant.left c.in_ok-n.ensures.left c.in_ok-n.ensures.front;
  within = omega (arith, c.in_ok-n.ensures.count);
  len = omega arith;
  faults = omega arith;
}

pub returns-in-Some-eq10-clause-told : goal.returns-in-Some-eq10-clause-told
returns-in-Some-eq10-clause-told g c =
    content_whole (λ v. v.items) c.args.len _ _ _ c.loop-at.bytes (rw (take_all c.loop-at.at c.loop-at.bytes.items (omega arith)) at c.loop-at.invariant.left)
    (rw (c.in-Some-eq10.is, c.in-Some-eq10.field-0-test) at c.in_ok-read_byte.ensures.left) (omega arith)
