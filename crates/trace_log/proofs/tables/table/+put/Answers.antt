use Rattle.trace_log.proofs.TableLemmas.{fork-put-even, fork-put-odd}
use Rattle.trace_log.proofs.tables.table.+put.Goals as goal

pub put_fork-returns-in_ok-even-2 : goal.put_fork-returns-in_ok-even-2
put_fork-returns-in_ok-even-2 g t c =
    fork-put-odd _ _ _ _ _ _ c.in_ok-new.field-0 _ c.args.number c.if-number-eq1.true c.in_ok-new.ensures.ok c.in_ok-here.ensures c.in_ok-node.ensures c.in_ok-even-2.ensures

pub put_fork-returns-in_ok-odd-2 : goal.put_fork-returns-in_ok-odd-2
put_fork-returns-in_ok-odd-2 g t c =
    fork-put-even _ _ _ _ _ _ c.in_ok-new-2.field-0 _ c.args.number c.if-number-eq0.false c.if-number-eq1.false c.in_ok-new-2.ensures.ok c.in_ok-here-2.ensures c.in_ok-node-2.ensures c.in_ok-odd-2.ensures
