use Rattle.trace_log.proofs.TableCases.{pair_put}
use Rattle.trace_log.proofs.tables.pairs.PairTable.put.Goals as goal

pub returns-clause-ok : goal.returns-clause-ok
returns-clause-ok g c =
    pair_put c.args.self.now (record { rows = c.put-2.new.self }) c.in_ok-row-2.row c.in_ok-row.row c.args.first c.args.second c.args.value
    c.in_ok-row.ensures
    (rw c.in_ok-row-2.ensures c.in_ok-put.ensures.ok)
    c.in_ok-put-2.ensures.ok
