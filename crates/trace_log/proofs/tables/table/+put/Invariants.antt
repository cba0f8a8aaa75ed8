use Rattle.std.proofs.Common.{◌+◌, ◌*◌}
use Rattle.trace_log.proofs.tables.table.+put.Given as goal

abbrev pub decreases-put_beside : goal.decreases-put_beside
decreases-put_beside g l = 4 * l.number + 1

abbrev pub decreases-put_fork : goal.decreases-put_fork
decreases-put_fork g l = 4 * l.number

abbrev pub decreases-put_link : goal.decreases-put_link
decreases-put_link g l = 4 * l.number + 3

abbrev pub decreases-put_node : goal.decreases-put_node
decreases-put_node g l = 4 * l.number + 2
