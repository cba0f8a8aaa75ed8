use Rattle.sema_body.proofs.DeclareLemmas.{none-lines}
use Rattle.sema_body.proofs.heads.are_none.Goals as goal

pub returns : goal.returns
returns c = λ at. none-lines at c.args.lines.now c.is_empty.result c.is_empty.ensures
