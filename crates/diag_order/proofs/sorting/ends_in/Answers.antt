use Rattle.std.proofs.Common.{sym, ◌∙◌}
use Rattle.diag_order.proofs.Files.{last_in}
use Rattle.diag_order.proofs.sorting.ends_in.Goals as goal

pub returns-in-Some : goal.returns-in-Some
returns-in-Some c = λ same texts. last_in c.args.lines.now c.in-Some.line.now c.args.path.now c.in-Some.ensures.value (sym same ∙ c.eq.ensures) texts
