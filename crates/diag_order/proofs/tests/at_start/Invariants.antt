use Rattle.std.proofs.Common.{◌≡◌}
use Rattle.std.specs.Prelude.{All}
use Rattle.diag_order.specs.declared.line.Diag.{Diag}
use Rattle.diag_order.proofs.tests.at_start.Given as goal

abbrev pub invariant-loop-path : goal.invariant-loop-path
invariant-loop-path l = All (λ (diag : Diag). diag.offset ≡ 0) l.list.items
