use Rattle.std.proofs.Common.{◌≡◌, take, length}
use Rattle.air_form.specs.Nodes.{AreBelow}
use Rattle.sema_body.specs.Bodies.{with_statements}
use Rattle.sema_body.proofs.body.act_all.Given as goal

abbrev pub invariant-loop-statement : goal.invariant-loop-statement
invariant-loop-statement l = record {
  put : l.s ≡ with_statements l.initial.s (take l.statement-index l.statements);
  below : AreBelow (length l.s.body.nodes) l.statements;
}
