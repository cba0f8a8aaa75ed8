use Rattle.script_read.proofs.Joined.{read_then}
use Rattle.script_read.proofs.steps.read_command.Goals as goal

pub returns-clause-told : goal.returns-clause-told
returns-clause-told g c =
    read_then (λ v. v.items) c.args.limits c.args.commands c.args.have.now _ _ _ c.in_ok-line.line c.in_ok-asked.asked _
    c.in_ok-line.ensures.told (rw c.as_slice.ensures.value at c.in_ok-asked.ensures.given) c.complete.ensures.told
