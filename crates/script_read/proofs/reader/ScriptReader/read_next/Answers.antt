use Rattle.std.proofs.Common.{ap}
use Rattle.script_read.proofs.Joined.{command_read}
use Rattle.script_read.proofs.reader.ScriptReader.read_next.Goals as goal

pub returns-in-Ok-clause-told : goal.returns-in-Ok-clause-told
returns-in-Ok-clause-told g c =
    command_read c.args.self.now c.self.inside.limits c.self.inside.commands c.args.self.now.stopped c.args.have.now _ _ c.in-Ok.command
    (ap (λ r. r.limits) c.self.view_is) (ap (λ r. r.commands) c.self.view_is) c.in-Ok.ensures.told
