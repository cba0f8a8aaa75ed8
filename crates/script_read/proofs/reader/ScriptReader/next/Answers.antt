use Rattle.script_read.proofs.Meanings.{answer_has_cause, answer_is_exact}
use Rattle.script_read.proofs.reader.ScriptReader.next.Goals as goal

pub returns-clause-cause : goal.returns-clause-cause
returns-clause-cause g c = answer_has_cause c.args.self.now c.args.self.now.stopped _ _ _ _ c.read_next.ensures.told

pub returns-clause-exact : goal.returns-clause-exact
returns-clause-exact g c = answer_is_exact c.args.self.now c.args.self.now.stopped _ _ _ _ c.read_next.ensures.told
