use Rattle.script_read.proofs.Paths.{no_text_no_path}
use Rattle.script_read.proofs.line.path_in.Goals as goal

pub returns-in_default : goal.returns-in_default
returns-in_default c = no_text_no_path _ (c.in_default.ensures.cases.0)
