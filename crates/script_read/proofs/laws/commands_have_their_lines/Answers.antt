use Rattle.script_read.proofs.Meanings.{sentence_ends}
use Rattle.script_read.proofs.laws.commands_have_their_lines.Goals as goal

pub returns : goal.returns
returns c = sentence_ends
