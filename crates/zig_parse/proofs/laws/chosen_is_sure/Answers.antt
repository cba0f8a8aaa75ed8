use Rattle.zig_parse.proofs.Surely.{sentence_sure}
use Rattle.zig_parse.proofs.laws.chosen_is_sure.Goals as goal

pub returns : goal.returns
returns c = sentence_sure
