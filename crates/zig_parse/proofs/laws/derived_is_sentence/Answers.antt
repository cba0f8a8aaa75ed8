use Rattle.zig_parse.proofs.Preferred.{sentence_some}
use Rattle.zig_parse.proofs.laws.derived_is_sentence.Goals as goal

pub returns : goal.returns
returns c = sentence_some
