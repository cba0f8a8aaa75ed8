use Rattle.zig_parse.proofs.Sound.{parse_sound}
use Rattle.zig_parse.proofs.laws.tree_is_derived.Goals as goal

pub returns : goal.returns
returns c = parse_sound
