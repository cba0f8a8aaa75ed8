use Rattle.zig_parse.proofs.Tokens.{all_shut_out}
use Rattle.zig_parse.proofs.grow.Growth.close_all.Goals as goal

pub returns : goal.returns
returns c = all_shut_out _ _ _ _ _ c.loop-test.false c.loop.invariant
