use Rattle.zig_parse.proofs.LedLaw.{led_begins}
use Rattle.zig_parse.proofs.laws.led_begins.Goals as goal

pub returns : goal.returns
returns c = led_begins
