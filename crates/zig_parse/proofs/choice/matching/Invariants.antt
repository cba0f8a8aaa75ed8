use Rattle.std.proofs.Common.{◌≡◌, map, drop}
use Rattle.zig_tree.specs.Productions.{alternative}
use Rattle.zig_parse.specs.Choices.{matching}
use Rattle.zig_parse.proofs.choice.matching.Given as goal

abbrev pub invariant-loop-i : goal.invariant-loop-i
invariant-loop-i l = matching l.look (map alternative (drop l.i l.productions)) ≡ matching l.look (map alternative l.productions)
