-- The state of the second pass, as lists.
use Rattle.zig_parse.specs.declared.grow.Growth.{Growth}
use Rattle.zig_parse.specs.Growth.{Grown, parts_of}

abbrev pub grown : Growth → Grown
grown g = record { thread = g.thread; parts = parts_of g.built }
