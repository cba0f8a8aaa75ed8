use Rattle.std.proofs.Common.{◌≡◌, ◌≤◌, ◌++◌, length}
use Rattle.std.specs.Option.{option_map}
use Rattle.script_read.specs.Line.{HasNoEnd}
use Rattle.script_read.proofs.reading.read_line.Given as goal

-- the line so far is what stood in front
abbrev pub invariant-loop : goal.invariant-loop
invariant-loop g l = record {
  left : g.S.Source.left l.initial.s ≡ option_map (λ rest. l.line.items ++ rest) (g.S.Source.left l.s);
  none : HasNoEnd l.line.items;
  len : length l.line.items ≡ l.counter;
  faults : g.S.Source.faults l.initial.s ≤ g.S.Source.faults l.s;
}
