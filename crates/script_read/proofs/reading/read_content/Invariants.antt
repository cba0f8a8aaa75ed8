use Rattle.std.proofs.Common.{◌≡◌, ◌≤◌, ◌-◌, ◌++◌, take, vec_len}
use Rattle.std.specs.Option.{option_map}
use Rattle.script_read.proofs.reading.read_content.Given as goal

-- what came so far is what stood in front
abbrev pub invariant-loop-at : goal.invariant-loop-at
invariant-loop-at g l = record {
  left : g.S.Source.left l.initial.s ≡ option_map (λ rest. take l.at l.bytes.items ++ rest) (g.S.Source.left l.s);
  within : l.at ≤ l.len;
  len : vec_len l.bytes ≡ l.len;
  faults : g.S.Source.faults l.initial.s ≤ g.S.Source.faults l.s;
}

abbrev pub decreases-loop-at : goal.decreases-loop-at
decreases-loop-at g l = l.len - l.at
