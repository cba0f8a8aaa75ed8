use Rattle.std.proofs.Common.{◌≡◌, drop, length}
use Rattle.zig_parse.specs.Moves.{same_parts}
use Rattle.zig_parse.proofs.thread.same_items.Given as goal

abbrev pub invariant-loop-i : goal.invariant-loop-i
invariant-loop-i l = (same_parts (drop l.i l.a) (drop l.i l.b) ≡ same_parts l.a l.b) × (length l.a ≡ length l.b)
