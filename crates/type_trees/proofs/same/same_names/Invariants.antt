use Rattle.std.proofs.Common.{◌≡◌, length, take}
use Rattle.type_trees.proofs.same.same_names.Given as goal

-- the two are as long, and one as far as they were compared
abbrev pub invariant-loop-i : goal.invariant-loop-i
invariant-loop-i l = record {
  long : length l.a ≡ length l.b;
  same : take l.i l.a ≡ take l.i l.b;
}
