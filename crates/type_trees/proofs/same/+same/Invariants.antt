use Rattle.std.proofs.Common.{◌≡◌, length, take}
use Rattle.type_trees.proofs.same.+same.Given as goal

-- the two lists are as long, and one as far as they were compared
abbrev pub invariant-same_tys-loop-i : goal.invariant-same_tys-loop-i
invariant-same_tys-loop-i l = record {
  long : length l.a ≡ length l.b;
  same : take l.i l.a ≡ take l.i l.b;
}

abbrev pub invariant-same_args-loop-i : goal.invariant-same_args-loop-i
invariant-same_args-loop-i l = record {
  long : length l.a ≡ length l.b;
  same : take l.i l.a ≡ take l.i l.b;
}

abbrev pub invariant-same_values-loop-i : goal.invariant-same_values-loop-i
invariant-same_values-loop-i l = record {
  long : length l.a ≡ length l.b;
  same : take l.i l.a ≡ take l.i l.b;
}
