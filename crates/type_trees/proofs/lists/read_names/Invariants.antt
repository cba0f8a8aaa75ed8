use Rattle.std.proofs.Common.{◌≡◌, take}
use Rattle.type_form.specs.Known.{IsInjective}
use Rattle.type_form.specs.Means.{names_at}
use Rattle.type_form.specs.Pool.{Reads}
use Rattle.type_trees.proofs.lists.read_names.Given as goal

-- what is so far in the list is read
abbrev pub invariant-loop-number : goal.invariant-loop-number
invariant-loop-number g l = record {
  reads : Reads g.P.Keys.known g.P.Keys.home g.P.Keys.fulls l.fn.p l.p;
  agrees : IsInjective (g.P.Keys.known l.p);
  names : l.names.items ≡ take l.number-index (names_at (g.P.Keys.known l.fn.p) l.fn.list);
}
