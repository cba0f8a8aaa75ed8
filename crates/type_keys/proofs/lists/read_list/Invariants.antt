use Rattle.std.proofs.Common.{◌≡◌, ◌++◌, length}
use Rattle.type_form.specs.Means.{IsList, list_at}
use Rattle.type_form.specs.Pool.{Reads}
use Rattle.type_keys.proofs.lists.read_list.Given as goal

-- what was read, and what the rest of the chain holds, is the whole list
abbrev pub invariant-loop-items : goal.invariant-loop-items
invariant-loop-items g l =
    let known = g.P.Keys.known in
    record {
      reads : Reads known g.P.Keys.home g.P.Keys.fulls l.fn.p l.p;
      rest : IsList (known l.p) l.at;
      items : l.into.items ++ list_at (known l.p) l.at ≡ l.fn.into.items ++ list_at (known l.fn.p) l.fn.list;
    }

abbrev pub decreases-loop-items : goal.decreases-loop-items
decreases-loop-items g l = length (list_at (g.P.Keys.known l.p) l.at)
