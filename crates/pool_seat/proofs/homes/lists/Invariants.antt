use Rattle.std.proofs.Common.{◌≡◌, IsSome}
use Rattle.type_form.specs.declared.index.Index.{Index}
use Rattle.type_form.specs.Denote.{denoted}
use Rattle.pool_words.specs.Rule.{In}
use Rattle.pool_shard.specs.Pairs.{known}
use Rattle.pool_seat.proofs.homes.lists.Given as goal

abbrev pub invariant-loop-n : goal.invariant-loop-n
invariant-loop-n l = record {
  layout : l.rows.view.layout ≡ l.fn.rows.view.layout;
  denote : (i : Index) → In i l.all.items → IsSome (denoted (known l.rows) i);
}
