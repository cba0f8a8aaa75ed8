use Rattle.std.proofs.Common.{ℕ, ◌<◌}
use Rattle.type_trees.specs.Entries.{IsEntry}
use Rattle.type_trees.proofs.entries.first_entry.Given as goal

-- none of the entries so far is the container's
abbrev pub invariant-loop-at : goal.invariant-loop-at
invariant-loop-at l = (before : ℕ) → before < l.at → IsEntry l.entries l.container before → ⊥
