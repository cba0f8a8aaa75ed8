-- Lists of nodes in which each node stands after those that it holds.
use Rattle.std.specs.Prelude.{ℕ, ◌+◌, List, [], ◌∷◌, IsTrue, Bool, true, nat_lt, ◌&&◌}
use Rattle.zig_tree.specs.declared.tree.Kid.{Kid}
use Rattle.zig_tree.specs.declared.tree.Kid.TheVariants as kid
use Rattle.zig_tree.specs.declared.tree.Node.{Node}

-- whether what a node holds is a token, or a node before the one with this number
abbrev pub is_earlier : ℕ → Kid → Bool
is_earlier number (kid.Token _) = true
is_earlier number (kid.Node k) = nat_lt k number

-- whether all that a node holds is
abbrev pub are_earlier : ℕ → List Kid → Bool
are_earlier number [] = true
are_earlier number (k ∷ ks) = is_earlier number k && are_earlier number ks

-- whether each node of a list, whose first one has this number, holds earlier ones alone
abbrev pub all_earlier : ℕ → List Node → Bool
all_earlier first [] = true
all_earlier first (n ∷ ns) = are_earlier first n.kids && all_earlier (first + 1) ns

-- each node of a list holds earlier ones alone
abbrev pub AreEarlier : List Node → Type 0
AreEarlier ns = IsTrue (all_earlier 0 ns)
