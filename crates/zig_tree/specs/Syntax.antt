-- The tree of a file as a plain tree: tokens and nodes in a row, each node with the row that it holds.
use Rattle.std.specs.Prelude.{ℕ, List, [], ◌∷◌, ◌++◌, slice_get, slice_index_or, Option, Some, None}
use Rattle.zig_tree.specs.declared.token.Token.{Token}
use Rattle.zig_tree.specs.declared.token.TokenKind.{TokenKind}
use Rattle.zig_tree.specs.declared.token.TokenKind.TheVariants.{End}
use Rattle.zig_tree.specs.declared.grammar.Rule.{Rule}
use Rattle.zig_tree.specs.declared.grammar.Rule.TheVariants.{Root}
use Rattle.zig_tree.specs.declared.tree.Kid.{Kid}
use Rattle.zig_tree.specs.declared.tree.Kid.TheVariants as kid
use Rattle.zig_tree.specs.declared.tree.Node.{Node}

-- a row: nothing more; or a token, by its number, and what follows it; or a node with its rule and the
-- row that it holds, and what follows it
pub data Syntax : Type 0 where
  nothing : Syntax
  word : ℕ → TokenKind → Syntax → Syntax
  node : Rule → Syntax → Syntax → Syntax

abbrev pub kind_of : Option Token → TokenKind
kind_of None = End
kind_of (Some t) = t.kind

-- the kind of the token with this number
abbrev pub kind_at : List Token → ℕ → TokenKind
kind_at tokens t = kind_of (slice_get tokens t)

abbrev pub rule_of : Option Node → Rule
rule_of None = Root
rule_of (Some n) = n.rule

-- the rule of the node with this number
abbrev pub rule_at : List Node → ℕ → Rule
rule_at nodes n = rule_of (slice_get nodes n)

-- the row with this number
abbrev pub row_at : List Syntax → ℕ → Syntax
row_at rows n = slice_index_or rows n nothing

-- the row of what a node holds, by the rows of the nodes before it
abbrev pub row : List Token → List Node → List Syntax → List Kid → Syntax
row tokens nodes rows [] = nothing
row tokens nodes rows (kid.Token t ∷ more) = word t (kind_at tokens t) (row tokens nodes rows more)
row tokens nodes rows (kid.Node n ∷ more) = node (rule_at nodes n) (row_at rows n) (row tokens nodes rows more)

-- the rows of the nodes, in order, each of nodes before it
abbrev pub rows_after : List Token → List Node → List Syntax → List Node → List Syntax
rows_after tokens nodes rows [] = rows
rows_after tokens nodes rows (n ∷ more) = rows_after tokens nodes (rows ++ row tokens nodes rows n.kids ∷ []) more

unfoldable pub rows_of : List Token → List Node → List Syntax
rows_of tokens nodes = rows_after tokens nodes [] nodes
