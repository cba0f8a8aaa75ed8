-- The rows of a file that is read: what stands at a place of its tree.
use Rattle.std.specs.Prelude.{ℕ, List}
use Rattle.zig_tree.specs.declared.tree.Kid.{Kid}
pub use Rattle.zig_tree.specs.Syntax.{Syntax, nothing, word, node, kind_of, kind_at, rule_of, rule_at, row_at, row, rows_after}
unfoldable pub use Rattle.zig_tree.specs.Syntax.{rows_of}
use Rattle.zir_scope.specs.declared.outline.Outline.{Outline}

-- the row of these kids, and the row of the node with this number
unfoldable pub row_in : Outline → List Kid → Syntax
row_in o kids = row o.tokens.now o.nodes.now (rows_of o.tokens.now o.nodes.now) kids

unfoldable pub inside_of : Outline → ℕ → Syntax
inside_of o n = row_at (rows_of o.tokens.now o.nodes.now) n
