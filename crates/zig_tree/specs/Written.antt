-- The rows of the program's tables, as rows of the definitions.
use Rattle.std.specs.Prelude.{ℕ, List, map}
use Rattle.std.specs.Borrow.{Bor}
use Rattle.zig_tree.specs.declared.token.TokenKind.{TokenKind}
use Rattle.zig_tree.specs.TokenTables.{Row}

abbrev pub written : List (Bor (List ℕ) × TokenKind) → List Row
written rows = map (λ row. (row.0.now, row.1)) rows
