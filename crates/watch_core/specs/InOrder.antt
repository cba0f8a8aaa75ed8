-- Lines in the order of path, line, column, code and text, each once.
use Rattle.std.specs.Prelude.{List, [], ◌∷◌}
use Rattle.std.specs.Ordering.{match_ordering}
use Rattle.diag_order.specs.declared.line.Line.{Line}
use Rattle.diag_order.specs.Order.{line_cmp}

-- the lines with the given one at its place: none is added where it stands already
unfoldable pub inserted : Line → List Line → List Line
inserted new [] = new ∷ []
inserted new (line ∷ lines) = match_ordering (line_cmp new line) (new ∷ line ∷ lines) (line ∷ lines) (line ∷ inserted new lines)

-- the lines in order, each once
unfoldable pub in_order : List Line → List Line
in_order [] = []
in_order (line ∷ lines) = inserted line (in_order lines)
