-- The parts of a row as the program has them: each node with the line of its tree.
use Rattle.std.specs.Prelude.{ℕ, ◌<◌, List, [], ◌∷◌}
use Rattle.zir_form.specs.Core.{Core}
use Rattle.zir_form.specs.Lines.{tree_at}
use Rattle.zir_scope.specs.Syntax.{inside_of}
use Rattle.zir_scope.specs.declared.outline.Outline.{Outline}
use Rattle.zir_astgen.specs.declared.piece.Piece.{Piece}
use Rattle.zir_astgen.specs.declared.piece.Piece.TheVariants as piece
use Rattle.zir_astgen.specs.Parts.{Parts, ended, token, part}

-- the parts that pieces stand for, by the trees of the lines
unfoldable pub parts_of : Outline → List Core → List Piece → Parts
parts_of o trees [] = ended
parts_of o trees (piece.Token t k ∷ more) = token t k (parts_of o trees more)
parts_of o trees (piece.Node r n first line ∷ more) = part r (inside_of o n) first (tree_at trees line) (parts_of o trees more)

-- each line is one of so many
abbrev pub Below : ℕ → List Piece → Type 0
Below count [] = Unit {0}
Below count (piece.Token t k ∷ more) = Below count more
Below count (piece.Node r n first line ∷ more) = (line < count) × Below count more
