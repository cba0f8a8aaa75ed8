-- What a walk over a row answers, as lines and pieces.
use Rattle.std.specs.Prelude.{◌≡◌, ℕ, List, length, if◌then◌else◌}
use Rattle.zig_tree.specs.declared.grammar.Rule.{Rule}
use Rattle.zir_form.specs.Core.{Core}
use Rattle.zir_scope.specs.Syntax.{Syntax}
use Rattle.zir_scope.specs.declared.outline.Outline.{Outline}
use Rattle.zir_astgen.specs.declared.walk.Row.{Row}
use Rattle.zir_astgen.specs.Firsts.{Grows}
use Rattle.zir_astgen.specs.Frames.{levels_of, FramesBelow}
use Rattle.zir_astgen.specs.Parts.{first_of, lead_of}
use Rattle.zir_astgen.specs.Pieces.{parts_of, Below}
use Rattle.zir_astgen.specs.Site.{File, Site}
use Rattle.zir_astgen.specs.Stages.{Around, within}
use Rattle.zir_astgen.specs.Trees.{Walked, apart, is_apart, made, walk}

-- the tree of a node in a row, and its first token
abbrev pub node_tree : File → Site → Around → Rule → Syntax → Core
node_tree f s a r inside = if is_apart r then apart f s r inside else made f s (within a r) r (walk f s (within a r) inside)

abbrev pub node_first : File → Site → Around → Rule → Syntax → ℕ
node_first f s a r inside = if is_apart r then lead_of inside else first_of (walk f s (within a r) inside).parts

-- some lines more, with a row that stands for these parts, and frames that stand for what lies around its end
pub record Walks (o : Outline) (old now : List Core) (w : Walked) (row : Row) : Type 0 where
  pub grows : Grows old now
  pub parts : parts_of o now row.pieces.items ≡ w.parts
  pub inside : Below (length now) row.pieces.items
  pub behind : levels_of now row.behind ≡ w.behind.levels
  pub around : FramesBelow (length now) row.behind
