use Rattle.std.proofs.Common.{◌≡◌, ◌+◌, ◌*◌, length, true}
use Rattle.zig_tree.specs.Nodes.{are_earlier}
use Rattle.zir_scope.specs.Syntax.{row_in}
use Rattle.zir_astgen.specs.Frames.{around_of}
use Rattle.zir_astgen.specs.Trees.{walk}
use Rattle.zir_astgen.specs.Writing.{file, site, trees}
use Rattle.zir_astgen.proofs.WalkLemmas.{Walking}
use Rattle.zir_astgen.proofs.writer.Writer.+walk.Given as goal

abbrev pub decreases-visit : goal.decreases-visit
decreases-visit l = 3 * l.node + 2

abbrev pub decreases-enter : goal.decreases-enter
decreases-enter l = 3 * l.before + 1

abbrev pub decreases-walk : goal.decreases-walk
decreases-walk l = 3 * l.before

abbrev pub invariant-walk-loop-rest : goal.invariant-walk-loop-rest
invariant-walk-loop-rest l = record {
  walked : Walking l.fn.self.source.outline.now (file l.fn.self) (site l.fn.self) (trees l.fn.self) (trees l.self)
      (walk (file l.fn.self) (site l.fn.self) (around_of (trees l.fn.self) l.fn.place) (row_in l.fn.self.source.outline.now l.row)) l.now l.pieces.items l.rest;
  earlier : are_earlier l.before l.rest ≡ true;
  source : l.self.source ≡ l.fn.self.source;
}

abbrev pub decreases-walk-loop-rest : goal.decreases-walk-loop-rest
decreases-walk-loop-rest l = length l.rest
