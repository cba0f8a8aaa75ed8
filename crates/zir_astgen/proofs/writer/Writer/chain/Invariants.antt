use Rattle.std.proofs.Common.{◌≡◌, ◌<◌, length}
use Rattle.zig_tree.specs.declared.token.TokenKind.TheVariants as kind
use Rattle.zir_form.specs.Core as core
use Rattle.zir_form.specs.Lines.{tree_at}
use Rattle.zir_astgen.specs.Chains.{chain}
use Rattle.zir_astgen.specs.Firsts.{Grows}
use Rattle.zir_astgen.specs.Pieces.{Below}
use Rattle.zir_astgen.specs.Writing.{file, parts, site, trees}
use Rattle.zir_astgen.proofs.writer.Writer.chain.Given as goal

abbrev pub invariant-loop-rest : goal.invariant-loop-rest
invariant-loop-rest l = record {
  grows : Grows (trees l.initial.self) (trees l.self);
  source : l.self.source ≡ l.initial.self.source;
  left : l.left < length (trees l.self);
  capture : l.capture < length (trees l.self);
  below : Below (length (trees l.initial.self)) l.rest;
  same : chain (file l.initial.self) (site l.initial.self) l.place (tree_at (trees l.self) l.left) l.operator l.kind (tree_at (trees l.self) l.capture) (parts l.initial.self l.rest)
      ≡ chain (file l.initial.self) (site l.initial.self) l.place (tree_at (trees l.initial.self) l.line) 0 kind.End core.absent (parts l.initial.self l.row);
}

abbrev pub decreases-loop-rest : goal.decreases-loop-rest
decreases-loop-rest l = length l.rest
