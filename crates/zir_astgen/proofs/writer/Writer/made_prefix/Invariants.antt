use Rattle.std.proofs.Common.{◌≡◌, ◌<◌, ◌≤◌, length, drop}
use Rattle.zir_form.specs.Lines.{tree_at}
use Rattle.zir_astgen.specs.Chains.{operand}
use Rattle.zir_astgen.specs.Firsts.{Grows}
use Rattle.zir_astgen.specs.Leaving.{AreLeft, leaves_of}
use Rattle.zir_astgen.specs.Pieces.{Below}
use Rattle.zir_astgen.specs.Writing.{file, parts, site, trees}
use Rattle.zir_astgen.proofs.writer.Writer.made_prefix.Given as goal

abbrev pub invariant-loop-at : goal.invariant-loop-at
invariant-loop-at l = record {
  grows : Grows (trees l.initial.self) (trees l.self);
  source : l.self.source ≡ l.initial.self.source;
  within : l.at ≤ length l.row;
  below : Below (length (trees l.self)) l.row;
  left : AreLeft (length (trees l.self)) l.leaves;
  leaves : leaves_of (trees l.self) l.leaves ≡ leaves_of (trees l.initial.self) l.leaves;
  inside : l.line < length (trees l.self);
  same : tree_at (trees l.self) l.line ≡ operand (file l.self) (site l.self) (leaves_of (trees l.self) l.leaves) (parts l.self (drop l.at l.row));
}

abbrev pub decreases-loop-at : goal.decreases-loop-at
decreases-loop-at l = l.at
