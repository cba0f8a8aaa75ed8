use Rattle.std.proofs.Common.{◌≡◌, ◌++◌, false, length, map}
use Rattle.zir_form.specs.Lines.{tree_at}
use Rattle.zir_astgen.specs.Control.{captured_names}
use Rattle.zir_astgen.specs.Firsts.{AreBelow, Grows}
use Rattle.zir_astgen.specs.Pieces.{Below}
use Rattle.zir_astgen.specs.Writing.{parts, trees}
use Rattle.zir_astgen.proofs.writer.Writer.captured_names.Given as goal

abbrev pub invariant-loop-rest : goal.invariant-loop-rest
invariant-loop-rest l = record {
  same : map (tree_at (trees l.self)) l.names.items ++ captured_names l.pointer (parts l.fn.self l.rest) ≡ captured_names false (parts l.fn.self l.row);
  inside : AreBelow (length (trees l.self)) l.names.items;
  grows : Grows (trees l.fn.self) (trees l.self);
  below : Below (length (trees l.fn.self)) l.rest;
  source : l.self.source ≡ l.fn.self.source;
}

abbrev pub decreases-loop-rest : goal.decreases-loop-rest
decreases-loop-rest l = length l.rest
