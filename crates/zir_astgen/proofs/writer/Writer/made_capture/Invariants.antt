use Rattle.std.proofs.Common.{◌≡◌, false, length}
use Rattle.zir_astgen.specs.Control.{captured_names, first_in}
use Rattle.zir_astgen.specs.Pieces.{Below}
use Rattle.zir_astgen.specs.Writing.{parts, trees}
use Rattle.zir_astgen.proofs.writer.Writer.made_capture.Given as goal

abbrev pub invariant-loop-rest : goal.invariant-loop-rest
invariant-loop-rest l = record {
  same : first_in (captured_names l.pointer (parts l.self l.rest)) ≡ first_in (captured_names false (parts l.self l.row));
  self : l.self ≡ l.fn.self;
  below : Below (length (trees l.self)) l.rest;
}

abbrev pub decreases-loop-rest : goal.decreases-loop-rest
decreases-loop-rest l = length l.rest
