use Rattle.std.proofs.Common.{◌≡◌, length}
use Rattle.zir_astgen.specs.Pieces.{Below}
use Rattle.zir_astgen.specs.Control.{first_statement}
use Rattle.zir_astgen.specs.Writing.{file, parts, site, trees}
use Rattle.zir_astgen.proofs.writer.Writer.first_statement.Given as goal

abbrev pub invariant-loop-rest : goal.invariant-loop-rest
invariant-loop-rest l = record {
  same : first_statement (file l.self) (site l.self) (parts l.self l.rest) ≡ first_statement (file l.self) (site l.self) (parts l.self l.row);
  self : l.self ≡ l.fn.self;
  below : Below (length (trees l.self)) l.rest;
}

abbrev pub decreases-loop-rest : goal.decreases-loop-rest
decreases-loop-rest l = length l.rest
