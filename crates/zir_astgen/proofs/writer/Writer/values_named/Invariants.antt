use Rattle.std.proofs.Common.{◌≡◌, ◌++◌, length, map}
use Rattle.zir_form.specs.Lines.{tree_at}
use Rattle.zir_astgen.specs.Firsts.{AreBelow, Grows}
use Rattle.zir_astgen.specs.Names.{values_named}
use Rattle.zir_astgen.specs.Pieces.{Below}
use Rattle.zir_astgen.specs.Writing.{file, parts, trees}
use Rattle.zir_astgen.proofs.writer.Writer.values_named.Given as goal

abbrev pub invariant-loop-rest : goal.invariant-loop-rest
invariant-loop-rest l = record {
  grows : Grows (trees l.initial.self) (trees l.self);
  source : l.self.source ≡ l.initial.self.source;
  below : Below (length (trees l.initial.self)) l.rest;
  inside : AreBelow (length (trees l.self)) l.lines.items;
  same : map (tree_at (trees l.self)) l.lines.items ++ values_named (file l.initial.self) l.name (parts l.initial.self l.rest)
      ≡ values_named (file l.initial.self) 0 (parts l.initial.self l.row);
}

abbrev pub decreases-loop-rest : goal.decreases-loop-rest
decreases-loop-rest l = length l.rest
