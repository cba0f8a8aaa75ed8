use Rattle.std.proofs.Common.{◌≡◌, ◌++◌, length, map}
use Rattle.zir_form.specs.Lines.{tree_at}
use Rattle.zir_astgen.specs.Firsts.{AreBelow, Grows}
use Rattle.zir_astgen.specs.Site as spec
use Rattle.zir_astgen.specs.Writing.{site, trees}
use Rattle.zir_astgen.proofs.writer.Writer.captures_at.Given as goal

abbrev pub invariant-loop-rest : goal.invariant-loop-rest
invariant-loop-rest l = record {
  source : l.self.source ≡ l.fn.self.source;
  grows : Grows (trees l.fn.self) (trees l.self);
  inside : AreBelow (length (trees l.self)) l.lines.items;
  stand : map (tree_at (trees l.self)) l.lines.items ++ spec.captures_at (site l.fn.self) l.place l.rest ≡ spec.captures_at (site l.fn.self) l.place l.locals;
}

abbrev pub decreases-loop-rest : goal.decreases-loop-rest
decreases-loop-rest l = length l.rest
