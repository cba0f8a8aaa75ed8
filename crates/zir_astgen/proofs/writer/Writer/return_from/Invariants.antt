use Rattle.std.proofs.Common.{◌≡◌, length, map}
use Rattle.zir_form.specs.Lines.{tree_at}
use Rattle.zir_astgen.specs.Firsts.{AreBelow}
use Rattle.zir_astgen.specs.Frames.{leaves_after, levels_of, FramesBelow}
use Rattle.zir_astgen.specs.Levels.{return_from}
use Rattle.zir_astgen.specs.Writing.{trees}
use Rattle.zir_astgen.proofs.writer.Writer.return_from.Given as goal

abbrev pub invariant-loop-rest : goal.invariant-loop-rest
invariant-loop-rest l = record {
  leaves : leaves_after (map (tree_at (trees l.self)) l.leaves.items) (return_from l.with_value (levels_of (trees l.self) l.rest))
      ≡ return_from l.with_value (levels_of (trees l.self) l.frames);
  inside : AreBelow (length (trees l.self)) l.leaves.items;
  below : FramesBelow (length (trees l.self)) l.rest;
}
