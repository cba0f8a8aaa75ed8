use Rattle.std.proofs.Common.{◌≡◌, length, map}
use Rattle.zir_form.specs.Lines.{tree_at}
use Rattle.zir_astgen.specs.Firsts.{AreBelow}
use Rattle.zir_astgen.specs.Frames.{exit_after, levels_of, FramesBelow}
use Rattle.zir_astgen.specs.Levels.{exit_from}
use Rattle.zir_astgen.specs.Writing.{trees}
use Rattle.zir_astgen.proofs.writer.Writer.exit_from.Given as goal

abbrev pub invariant-loop-rest : goal.invariant-loop-rest
invariant-loop-rest l = record {
  exit : exit_after l.target (map (tree_at (trees l.self)) l.leaves.items) (exit_from l.on l.label (levels_of (trees l.self) l.rest))
      ≡ exit_from l.on l.label (levels_of (trees l.self) l.frames);
  inside : AreBelow (length (trees l.self)) l.leaves.items;
  below : FramesBelow (length (trees l.self)) l.rest;
}
