use Rattle.std.proofs.Common.{ap, subst, sym, ◌∙◌, length}
use Rattle.zir_form.specs.Lines.{over_cores}
use Rattle.zir_astgen.specs.declared.levels.Frames.{Frames}
use Rattle.zir_astgen.specs.Frames.{levels_of, FramesBelow}
use Rattle.zir_astgen.specs.Levels.{put_off_in}
use Rattle.zir_form.specs.Lines.{tree_at}
use Rattle.zir_astgen.specs.Writing.{trees}
use Rattle.zir_astgen.proofs.FrameLemmas.{put_off_step}
use Rattle.zir_astgen.proofs.writer.Writer.put_off_in.Goals as goal

pub returns-clause-levels : goal.returns-clause-levels
unfolding over_cores
returns-clause-levels c =
    let a = trees c.args.self.now in
    let below = subst (λ (x : Frames). FramesBelow (length a) x) c.in-Within.is c.requires.below in
    let h = put_off_step a (trees c.run_before.new.self) (trees c.put.new.self) c.args.always c.args.run c.in-Within.frame c.in-Within.outer.now c.in_ok-defers.defers c.in_ok-all.all
    c.requires.run below.1 below.2 c.in_ok-defers.ensures.tree c.in_ok-all.ensures.tree in
    record {
      grows = h.0;
      inside = h.1;
      stand = h.2 ∙ ap (λ (x : Frames). put_off_in c.args.always (tree_at a c.args.run) (levels_of a x)) (sym c.in-Within.is);
    }
