use Rattle.std.proofs.Common.{◌≡◌, ◌+◌, ap, sym, ◌∙◌, refl, map, length, rules, subst}
use Rattle.zir_form.specs.Lines.{tree_at}
use Rattle.zir_astgen.specs.declared.levels.Frames.{Frames}
use Rattle.zir_astgen.specs.Frames.{exit_after, levels_of, FramesBelow}
use Rattle.zir_astgen.specs.Levels.{exit_from}
use Rattle.zir_astgen.specs.Writing.{trees}
use Rattle.zir_astgen.proofs.FrameLemmas.{exit_further}
use Rattle.zir_astgen.proofs.writer.Writer.exit_from.Goals as goal

pub loop-rest-preserved : goal.loop-rest-preserved
loop-rest-preserved c =
    let now = trees c.args.self.now in
    let so_far = ap (λ (x : Frames). exit_after c.loop-rest.target (map (tree_at now) c.loop-rest.leaves.items) (exit_from c.args.on c.args.label (levels_of now x))) (sym c.in-Within.is) ∙ c.loop-rest.invariant.exit in
    let sum : c.in-Some.further ≡ c.loop-rest.target + c.in-Past.count = search rules in
    record {
      exit = exit_further c.args.on c.args.label now c.in-Within.frame (levels_of now c.in-Within.outer.now) c.loop-rest.target c.in-Past.count c.in-Some.further c.loop-rest.leaves.items c.leave-in-Past.new.leaves.items _ _
          c.in-Past.ensures refl c.in_ok-leave-in-Past.ensures.trees sum so_far;
      inside = c.in_ok-leave-in-Past.ensures.below;
      below = (subst (λ (x : Frames). FramesBelow (length now) x) c.in-Within.is c.loop-rest.invariant.below).2;
    }
