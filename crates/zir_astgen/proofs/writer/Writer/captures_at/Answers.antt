use Rattle.std.proofs.Common.{◌≡◌, ◌∙◌, arith}
use Rattle.zir_astgen.specs.Writing.{site, trees}
use Rattle.zir_astgen.proofs.AddLemmas.{grown, grows_more}
use Rattle.zir_astgen.proofs.MeantLemmas.{captures_step}
use Rattle.zir_astgen.proofs.writer.Writer.captures_at.Goals as goal

pub loop-rest-preserved : goal.loop-rest-preserved
loop-rest-preserved c =
    let same : site c.loop-rest.self ≡ site c.args.self.now = cc in
    let step = captures_step (site c.args.self.now) (site c.loop-rest.self) c.args.place (trees c.args.self.now) (trees c.loop-rest.self) (trees c.local_at.new.self) c.loop-rest.lines.items c.push.new.self.items c.loop-rest.rest.now c.in_ok-line.line _ same (omega arith) c.loop-rest.invariant.grows c.loop-rest.invariant.inside c.in_ok-line.ensures.tree c.in_ok-push.ensures.items c.loop-rest.invariant.stand in
    record {
      source = c.in_ok-line.ensures.source ∙ c.loop-rest.invariant.source;
      grows = grows_more (trees c.args.self.now) (trees c.loop-rest.self) (trees c.local_at.new.self) c.loop-rest.invariant.grows (grown (trees c.loop-rest.self) (trees c.local_at.new.self) _ c.in_ok-line.line c.in_ok-line.ensures.tree);
      inside = step.0;
      stand = step.1;
    }
