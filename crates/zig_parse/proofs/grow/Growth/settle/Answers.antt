use Rattle.std.proofs.Common.{◌∙◌, sym}
use Rattle.zig_parse.specs.Grows.{grown}
use Rattle.zig_parse.proofs.Costs.{ready_next, ready_less, ready_told}
use Rattle.zig_parse.proofs.grow.Growth.settle.Goals as goal

pub returns-in-Some-clause-fits : goal.returns-in-Some-clause-fits
returns-in-Some-clause-fits c = (ready_told _ _ _ c.in-Some.fits (grown c.loop-fits.self) (grown c.advance.new.self) _ c.in_ok-fits.ensures.after (sym c.in-Some.is ∙ c.in_ok-fits.ensures.known) c.loop-fits.invariant).0

pub returns-in-Some-clause-after : goal.returns-in-Some-clause-after
returns-in-Some-clause-after c = (ready_told _ _ _ c.in-Some.fits (grown c.loop-fits.self) (grown c.advance.new.self) _ c.in_ok-fits.ensures.after (sym c.in-Some.is ∙ c.in_ok-fits.ensures.known) c.loop-fits.invariant).1

pub loop-fits-smaller : goal.loop-fits-smaller
loop-fits-smaller c = ready_less _ _ _ (grown c.loop-fits.self) (grown c.advance.new.self) c.in_ok-fits.ensures.after (sym c.in_default.is ∙ c.in_ok-fits.ensures.known)

pub loop-fits-preserved : goal.loop-fits-preserved
loop-fits-preserved c = ready_next _ _ _ (grown c.loop-fits.self) (grown c.advance.new.self) _ c.in_ok-fits.ensures.after (sym c.in_default.is ∙ c.in_ok-fits.ensures.known) c.loop-fits.invariant
