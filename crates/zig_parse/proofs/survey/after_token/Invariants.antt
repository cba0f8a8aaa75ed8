use Rattle.std.proofs.Common.{◌≡◌, ◌||◌, [], length}
use Rattle.zig_parse.specs.Passes as spec
use Rattle.zig_parse.proofs.survey.after_token.Given as goal

abbrev pub invariant-loop-thread : goal.invariant-loop-thread
invariant-loop-thread l = (spec.after_token l.kept.items l.ready ≡ spec.after_token [] l.fn.ready) × ((l.shallow || spec.any_shallow l.ready) ≡ spec.any_shallow l.fn.ready)

abbrev pub decreases-loop-thread : goal.decreases-loop-thread
decreases-loop-thread l = length l.ready
