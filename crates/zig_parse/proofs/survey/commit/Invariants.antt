use Rattle.std.proofs.Common.{◌≡◌, length}
use Rattle.zig_parse.specs.Passes.{marked}
use Rattle.zig_parse.proofs.survey.commit.Given as goal

abbrev pub invariant-loop-at : goal.invariant-loop-at
invariant-loop-at l = marked l.choices l.chosen.items ≡ marked l.fn.choices l.fn.chosen.items

abbrev pub decreases-loop-at : goal.decreases-loop-at
decreases-loop-at l = length l.choices
