use Rattle.std.proofs.Common.{◌≡◌, drop}
use Rattle.zig_parse.specs.Passes as spec
use Rattle.zig_parse.proofs.survey.result_for.Given as goal

abbrev pub invariant-loop-finished : goal.invariant-loop-finished
invariant-loop-finished l = spec.result_for (drop l.finished-index l.found) l.goal ≡ spec.result_for l.found l.goal
