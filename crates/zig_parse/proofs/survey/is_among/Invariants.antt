use Rattle.std.proofs.Common.{◌≡◌, drop}
use Rattle.zig_parse.specs.Passes as spec
use Rattle.zig_parse.proofs.survey.is_among.Given as goal

abbrev pub invariant-loop-other : goal.invariant-loop-other
invariant-loop-other l = spec.is_among (drop l.other-index l.kept) l.thread ≡ spec.is_among l.kept l.thread
