use Rattle.std.proofs.Common.{◌≡◌, ◌+◌, length}
use Rattle.zir_astgen.specs.Values.{margin}
use Rattle.zir_astgen.proofs.values.text.margin.Given as goal

abbrev pub invariant-loop-rest : goal.invariant-loop-rest
invariant-loop-rest l = record {
  count : l.blanks + margin l.rest ≡ margin l.line;
  within : l.blanks + length l.rest ≡ length l.line;
}

abbrev pub decreases-loop-rest : goal.decreases-loop-rest
decreases-loop-rest l = length l.rest
