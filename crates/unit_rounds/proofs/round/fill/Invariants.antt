use Rattle.std.proofs.Common.{◌≡◌, length}
use Rattle.unit_rounds.specs.Standing.{IsFilled}
use Rattle.unit_rounds.proofs.round.fill.Given as goal

-- as many as the number, nothing behind those that were there
abbrev pub invariant-loop-number : goal.invariant-loop-number
invariant-loop-number l = record {
  long : length l.waits.items ≡ l.number;
  filled : IsFilled l.fn.waits.items l.waits.items;
}
