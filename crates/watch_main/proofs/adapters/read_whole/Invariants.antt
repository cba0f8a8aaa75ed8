use Rattle.std.proofs.Common.{◌≤◌, length}
use Rattle.watch_main.proofs.adapters.read_whole.Given as goal

-- what was read is within the limit
abbrev pub invariant-loop : goal.invariant-loop
invariant-loop g l = length l.into.items ≤ l.limit
