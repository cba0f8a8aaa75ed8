use Rattle.std.proofs.Common.{◌≡◌, ◌++◌, length, map}
use Rattle.zir_same.specs.Same.{number_at}
use Rattle.zir_same.proofs.same.put_numbers.Given as goal

abbrev pub invariant-loop-rest : goal.invariant-loop-rest
invariant-loop-rest l = l.words.items ++ map (number_at l.numbers) l.rest ≡ l.initial.words.items ++ map (number_at l.numbers) l.lines

abbrev pub decreases-loop-rest : goal.decreases-loop-rest
decreases-loop-rest l = length l.rest
