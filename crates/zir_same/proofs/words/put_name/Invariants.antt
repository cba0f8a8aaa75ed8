use Rattle.std.proofs.Common.{◌≡◌, ◌++◌, length}
use Rattle.zir_same.specs.Labels.{name_words}
use Rattle.zir_same.proofs.words.put_name.Given as goal

abbrev pub invariant-loop-rest : goal.invariant-loop-rest
invariant-loop-rest l = l.words.items ++ name_words l.rest ≡ l.initial.words.items ++ name_words l.name

abbrev pub decreases-loop-rest : goal.decreases-loop-rest
decreases-loop-rest l = length l.rest
