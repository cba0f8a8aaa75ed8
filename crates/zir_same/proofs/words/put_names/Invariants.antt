use Rattle.std.proofs.Common.{◌≡◌, ◌++◌, length}
use Rattle.zir_same.specs.Labels.{names_words}
use Rattle.zir_same.proofs.words.put_names.Given as goal

abbrev pub invariant-loop-rest : goal.invariant-loop-rest
invariant-loop-rest l = l.words.items ++ names_words l.rest ≡ l.initial.words.items ++ names_words l.names

abbrev pub decreases-loop-rest : goal.decreases-loop-rest
decreases-loop-rest l = length l.rest
