use Rattle.std.proofs.Common.{◌≡◌, ℕ, length, ◌++◌}
use Rattle.std.specs.BTreeMap.{get}
use Rattle.std.specs.Ordering.{nat_cmp}
use Rattle.zir_astgen.specs.Indexed.{items_of}
use Rattle.zir_astgen.specs.Site.{captures_from}
use Rattle.zir_astgen.proofs.captured.locals_of.Given as goal

abbrev pub invariant-loop-rest : goal.invariant-loop-rest
invariant-loop-rest l = (q : ℕ) → items_of (get nat_cmp l.locals q) ++ captures_from q l.rest ≡ captures_from q l.captures

abbrev pub decreases-loop-rest : goal.decreases-loop-rest
decreases-loop-rest l = length l.rest
