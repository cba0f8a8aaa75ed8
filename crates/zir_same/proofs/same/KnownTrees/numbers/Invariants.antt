use Rattle.std.proofs.Common.{◌≡◌, ◌-◌, List, length, take}
use Rattle.zir_form.specs.Core.{Core}
use Rattle.zir_form.specs.Lines.{trees_of}
use Rattle.zir_same.specs.Same.{IsKnown, Numbered}
use Rattle.zir_same.proofs.same.KnownTrees.numbers.Given as goal

abbrev pub invariant-loop-form : goal.invariant-loop-form
invariant-loop-form l = (seen : List Core) → IsKnown seen l.initial.self → Numbered seen l.self (trees_of (take l.line l.lines)) l.numbers.items

abbrev pub decreases-loop-form : goal.decreases-loop-form
decreases-loop-form l = length l.lines - l.line
