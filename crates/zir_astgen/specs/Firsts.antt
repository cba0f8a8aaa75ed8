-- How lines are added to others, and the two that come first.
use Rattle.std.specs.Prelude.{◌≡◌, ℕ, ◌<◌, List, [], ◌∷◌, ◌++◌, length, map, slice_get, Some}
use Rattle.zir_form.specs.Core.{Core}
use Rattle.zir_form.specs.Lines.{tree_at}
use Rattle.zir_form.specs.declared.form.Form.{Form}
use Rattle.zir_form.specs.declared.form.Form.TheVariants as form

-- some lines more
pub record Grows (old now : List Core) : Type 0 where
  pub added : List Core
  pub extends : now ≡ old ++ added

-- some lines more, of which the one with this number has this tree
pub record Adds (old now : List Core) (tree : Core) (line : ℕ) : Type 0 where
  pub added : List Core
  pub extends : now ≡ old ++ added
  pub inside : line < length now
  pub stands : tree_at now line ≡ tree

-- each of these lines is one of so many
abbrev pub AreBelow : ℕ → List ℕ → Type 0
AreBelow count [] = Unit {0}
AreBelow count (n ∷ more) = (n < count) × AreBelow count more

-- some lines more, of which those with these numbers have these trees, in order
pub record AddsAll (old now : List Core) (trees : List Core) (lines : List ℕ) : Type 0 where
  pub grows : Grows old now
  pub inside : AreBelow (length now) lines
  pub stand : map (tree_at now) lines ≡ trees

-- the first two lines stand for no form, and for what is left out
pub record Firsts (lines : List Form) : Type 0 where
  pub missing : slice_get lines 0 ≡ Some form.Missing
  pub absent : slice_get lines 1 ≡ Some form.Absent
