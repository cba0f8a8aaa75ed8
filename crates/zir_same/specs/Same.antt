-- Which lines of two files stand for the same tree.
use Rattle.std.specs.Prelude.{◌≡◌, ◌↔◌, ℕ, ◌+◌, ◌<◌, Bool, true, false, nat_eq, List, [], ◌∷◌, ◌++◌, length, map, slice_index_or, Option, None, Some}
use Rattle.zir_form.specs.declared.form.Form.{Form}
use Rattle.zir_form.specs.declared.form.Form.TheVariants as form
use Rattle.zir_form.specs.declared.zir.PartRef.{PartRef}
use Rattle.zir_same.specs.declared.same.KnownTrees.{KnownTrees}
use Rattle.zir_form.specs.Core.{Core}
use Rattle.zir_form.specs.Core as core
use Rattle.zir_same.specs.Labels.{below, label, packed}
use Rattle.zir_form.specs.Lines.{core_at, over_cores, tree_at}
use Rattle.zir_form.specs.Places.{place_in}
use Rattle.zir_form.specs.Tables.{tree_by}

-- ---- the answer

-- the numbers of the lines of two files
pub record NumberedLines : Type 0 where
  pub left : List ℕ
  pub right : List ℕ

-- the number of a line; a line that isn't there has that of no form
unfoldable pub number_at : List ℕ → ℕ → ℕ
number_at numbers line = slice_index_or numbers line 0

-- whether two lines have one number
abbrev pub same_lines : NumberedLines → ℕ → ℕ → Bool
same_lines s left right = nat_eq (number_at s.left left) (number_at s.right right)

abbrev pub same_parts : NumberedLines → Option PartRef → Option PartRef → Bool
same_parts s (Some left) (Some right) = same_lines s left.line right.line
same_parts s None None = true
same_parts s (Some left) None = false
same_parts s None (Some right) = false

-- two lines, and two parts, have one number exactly where they stand for the same tree
pub record TellsTrees (left right : List Form) (s : NumberedLines) : Type 0 where
  pub lines : (i j : ℕ) → (same_lines s i j ≡ true) ↔ (core_at left i ≡ core_at right j)
  pub parts : (p q : Option PartRef) → (same_parts s p q ≡ true) ↔ (tree_by left p ≡ tree_by right q)

-- ---- the way to it

abbrev pub is_missing : Form → Bool
is_missing form.Missing = true
is_missing _ = false

abbrev pub next_number : Option ℕ → ℕ → ℕ
next_number None next = next + 1
next_number (Some n) next = next

-- each of these numbers is one of so many
abbrev pub NumbersBelow : ℕ → List ℕ → Type 0
NumbersBelow count [] = Unit {0}
NumbersBelow count (n ∷ rest) = (n < count) × NumbersBelow count rest

-- the number of a tree among those that were met
pub record StandsFor (seen : List Core) (number : ℕ) (tree : Core) : Type 0 where
  pub inside : number < length seen
  pub is : tree_at seen number ≡ tree

-- words are the key of the tree with a number
pub record Keyed (seen : List Core) (words : List ℕ) (number : ℕ) : Type 0 where
  pub numbers : List ℕ
  pub inside : number < length seen
  pub numbered : NumbersBelow (length seen) numbers
  pub stand : map (tree_at seen) numbers ≡ below (tree_at seen number)
  pub is : words ≡ packed (label (tree_at seen number)) numbers

-- the tree with a number has its key in the table
pub record Kept (seen : List Core) (known : KnownTrees) (number : ℕ) : Type 0 where
  pub words : List ℕ
  pub place : place_in known.numbers words ≡ Some number

-- The trees that were met, by their numbers: none stands twice, no form is the first, and the table has the keys of
-- the others.
pub record IsKnown (seen : List Core) (known : KnownTrees) : Type 0 where
  pub first : StandsFor seen 0 core.missing
  pub next : known.next ≡ length seen
  pub apart : (m n : ℕ) → m < length seen → n < length seen → tree_at seen m ≡ tree_at seen n → m ≡ n
  pub found : (words : List ℕ) (n : ℕ) → place_in known.numbers words ≡ Some n → Keyed seen words n
  pub kept : (n : ℕ) → 0 < n → n < length seen → Kept seen known n

-- each line's number is that of its tree
pub record Stand (seen trees : List Core) (numbers : List ℕ) : Type 0 where
  pub count : length numbers ≡ length trees
  pub is : (line : ℕ) → StandsFor seen (number_at numbers line) (tree_at trees line)

-- some trees more, among them that of a form over these
pub record NumberedForm (seen : List Core) (known : KnownTrees) (trees : List Core) (f : Form) (number : ℕ) : Type 0 where
  pub more : List Core
  pub holds : IsKnown (seen ++ more) known
  pub stands : StandsFor (seen ++ more) number (over_cores (tree_at trees) f)

-- some trees more, among them those of all lines
pub record Numbered (seen : List Core) (known : KnownTrees) (trees : List Core) (numbers : List ℕ) : Type 0 where
  pub more : List Core
  pub holds : IsKnown (seen ++ more) known
  pub stand : Stand (seen ++ more) trees numbers
