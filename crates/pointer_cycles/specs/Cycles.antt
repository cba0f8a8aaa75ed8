-- Cycles of a table of pointers, and the places of each whose text is the least in byte order.
use Rattle.std.specs.Prelude.{◌≡◌, ℕ, zero, suc, ◌<◌, ◌↔◌, List, [], Option, Some, Bool, true, false, length, slice_get, slice_index_or}
use Rattle.std.specs.Ordering.{nat_cmp, match_ordering}
use Rattle.std.specs.Cmp.Lexicographic.{slice_cmp}

-- place i points at place j: a pointer beyond the end points at none
abbrev pub PointsTo : List (Option ℕ) → ℕ → ℕ → Type 0
PointsTo next i j = (slice_get next i ≡ Some (Some j)) × (j < length next)

-- so many pointers, one after the other, lead from place i to place j
abbrev pub Leads : List (Option ℕ) → ℕ → ℕ → ℕ → Type 0
Leads next zero i j = i ≡ j
Leads next (suc n) i j = (k : ℕ) × (Leads next n i k) × (PointsTo next k j)

-- one or more pointers lead from the place back to it
abbrev pub IsOnCycle : List (Option ℕ) → ℕ → Type 0
IsOnCycle next i = (n : ℕ) × Leads next (suc n) i i

-- the first text comes before the second in byte order
abbrev pub is_before : List ℕ → List ℕ → Bool
is_before a b = match_ordering (slice_cmp nat_cmp a b) true false false

-- the text of a place
abbrev pub text_of : List (List ℕ) → ℕ → List ℕ
text_of texts i = slice_index_or texts i []

-- the place is on a cycle, and no place that it leads to has a text that comes before its own
abbrev pub IsLeastOfCycle : List (Option ℕ) → (ℕ → List ℕ) → ℕ → Type 0
IsLeastOfCycle next text i = (IsOnCycle next i) × ((n j : ℕ) → Leads next n i j → is_before (text j) (text i) ≡ false)

-- a mark for each place, true at the places of least text of the cycles and at no other
pub record MarksLeast (next : List (Option ℕ)) (texts : List (List ℕ)) (marks : List Bool) : Type 0 where
  pub one_for_each : length marks ≡ length next
  pub least : (i : ℕ) → (slice_get marks i ≡ Some true) ↔ IsLeastOfCycle next (text_of texts) i
