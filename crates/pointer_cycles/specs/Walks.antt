-- How the places of a table are walked: each walk follows the pointers to a place that was visited, or to the end.
use Rattle.std.specs.Prelude.{◌≡◌, ℕ, zero, suc, ◌+◌, ◌≤◌, ◌<◌, List, Option, Some, None, Bool, true, false, ◌⊎◌, length, slice_get, slice_index, slice_index_or, min}
use Rattle.std.specs.List.{sum_by}
use Rattle.pointer_cycles.specs.Cycles.{is_before}

-- the place that a pointer leads to, or the number of places where it leads to none
abbrev pub landing : ℕ → Option (Option ℕ) → ℕ
landing len (Some (Some j)) = min j len
landing len (Some None) = len
landing len None = len

-- the place behind a place, or the number of places where there is none
unfoldable pub after : List (Option ℕ) → ℕ → ℕ
after next i = landing (length next) (slice_get next i)

-- the place that so many steps lead to
abbrev pub times : (ℕ → ℕ) → ℕ → ℕ → ℕ
times f zero i = i
times f (suc n) i = f (times f n i)

-- one for a place that was not visited
abbrev pub unvisited : ℕ → ℕ
unvisited zero = 1
unvisited (suc n) = 0

-- the place is on a cycle of the steps f among so many places, and no text there comes before its own
pub record Least (f : ℕ → ℕ) (len : ℕ) (text : ℕ → List ℕ) (i : ℕ) : Type 0 where
  pub within : i < len
  pub others : ℕ
  pub returns : times f (suc others) i ≡ i
  pub least : (n : ℕ) → times f n i < len → is_before (text (times f n i)) (text i) ≡ false

-- one walk from a place, at a place where it has come to: it numbers the places that it visits, in order, after the count of those visited before
pub record Walked (f : ℕ → ℕ) (len : ℕ) (before : List ℕ) (count start : ℕ) (visits : List ℕ) (reached stop : ℕ) : Type 0 where
  pub steps : ℕ
  pub counted : reached ≡ steps + count
  pub ends : times f steps start ≡ stop
  pub kept : (i : ℕ) → 0 < slice_index before i → slice_index visits i ≡ slice_index before i
  pub trail : (k : ℕ) → k < steps → slice_index visits (times f k start) ≡ suc (k + count)
  pub only : (i : ℕ) → 0 < slice_index visits i → (0 < slice_index before i) ⊎ ((k : ℕ) × (k < steps) × (times f k start ≡ i))
  pub sized : length visits ≡ len
  pub room : reached + sum_by unvisited visits ≡ len

-- the marks after so many places from start on were passed: each one that the wanted text does not come before was marked
pub record Passed (f : ℕ → ℕ) (text : ℕ → List ℕ) (wanted : List ℕ) (before : List Bool) (start steps : ℕ) (marks : List Bool) : Type 0 where
  pub sized : length marks ≡ length before
  pub kept : (i : ℕ) → slice_index_or before i false ≡ true → slice_index_or marks i false ≡ true
  pub marked : (k : ℕ) → k < steps → is_before wanted (text (times f k start)) ≡ false → slice_index_or marks (times f k start) false ≡ true
  pub only : (i : ℕ) → slice_index_or marks i false ≡ true → (slice_index_or before i false ≡ true) ⊎ ((k : ℕ) × (times f k start ≡ i) × (is_before wanted (text i) ≡ false))

-- what holds between two walks: each visited place leads to visited places, and the least places of cycles among them are marked, and no other place
pub record Settled (f : ℕ → ℕ) (len : ℕ) (text : ℕ → List ℕ) (visits : List ℕ) (marks : List Bool) (count : ℕ) : Type 0 where
  pub sized : length visits ≡ len
  pub room : count + sum_by unvisited visits ≡ len
  pub bounded : (i : ℕ) → slice_index visits i ≤ count
  pub closed : (i : ℕ) → 0 < slice_index visits i → f i < len → 0 < slice_index visits (f i)
  pub one_for_each : length marks ≡ len
  pub sound : (i : ℕ) → slice_index_or marks i false ≡ true → Least f len text i
  pub complete : (i : ℕ) → 0 < slice_index visits i → Least f len text i → slice_index_or marks i false ≡ true
