-- Which place of a cycle is shown, by the places behind it, as far as one looks.
use Rattle.std.specs.Prelude.{ℕ, zero, suc, ◌==◌, List, [], ◌∷◌, Option, Some, None, Bool, not, ◌&&◌}
use Rattle.std.specs.List.{list_any, list_all}
use Rattle.pointer_cycles.specs.Cycles.{is_before}

-- a place that is pointed at, and those behind it
abbrev pub behind_some : (ℕ → List ℕ) → Option ℕ → List ℕ
behind_some more None = []
behind_some more (Some v) = v ∷ more v

-- so many places behind a place, or those up to one that points at none
abbrev pub behind : (ℕ → Option ℕ) → ℕ → ℕ → List ℕ
behind next zero u = []
behind next (suc n) u = behind_some (behind next n) (next u)

-- the place is among so many behind it, and none of these has a text that comes before its own
abbrev pub is_shown : (ℕ → Option ℕ) → (ℕ → List ℕ) → ℕ → ℕ → Bool
is_shown next text most u =
    list_any (λ v. u == v) (behind next most u) && list_all (λ v. not (is_before (text v) (text u))) (behind next most u)
