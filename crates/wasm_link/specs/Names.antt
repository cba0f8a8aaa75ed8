-- Names by their numbers in a list.
use Rattle.std.specs.Prelude.{ℕ, if◌then◌else◌, Bool, nat_lt, List, [], ◌∷◌, ◌++◌, length, map}
use Rattle.std.specs.List.{position_or_len, fold}
use Rattle.std.specs.Str.{bytes_eq}

-- where a name stands first in a list, counted from 0; the list's length where it doesn't
abbrev pub number_of : List (List ℕ) → List ℕ → ℕ
number_of names name = position_or_len (λ n. bytes_eq n name) names

abbrev pub stands_in : List (List ℕ) → List ℕ → Bool
stands_in names name = nat_lt (number_of names name) (length names)

-- the list with one more, unless its name stands there already
abbrev pub with_new : {T : Type 0} → (T → List ℕ) → List T → T → List T
with_new name_of xs x = if stands_in (map name_of xs) (name_of x) then xs else xs ++ x ∷ []

-- of each name the one that stands first
abbrev pub distinct_by : {T : Type 0} → (T → List ℕ) → List T → List T
distinct_by name_of xs = fold (with_new name_of) [] xs
