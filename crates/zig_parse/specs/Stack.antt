-- What the front of a list is, and lists that differ at the front.
use Rattle.std.specs.Prelude.{◌≡◌, List, [], ◌∷◌, Option, Some, None}

-- the first value of a list
abbrev pub first : {T : Type 0} → List T → Option T
first [] = None
first (x ∷ xs) = Some x

-- a list with another first value, if it has one
abbrev pub with_first : {T : Type 0} → T → List T → List T
with_first y [] = []
with_first y (x ∷ xs) = y ∷ xs

-- the first value is taken off, where there is one
abbrev pub Popped : {T : Type 0} → List T → Option T → List T → Type 0
Popped old None new = (old ≡ []) × (new ≡ [])
Popped old (Some x) new = old ≡ x ∷ new

-- a list without its first value
abbrev pub rest : {T : Type 0} → List T → List T
rest [] = []
rest (x ∷ xs) = xs

-- the first value is this one, where there is one
abbrev pub Topped : {T : Type 0} → List T → Option T → Type 0
Topped xs None = xs ≡ []
Topped xs (Some x) = xs ≡ x ∷ rest xs
