-- The parts of a key: what is read at its words, and what may stand in their place.
use Rattle.std.specs.Prelude.{◌≡◌, ℕ, ◌<◌, false, List, [], ◌∷◌, length, slice_index, drop, Some, IsSome}
use Rattle.std.specs.List.{AllByRecursion}
use Rattle.type_form.specs.declared.key.Key.{Key}
use Rattle.type_form.specs.declared.roles.Role.{Role}
use Rattle.type_form.specs.declared.roles.Role.TheVariants as role
use Rattle.type_form.specs.Words.{index_of, words_of, Fits}
use Rattle.type_form.specs.Denote.{Node, Reading, list_in, node_of}
use Rattle.type_form.specs.Roles.{role_at}

-- the number of a key's kind
abbrev pub kind_of : Key → ℕ
kind_of k = slice_index (words_of k) 0

-- the words behind it
abbrev pub rest_of : Key → List ℕ
rest_of k = drop 1 (words_of k)

-- what is read at a word of a key
abbrev pub PartOf : Reading → Role → ℕ → Type 0
PartOf r role.Number w = Unit {0}
PartOf r role.Part w = IsSome (r (index_of w))
PartOf r role.List w = (ns : List ℕ) × (list_in r (index_of w) ≡ Some ns) × AllByRecursion (λ n. IsSome (r (index_of n))) ns
PartOf r role.Rest w = IsSome (r (index_of w))

-- numbers at which the same is read
abbrev pub AllTurn : Reading → Reading → List ℕ → List ℕ → Type 0
AllTurn r s [] [] = Unit {0}
AllTurn r s (n ∷ ns) (m ∷ ms) = ((x : Node) × (r (index_of n) ≡ Some x) × (s (index_of m) ≡ Some x)) × AllTurn r s ns ms
AllTurn r s _ _ = ⊥

-- what may stand in place of a word of a key
abbrev pub Turns : Reading → Reading → Role → ℕ → ℕ → Type 0
Turns r s role.Number w v = v ≡ w
Turns r s role.Part w v = (x : Node) × (r (index_of w) ≡ Some x) × (s (index_of v) ≡ Some x)
Turns r s role.List w v = (ns : List ℕ) × (ms : List ℕ) × (list_in r (index_of w) ≡ Some ns) × (list_in s (index_of v) ≡ Some ms) × AllTurn r s ns ms
Turns r s role.Rest w v = (x : Node) × (r (index_of w) ≡ Some x) × (s (index_of v) ≡ Some x)

-- a key with these words denotes this
abbrev pub Made : Reading → List ℕ → Node → Type 0
Made s ws m = (k : Key) × (words_of k ≡ ws) × Fits k × (node_of s k ≡ Some m)

-- where a key denotes something, each of its words is what its role says: the index of a part denotes something too. A list stands here as one of plain numbers
abbrev pub PartsDenote : Type 0
PartsDenote = (r : Reading) (k : Key) (m : Node) → node_of r k ≡ Some m → (p : ℕ) → p < length (rest_of k) → PartOf r (role_at (kind_of k) false p) (slice_index (rest_of k) p)

-- and nothing else counts: with other indices at its parts, at which the same is read, a key denotes the same
abbrev pub PartsTurn : Type 0
PartsTurn = (r s : Reading) (k : Key) (m : Node) (vs : List ℕ) → Fits k → node_of r k ≡ Some m → length vs ≡ length (rest_of k)
    → ((p : ℕ) → p < length vs → Turns r s (role_at (kind_of k) false p) (slice_index (rest_of k) p) (slice_index vs p)) → Made s (kind_of k ∷ vs) m
