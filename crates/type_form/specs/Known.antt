-- What an interner knows: pairs of an index and the words of a key.
use Rattle.std.specs.Prelude.{◌≡◌, ℕ, ◌==◌, List, [], ◌∷◌, Option, Some, None, if◌then◌else◌, option_and_then}
use Rattle.type_form.specs.declared.index.Index.{Index}
use Rattle.type_form.specs.declared.key.Key.{Key}
use Rattle.type_form.specs.Words.{key_of}

-- the pairs that are known
abbrev pub Known : Type 0
Known = List (Index × List ℕ)

-- the words at an index: those of its first pair
abbrev pub words_at : Known → Index → Option (List ℕ)
words_at [] i = None
words_at (p ∷ ps) i = if (p.0).0 == i.0 then Some p.1 else words_at ps i

-- every word that stood at an index stands there still
pub record Keeps (old new : Known) : Type 0 where
  pub words : (i : Index) (ws : List ℕ) → words_at old i ≡ Some ws → words_at new i ≡ Some ws

-- equal keys stand at one index
pub record IsInjective (k : Known) : Type 0 where
  pub once : (i j : Index) (ws : List ℕ) → words_at k i ≡ Some ws → words_at k j ≡ Some ws → i ≡ j

-- the key at an index
unfoldable pub key_at : Known → Index → Option Key
key_at k i = option_and_then key_of (words_at k i)
