-- How far an escape reaches.
use Rattle.std.specs.Prelude.{ℕ, ◌<◌, ◌≤◌, List, length}
use Rattle.zig_token.specs.declared.quoted.Escape.{Escape}
use Rattle.zig_token.specs.declared.quoted.Escape.TheVariants.{Whole, Wrong}

-- it ends behind a place, within the text, or its wrong byte is not before that place
abbrev pub EndsWithin : List ℕ → ℕ → Escape → Type 0
EndsWithin text at (Whole end) = (at < end) × (end ≤ length text)
EndsWithin text at (Wrong wrong) = (at ≤ wrong) × (wrong ≤ length text)
