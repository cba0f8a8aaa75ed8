-- Which alternatives of a rule or a group are taken at the next two tokens.
use Rattle.std.specs.Prelude.{Bool, true, false, List, [], ◌∷◌, if◌then◌else◌}
use Rattle.zig_tree.specs.declared.grammar.Part.{Part}
use Rattle.zig_tree.specs.declared.grammar.When.{When}
use Rattle.zig_tree.specs.declared.grammar.When.TheVariants as when
use Rattle.zig_tree.specs.Grammar.{Alternative, holds}
use Rattle.zig_parse.specs.declared.choice.Look.{Look}
use Rattle.zig_parse.specs.declared.choice.Choice.{Choice}
use Rattle.zig_parse.specs.declared.choice.Choice.TheVariants.{Nothing, One, Two}

-- the alternatives from the first one on that may be taken
unfoldable pub matching : Look → List Alternative → List Alternative
matching look [] = []
matching look (a ∷ more) = if holds look.kind look.next a.at then a ∷ more else matching look more

-- whether a later alternative may be taken as well
abbrev pub is_shared : When → Bool
is_shared (when.Both _) = true
is_shared when.Always = false
is_shared (when.Is _) = false
is_shared (when.In _) = false
is_shared when.Label = false

-- the parts of the first alternative of a list
abbrev pub first_parts : List Alternative → List (List Part)
first_parts [] = []
first_parts (a ∷ more) = a.parts ∷ []

-- of a list that begins with an alternative that may be taken: its parts, and those of the next one
-- where that is tried as well
abbrev pub taken : Look → List Alternative → List (List Part)
taken look [] = []
taken look (a ∷ more) = a.parts ∷ (if is_shared a.at then first_parts (matching look more) else [])

-- the parts of the alternatives that are taken, one or two, in the order of preference
unfoldable pub choices : Look → List Alternative → List (List Part)
choices look more = taken look (matching look more)

-- the parts that the code's answer names
abbrev pub offered : Choice → List (List Part)
offered Nothing = []
offered (One a) = a.now ∷ []
offered (Two a b) = a.now ∷ b.now ∷ []
