-- The moves of the thread that reads the tokens as a tree has them, up to the end of its brace.
use Rattle.std.specs.Prelude.{◌≡◌, ℕ, ◌+◌, ◌-◌, ◌≤◌, Bool, true, false, ◌||◌, List, [], ◌∷◌, ◌++◌, length, map, Some, None}
use Rattle.zig_tree.specs.declared.token.TokenKind.{TokenKind}
use Rattle.zig_tree.specs.declared.token.TokenKind.TheVariants.{LeftBrace}
use Rattle.zig_tree.specs.declared.grammar.Rule.{Rule}
use Rattle.zig_tree.specs.declared.grammar.Group.{Group}
use Rattle.zig_tree.specs.declared.grammar.Part.{Part}
use Rattle.zig_tree.specs.declared.grammar.Part.TheVariants as part
use Rattle.zig_tree.specs.Grammar.{Alternative, group_rows, rule_rows}
use Rattle.zig_tree.specs.GrammarSentences.{next_kind, second_kind, open_at}
use Rattle.zig_parse.specs.declared.choice.Look.{Look}
use Rattle.zig_parse.specs.declared.thread.Frame.{Frame}
use Rattle.zig_parse.specs.declared.thread.Item.{Item}
use Rattle.zig_parse.specs.declared.thread.Thread.{Thread}
use Rattle.zig_parse.specs.declared.thread.Move.TheVariants as move
use Rattle.zig_parse.specs.Stack.{rest}
use Rattle.zig_parse.specs.Threads.{after_read, closed, met_part, received, replaced, risen}
use Rattle.zig_parse.specs.Moves.{next_move, waits_for}
use Rattle.zig_parse.specs.Passes.{begun, own_height}
use Rattle.zig_parse.specs.Ways.{Fork, Taken, noted}
use Rattle.zig_parse.specs.Leads.{heavy}
use Rattle.zig_parse.proofs.Weights.{lightest}
use Rattle.zig_parse.proofs.Layers.{Layers, Spot, inside_spot, root_spot}

-- the kinds of the next two tokens
abbrev pub look_of : List TokenKind → Look
look_of tokens = record { kind = next_kind tokens; next = second_kind tokens }

-- the parts that are still to come
abbrev pub parts_of_items : List Item → List Part
parts_of_items items = map (λ (i : Item). i.part) items

abbrev pub is_cons : {T : Type 0} → List T → Bool
is_cons [] = false
is_cons (x ∷ xs) = true

-- whether what is said of depth holds, and where the brace stands in a tree
pub record Told : Type 0 where
  pub is : Bool
  pub spot : Spot

-- the file itself
abbrev pub in_file : List ℕ → Told
in_file depths = record { is = true; spot = root_spot depths }

-- what stands in the brace at this number, of a node that lies so deep
abbrev pub within : Told → Bool → ℕ → ℕ → Told
within told is at base = record { is = is; spot = inside_spot told.spot at base }

-- The nodes of a thread that has read the tokens up to this one, in the tree. What it has still to read weighs as
-- much as the tokens up to the end of the brace, at the most, and one more for each node that is none as yet.
pub record Seen (spot : Spot) (at : ℕ) (tokens end : List TokenKind) (frames : List Frame) (items : List Item) : Type 0 where
  pub depth : ℕ
  pub loose : ℕ
  pub layers : Layers spot frames at depth loose
  pub light : lightest (parts_of_items items) + loose + heavy end ≤ heavy tokens

-- how deep the innermost node lies around what a part derives, where that lies in a node of this depth: a group
-- makes no node of its own
abbrev pub around_part : Part → ℕ → ℕ
around_part (part.Group _) base = base + 1
around_part (part.Rule _) base = base
around_part (part.Token _) base = base
around_part (part.OneOf _) base = base

-- the same of a thread that waits for a part, whose brace stands at this number and ends before these tokens
pub record Awaits (spot : Spot) (at : ℕ) (mid end : List TokenKind) (frames : List Frame) (items : List Item) (p : Part) (base : ℕ) : Type 0 where
  pub depth : ℕ
  pub loose : ℕ
  pub layers : Layers spot frames at depth loose
  pub light : lightest (parts_of_items (rest items)) + loose + heavy end ≤ heavy mid
  pub inner : around_part p base ≡ depth

-- A path: whether what is said of depth holds, whether a choice was made at this token already, the thread,
-- the number of the next token, the tokens that are left, those left at the end of the brace, how many nodes
-- lie one in the other in the end, and the choices to come. Nothing is said of the thread's own choices.
pub data Path (apart : Bool) (low : ℕ → Type 0) : Told → Bool → Thread → ℕ → List TokenKind → List TokenKind → ℕ → List Fork → Type 0 where
  path_ends : (told : Told) (calm : Bool) (t : Thread) (at : ℕ) (end : List TokenKind) → t.items ≡ [] → Path apart low told calm t at end end (risen 0 t.frames) []
  path_closes : (told : Told) (calm : Bool) (t : Thread) (at : ℕ) (tokens end : List TokenKind) (height : ℕ) (forks : List Fork)
      → next_move (look_of tokens) apart t ≡ move.Close
      → Path apart low told calm (closed t) at tokens end height forks → Path apart low told calm t at tokens end height forks
  path_rule : (told : Told) (calm : Bool) (t : Thread) (at : ℕ) (tokens end : List TokenKind) (height : ℕ) (forks : List Fork) (r : Rule) (a : Alternative) (choices : List Bool)
      → next_move (look_of tokens) apart t ≡ move.Rule r → (calm ≡ true → choices ≡ [])
      → Taken (parts_of_items (rest t.items)) tokens end (open_at tokens (rule_rows r)) a choices
      → Path apart low told (calm || is_cons choices) (replaced (Some r) a.parts t) at tokens end height forks
      → Path apart low told calm t at tokens end height (noted tokens choices ++ forks)
  path_group : (told : Told) (calm : Bool) (t : Thread) (at : ℕ) (tokens end : List TokenKind) (height : ℕ) (forks : List Fork) (g : Group) (a : Alternative) (choices : List Bool)
      → next_move (look_of tokens) apart t ≡ move.Group g → (calm ≡ true → choices ≡ [])
      → Taken (parts_of_items (rest t.items)) tokens end (open_at tokens (group_rows g)) a choices
      → Path apart low told (calm || is_cons choices) (replaced None a.parts t) at tokens end height forks
      → Path apart low told calm t at tokens end height (noted tokens choices ++ forks)
  path_reads : (told : Told) (calm : Bool) (t : Thread) (at : ℕ) (k : TokenKind) (more end : List TokenKind) (height : ℕ) (forks : List Fork)
      → next_move (look_of (k ∷ more)) apart t ≡ move.Read → waits_for t ≡ None
      → (told.is ≡ true → low (at + 1) → (after_read t).deep ≡ false)
      → Seen told.spot (at + 1) more end (after_read t).frames (after_read t).items
      → Path apart low told false (after_read t) (at + 1) more end height forks → Path apart low told calm t at (k ∷ more) end height forks
  path_waits : (told : Told) (calm : Bool) (t : Thread) (at : ℕ) (more mid end : List TokenKind) (height inner_height : ℕ) (inner outer : List Fork) (p : Part) (base : ℕ)
      → apart ≡ true → next_move (look_of (LeftBrace ∷ more)) apart t ≡ move.Read → waits_for t ≡ Some p
      → (told.is ≡ true → low (at + 1) → (met_part p t).deep ≡ false)
      → Awaits told.spot at mid end (met_part p t).frames (met_part p t).items p base
      → ((depth : ℕ) (heard : Bool) → (heard ≡ true → (told.is ≡ true) × (depth ≤ (met_part p t).depth)) → Path apart low (within told heard at base) false (begun (look_of (LeftBrace ∷ more)) p depth) at (LeftBrace ∷ more) mid inner_height inner)
      → (told.is ≡ true → low (at + (length (LeftBrace ∷ more) - length mid)) → (received (own_height p inner_height) (met_part p t)).deep ≡ false)
      → Seen told.spot (at + (length (LeftBrace ∷ more) - length mid)) mid end (received (own_height p inner_height) (met_part p t)).frames (received (own_height p inner_height) (met_part p t)).items
      → Path apart low told false (received (own_height p inner_height) (met_part p t)) (at + (length (LeftBrace ∷ more) - length mid)) mid end height outer
      → Path apart low told calm t at (LeftBrace ∷ more) end height (inner ++ outer)
