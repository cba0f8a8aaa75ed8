-- What threads do before they read a token.
use Rattle.std.specs.Prelude.{ℕ, zero, suc, ◌+◌, ◌*◌, Bool, true, false, ◌&&◌, ◌||◌, nat_lt, List, [], ◌∷◌, ◌++◌, length, reverse, Option, Some, None, if◌then◌else◌}
use Rattle.zig_tree.specs.declared.token.TokenKind.TheVariants.{LeftBrace}
use Rattle.zig_tree.specs.declared.token.TokenKind.TheVariants as kind
use Rattle.zig_tree.specs.declared.grammar.Rule.{Rule}
use Rattle.zig_tree.specs.declared.grammar.Group.TheVariants as group
use Rattle.zig_tree.specs.declared.grammar.Part.{Part}
use Rattle.zig_tree.specs.declared.grammar.Part.TheVariants as part
use Rattle.zig_tree.specs.Kinds.{is_kind, is_part, has_kind}
use Rattle.zig_tree.specs.Grammar.{rule_rows, group_rows}
use Rattle.zig_parse.specs.declared.choice.Look.{Look}
use Rattle.zig_parse.specs.declared.thread.Item.{Item}
use Rattle.zig_parse.specs.declared.thread.Thread.{Thread}
use Rattle.zig_parse.specs.declared.thread.Move.{Move}
use Rattle.zig_parse.specs.declared.thread.Move.TheVariants as move
use Rattle.zig_parse.specs.Choices.{choices}
use Rattle.zig_parse.specs.Threads.{has_braces, is_apart, is_braced, closed, replaced}

-- the move at a token that fits or not
abbrev pub reading : Bool → Move
reading true = move.Read
reading false = move.Stop

-- the move at a part, where what stands in braces is read by a thread of its own or not
abbrev pub move_at : Look → Bool → Part → Move
move_at look apart (part.Token k) = reading (is_kind k look.kind)
move_at look apart (part.OneOf c) = reading (has_kind c look.kind)
move_at look apart (part.Rule r) = if apart && is_braced r then reading (is_kind look.kind LeftBrace) else move.Rule r
move_at look apart (part.Group g) = if apart && has_braces g then reading (is_kind look.kind LeftBrace) else move.Group g

-- the next move of a thread with these things to come, where so many nodes are open: a node is closed
-- where it was opened after the first of them was put there
abbrev pub move_from : Look → Bool → ℕ → List Item → Move
move_from look apart open_nodes [] = move.Stop
move_from look apart open_nodes (i ∷ is) = if nat_lt i.level open_nodes then move.Close else move_at look apart i.part

unfoldable pub next_move : Look → Bool → Thread → Move
next_move look apart t = move_from look apart (length t.frames) t.items

-- the first of what is to come, where it stands in braces and a thread of its own reads it
abbrev pub apart_from : List Item → Option Part
apart_from [] = None
apart_from (i ∷ is) = if is_apart i.part then Some i.part else None

unfoldable pub waits_for : Thread → Option Part
waits_for t = apart_from t.items

-- a thread with the second alternative at a token
abbrev pub at_choice : ℕ → Thread → Thread
at_choice at t = record t { choices = at ∷ t.choices }

-- a thread goes on with each alternative that is taken
unfoldable pub spread : ℕ → Option Rule → List (List Part) → Thread → List Thread
spread at r [] t = []
spread at r (p ∷ []) t = replaced r p t ∷ []
spread at r (p ∷ q ∷ _) t = replaced r p t ∷ replaced r q (at_choice at t) ∷ []

-- a thread after a move: the threads that move on
abbrev pub moving_by : Look → ℕ → Thread → Move → List Thread
moving_by look at t move.Stop = []
moving_by look at t move.Read = []
moving_by look at t move.Close = closed t ∷ []
moving_by look at t (move.Rule r) = spread at (Some r) (choices look (rule_rows r)) t
moving_by look at t (move.Group g) = spread at None (choices look (group_rows g)) t

-- and the one that can read the token
abbrev pub reading_by : Thread → Move → List Thread
reading_by t move.Read = t ∷ []
reading_by t move.Stop = []
reading_by t move.Close = []
reading_by t (move.Rule _) = []
reading_by t (move.Group _) = []

unfoldable pub moving : Look → ℕ → Thread → List Thread
moving look at t = moving_by look at t (next_move look true t)

unfoldable pub readers : Look → Thread → List Thread
readers look t = reading_by t (next_move look true t)

-- the threads that can read the token at this number, after at most so many moves
unfoldable pub settled : ℕ → Look → ℕ → List Thread → List Thread
settled zero look at ts = []
settled (suc moves) look at [] = []
settled (suc moves) look at (t ∷ ts) = readers look t ++ settled moves look at (moving look at t ++ ts)

-- enough moves: so many for each thing to come, and one for each node that is open
abbrev pub moves_for : Thread → ℕ
moves_for t = 30 * length t.items + length t.frames + 1

abbrev pub moves_for_all : List Thread → ℕ
moves_for_all [] = 0
moves_for_all (t ∷ ts) = moves_for t + moves_for_all ts

-- the threads that can read the token at this number, when each has moved until it can or ends
unfoldable pub settled_all : Look → ℕ → List Thread → List Thread
settled_all look at ts = settled (moves_for_all ts) look at ts

-- whether two lists of what is to come have the same parts
unfoldable pub same_parts : List Item → List Item → Bool
same_parts [] [] = true
same_parts (i ∷ is) (j ∷ js) = is_part i.part j.part && same_parts is js
same_parts [] (j ∷ js) = false
same_parts (i ∷ is) [] = false

-- whether all that begins with the second part could begin with the first: a name behind a dot
abbrev pub reads_more : Part → Part → Bool
reads_more a b = is_part a (part.Group group.DotAtom) && is_part b (part.Token kind.Identifier)

-- whether the first part reads at least what the second does
abbrev pub covers : Part → Part → Bool
covers a b = is_part a b || reads_more a b

-- whether the first of what is to come reads at least what the other does, and the rest is the same
unfoldable pub covers_items : List Item → List Item → Bool
covers_items [] [] = true
covers_items (i ∷ is) (j ∷ js) = covers i.part j.part && same_parts (reverse is) (reverse js)
covers_items [] (j ∷ js) = false
covers_items (i ∷ is) [] = false

-- whether what the second of two threads in one brace reads to its end the first does too
unfoldable pub goes_as_far : Thread → Thread → Bool
goes_as_far a b = is_part a.goal b.goal && covers_items a.items b.items
