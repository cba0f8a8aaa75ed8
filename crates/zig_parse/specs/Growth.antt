-- The second pass: one way to read the tokens, and its tree.
use Rattle.std.specs.Prelude.{ℕ, zero, suc, ◌+◌, nat_eq, Bool, true, false, List, [], ◌∷◌, length, slice_get, Option, Some, None, Result, Ok, Err, unwrap_or, replicate, if◌then◌else◌}
use Rattle.std.specs.Borrow.{Bor}
use Rattle.zig_tree.specs.declared.token.Token.{Token}
use Rattle.zig_tree.specs.declared.token.TokenKind.TheVariants.{End}
use Rattle.zig_tree.specs.declared.grammar.Rule.{Rule}
use Rattle.zig_tree.specs.declared.grammar.Rule.TheVariants.{Root}
use Rattle.zig_tree.specs.declared.grammar.Part.{Part}
use Rattle.zig_tree.specs.declared.grammar.Part.TheVariants as part
use Rattle.zig_tree.specs.declared.tree.Node.{Node}
use Rattle.zig_tree.specs.Grammar.{rule_rows, group_rows}
use Rattle.zig_parse.specs.declared.choice.Look.{Look}
use Rattle.zig_parse.specs.declared.thread.Frame.{Frame}
use Rattle.zig_parse.specs.declared.thread.Thread.{Thread}
use Rattle.zig_parse.specs.declared.thread.Move.{Move}
use Rattle.zig_parse.specs.declared.thread.Move.TheVariants as move
use Rattle.zig_parse.specs.declared.fault.SyntaxFault.{SyntaxFault}
use Rattle.zig_parse.specs.declared.fault.SyntaxFault.TheVariants.{Unexpected, TooDeep}
use Rattle.zig_parse.specs.declared.built.Built.{Built}
use Rattle.zig_parse.specs.Choices.{choices}
use Rattle.zig_parse.specs.Threads.{after_read, closed, replaced}
use Rattle.zig_parse.specs.Moves.{moves_for, next_move}
use Rattle.zig_parse.specs.Nodes.{Parts, with_node, with_token}
use Rattle.zig_parse.specs.Passes.{begun}
use Rattle.zig_parse.specs.Surveys.{first_state, look_at, surveyed}

-- the lists in the code's vectors
abbrev pub parts_of : Built → Parts
parts_of b = record { nodes = b.nodes.items; kids = b.kids.items }

-- the one thread, and the nodes so far
pub record Grown : Type 0 where
  pub thread : Thread
  pub parts : Parts

abbrev pub with_thread : Thread → Grown → Grown
with_thread t g = record { thread = t; parts = g.parts }

-- of the alternatives that may be taken the one that is
unfoldable pub picked : Bool → List (List Part) → Option (List Part)
picked second [] = None
picked second (p ∷ []) = Some p
picked second (p ∷ q ∷ _) = Some (if second then q else p)

-- the parts that the code's answer names
abbrev pub lent : Option (Bor (List Part)) → Option (List Part)
lent None = None
lent (Some p) = Some p.now

-- the innermost node is closed, and is one of the tree's where it is solid
abbrev pub shut_from : List Token → Grown → List Frame → Grown
shut_from tokens g [] = with_thread (closed g.thread) g
shut_from tokens g (f ∷ fs) = record { thread = closed g.thread; parts = if f.solid then with_node tokens f.rule f.parts g.parts else g.parts }

unfoldable pub shut : List Token → Grown → Grown
shut tokens g = shut_from tokens g g.thread.frames

-- the first of what is to come is replaced, if an alternative is taken
abbrev pub swapped : Option Rule → Option (List Part) → Grown → Grown
swapped r None g = g
swapped r (Some ps) g = with_thread (replaced r ps g.thread) g

abbrev pub stuck_at : Option (List Part) → Option Bool
stuck_at None = Some false
stuck_at (Some ps) = None

-- a move, and whether the token can be read, where that is known then
abbrev pub moved_by : List Token → Look → Bool → Grown → Move → Grown
moved_by tokens look second g move.Stop = g
moved_by tokens look second g move.Read = g
moved_by tokens look second g move.Close = shut tokens g
moved_by tokens look second g (move.Rule r) = swapped (Some r) (picked second (choices look (rule_rows r))) g
moved_by tokens look second g (move.Group r) = swapped None (picked second (choices look (group_rows r))) g

abbrev pub known_by : Look → Bool → Move → Option Bool
known_by look second move.Stop = Some false
known_by look second move.Read = Some true
known_by look second move.Close = None
known_by look second (move.Rule r) = stuck_at (picked second (choices look (rule_rows r)))
known_by look second (move.Group r) = stuck_at (picked second (choices look (group_rows r)))

unfoldable pub moved : List Token → Look → Bool → Grown → Grown
moved tokens look second g = moved_by tokens look second g (next_move look false g.thread)

unfoldable pub known : Look → Bool → Grown → Option Bool
known look second g = known_by look second (next_move look false g.thread)

-- whether the token can be read after at most so many moves, and what is there then
pub record Ready : Type 0 where
  pub fits : Bool
  pub grown : Grown

abbrev pub ready_by : Option Bool → Grown → Ready → Ready
ready_by None g more = more
ready_by (Some b) g more = record { fits = b; grown = g }

unfoldable pub ready : ℕ → List Token → Look → Bool → Grown → Ready
ready zero tokens look second g = record { fits = false; grown = g }
ready (suc moves) tokens look second g = ready_by (known look second g) (moved tokens look second g) (ready moves tokens look second (moved tokens look second g))

-- a token is read, unless it can't be or lies too deep
abbrev pub token_read : ℕ → Look → Grown → Result Grown SyntaxFault
token_read at look g = if (after_read g.thread).deep then Err (TooDeep at) else Ok (record { thread = after_read g.thread; parts = with_token at g.parts })

abbrev pub read_where : ℕ → Look → Ready → Result Grown SyntaxFault
read_where at look r = if r.fits then token_read at look r.grown else Err (Unexpected look.kind at)

unfoldable pub read_one : ℕ → List Token → Look → Bool → Grown → Result Grown SyntaxFault
read_one at tokens look second g = read_where at look (ready (moves_for g.thread) tokens look second g)

-- whether the second alternative is taken at a token
abbrev pub is_second : List Bool → ℕ → Bool
is_second marks at = unwrap_or (slice_get marks at) false

-- so many tokens from this number on
infixl 10 ◌>>=◌
abbrev pub ◌>>=◌ : {A B : Type 0} → Result A SyntaxFault → (A → Result B SyntaxFault) → Result B SyntaxFault
(Ok x) >>= f = f x
(Err e) >>= f = Err e

unfoldable pub all_read : ℕ → ℕ → List Token → List Bool → Grown → Result Grown SyntaxFault
all_read zero at tokens marks g = Ok g
all_read (suc n) at tokens marks g = read_one at tokens (look_at tokens at) (is_second marks at) g >>= all_read n (at + 1) tokens marks

-- so many open nodes are closed
unfoldable pub all_shut : ℕ → List Token → Grown → Grown
all_shut zero tokens g = g
all_shut (suc n) tokens g = all_shut n tokens (shut tokens g)

-- before the first token
unfoldable pub sprout : Look → Grown
sprout look = record { thread = begun look (part.Rule Root) 0; parts = record { nodes = []; kids = [] } }

-- the nodes, where there are any
abbrev pub nodes_or : ℕ → List Node → Result (List Node) SyntaxFault
nodes_or at [] = Err (Unexpected End at)
nodes_or at (n ∷ ns) = Ok (n ∷ ns)

-- all open nodes are closed, where nothing is to come
unfoldable pub whole : ℕ → List Token → Grown → Result (List Node) SyntaxFault
whole at tokens g = if nat_eq (length g.thread.items) 0 then nodes_or at (all_shut (length g.thread.frames) tokens g).parts.nodes else Err (Unexpected End at)

-- the nodes of the tree, where these alternatives are taken
unfoldable pub grown_from : List Token → List Bool → Result (List Node) SyntaxFault
grown_from tokens marks = all_read (length tokens) 0 tokens marks (sprout (look_at tokens 0)) >>= λ g. whole (length tokens) tokens g

-- the nodes of the tree of some tokens, the root last, or why there is none: the first pass finds which
-- alternatives are taken, the second takes them
unfoldable pub parse_of : List Token → Result (List Node) SyntaxFault
parse_of tokens = surveyed (length tokens) 0 tokens (first_state (look_at tokens 0)) (replicate (length tokens) false) >>= grown_from tokens
