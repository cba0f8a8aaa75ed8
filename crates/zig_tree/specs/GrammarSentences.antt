-- Which lists of tokens are sentences of the grammar, which tree each has, and which token of another
-- list is refused. A tree speaks of kinds of token alone.
use Rattle.std.specs.Prelude.{◌≡◌, ℕ, ◌+◌, ◌<◌, ◌≤◌, Bool, true, false, ◌&&◌, ◌⊎◌, ◌∷◌, ◌++◌, List, [], length, take, max, if◌then◌else◌}
use Rattle.zig_tree.specs.declared.token.TokenKind.{TokenKind}
use Rattle.zig_tree.specs.declared.token.TokenKind.TheVariants.{End}
use Rattle.zig_tree.specs.declared.grammar.Rule.{Rule}
use Rattle.zig_tree.specs.declared.grammar.Rule.TheVariants as rule
use Rattle.zig_tree.specs.declared.grammar.Group.{Group}
use Rattle.zig_tree.specs.declared.grammar.Group.TheVariants.{Statements}
use Rattle.zig_tree.specs.declared.grammar.TokenClass.{TokenClass}
use Rattle.zig_tree.specs.declared.grammar.When.{When}
use Rattle.zig_tree.specs.declared.grammar.When.TheVariants as when
use Rattle.zig_tree.specs.declared.grammar.Part.{Part}
use Rattle.zig_tree.specs.declared.grammar.Part.TheVariants as part
use Rattle.zig_tree.specs.Kinds.{has_kind, is_group}
use Rattle.zig_tree.specs.Grammar.{Alternative, group_rows, holds, rule_rows}
use Rattle.zig_tree.specs.declared.tree.TheConstants.{DEPTH_LIMIT}

-- tokens and nodes in a row; a node holds such a row
pub data Pieces : Type 0 where
  nothing : Pieces
  word : TokenKind → Pieces → Pieces
  node : Rule → Pieces → Pieces → Pieces

-- one row after another
abbrev pub followed : Pieces → Pieces → Pieces
followed nothing later = later
followed (word k more) later = word k (followed more later)
followed (node r inside more) later = node r inside (followed more later)

-- a rule of an operator, an operand, a type or a suffix makes no node where it takes one part and no
-- token of its own
abbrev pub makes_no_node_alone : Rule → Bool
makes_no_node_alone rule.Or = true
makes_no_node_alone rule.And = true
makes_no_node_alone rule.Compare = true
makes_no_node_alone rule.Bit = true
makes_no_node_alone rule.Shift = true
makes_no_node_alone rule.Add = true
makes_no_node_alone rule.Multiply = true
makes_no_node_alone rule.Prefix = true
makes_no_node_alone rule.Primary = true
makes_no_node_alone rule.IfExpression = true
makes_no_node_alone rule.WhileExpression = true
makes_no_node_alone rule.ForExpression = true
makes_no_node_alone rule.RestExpression = true
makes_no_node_alone rule.TypeExpression = true
makes_no_node_alone rule.TypePrefix = true
makes_no_node_alone rule.Suffix = true
makes_no_node_alone _ = false

-- whether a row is one node alone
abbrev pub is_one_node : Pieces → Bool
is_one_node (node r inside nothing) = true
is_one_node (node r inside (word k more)) = false
is_one_node (node r inside (node q others more)) = false
is_one_node nothing = false
is_one_node (word k more) = false

-- what a rule makes of what its parts derive
abbrev pub made : Rule → Pieces → Pieces
made r inside = if makes_no_node_alone r && is_one_node inside then inside else node r inside nothing

-- the next token, and the one after it
abbrev pub next_kind : List TokenKind → TokenKind
next_kind [] = End
next_kind (k ∷ ks) = k

abbrev pub second_kind : List TokenKind → TokenKind
second_kind [] = End
second_kind (k ∷ ks) = next_kind ks

-- the alternatives that may be taken at these tokens: the first one whose condition holds, and after
-- one that is shared the next one too. So an optional part is left out only where the next token can't
-- begin it.
abbrev pub first_that_holds : List TokenKind → List Alternative → List Alternative
first_that_holds tokens [] = []
first_that_holds tokens (a ∷ more) = if holds (next_kind tokens) (second_kind tokens) a.at then a ∷ [] else first_that_holds tokens more

abbrev pub with_shared : List TokenKind → Alternative → When → List Alternative → List Alternative
with_shared tokens a (when.Both _) more = a ∷ first_that_holds tokens more
with_shared tokens a when.Always more = a ∷ []
with_shared tokens a (when.Is _) more = a ∷ []
with_shared tokens a (when.In _) more = a ∷ []
with_shared tokens a when.Label more = a ∷ []

abbrev pub open_at : List TokenKind → List Alternative → List Alternative
open_at tokens [] = []
open_at tokens (a ∷ more) = if holds (next_kind tokens) (second_kind tokens) a.at then with_shared tokens a a.at more else open_at tokens more

-- an alternative is one of some
abbrev pub Among : Alternative → List Alternative → Type 0
Among a [] = ⊥
Among a (b ∷ more) = (a ≡ b) ⊎ Among a more

-- Parts in a row derive tokens, which others follow, with these pieces. What follows counts, since it
-- is what an optional part is left out before.
pub data Derives : List Part → List TokenKind → List TokenKind → Pieces → Type 0 where
  derives_none : (rest : List TokenKind) → Derives [] rest rest nothing
  derives_token : (k : TokenKind) (ps : List Part) (tokens rest : List TokenKind) (later : Pieces) → Derives ps tokens rest later
      → Derives (part.Token k ∷ ps) (k ∷ tokens) rest (word k later)
  derives_one_of : (c : TokenClass) (k : TokenKind) (ps : List Part) (tokens rest : List TokenKind) (later : Pieces) → has_kind c k ≡ true → Derives ps tokens rest later
      → Derives (part.OneOf c ∷ ps) (k ∷ tokens) rest (word k later)
  derives_group : (g : Group) (a : Alternative) (ps : List Part) (tokens next rest : List TokenKind) (inside later : Pieces)
      → Among a (open_at tokens (group_rows g)) → Derives a.parts tokens next inside → Derives ps next rest later
      → Derives (part.Group g ∷ ps) tokens rest (followed inside later)
  derives_rule : (r : Rule) (a : Alternative) (ps : List Part) (tokens next rest : List TokenKind) (inside later : Pieces)
      → Among a (open_at tokens (rule_rows r)) → Derives a.parts tokens next inside → Derives ps next rest later
      → Derives (part.Rule r ∷ ps) tokens rest (followed (made r inside) later)

-- an alternative stands only where no earlier one derives the same tokens
abbrev pub IsFirst : List Alternative → Alternative → List TokenKind → List TokenKind → Type 0
IsFirst alternatives a tokens next = (before after : List Alternative) → alternatives ≡ before ++ a ∷ after
    → (b : Alternative) → Among b before → (inside : Pieces) → Derives b.parts tokens next inside → ⊥

-- no other division of these tokens into statements has a shorter first statement
abbrev pub IsShortest : List TokenKind → List TokenKind → List TokenKind → Type 0
IsShortest tokens next rest = (other : List TokenKind) (first more : Pieces)
    → Derives (part.Rule rule.Statement ∷ []) tokens other first → Derives (part.Group Statements ∷ []) other rest more → length other ≤ length next

-- whether an alternative is that of a statement before further ones
abbrev pub is_division : Group → List Part → Bool
is_division g [] = false
is_division g (p ∷ ps) = is_group g Statements

-- Parts in a row derive tokens in the one way that is preferred.
pub data Chosen : List Part → List TokenKind → List TokenKind → Pieces → Type 0 where
  chooses_none : (rest : List TokenKind) → Chosen [] rest rest nothing
  chooses_token : (k : TokenKind) (ps : List Part) (tokens rest : List TokenKind) (later : Pieces) → Chosen ps tokens rest later
      → Chosen (part.Token k ∷ ps) (k ∷ tokens) rest (word k later)
  chooses_one_of : (c : TokenClass) (k : TokenKind) (ps : List Part) (tokens rest : List TokenKind) (later : Pieces) → has_kind c k ≡ true → Chosen ps tokens rest later
      → Chosen (part.OneOf c ∷ ps) (k ∷ tokens) rest (word k later)
  chooses_group : (g : Group) (a : Alternative) (ps : List Part) (tokens next rest : List TokenKind) (inside later : Pieces)
      → Among a (open_at tokens (group_rows g)) → is_division g a.parts ≡ false → IsFirst (open_at tokens (group_rows g)) a tokens next
      → Chosen a.parts tokens next inside → Chosen ps next rest later
      → Chosen (part.Group g ∷ ps) tokens rest (followed inside later)
  chooses_statements : (ps : List Part) (tokens next others rest : List TokenKind) (first more later : Pieces)
      → IsShortest tokens next others
      → Chosen (part.Rule rule.Statement ∷ []) tokens next first → Chosen (part.Group Statements ∷ []) next others more → Chosen ps others rest later
      → Chosen (part.Group Statements ∷ ps) tokens rest (followed first (followed more later))
  chooses_rule : (r : Rule) (a : Alternative) (ps : List Part) (tokens next rest : List TokenKind) (inside later : Pieces)
      → Among a (open_at tokens (rule_rows r)) → IsFirst (open_at tokens (rule_rows r)) a tokens next
      → Chosen a.parts tokens next inside → Chosen ps next rest later
      → Chosen (part.Rule r ∷ ps) tokens rest (followed (made r inside) later)

-- a list of tokens is a sentence, of any depth, with this tree
unfoldable pub Sentence : List TokenKind → Pieces → Type 0
Sentence tokens tree = Chosen (part.Rule rule.Root ∷ []) tokens [] tree

-- how many nodes lie one in the other at the deepest place
abbrev pub height : Pieces → ℕ
height nothing = 0
height (word k more) = height more
height (node r inside more) = max (height inside + 1) (height more)

-- how deep each token lies, in order, in a node at this depth; the root lies at 1
abbrev pub token_depths : ℕ → Pieces → List ℕ
token_depths depth nothing = []
token_depths depth (word k more) = depth ∷ token_depths depth more
token_depths depth (node r inside more) = token_depths (depth + 1) inside ++ token_depths depth more

-- none of some depths is beyond the 200th node
abbrev pub AreShallow : List ℕ → Type 0
AreShallow [] = Unit {0}
AreShallow (d ∷ ds) = (d ≤ DEPTH_LIMIT) × AreShallow ds

-- these tokens are accepted: a sentence whose tree is no deeper than 200 nodes
unfoldable pub Accepted : List TokenKind → Pieces → Type 0
Accepted tokens tree = Sentence tokens tree × (height tree ≤ DEPTH_LIMIT)

-- some sentence, of any depth, begins with these tokens
unfoldable pub Begins : List TokenKind → Type 0
Begins front = (more : List TokenKind) × (tree : Pieces) × Sentence (front ++ more) tree

-- and has each of them directly in a node that lies no deeper than 200
unfoldable pub BeginsShallow : List TokenKind → Type 0
BeginsShallow front = (more : List TokenKind) × (tree : Pieces) × Sentence (front ++ more) tree × AreShallow (take (length front) (token_depths 0 tree))

-- the token at this number is refused: with the tokens before it some sentence begins that has each of
-- them no deeper than 200, and with it none does
unfoldable pub IsRefused : List TokenKind → ℕ → Type 0
IsRefused tokens at = (at < length tokens) × BeginsShallow (take at tokens) × (BeginsShallow (take (at + 1) tokens) → ⊥)

-- as unexpected where no sentence of any depth begins with it, else as too deep
unfoldable pub IsUnexpected : List TokenKind → ℕ → Type 0
IsUnexpected tokens at = IsRefused tokens at × (Begins (take (at + 1) tokens) → ⊥)

unfoldable pub IsTooDeep : List TokenKind → ℕ → Type 0
IsTooDeep tokens at = IsRefused tokens at × Begins (take (at + 1) tokens)
