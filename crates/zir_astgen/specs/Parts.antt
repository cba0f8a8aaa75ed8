-- A row of a file's tree once each node in it has its core tree.
use Rattle.std.specs.Prelude.{ℕ, Bool, true, false, ◌||◌, List, [], ◌∷◌, Option, Some, None, if◌then◌else◌}
use Rattle.zig_tree.specs.declared.token.TokenKind.{TokenKind}
use Rattle.zig_tree.specs.declared.grammar.Rule.{Rule}
use Rattle.zig_tree.specs.Kinds.{is_kind, is_rule}
use Rattle.zir_form.specs.Core.{Core, absent}
use Rattle.zir_scope.specs.Syntax.{Syntax, nothing, word, node}

-- Nothing more; or a token, by its number, and what follows; or a node with
-- its rule, the row that it holds, its first token and its tree, and what follows.
pub data Parts : Type 0 where
  ended : Parts
  token : ℕ → TokenKind → Parts → Parts
  part : Rule → Syntax → ℕ → Core → Parts → Parts

-- the first token of a row
unfoldable pub first_of : Parts → ℕ
first_of ended = 0
first_of (token t k more) = t
first_of (part r inside first tree more) = first

-- the same of a row whose nodes have no trees yet
unfoldable pub lead_of : Syntax → ℕ
lead_of nothing = 0
lead_of (word t k more) = t
lead_of (node r inside more) = lead_of inside

-- the first token of this kind
unfoldable pub token_in : TokenKind → Parts → Option ℕ
token_in wanted ended = None
token_in wanted (token t k more) = if is_kind k wanted then Some t else token_in wanted more
token_in wanted (part r inside first tree more) = token_in wanted more

abbrev pub is_there : Option ℕ → Bool
is_there None = false
is_there (Some t) = true

unfoldable pub has_token : TokenKind → Parts → Bool
has_token wanted parts = is_there (token_in wanted parts)

-- the tree of the first node, and what is left out where there is none
unfoldable pub first_tree : Parts → Core
first_tree ended = absent
first_tree (token t k more) = first_tree more
first_tree (part r inside first tree more) = tree

-- of the first node behind the first token of this kind
unfoldable pub tree_behind : TokenKind → Parts → Core
tree_behind wanted ended = absent
tree_behind wanted (token t k more) = if is_kind k wanted then first_tree more else tree_behind wanted more
tree_behind wanted (part r inside first tree more) = tree_behind wanted more

-- of the last node, and else this one
unfoldable pub last_tree : Core → Parts → Core
last_tree last ended = last
last_tree last (token t k more) = last_tree last more
last_tree last (part r inside first tree more) = last_tree tree more

-- of the first node of a rule
unfoldable pub tree_of_rule : Rule → Parts → Core
tree_of_rule wanted ended = absent
tree_of_rule wanted (token t k more) = tree_of_rule wanted more
tree_of_rule wanted (part r inside first tree more) = if is_rule r wanted then tree else tree_of_rule wanted more

-- of all nodes of a rule
unfoldable pub trees_of_rule : Rule → Parts → List Core
trees_of_rule wanted ended = []
trees_of_rule wanted (token t k more) = trees_of_rule wanted more
trees_of_rule wanted (part r inside first tree more) =
    if is_rule r wanted then tree ∷ trees_of_rule wanted more else trees_of_rule wanted more

-- of all nodes
unfoldable pub all_trees : Parts → List Core
all_trees ended = []
all_trees (token t k more) = all_trees more
all_trees (part r inside first tree more) = tree ∷ all_trees more

-- the kind of the token that leads a row; a node leads the others
unfoldable pub leads_with : TokenKind → Parts → Bool
leads_with wanted ended = false
leads_with wanted (token t k more) = is_kind k wanted
leads_with wanted (part r inside first tree more) = false

-- whether a row is one node
unfoldable pub is_one_node : Syntax → Bool
is_one_node (node r inside nothing) = true
is_one_node (node r inside (word t k more)) = false
is_one_node (node r inside (node q other more)) = false
is_one_node (word t k more) = false
is_one_node nothing = false

-- whether a row has a token of a kind
unfoldable pub has_word : TokenKind → Syntax → Bool
has_word wanted nothing = false
has_word wanted (word t k more) = is_kind k wanted || has_word wanted more
has_word wanted (node r inside more) = has_word wanted more

-- whether one leads it
unfoldable pub begins_with : TokenKind → Syntax → Bool
begins_with wanted nothing = false
begins_with wanted (word t k more) = is_kind k wanted
begins_with wanted (node r inside more) = false
