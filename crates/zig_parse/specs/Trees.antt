-- What the nodes of a tree say: which tokens they hold, in which rows of the grammar.
use Rattle.std.specs.Prelude.{◌≡◌, ℕ, true, false, ◌+◌, ◌-◌, ◌<◌, ◌≤◌, ◌⊎◌, List, [], ◌∷◌, ◌++◌, map, length, take, slice_get, Some}
use Rattle.zw_base.specs.declared.diag.Span.{Span}
use Rattle.zig_tree.specs.declared.token.Token.{Token}
use Rattle.zig_tree.specs.declared.token.TokenKind.{TokenKind}
use Rattle.zig_tree.specs.declared.token.TokenKind.TheVariants.{End}
use Rattle.zig_tree.specs.declared.grammar.Rule.TheVariants as rule
use Rattle.zig_tree.specs.declared.grammar.Part.TheVariants as part
use Rattle.zig_tree.specs.declared.tree.Kid.{Kid}
use Rattle.zig_tree.specs.declared.tree.Kid.TheVariants as kid
use Rattle.zig_tree.specs.declared.tree.Node.{Node}
use Rattle.zig_tree.specs.GrammarSentences.{Pieces, nothing, word, node, Derives, Sentence, Accepted, Begins, BeginsShallow, height}
use Rattle.zig_parse.specs.declared.fault.SyntaxFault.{SyntaxFault}
use Rattle.zig_parse.specs.declared.fault.SyntaxFault.TheVariants.{Unexpected, TooDeep, OutOfMemory}
use Rattle.zig_parse.specs.Nodes.{joined, token_span}
use Rattle.zig_parse.specs.Surveys.{kind_of}
use Rattle.zig_parse.specs.Leads.{Ending, IsEven, Leader, ends_named, read_front}
use Rattle.zig_parse.specs.Passes.{all_deep}
use Rattle.zig_tree.specs.declared.tree.TheConstants.{DEPTH_LIMIT}

-- the kinds of tokens
abbrev pub kinds_of : List Token → List TokenKind
kinds_of tokens = map (λ (t : Token). t.kind) tokens

-- the bytes from one token to the one before another
abbrev pub bytes_from : List Token → ℕ → ℕ → Span
bytes_from tokens first next = joined (token_span (slice_get tokens first)) (token_span (slice_get tokens (next - 1)))

-- What nodes hold in a row is the tokens from one number up to another, each of them once and in order,
-- with these pieces. A node has a token at least, and lies from its first one to its last.
pub data Spells (tokens : List Token) (nodes : List Node) : List Kid → ℕ → ℕ → Pieces → Type 0 where
  spells_nothing : (at : ℕ) → Spells tokens nodes [] at at nothing
  spells_token : (at end : ℕ) (t : Token) (kids : List Kid) (later : Pieces) → slice_get tokens at ≡ Some t → Spells tokens nodes kids (at + 1) end later
      → Spells tokens nodes (kid.Token at ∷ kids) at end (word t.kind later)
  spells_node : (number at next end : ℕ) (n : Node) (kids : List Kid) (inside later : Pieces) → slice_get nodes number ≡ Some n → at < next → n.span ≡ bytes_from tokens at next
      → Spells tokens nodes n.kids at next inside → Spells tokens nodes kids next end later
      → Spells tokens nodes (kid.Node number ∷ kids) at end (node n.rule inside later)

-- a node holds all tokens, by rules that derive them, no deeper than 200 nodes
pub record HoldsAll (tokens : List Token) (nodes : List Node) (root : ℕ) : Type 0 where
  pub tree : Pieces
  pub spelled : Spells tokens nodes (kid.Node root ∷ []) 0 (length tokens) tree
  pub derived : Derives (part.Rule rule.Root ∷ []) (kinds_of tokens) [] tree
  pub low : height tree ≤ DEPTH_LIMIT

-- these kinds of token are a sentence: it can't be that they have no tree that is preferred
unfoldable pub IsSentence : List TokenKind → Type 0
IsSentence tokens = ((tree : Pieces) → Sentence tokens tree → ⊥) → ⊥

-- the last token is that of the file's end
abbrev pub IsEnded : List Token → Type 0
IsEnded tokens = (0 < length tokens) × (kind_of (slice_get tokens (length tokens - 1)) ≡ End)

-- a refusal names a token of the list and its kind; of a list without the file's end, maybe the end behind it
abbrev pub NamesToken : List Token → SyntaxFault → Type 0
NamesToken tokens (Unexpected kind at) = (at ≤ length tokens) × (kind ≡ kind_of (slice_get tokens at)) × (IsEnded tokens → at < length tokens)
NamesToken tokens (TooDeep at) = at < length tokens
NamesToken tokens OutOfMemory = Unit {0}

-- it can't be that there is none
abbrev pub NotWithout : Type 0 → Type 0
NotWithout A = (A → ⊥) → ⊥

-- the node holds the tree that the tie-breaks choose
abbrev pub IsChosen : List Token → List Node → ℕ → Type 0
IsChosen tokens nodes root = (tree : Pieces) → Sentence (kinds_of tokens) tree → Spells tokens nodes (kid.Node root ∷ []) 0 (length tokens) tree

-- these tokens are accepted with no tree
abbrev pub IsNotAccepted : List Token → Type 0
IsNotAccepted tokens = (tree : Pieces) → Accepted (kinds_of tokens) tree → ⊥

-- Why tokens are refused. Some sentence begins with those before an unexpected one, and none with it too; and
-- some sentence begins with those up to one that lies too deep, whatever the depth.
abbrev pub IsRefusedFor : List Token → SyntaxFault → Type 0
IsRefusedFor tokens (Unexpected kind at) = IsNotAccepted tokens × (IsEnded tokens → NotWithout (Begins (take at (kinds_of tokens))) × (Begins (take (at + 1) (kinds_of tokens)) → ⊥))
IsRefusedFor tokens (TooDeep at) = IsNotAccepted tokens × (IsEnded tokens → NotWithout (Begins (take (at + 1) (kinds_of tokens))))
IsRefusedFor tokens OutOfMemory = Unit {0}

-- no sentence begins with the tokens up to the refused one that has each of them directly in a node no deeper
-- than 200
abbrev pub NoneShallow : List Token → SyntaxFault → Type 0
NoneShallow tokens (Unexpected kind at) = IsEnded tokens → BeginsShallow (take (at + 1) (kinds_of tokens)) → ⊥
NoneShallow tokens (TooDeep at) = IsEnded tokens → BeginsShallow (take (at + 1) (kinds_of tokens)) → ⊥
NoneShallow tokens OutOfMemory = Unit {0}

-- Where a way of the first pass leads after the tokens before the refused one, and is too deep only where all are,
-- some sentence begins with them that has each of them directly in a node no deeper than 200. After an identifier
-- the way that leads isn't to be too deep: which of those that are lost there are not, what stands behind tells.
abbrev pub LeaderBegins : List TokenKind → Type 0
LeaderBegins front = (next : TokenKind) (l : Leader next (read_front front next)) → l.t.deep ≡ all_deep (read_front front next).live → (ends_named front ≡ true → l.t.deep ≡ false) → NotWithout (BeginsShallow front)

-- The same of a way that some tokens end, the fewest that may be, and none that goes before it with the same tokens.
abbrev pub EndingBegins : List TokenKind → Type 0
EndingBegins front =
    (next : TokenKind) (ending : List TokenKind) (e : Ending next (read_front front next) ending) → e.t.deep ≡ all_deep (read_front front next).live → (ends_named front ≡ true → e.t.deep ≡ false) → NotWithout (BeginsShallow front)

-- The same where after these tokens, or after them and more, the threads of the first pass are even, and after more,
-- or after an identifier, not all too deep.
abbrev pub EvenBegins : List TokenKind → Type 0
EvenBegins front =
    (more : List TokenKind) (next : TokenKind) → IsEven (front ++ more) next → ((0 < length more) ⊎ (ends_named front ≡ true) → all_deep (read_front (front ++ more) next).live ≡ false) → NotWithout (BeginsShallow front)

-- with the tokens before the refused one some sentence begins that has each of them within the depth, in these cases
abbrev pub BeginsBefore : List TokenKind → Type 0
BeginsBefore front = LeaderBegins front × EndingBegins front × EvenBegins front

abbrev pub EarlierShallow : List Token → SyntaxFault → Type 0
EarlierShallow tokens (Unexpected kind at) = IsEnded tokens → BeginsBefore (take at (kinds_of tokens))
EarlierShallow tokens (TooDeep at) = IsEnded tokens → BeginsBefore (take at (kinds_of tokens))
EarlierShallow tokens OutOfMemory = Unit {0}
