-- What holds of the grammar, and of the function on lists that the parser computes.
use Rattle.std.specs.Prelude.{◌≡◌, false, ◌+◌, ◌<◌, ◌≤◌, ◌^◌, ℕ, List, [], ◌∷◌, ◌++◌, length, Ok}
use Rattle.zig_tree.specs.declared.token.TokenKind.{TokenKind}
use Rattle.zig_tree.specs.declared.token.Token.{Token}
use Rattle.zig_tree.specs.declared.grammar.Rule.TheVariants as rule
use Rattle.zig_tree.specs.declared.grammar.Part.TheVariants as part
use Rattle.zig_tree.specs.declared.tree.Node.{Node}
use Rattle.zig_tree.specs.GrammarSentences.{BeginsShallow, Pieces, Derives, Sentence, Accepted, IsRefused, IsUnexpected, IsTooDeep}
use Rattle.zig_parse.specs.declared.choice.Look.{Look}
use Rattle.zig_parse.specs.declared.thread.Thread.{Thread}
use Rattle.zig_parse.specs.declared.state.State.{State}
use Rattle.zig_parse.specs.Growth.{parse_of}
use Rattle.zig_parse.specs.Moves.{moves_for_all, settled, settled_all}
use Rattle.zig_parse.specs.Passes.{all_deep}
use Rattle.zig_parse.specs.Surveys.{next_verdict}
use Rattle.zig_parse.specs.Trees.{HoldsAll, NotWithout}
use Rattle.zig_parse.specs.Leads.{Ending, IsEven, Leader, read_front}
use Rattle.zig_parse.specs.Ways.{Fork, Sure}

-- a list of tokens has at most one tree
abbrev pub OneTree : Type 0
OneTree = (tokens : List TokenKind) (x y : Pieces) → Sentence tokens x → Sentence tokens y → x ≡ y

-- where the function on lists gives nodes, the last of them holds all tokens, if their numbers fit
abbrev pub ReadsTree : Type 0
ReadsTree = (tokens : List Token) (nodes : List Node) (root : ℕ) → length tokens < 2 ^ 32 → parse_of tokens ≡ Ok nodes → root + 1 ≡ length nodes → HoldsAll tokens nodes root

-- what is accepted is refused at no token
abbrev pub NeverBoth : Type 0
NeverBoth = (tokens : List TokenKind) (tree : Pieces) (at : ℕ) → Accepted tokens tree → IsRefused tokens at → ⊥

-- what is refused is so at one token, and for one reason
abbrev pub OneRefusal : Type 0
OneRefusal = (tokens : List TokenKind) (a b : ℕ) → IsRefused tokens a → IsRefused tokens b → a ≡ b

abbrev pub OneReason : Type 0
OneReason = (tokens : List TokenKind) (a b : ℕ) → IsUnexpected tokens a → IsTooDeep tokens b → ⊥

-- what the rules derive is a sentence: it can't be that it has no tree that is preferred
abbrev pub DerivedIsSentence : Type 0
DerivedIsSentence = (tokens : List TokenKind) (tree : Pieces) → Derives (part.Rule rule.Root ∷ []) tokens [] tree → ((x : Pieces) → Sentence tokens x → ⊥) → ⊥

-- a tree that the tie-breaks choose is sure: with its choices, at each of which where the second alternative
-- is taken the first, with what comes after it, leads nowhere
abbrev pub ChosenIsSure : Type 0
ChosenIsSure = (tokens : List TokenKind) (tree : Pieces) → Sentence tokens tree → (forks : List Fork) × Sure (part.Rule rule.Root ∷ []) [] tokens [] [] tree forks

-- more moves at a token give the same threads
abbrev pub MovesSuffice : Type 0
MovesSuffice = (n : ℕ) (look : Look) (at : ℕ) (ts : List Thread) → moves_for_all ts ≤ n → settled n look at ts ≡ settled_all look at ts

-- what stands behind a token counts for nothing where it is read or refused
abbrev pub LastLook : Type 0
LastLook = (a b : Look) (at : ℕ) (s : State) → a.kind ≡ b.kind → next_verdict a at s ≡ next_verdict b at s

-- where the first pass has read some tokens, and maybe more, and the way that leads isn't too deep, some sentence
-- begins with them that has each of them directly in a node no deeper than 200
abbrev pub LedBegins : Type 0
LedBegins = (front more : List TokenKind) (next : TokenKind) (l : Leader next (read_front (front ++ more) next)) → l.t.deep ≡ false → NotWithout (BeginsShallow front)

-- The same where some tokens end all by a way that isn't too deep, and by none that goes before it: the fewest
-- tokens that end it, commas not counted.
abbrev pub EndedBegins : Type 0
EndedBegins = (front more ending : List TokenKind) (next : TokenKind) (e : Ending next (read_front (front ++ more) next) ending) → e.t.deep ≡ false → NotWithout (BeginsShallow front)

-- The same where the threads are even, and not all of them too deep: then a way leads that isn't.
abbrev pub EvenlyBegins : Type 0
EvenlyBegins = (front more : List TokenKind) (next : TokenKind) → IsEven (front ++ more) next → all_deep (read_front (front ++ more) next).live ≡ false → NotWithout (BeginsShallow front)
