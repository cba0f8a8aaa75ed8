-- Ways to read tokens up to the end of the brace that they lie in, in which no alternative that is passed
-- over leads to the same end.
use Rattle.std.specs.Prelude.{◌≡◌, ℕ, Bool, true, false, List, [], ◌∷◌, ◌++◌, length, map}
use Rattle.zig_tree.specs.declared.token.TokenKind.{TokenKind}
use Rattle.zig_tree.specs.declared.grammar.Rule.{Rule}
use Rattle.zig_tree.specs.declared.grammar.Group.{Group}
use Rattle.zig_tree.specs.declared.grammar.TokenClass.{TokenClass}
use Rattle.zig_tree.specs.declared.grammar.Part.{Part}
use Rattle.zig_tree.specs.declared.grammar.Part.TheVariants as part
use Rattle.zig_tree.specs.Kinds.{has_kind}
use Rattle.zig_tree.specs.Grammar.{Alternative, group_rows, rule_rows}
use Rattle.zig_tree.specs.GrammarSentences.{Pieces, nothing, word, followed, made, open_at, Derives}
use Rattle.zig_parse.specs.Threads.{is_apart}

-- a choice between two alternatives: how many tokens were left there, and whether the second was taken
pub record Fork : Type 0 where
  pub left : ℕ
  pub second : Bool

-- the choices made at these tokens
abbrev pub noted : List TokenKind → List Bool → List Fork
noted tokens choices = map (λ b. record { left = length tokens; second = b }) choices

-- The alternative that is taken of those that may be, with the choice where they are two. Where the first
-- is passed over, it leads, with what comes after it, to no derivation of the same tokens.
pub data Taken (later : List Part) (tokens end : List TokenKind) : List Alternative → Alternative → List Bool → Type 0 where
  taken_sole : (a : Alternative) → Taken later tokens end (a ∷ []) a []
  taken_first : (a b : Alternative) → Taken later tokens end (a ∷ b ∷ []) a (false ∷ [])
  taken_second : (a b : Alternative) → ((p : Pieces) → Derives (b.parts ++ later) tokens end p → ⊥) → Taken later tokens end (b ∷ a ∷ []) a (true ∷ [])

-- Parts in a row derive tokens up to `next` with these pieces and choices; `behind` is what comes after them
-- in the brace that they lie in, which ends before `end`.
pub data Sure : List Part → List Part → List TokenKind → List TokenKind → List TokenKind → Pieces → List Fork → Type 0 where
  sure_none : (behind : List Part) (next end : List TokenKind) → Sure [] behind next next end nothing []
  sure_token : (k : TokenKind) (ps behind : List Part) (tokens next end : List TokenKind) (later : Pieces) (forks : List Fork)
      → Sure ps behind tokens next end later forks → Sure (part.Token k ∷ ps) behind (k ∷ tokens) next end (word k later) forks
  sure_one_of : (c : TokenClass) (k : TokenKind) (ps behind : List Part) (tokens next end : List TokenKind) (later : Pieces) (forks : List Fork)
      → has_kind c k ≡ true → Sure ps behind tokens next end later forks → Sure (part.OneOf c ∷ ps) behind (k ∷ tokens) next end (word k later) forks
  sure_group : (g : Group) (a : Alternative) (ps behind : List Part) (tokens mid next end : List TokenKind) (inside later : Pieces) (choices : List Bool) (inner outer : List Fork)
      → is_apart (part.Group g) ≡ false → Taken (ps ++ behind) tokens end (open_at tokens (group_rows g)) a choices
      → Sure a.parts (ps ++ behind) tokens mid end inside inner → Sure ps behind mid next end later outer
      → Sure (part.Group g ∷ ps) behind tokens next end (followed inside later) (noted tokens choices ++ (inner ++ outer))
  sure_rule : (r : Rule) (a : Alternative) (ps behind : List Part) (tokens mid next end : List TokenKind) (inside later : Pieces) (choices : List Bool) (inner outer : List Fork)
      → is_apart (part.Rule r) ≡ false → Taken (ps ++ behind) tokens end (open_at tokens (rule_rows r)) a choices
      → Sure a.parts (ps ++ behind) tokens mid end inside inner → Sure ps behind mid next end later outer
      → Sure (part.Rule r ∷ ps) behind tokens next end (followed (made r inside) later) (noted tokens choices ++ (inner ++ outer))
  sure_group_apart : (g : Group) (a : Alternative) (ps behind : List Part) (tokens mid next end : List TokenKind) (inside later : Pieces) (inner outer : List Fork)
      → is_apart (part.Group g) ≡ true → open_at tokens (group_rows g) ≡ a ∷ []
      → Sure a.parts [] tokens mid mid inside inner → Sure ps behind mid next end later outer
      → Sure (part.Group g ∷ ps) behind tokens next end (followed inside later) (inner ++ outer)
  sure_rule_apart : (r : Rule) (a : Alternative) (ps behind : List Part) (tokens mid next end : List TokenKind) (inside later : Pieces) (inner outer : List Fork)
      → is_apart (part.Rule r) ≡ true → open_at tokens (rule_rows r) ≡ a ∷ []
      → Sure a.parts [] tokens mid mid inside inner → Sure ps behind mid next end later outer
      → Sure (part.Rule r ∷ ps) behind tokens next end (followed (made r inside) later) (inner ++ outer)
