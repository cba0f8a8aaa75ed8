-- What a look at the rows of the grammar tells: which parts read a token at least, how brackets pair up,
-- and which parts end at one place alone.
use Rattle.std.specs.Prelude.{ℕ, zero, suc, Bool, true, false, not, ◌&&◌, ◌||◌, List, [], ◌∷◌, Option, Some, None, if◌then◌else◌}
use Rattle.zig_tree.specs.declared.token.TokenKind.{TokenKind}
use Rattle.zig_tree.specs.declared.token.TokenKind.TheVariants as kind
use Rattle.zig_tree.specs.declared.grammar.Rule.{Rule}
use Rattle.zig_tree.specs.declared.grammar.Rule.TheVariants as rule
use Rattle.zig_tree.specs.declared.grammar.Group.{Group}
use Rattle.zig_tree.specs.declared.grammar.Group.TheVariants as group
use Rattle.zig_tree.specs.declared.grammar.TokenClass.{TokenClass}
use Rattle.zig_tree.specs.declared.grammar.When.{When}
use Rattle.zig_tree.specs.declared.grammar.When.TheVariants as when
use Rattle.zig_tree.specs.declared.grammar.Part.{Part}
use Rattle.zig_tree.specs.declared.grammar.Part.TheVariants as part
use Rattle.zig_tree.specs.Kinds.{has_kind}
use Rattle.zig_tree.specs.Grammar.{Alternative}
use Rattle.zig_parse.specs.Threads.{is_never_alone}

-- ---- a token at least

-- a group with no empty alternative that a rule may consist of
abbrev pub is_filled : Group → Bool
is_filled group.Declared = true
is_filled _ = false

-- whether parts in a row read a token at least, each rule and such a group reading one
abbrev pub fills : List Part → Bool
fills [] = false
fills (part.Token _ ∷ ps) = true
fills (part.OneOf _ ∷ ps) = true
fills (part.Rule _ ∷ ps) = true
fills (part.Group g ∷ ps) = is_filled g || fills ps

abbrev pub row_fills : Alternative → Bool
row_fills a = fills a.parts

-- ---- brackets

-- what a token is to brackets of one sort
pub data Turn : Type 0 where
  opens : Turn
  closes : Turn
  keeps : Turn

-- of braces, or of parentheses
abbrev pub brace_turn : TokenKind → Turn
brace_turn kind.LeftBrace = opens
brace_turn kind.RightBrace = closes
brace_turn _ = keeps

abbrev pub parenthesis_turn : TokenKind → Turn
parenthesis_turn kind.LeftParen = opens
parenthesis_turn kind.RightParen = closes
parenthesis_turn _ = keeps

abbrev pub turn_of : Bool → TokenKind → Turn
turn_of braces k = if braces then brace_turn k else parenthesis_turn k

-- what follows the bracket that closes the outermost of so many open ones and one more
abbrev pub skip_by : Turn → ℕ → List TokenKind → (ℕ → Option (List TokenKind)) → Option (List TokenKind)
skip_by opens depth ts go = go (suc depth)
skip_by keeps depth ts go = go depth
skip_by closes zero ts go = Some ts
skip_by closes (suc depth) ts go = go depth

abbrev pub skip : Bool → ℕ → List TokenKind → Option (List TokenKind)
skip braces depth [] = None
skip braces depth (k ∷ ts) = skip_by (turn_of braces k) depth ts (λ d. skip braces d ts)

-- whether a group closes a bracket that stands before it
abbrev pub sheds_brace : Group → Bool
sheds_brace group.InitializerBody = true
sheds_brace _ = false

abbrev pub sheds : Bool → Group → Bool
sheds braces g = braces && sheds_brace g

-- whether no token of a class is a bracket
abbrev pub is_plain : TokenClass → Bool
is_plain c = not (has_kind c kind.LeftBrace) && not (has_kind c kind.RightBrace) && not (has_kind c kind.LeftParen) && not (has_kind c kind.RightParen)

-- how many brackets are open after parts in a row, where so many are before them
abbrev pub settle_by : Turn → ℕ → (ℕ → Option ℕ) → Option ℕ
settle_by opens depth go = go (suc depth)
settle_by keeps depth go = go depth
settle_by closes zero go = None
settle_by closes (suc depth) go = go depth

abbrev pub shed : Bool → ℕ → (ℕ → Option ℕ) → Option ℕ
shed false depth go = go depth
shed true zero go = None
shed true (suc depth) go = go depth

abbrev pub settle : Bool → ℕ → List Part → Option ℕ
settle braces depth [] = Some depth
settle braces depth (part.Token k ∷ ps) = settle_by (turn_of braces k) depth (λ d. settle braces d ps)
settle braces depth (part.OneOf c ∷ ps) = if is_plain c then settle braces depth ps else None
settle braces depth (part.Rule r ∷ ps) = settle braces depth ps
settle braces depth (part.Group g ∷ ps) = shed (sheds braces g) depth (λ d. settle braces d ps)

abbrev pub is_none_left : Option ℕ → Bool
is_none_left None = false
is_none_left (Some zero) = true
is_none_left (Some (suc depth)) = false

abbrev pub count : Bool → ℕ
count b = if b then 1 else 0

-- whether an alternative closes just what it opens, and one more where it sheds one
abbrev pub row_pairs : Bool → Bool → Alternative → Bool
row_pairs braces sheds a = is_none_left (settle braces (count sheds) a.parts)

-- ---- parts that end at one place

-- whether a rule's or a group's derivations of some tokens all end at one place. A statement may end
-- after a block or go on.
abbrev pub is_closed_rule : Rule → Bool
is_closed_rule rule.Statement = false
is_closed_rule rule.Body = false
is_closed_rule rule.IfStatement = false
is_closed_rule rule.WhileStatement = false
is_closed_rule rule.ForStatement = false
is_closed_rule rule.Rest = false
is_closed_rule _ = true

abbrev pub is_closed_group : Group → Bool
is_closed_group group.Statements = false
is_closed_group group.ComptimeStatement = false
is_closed_group group.LabelledStatement = false
is_closed_group group.ElseOption = false
is_closed_group group.RestEnd = false
is_closed_group group.UnionTag = false
is_closed_group _ = true

-- the tag of a union ends before a parenthesis
abbrev pub begins_closing : List Part → Bool
begins_closing (part.Token kind.RightParen ∷ ps) = true
begins_closing _ = false

abbrev pub is_tag : Group → Bool
is_tag group.UnionTag = true
is_tag _ = false

abbrev pub is_closed_before : Group → List Part → Bool
is_closed_before g ps = is_closed_group g || (is_tag g && begins_closing ps)

abbrev pub is_closed : List Part → Bool
is_closed [] = true
is_closed (part.Token k ∷ ps) = is_closed ps
is_closed (part.OneOf c ∷ ps) = is_closed ps
is_closed (part.Rule r ∷ ps) = is_closed_rule r && is_closed ps
is_closed (part.Group g ∷ ps) = is_closed_before g ps && is_closed ps

-- those of them that end where a brace does
abbrev pub is_block : Rule → Bool
is_block rule.Block = true
is_block _ = false

-- whether the next alternative isn't tried after this one
abbrev pub is_sole : When → Bool
is_sole (when.Both _) = false
is_sole when.Always = true
is_sole (when.Is _) = true
is_sole (when.In _) = true
is_sole when.Label = true

abbrev pub row_ends : Alternative → Bool
row_ends a = is_sole a.at && is_closed a.parts

-- ---- parts of which each but the last ends at one place, or before a token that ends all

abbrev pub is_bounded_rule : Rule → List Part → Bool
is_bounded_rule r [] = true
is_bounded_rule r (p ∷ ps) = is_closed_rule r

abbrev pub is_bounded_group : Group → List Part → Bool
is_bounded_group g [] = true
is_bounded_group g (part.Token k ∷ []) = true
is_bounded_group g ps = is_closed_before g ps

abbrev pub is_bounded : List Part → Bool
is_bounded [] = true
is_bounded (part.Token k ∷ ps) = is_bounded ps
is_bounded (part.OneOf c ∷ ps) = is_bounded ps
is_bounded (part.Rule r ∷ ps) = is_bounded_rule r ps && is_bounded ps
is_bounded (part.Group g ∷ ps) = is_bounded_group g ps && is_bounded ps

-- of the division into statements each part is treated alone
abbrev pub is_statements : Group → Bool
is_statements group.Statements = true
is_statements _ = false

abbrev pub row_bounded : Alternative → Bool
row_bounded a = is_bounded a.parts

-- ---- rows that come to more than one node

-- whether a part makes a token or a node of its own in the row
abbrev pub has_piece : List Part → Bool
has_piece [] = false
has_piece (part.Token _ ∷ ps) = true
has_piece (part.OneOf _ ∷ ps) = true
has_piece (part.Rule _ ∷ ps) = true
has_piece (part.Group g ∷ ps) = has_piece ps

abbrev pub row_has_piece : Alternative → Bool
row_has_piece a = has_piece a.parts

-- a prefix of a type, or some of them, before another part
abbrev pub is_before_more : Part → Bool
is_before_more (part.Rule r) = is_never_alone r
is_before_more (part.Group group.MoreTypePrefixes) = true
is_before_more _ = false

abbrev pub is_led : List Part → Bool
is_led [] = true
is_led (p ∷ ps) = (not (is_before_more p) || has_piece ps) && is_led ps

abbrev pub row_led : Alternative → Bool
row_led a = is_led a.parts
