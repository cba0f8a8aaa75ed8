-- Operators in a row, and prefixes of operands and types.
use Rattle.std.specs.Prelude.{ℕ, Bool, true, false, List, Option, Some, None, if◌then◌else◌}
use Rattle.zig_tree.specs.declared.token.TokenKind.{TokenKind}
use Rattle.zig_tree.specs.declared.token.TokenKind.TheVariants as kind
use Rattle.zig_tree.specs.declared.grammar.Rule.{Rule}
use Rattle.zig_tree.specs.declared.grammar.Rule.TheVariants as rule
use Rattle.zig_tree.specs.Kinds.{is_kind, is_rule}
use Rattle.zir_form.specs.declared.operator.BinaryOperator.{BinaryOperator}
use Rattle.zir_form.specs.declared.operator.UnaryOperator.{UnaryOperator}
use Rattle.zir_form.specs.Core.{Core, cores_of}
use Rattle.zir_form.specs.Core as core
use Rattle.zir_scope.specs.Syntax.{Syntax, nothing, word, node}
use Rattle.zir_astgen.specs.Levels.{Level, return_from}
use Rattle.zir_astgen.specs.Operators.{binary_of, unary_of}
use Rattle.zir_astgen.specs.Parts.{Parts, ended, token, part, first_tree, has_token, begins_with, has_word}
use Rattle.zir_astgen.specs.Site.{File, Site, offset}

abbrev pub binary_by : ℕ → ℕ → Option BinaryOperator → Core → Core → Core
binary_by p q None left right = core.missing
binary_by p q (Some operator) left right = core.binary p q operator left right

-- two operands with the operator between them, and what a `catch` captures
unfoldable pub joined : ℕ → ℕ → TokenKind → Core → Core → Core → Core
joined p q k caught left right =
    if is_kind k kind.KeywordOr then core.or p q left right
    else (if is_kind k kind.KeywordAnd then core.and p q left right
    else (if is_kind k kind.KeywordOrelse then core.orelse p q left right
    else (if is_kind k kind.KeywordCatch then core.catch p q left caught right
    else binary_by p q (binary_of k) left right)))

-- the operands behind a value, each behind an operator, from the left
unfoldable pub chain : File → Site → ℕ → Core → ℕ → TokenKind → Core → Parts → Core
chain f s p left t k caught ended = left
chain f s p left t k caught (token u m more) = chain f s p left u m core.absent more
chain f s p left t k caught (part r inside first tree more) =
    if is_rule r rule.Capture then chain f s p left t k tree more
    else chain f s p (joined p (offset f s t) k caught left tree) t k core.absent more

-- operands at one level of precedence; they group from the left
unfoldable pub made_chain : File → Site → Parts → Core
made_chain f s ended = core.missing
made_chain f s (token t k more) = core.missing
made_chain f s (part r inside first tree more) = chain f s (offset f s first) tree 0 kind.End core.absent more

-- `try` returns from the function where its operand is an error
abbrev pub tried : ℕ → Core → Option (List Core) → Core
tried p operand None = core.missing
tried p operand (Some leaves) = core.try p operand (cores_of leaves)

abbrev pub unary_by : ℕ → Option UnaryOperator → Core → Core
unary_by p None operand = core.missing
unary_by p (Some operator) operand = core.unary p operator operand

unfoldable pub prefix_by : Option (List Core) → ℕ → TokenKind → Core → Core
prefix_by leaves p k operand =
    if is_kind k kind.Ampersand then core.address p operand
    else (if is_kind k kind.KeywordTry then tried p operand leaves
    else unary_by p (unary_of k) operand)

-- an operand with the operators before it, the nearest first, by what runs where a `try` returns
unfoldable pub operand : File → Site → Option (List Core) → Parts → Core
operand f s leaves ended = core.missing
operand f s leaves (token t k more) = prefix_by leaves (offset f s t) k (operand f s leaves more)
operand f s leaves (part r inside first tree more) = tree

unfoldable pub made_prefix : File → Site → List Level → Parts → Core
made_prefix f s levels parts = operand f s (return_from true levels) parts

-- whether the second token of a row is of a kind
unfoldable pub second_is : TokenKind → Syntax → Bool
second_is wanted nothing = false
second_is wanted (word t k more) = begins_with wanted more
second_is wanted (node r inside more) = false

-- a prefix of a type, by its tokens and the length that it may have
unfoldable pub prefixed : ℕ → Syntax → Core → Core → Core
prefixed p inside length child =
    if begins_with kind.QuestionMark inside then core.optional p child
    else (if begins_with kind.Asterisk inside then core.pointer p (has_word kind.KeywordConst inside) child
    else (if begins_with kind.AsteriskAsterisk inside then core.pointer p false (core.pointer p (has_word kind.KeywordConst inside) child)
    else (if second_is kind.RightBracket inside then core.slice_type p (has_word kind.KeywordConst inside) child
    else core.array_type p length child)))

-- a type behind its prefixes, `E!T` or one alone
abbrev pub unprefixed : ℕ → Core → Parts → Core
unprefixed p tree more = if has_token kind.Bang more then core.error_union p tree (first_tree more) else tree

-- a prefix, or what the prefixes stand before, with the type behind it
abbrev pub type_part : File → Site → Rule → Syntax → ℕ → Core → Core → Parts → Core
type_part f s r inside first tree child more =
    if is_rule r rule.TypePrefix then prefixed (offset f s first) inside tree child else unprefixed (offset f s first) tree more

-- a type: the prefixes apply to what stands behind them, an error union whole
unfoldable pub made_type : File → Site → Parts → Core
made_type f s ended = core.missing
made_type f s (token t k more) = core.missing
made_type f s (part r inside first tree more) = type_part f s r inside first tree (made_type f s more) more
