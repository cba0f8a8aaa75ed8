-- Branches, loops, switches, and what leaves them.
use Rattle.std.specs.Prelude.{ℕ, Bool, true, false, ◌&&◌, List, [], ◌∷◌, Option, Some, None, if◌then◌else◌}
use Rattle.zig_tree.specs.declared.token.TokenKind.{TokenKind}
use Rattle.zig_tree.specs.declared.token.TokenKind.TheVariants as kind
use Rattle.zig_tree.specs.declared.grammar.Rule.{Rule}
use Rattle.zig_tree.specs.declared.grammar.Rule.TheVariants as rule
use Rattle.zig_tree.specs.Kinds.{is_kind, is_rule}
use Rattle.zir_form.specs.Core.{Core, cores_of}
use Rattle.zir_form.specs.Core as core
use Rattle.zir_scope.specs.Scoping.{name_at}
use Rattle.zir_scope.specs.Syntax.{Syntax}
use Rattle.zir_astgen.specs.Levels.{Level, Exit, exit_from, return_from}
use Rattle.zir_astgen.specs.Parts.{Parts, ended, token, part, first_of, first_tree, has_token, is_one_node, last_tree, leads_with, token_in, tree_behind, tree_of_rule, trees_of_rule}
use Rattle.zir_astgen.specs.Site.{File, Site, offset, place_in}
use Rattle.zir_astgen.specs.Stages.{is_rest}

-- ---- parts as statements

-- an expression that stands as a statement
unfoldable pub statement_of : File → Site → Rule → Syntax → ℕ → Core → Core
statement_of f s r inside first tree =
    if is_rule r rule.Assignment && is_one_node inside then core.ignored (offset f s first) tree else tree

-- the first node of a row as a statement
unfoldable pub first_statement : File → Site → Parts → Core
first_statement f s ended = core.absent
first_statement f s (token t k more) = first_statement f s more
first_statement f s (part r inside first tree more) = statement_of f s r inside first tree

-- the first node behind the first token of a kind
unfoldable pub statement_behind : File → Site → TokenKind → Parts → Core
statement_behind f s wanted ended = core.absent
statement_behind f s wanted (token t k more) = if is_kind k wanted then first_statement f s more else statement_behind f s wanted more
statement_behind f s wanted (part r inside first tree more) = statement_behind f s wanted more

-- ---- names in bars

-- `x` is one of the part's locals, and `_` none
unfoldable pub made_name : File → Site → Parts → Core
made_name f s ended = core.missing
made_name f s (token t k more) = core.capture (offset f s t) (place_in s.locals t)
made_name f s (part r inside first tree more) = core.missing

-- the names of a row, by pointer where `*` stands before one
unfoldable pub captured_names : Bool → Parts → List Core
captured_names pointer ended = []
captured_names pointer (token t k more) = captured_names (is_kind k kind.Asterisk) more
captured_names pointer (part r inside first tree more) =
    (if pointer then core.pointer_capture tree else tree) ∷ captured_names false more

unfoldable pub made_captures : Parts → Core
made_captures parts = core.captures (cores_of (captured_names false parts))

abbrev pub first_in : List Core → Core
first_in [] = core.absent
first_in (c ∷ cs) = c

unfoldable pub made_capture : Parts → Core
made_capture parts = first_in (captured_names false parts)

-- ---- branches and loops

-- the body, what `else` captures, and what stands behind it
abbrev pub made_rest : File → Site → Parts → Core
made_rest f s parts =
    core.branches (first_statement f s parts) (tree_of_rule rule.Capture parts) (if has_token kind.KeywordElse parts then last_tree core.absent parts else core.absent)

-- the rule of the last node of a row
unfoldable pub last_rule : Rule → Parts → Rule
last_rule last ended = last
last_rule last (token t k more) = last_rule last more
last_rule last (part r inside first tree more) = last_rule r more

-- the branches that a row ends with; an expression alone has no `else`
unfoldable pub branches_in : Parts → Core
branches_in parts =
    if is_rest (last_rule rule.Root parts) then last_tree core.absent parts
    else core.branches (last_tree core.absent parts) core.absent core.absent

-- `if (c) |x| A else |e| B`
unfoldable pub made_if : File → Site → Parts → Core
made_if f s parts =
    core.if (offset f s (first_of parts)) (tree_behind kind.LeftParen parts) (tree_of_rule rule.Capture parts) (branches_in parts)

-- `while (c) |x| : (k) A else B`
unfoldable pub made_while : File → Site → Parts → Core
made_while f s parts =
    core.loop (offset f s (first_of parts)) (core.while_head (tree_behind kind.LeftParen parts) (tree_of_rule rule.Capture parts))
    (statement_behind f s kind.Colon parts) (branches_in parts)

-- `for (a, b) |x, y| A else B`, a loop too
unfoldable pub made_for : File → Site → Parts → Core
made_for f s parts =
    core.loop (offset f s (first_of parts)) (core.for_head (cores_of (trees_of_rule rule.ForArgument parts)) (tree_of_rule rule.Captures parts))
    core.absent (branches_in parts)

-- an operand of a `for`: an expression, or a range
unfoldable pub made_for_argument : File → Site → Parts → Core
made_for_argument f s parts =
    if has_token kind.Ellipsis2 parts then core.range (offset f s (first_of parts)) (first_tree parts) (tree_behind kind.Ellipsis2 parts)
    else first_tree parts

-- ---- switches

unfoldable pub made_switch : File → Site → Parts → Core
made_switch f s parts =
    core.switch (offset f s (first_of parts)) (tree_behind kind.LeftParen parts) (cores_of (trees_of_rule rule.Prong parts))

unfoldable pub made_prong : File → Site → Parts → Core
made_prong f s parts =
    if leads_with kind.KeywordElse parts then core.else_prong (offset f s (first_of parts)) (tree_of_rule rule.Capture parts) (last_tree core.absent parts)
    else core.prong (cores_of (trees_of_rule rule.Item parts)) (tree_of_rule rule.Capture parts) (last_tree core.absent parts)

unfoldable pub made_item : File → Site → Parts → Core
made_item f s parts =
    if has_token kind.Ellipsis3 parts then core.interval (offset f s (first_of parts)) (first_tree parts) (tree_behind kind.Ellipsis3 parts)
    else first_tree parts

-- ---- what leaves

-- the label behind a `break` or a `continue`
abbrev pub label_by : File → Bool → Option ℕ → Option ℕ
label_by f false t = None
label_by f true None = None
label_by f true (Some t) = Some (name_at f.facts t)

unfoldable pub label_in : File → Parts → Option ℕ
label_in f parts = label_by f (has_token kind.Colon parts) (token_in kind.Identifier parts)

abbrev pub broken : ℕ → Core → Option Exit → Core
broken p value None = core.missing
broken p value (Some e) = core.break p e.target value (cores_of e.leaves)

abbrev pub continued : ℕ → Option Exit → Core
continued p None = core.missing
continued p (Some e) = core.continue p e.target (cores_of e.leaves)

abbrev pub returned : ℕ → Core → Option (List Core) → Core
returned p value None = core.missing
returned p value (Some leaves) = core.return p value (cores_of leaves)

-- whether a row has a node
unfoldable pub has_part : Parts → Bool
has_part ended = false
has_part (token t k more) = has_part more
has_part (part r inside first tree more) = true

-- whether one of a rule
unfoldable pub has_rule : Rule → Parts → Bool
has_rule wanted ended = false
has_rule wanted (token t k more) = has_rule wanted more
has_rule wanted (part r inside first tree more) = if is_rule r wanted then true else has_rule wanted more

-- behind a label: a block that it can leave, or a loop, which knows the label by itself
unfoldable pub labelled_part : ℕ → Parts → Core
labelled_part p more = if has_rule rule.Block more then core.labelled p (first_tree more) else core.grouped p (first_tree more)

-- an operand that a token begins
unfoldable pub word_primary : File → Site → List Level → ℕ → TokenKind → Parts → Core
word_primary f s levels t k more =
    if is_kind k kind.Identifier then labelled_part (offset f s t) more
    else (if is_kind k kind.KeywordBreak then broken (offset f s t) (first_tree more) (exit_from false (label_in f more) levels)
    else (if is_kind k kind.KeywordContinue then continued (offset f s t) (exit_from true (label_in f more) levels)
    else (if is_kind k kind.KeywordReturn then returned (offset f s t) (first_tree more) (return_from (has_part more) levels)
    else (if is_kind k kind.KeywordComptime then core.comptime (offset f s t) (first_tree more)
    else core.missing))))

-- an operand: the words above, or a type with the values of a container
unfoldable pub made_primary : File → Site → List Level → Parts → Core
made_primary f s levels ended = core.missing
made_primary f s levels (token t k more) = word_primary f s levels t k more
made_primary f s levels (part r inside first tree more) =
    if has_part more then core.initializer (offset f s first) tree (first_tree more) else tree
