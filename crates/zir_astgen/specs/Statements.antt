-- Statements, declarations, functions and what containers hold.
use Rattle.std.specs.Prelude.{ℕ, Bool, false, List, [], ◌∷◌, Option, Some, None, if◌then◌else◌}
use Rattle.zig_tree.specs.declared.token.TokenKind.{TokenKind}
use Rattle.zig_tree.specs.declared.token.TokenKind.TheVariants as kind
use Rattle.zig_tree.specs.declared.grammar.Rule.{Rule}
use Rattle.zig_tree.specs.declared.grammar.Rule.TheVariants as rule
use Rattle.zig_tree.specs.Kinds.{is_kind, is_rule}
use Rattle.zir_form.specs.declared.operator.BinaryOperator.{BinaryOperator}
use Rattle.zir_form.specs.Core.{Core, cores_of}
use Rattle.zir_form.specs.Core as core
use Rattle.zir_scope.specs.Syntax.{Syntax, nothing, word, node}
use Rattle.zir_astgen.specs.Levels.{Level}
use Rattle.zir_astgen.specs.Control.{first_statement, labelled_part}
use Rattle.zir_astgen.specs.Operators.{binary_of}
use Rattle.zir_astgen.specs.Parts.{Parts, ended, token, part, first_of, first_tree, has_token, last_tree, leads_with, token_in, tree_behind, tree_of_rule, trees_of_rule}
use Rattle.zir_astgen.specs.Names.{name_or_none}
use Rattle.zir_astgen.specs.Site.{File, Site, captures_at, captures_from, offset, place_in}
use Rattle.zir_astgen.specs.Stages.{is_put_off}

-- ---- statements

-- what a block puts off is written at its exits, and the other statements stand in it
unfoldable pub statements_in : Parts → List Core
statements_in ended = []
statements_in (token t k more) = statements_in more
statements_in (part r inside first tree more) = if is_put_off r inside then statements_in more else tree ∷ statements_in more

-- what is put off for each exit, at the innermost level
abbrev pub defers_at : List Level → Core
defers_at [] = core.absent
defers_at (l ∷ outer) = l.defers

-- statements in braces, and what runs behind the last one, by what lies around the end
unfoldable pub made_block : File → Site → List Level → Parts → Core
made_block f s behind parts =
    core.block (offset f s (first_of parts)) (cores_of (statements_in parts)) (defers_at behind)

-- a statement: of `defer` and `errdefer` what is put off
unfoldable pub word_statement : File → Site → ℕ → TokenKind → Parts → Core
word_statement f s t k more =
    if is_kind k kind.KeywordComptime then core.comptime (offset f s t) (last_tree core.absent more)
    else (if is_kind k kind.KeywordErrdefer then core.on_error (tree_of_rule rule.Capture more) (last_tree core.absent more)
    else last_tree core.absent more)

unfoldable pub made_statement : File → Site → Parts → Core
made_statement f s ended = core.missing
made_statement f s (token t k more) = word_statement f s t k more
made_statement f s (part r inside first tree more) = tree

-- a statement that declares nothing, behind its label if it has one
unfoldable pub made_body : File → Site → Parts → Core
made_body f s ended = core.missing
made_body f s (token t k more) = labelled_part (offset f s t) more
made_body f s (part r inside first tree more) = first_statement f s (part r inside first tree more)

-- an assignment by its operator
abbrev pub assign_with : ℕ → ℕ → Option BinaryOperator → Core → Core → Core
assign_with p q None target value = core.missing
assign_with p q (Some operator) target value = core.assign_with p q operator target value

unfoldable pub assigned : ℕ → ℕ → TokenKind → Core → Core → Core
assigned p q k target value =
    if is_kind k kind.Equal then core.assign p q target value else assign_with p q (binary_of k) target value

abbrev pub assignment : File → Site → ℕ → Core → Parts → Core
assignment f s first target (token t k more) = assigned (offset f s first) (offset f s t) k target (first_tree more)
assignment f s first target ended = target
assignment f s first target (part r inside other tree more) = target

-- `_ = a`, an assignment, or an expression alone
unfoldable pub made_assignment : File → Site → Parts → Core
made_assignment f s ended = core.missing
made_assignment f s (token t k more) = core.discard (offset f s t) (first_tree more)
made_assignment f s (part r inside first tree more) = assignment f s first tree more

-- ---- declarations

abbrev pub token_or_first : Option ℕ → ℕ
token_or_first None = 0
token_or_first (Some t) = t

-- the name that a row declares
abbrev pub name_token : Parts → ℕ
name_token parts = token_or_first (token_in kind.Identifier parts)

-- a constant or a variable, which in the part is one of its locals
unfoldable pub made_variable : File → Site → Parts → Core
made_variable f s parts =
    if leads_with kind.KeywordVar parts
    then core.variable (offset f s (name_token parts)) (place_in s.locals (name_token parts)) (tree_behind kind.Colon parts) (tree_behind kind.Equal parts)
    else core.constant (offset f s (name_token parts)) (place_in s.locals (name_token parts)) (tree_behind kind.Colon parts) (tree_behind kind.Equal parts)

-- a parameter; `_` is no local
abbrev pub local_by : Site → Option ℕ → Option ℕ
local_by s None = None
local_by s (Some t) = place_in s.locals t

abbrev pub type_by : File → Site → Option ℕ → Core → Core
type_by f s None ty = ty
type_by f s (Some t) ty = core.anytype (offset f s t)

unfoldable pub made_parameter : File → Site → Parts → Core
made_parameter f s parts =
    core.parameter (local_by s (token_in kind.Identifier parts)) (has_token kind.KeywordComptime parts)
    (type_by f s (token_in kind.KeywordAnytype parts) (first_tree parts))

-- the head of a function
abbrev pub inferred_by : File → Site → Option ℕ → Core
inferred_by f s None = core.absent
inferred_by f s (Some t) = core.inferred (offset f s t)

unfoldable pub made_prototype : File → Site → Parts → Core
made_prototype f s parts =
    core.head (offset f s (name_token parts)) s.linkage (cores_of (trees_of_rule rule.Parameter parts))
    (inferred_by f s (token_in kind.Bang parts)) (last_tree core.absent parts)

-- ---- containers

-- a container within a part: which one of the declaration it is, and what it captures
abbrev pub container_by : ℕ → Option ℕ → List Core → Core
container_by p None captures = core.missing
container_by p (Some ordinal) captures = core.container p ordinal (cores_of captures)

unfoldable pub container_at : File → Site → ℕ → Core
container_at f s c = container_by (offset f s c) (place_in s.containers c) (captures_at s (offset f s c) (captures_from c f.captures))

-- a field of a struct, or a member of an enum or a union
unfoldable pub made_field : File → Site → Parts → Core
made_field f s parts =
    core.field (offset f s (name_token parts)) (name_or_none f (token_in kind.Identifier parts)) (tree_behind kind.Colon parts) (tree_behind kind.Equal parts)

-- whether a row begins with a node of a rule
unfoldable pub holds : Rule → Syntax → Bool
holds wanted nothing = false
holds wanted (word t k more) = false
holds wanted (node r inside more) = is_rule r wanted

-- the fields among the members of a container
unfoldable pub fields_in : Parts → List Core
fields_in ended = []
fields_in (token t k more) = fields_in more
fields_in (part r inside first tree more) = if holds rule.Field inside then tree ∷ fields_in more else fields_in more

unfoldable pub made_members : Parts → Core
made_members parts = core.fields (cores_of (fields_in parts))

-- the tag of a union: an enum of its own, or a named one
abbrev pub union_tag : Parts → Core
union_tag parts = if has_token kind.KeywordEnum parts then core.own_tag else tree_behind kind.LeftParen parts

-- the fields of a container as a part
unfoldable pub made_container : File → Site → Parts → Core
made_container f s parts =
    if leads_with kind.KeywordStruct parts then core.struct (offset f s (first_of parts)) (tree_of_rule rule.ContainerBody parts)
    else (if leads_with kind.KeywordEnum parts then core.enum (offset f s (first_of parts)) (tree_behind kind.LeftParen parts) (tree_of_rule rule.ContainerBody parts)
    else core.union (offset f s (first_of parts)) (union_tag parts) (tree_of_rule rule.ContainerBody parts))
