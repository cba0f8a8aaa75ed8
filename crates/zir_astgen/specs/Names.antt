-- Names, literals and calls: what an atom stands for, and what is asked of it.
use Rattle.std.specs.Prelude.{ℕ, Bool, true, false, List, [], ◌∷◌, ◌++◌, slice_index_or, Option, Some, None, if◌then◌else◌}
use Rattle.zig_tree.specs.declared.token.TokenKind.{TokenKind}
use Rattle.zig_tree.specs.declared.token.TokenKind.TheVariants as kind
use Rattle.zig_tree.specs.declared.grammar.Rule.TheVariants as rule
use Rattle.zig_tree.specs.Kinds.{is_kind, is_rule}
use Rattle.zir_form.specs.declared.builtin.BuiltinFn.{BuiltinFn}
use Rattle.zir_form.specs.Builtins.{builtin_fn}
use Rattle.zir_form.specs.Core.{Core, cores_of}
use Rattle.zir_form.specs.Core as core
use Rattle.zir_scope.specs.Syntax.{Syntax, nothing, word, node}
use Rattle.zir_astgen.specs.Numbers.{int_value, char_value}
use Rattle.zir_astgen.specs.Values.{string_value, multiline_value}
use Rattle.zir_astgen.specs.Calls.{is_import, string_in}
use Rattle.zir_astgen.specs.Parts.{Parts, ended, token, part, all_trees, first_tree, token_in, has_token}
use Rattle.zir_astgen.specs.Site.{File, Site, offset, written_at, bytes_of_name, named}

-- the name at a token that may be there
abbrev pub name_or_none : File → Option ℕ → List ℕ
name_or_none f None = []
name_or_none f (Some t) = bytes_of_name f t

-- the names of a row
unfoldable pub names_in : File → Parts → List (List ℕ)
names_in f ended = []
names_in f (token t k more) = if is_kind k kind.Identifier then bytes_of_name f t ∷ names_in f more else names_in f more
names_in f (part r inside first tree more) = names_in f more

-- of the first node of a row, where that is an atom
unfoldable pub string_argument : Parts → Option ℕ
string_argument ended = None
string_argument (token t k more) = string_argument more
string_argument (part r inside first tree more) = if is_rule r rule.Atom then string_in inside else None

-- `@import` of a string (Zig Language Reference 0.14, "@import")
abbrev pub import_of : File → ℕ → Option ℕ → Core
import_of f p None = core.missing
import_of f p (Some t) = core.import p (string_value (written_at f t))

-- a builtin with its arguments ("Builtin Functions")
abbrev pub builtin_by : File → ℕ → Option BuiltinFn → Parts → Core
builtin_by f p None arguments = core.missing
builtin_by f p (Some b) arguments =
    if is_import b.builtin then import_of f p (string_argument arguments) else core.builtin p b.builtin (cores_of (all_trees arguments))

unfoldable pub builtin_call : File → Site → ℕ → Parts → Core
builtin_call f s t arguments = builtin_by f (offset f s t) (builtin_fn (written_at f t)) arguments

-- `.name`, or the values of a container whose type the place of use gives
unfoldable pub dot_atom : File → ℕ → Parts → Core
dot_atom f p more =
    if has_token kind.Identifier more then core.enum_literal p (name_or_none f (token_in kind.Identifier more))
    else core.initializer p core.absent (first_tree more)

-- `error.Name`, or `error{ A, B }`
unfoldable pub error_atom : File → ℕ → Parts → Core
error_atom f p more =
    if has_token kind.LeftBrace more then core.error_set p (names_in f more)
    else core.error_value p (name_or_none f (token_in kind.Identifier more))

-- an atom that a token begins
unfoldable pub word_atom : File → Site → ℕ → TokenKind → Parts → Core
word_atom f s t k more =
    if is_kind k kind.Identifier then named f s t
    else (if is_kind k kind.Integer then core.integer (offset f s t) (int_value (written_at f t))
    else (if is_kind k kind.Char then core.integer (offset f s t) (char_value (written_at f t))
    else (if is_kind k kind.Str then core.text (offset f s t) (string_value (written_at f t))
    else (if is_kind k kind.MultilineStr then core.lines (offset f s t) (multiline_value (written_at f t))
    else (if is_kind k kind.KeywordUnreachable then core.unreachable (offset f s t)
    else (if is_kind k kind.Period then dot_atom f (offset f s t) more
    else (if is_kind k kind.KeywordError then error_atom f (offset f s t) more
    else (if is_kind k kind.Builtin then builtin_call f s t more
    else (if is_kind k kind.LeftParen then core.grouped (offset f s t) (first_tree more)
    else core.missing)))))))))

-- an atom; a container and a switch stand for themselves
unfoldable pub made_atom : File → Site → Parts → Core
made_atom f s ended = core.missing
made_atom f s (token t k more) = word_atom f s t k more
made_atom f s (part r inside first tree more) = tree

-- What is asked of an atom, step by step: the value so far, and since the last opening bracket or
-- parenthesis the expressions and whether `..` stood there.
pub record Asked : Type 0 where
  pub object : Core
  pub items : List Core
  pub ranged : Bool

abbrev pub now : Core → Asked
now object = record { object = object; items = []; ranged = false }

abbrev pub item_at : List Core → ℕ → Core
item_at items i = slice_index_or items i core.absent

-- `a[i]` or `a[i..j]`
abbrev pub bracketed : ℕ → Asked → Core
bracketed p a =
    if a.ranged then core.slice p a.object (item_at a.items 0) (item_at a.items 1) else core.index p a.object (item_at a.items 0)

unfoldable pub asked_by : File → Site → ℕ → ℕ → TokenKind → Asked → Asked
asked_by f s p t k a =
    if is_kind k kind.Identifier then now (core.member p (offset f s t) a.object (bytes_of_name f t))
    else (if is_kind k kind.PeriodAsterisk then now (core.dereference p a.object)
    else (if is_kind k kind.PeriodQuestionMark then now (core.unwrap p a.object)
    else (if is_kind k kind.Ellipsis2 then record a { ranged = true }
    else (if is_kind k kind.RightBracket then now (bracketed p a)
    else (if is_kind k kind.RightParen then now (core.call p a.object (cores_of a.items))
    else a)))))

unfoldable pub asked : File → Site → ℕ → Asked → Parts → Core
asked f s p a ended = a.object
asked f s p a (token t k more) = asked f s p (asked_by f s p t k a) more
asked f s p a (part r inside first tree more) = asked f s p (record a { items = a.items ++ tree ∷ [] }) more

-- an atom with what is asked of it, from the left
unfoldable pub made_suffix : File → Site → Parts → Core
made_suffix f s ended = core.missing
made_suffix f s (token t k more) = core.missing
made_suffix f s (part r inside first tree more) = asked f s (offset f s first) (now tree) more

-- values with their names, each behind the name's token
unfoldable pub values_named : File → ℕ → Parts → List Core
values_named f name ended = []
values_named f name (token t k more) = if is_kind k kind.Identifier then values_named f t more else values_named f name more
values_named f name (part r inside first tree more) = core.named_value (bytes_of_name f name) tree ∷ values_named f name more

abbrev pub listed : List Core → Core
listed [] = core.no_values
listed (c ∷ cs) = core.listed_values (cores_of (c ∷ cs))

-- the values of a container in braces
unfoldable pub made_values : File → Parts → Core
made_values f parts =
    if has_token kind.Period parts then core.named_values (cores_of (values_named f 0 parts)) else listed (all_trees parts)
