-- Which forms of the language are built: one case a rule of the grammar. A form that is not built yet has no
-- meaning in `elab_form`, and a file that has one is refused before anything of it is analysed.
use Rattle.std.specs.Prelude.{ℕ, Bool, true, false, not, ◌&&◌, ◌||◌, List, [], slice_get, slice_range, codes, Option, Some, None, if◌then◌else◌}
use Rattle.std.specs.Str.{bytes_eq}
use Rattle.zig_tree.specs.declared.token.Token.{Token}
use Rattle.zig_tree.specs.declared.token.TokenKind.{TokenKind}
use Rattle.zig_tree.specs.declared.token.TokenKind.TheVariants as kind
use Rattle.zig_tree.specs.declared.grammar.Rule.{Rule}
use Rattle.zig_tree.specs.declared.grammar.Rule.TheVariants as rule
use Rattle.zig_tree.specs.Kinds.{is_kind, is_rule}
use Rattle.zir_form.specs.declared.primitive.Primitive.{Primitive}
use Rattle.zir_form.specs.declared.primitive.Primitive.TheVariants as primitive
use Rattle.zir_form.specs.Primitives.{primitive_of}
use Rattle.zir_form.specs.Names.{name_of}
use Rattle.zir_scope.specs.Syntax.{Syntax, nothing, word, node}
use Rattle.built_forms.specs.declared.built.FileForms.{FileForms}

-- a file's text and its tokens
pub record Words : Type 0 where
  pub text : List ℕ
  pub tokens : List Token

-- those of the file that is read
abbrev pub words_of : FileForms → Words
words_of f = record { text = f.text.now; tokens = f.outline.now.tokens.now }

-- ---- what stands in a row

-- whether a row begins with a token of this kind
unfoldable pub begins_with : TokenKind → Syntax → Bool
begins_with wanted nothing = false
begins_with wanted (word t k more) = is_kind k wanted
begins_with wanted (node r inside more) = false

-- whether it begins with a node of this rule
unfoldable pub holds : Rule → Syntax → Bool
holds wanted nothing = false
holds wanted (word t k more) = false
holds wanted (node r inside more) = is_rule r wanted

-- whether a token of this kind stands in it
unfoldable pub has_word : TokenKind → Syntax → Bool
has_word wanted nothing = false
has_word wanted (word t k more) = if is_kind k wanted then true else has_word wanted more
has_word wanted (node r inside more) = has_word wanted more

-- the row behind `pub`, where that leads it
unfoldable pub behind_pub : Syntax → Syntax
behind_pub nothing = nothing
behind_pub (word t k more) = if is_kind k kind.KeywordPub then more else word t k more
behind_pub (node r inside more) = node r inside more

-- ---- declarations

-- the name that a token writes
abbrev pub name_by : List ℕ → Option Token → List ℕ
name_by text None = []
name_by text (Some token) = name_of text token

-- whether the token says `memory`, the name under which a module exports its memory
abbrev pub says_memory : Words → ℕ → Bool
says_memory f t = bytes_eq (name_by f.text (slice_get f.tokens t)) (codes "memory")

-- whether a prototype has that name: its second token
abbrev pub leads_with_memory : Words → Syntax → Bool
leads_with_memory f nothing = false
leads_with_memory f (word t k more) = says_memory f t
leads_with_memory f (node r inside more) = false

unfoldable pub names_memory : Words → Syntax → Bool
names_memory f nothing = false
names_memory f (word t k more) = leads_with_memory f more
names_memory f (node r inside more) = false

-- whether the first form of a row is a function with that name: its prototype stands first in it
unfoldable pub first_names_memory : Words → Syntax → Bool
first_names_memory f nothing = false
first_names_memory f (word t k more) = false
first_names_memory f (node r inside more) = names_memory f inside

unfoldable pub exports_memory : Words → Syntax → Bool
exports_memory f nothing = false
exports_memory f (word t k more) = false
exports_memory f (node r inside more) = first_names_memory f inside

-- constants, functions, and exported functions of another name than the memory's
unfoldable pub is_built_declared : Words → Syntax → Bool
is_built_declared f nothing = false
is_built_declared f (word t k more) = is_kind k kind.KeywordExport && not (exports_memory f more)
is_built_declared f (node r inside more) = true

-- functions without an inferred error set
unfoldable pub is_built_function : Syntax → Bool
is_built_function nothing = false
is_built_function (word t k more) = false
is_built_function (node r inside more) = not (has_word kind.Bang inside)

-- ---- expressions

-- names of declarations, and these of the primitive types and values
abbrev pub is_built_primitive : Option Primitive → Bool
is_built_primitive None = true
is_built_primitive (Some primitive.Noreturn) = false
is_built_primitive (Some primitive.AnyError) = false
is_built_primitive (Some primitive.Null) = false
is_built_primitive (Some primitive.Undefined) = false
is_built_primitive (Some _) = true

abbrev pub bytes_by : List ℕ → Option Token → List ℕ
bytes_by text None = []
bytes_by text (Some token) = slice_range text token.span.start token.span.end

-- whole numbers and names
abbrev pub is_built_word : Words → ℕ → TokenKind → Bool
is_built_word f t k =
    is_kind k kind.Integer
    || (is_kind k kind.Identifier && is_built_primitive (primitive_of (bytes_by f.text (slice_get f.tokens t))))

-- parentheses, and single words
abbrev pub is_built_led : Words → ℕ → TokenKind → Syntax → Bool
is_built_led f t k nothing = is_built_word f t k
is_built_led f t k (word u m more) = is_kind k kind.LeftParen
is_built_led f t k (node r inside more) = is_kind k kind.LeftParen

unfoldable pub is_built_atom : Words → Syntax → Bool
is_built_atom f nothing = false
is_built_atom f (word t k more) = is_built_led f t k more
is_built_atom f (node r inside more) = false

-- one `return`, with a value or without
abbrev pub is_return_alone : Rule → Syntax → Syntax → Bool
is_return_alone r inside nothing = is_rule r rule.Primary && begins_with kind.KeywordReturn inside
is_return_alone r inside (word t k more) = false
is_return_alone r inside (node s others more) = false

unfoldable pub is_return : Syntax → Bool
is_return nothing = false
is_return (word t k more) = false
is_return (node r inside more) = is_return_alone r inside more

-- ---- the forms

-- Whether a form is built, by the rule of the form that holds it, its own rule, and what it holds. What it holds is
-- judged by itself.
unfoldable pub is_built : Words → Rule → Rule → Syntax → Bool
is_built f around rule.Root inside = true
is_built f around rule.Member inside = true
is_built f around rule.Declaration inside = is_built_declared f (behind_pub inside)
is_built f around rule.Variable inside = begins_with kind.KeywordConst inside
is_built f around rule.Function inside = is_built_function inside
is_built f around rule.Prototype inside = true
is_built f around rule.Block inside = is_rule around rule.Function
is_built f around rule.Statement inside = holds rule.Body inside
is_built f around rule.Body inside = holds rule.Assignment inside
is_built f around rule.Assignment inside = is_return inside
is_built f around rule.Primary inside = is_rule around rule.Assignment
is_built f around rule.Atom inside = is_built_atom f inside
is_built f around _ inside = false

-- a `test` is never analysed, so that any form may stand in it
unfoldable pub is_test : Rule → Syntax → Bool
is_test rule.Declaration inside = begins_with kind.KeywordTest inside
is_test _ inside = false
