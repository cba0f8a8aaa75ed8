-- What scoping sees of the tokens of a text.
use Rattle.std.specs.Prelude.{ℕ, ◌+◌, Bool, ◌&&◌, List, [], ◌∷◌, codes, slice_range, slice_index_or, is_some}
use Rattle.std.specs.Str.{bytes_eq}
use Rattle.zig_tree.specs.declared.token.Token.{Token}
use Rattle.zig_tree.specs.declared.token.TokenKind.TheVariants.{Identifier, Builtin}
use Rattle.zig_tree.specs.Kinds.{is_kind}
use Rattle.zir_form.specs.Names.{name_of, first_names}
use Rattle.zir_form.specs.Primitives.{primitive_of}
use Rattle.zir_scope.specs.declared.facts.Fact.{Fact}

-- an identifier with the name of a primitive type or value
unfoldable pub is_primitive : List ℕ → Token → Bool
is_primitive text token = is_kind token.kind Identifier && is_some (primitive_of (name_of text token))

-- the builtin `@field`
unfoldable pub is_field : List ℕ → Token → Bool
is_field text token = is_kind token.kind Builtin && bytes_eq (slice_range text token.span.start token.span.end) (codes "@field")

-- of tokens from this number on, where each token has one of these names
unfoldable pub facts_from : List ℕ → List ℕ → ℕ → List Token → List Fact
facts_from text names at [] = []
facts_from text names at (token ∷ more) =
    (record { name = slice_index_or names at at; is_primitive = is_primitive text token; is_field = is_field text token }) ∷ facts_from text names (at + 1) more

unfoldable pub facts_of : List ℕ → List Token → List Fact
facts_of text tokens = facts_from text (first_names text tokens) 0 tokens
