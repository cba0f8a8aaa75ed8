-- Names, and the first token that has each.
use Rattle.std.specs.Prelude.{ℕ, Bool, ◌&&◌, if◌then◌else◌, List, drop, length, map, slice_get, slice_range, Option, None, Some, unwrap_or}
use Rattle.std.specs.List.{position_from, range_with_len}
use Rattle.std.specs.Str.{bytes_eq}
use Rattle.zig_tree.specs.declared.token.Token.{Token}
use Rattle.zig_tree.specs.declared.token.TokenKind.TheVariants.{Identifier}
use Rattle.zig_tree.specs.Kinds.{is_kind}
use Rattle.zig_tree.specs.TokenBytes.{begins}
use Rattle.zir_form.specs.Escapes.{value_from}

-- the name that is written so: `@"` opens quotes, and what else is written stands for itself
unfoldable pub name_in : List ℕ → List ℕ
name_in bytes = if begins bytes 0 64 34 then value_from 0 (drop 2 bytes) else bytes

-- the name that an identifier of a text stands for
unfoldable pub name_of : List ℕ → Token → List ℕ
name_of text token = name_in (slice_range text token.span.start token.span.end)

-- the token is an identifier of this name
unfoldable pub has_name : List ℕ → List ℕ → Token → Bool
has_name text name token = is_kind token.kind Identifier && bytes_eq (name_of text token) name

-- where the first identifier of this name stands
abbrev pub first_with : List ℕ → List Token → List ℕ → Option ℕ
first_with text tokens name = position_from (has_name text name) 0 tokens

-- of a token at a place: the first with its name if it is an identifier, else the place itself
abbrev pub first_like : List ℕ → List Token → ℕ → Option Token → ℕ
first_like text tokens i None = i
first_like text tokens i (Some token) = if is_kind token.kind Identifier then unwrap_or (first_with text tokens (name_of text token)) i else i

-- the first token with the name of the token at a place, where that is an identifier, else the place itself
unfoldable pub first_name : List ℕ → List Token → ℕ → ℕ
first_name text tokens i = first_like text tokens i (slice_get tokens i)

-- the same for all tokens
unfoldable pub first_names : List ℕ → List Token → List ℕ
first_names text tokens = map (first_name text tokens) (range_with_len 0 (length tokens))
