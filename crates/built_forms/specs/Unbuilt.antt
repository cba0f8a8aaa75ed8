-- The first form of a file that is not built: from the root, a form before those that it holds, in the order of the
-- text.
use Rattle.std.specs.Prelude.{ℕ, Bool, List, Option, Some, None, if◌then◌else◌}
use Rattle.zig_tree.specs.declared.token.Token.{Token}
use Rattle.zig_tree.specs.declared.tree.Node.{Node}
use Rattle.zig_tree.specs.declared.grammar.Rule.{Rule}
use Rattle.zig_tree.specs.declared.grammar.Rule.TheVariants.{Root}
use Rattle.zir_scope.specs.Syntax.{Syntax, nothing, word, node, rule_at, row_at, rows_of}
use Rattle.built_forms.specs.Built.{Words, is_built, is_test}

-- the first that is there
abbrev pub or_else : Option ℕ → Option ℕ → Option ℕ
or_else None second = second
or_else (Some t) second = Some t

-- the first token of a row
unfoldable pub first_word : Syntax → Option ℕ
first_word nothing = None
first_word (word t k more) = Some t
first_word (node r inside more) = or_else (first_word inside) (first_word more)

-- the first token of a form that is not built, and else what is first among those that it holds
abbrev pub judged : Bool → Bool → Option ℕ → Option ℕ → Option ℕ
judged test built first within = if test then None else (if built then within else first)

-- the first token of the first form in a row that is not built; `around` holds the row
unfoldable pub unbuilt_in : Words → Rule → Syntax → Option ℕ
unbuilt_in f around nothing = None
unbuilt_in f around (word t k more) = unbuilt_in f around more
unbuilt_in f around (node r inside more) =
    or_else (judged (is_test r inside) (is_built f around r inside) (first_word inside) (unbuilt_in f r inside)) (unbuilt_in f around more)

-- of one form
unfoldable pub unbuilt_at : Words → Rule → Rule → Syntax → Option ℕ
unbuilt_at f around r inside = judged (is_test r inside) (is_built f around r inside) (first_word inside) (unbuilt_in f r inside)

-- of the file with this root
unfoldable pub unbuilt : List ℕ → List Token → List Node → ℕ → Option ℕ
unbuilt text tokens nodes root = unbuilt_at (record { text = text; tokens = tokens }) Root (rule_at nodes root) (row_at (rows_of tokens nodes) root)
