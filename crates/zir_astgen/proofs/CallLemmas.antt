-- What the calls of builtins in a file's rows add up to.
use Rattle.std.proofs.Common.{◌≡◌, ℕ, List, [], ◌++◌, refl, sym, ◌∙◌, ap}
use Rattle.std.specs.List.{filter_map}
use Rattle.zir_form.specs.File.{Import}
use Rattle.zir_astgen.specs.declared.calls.Called.{Called}
use Rattle.zir_astgen.specs.Files.{import_at, imports_of}
use Rattle.zir_astgen.specs.Site.{File}
use Rattle.zig_tree.specs.declared.grammar.Rule.{Rule}
use Rattle.zig_tree.specs.declared.token.Token.{Token}
use Rattle.zig_tree.specs.declared.token.TokenKind.{TokenKind}
use Rattle.zir_scope.specs.Syntax.{Syntax, nothing, word, node, inside_of, row_at, rows_of}
use Rattle.zw_base.specs.declared.diag.Found.{Found}
use Rattle.zig_tree.specs.declared.tree.Node.{Node}
use Rattle.zir_scope.specs.declared.outline.Outline.{Outline}
use Rattle.zir_astgen.specs.Calls.{builtin_faults, call_fault, calls_in, node_calls}
use Rattle.zir_astgen.proofs.CountLemmas.{Counts}

calls_end : (text : List ℕ) (tokens : List Token) → calls_in text tokens nothing ≡ []
unfolding calls_in
calls_end text tokens = refl

calls_word : (text : List ℕ) (tokens : List Token) (t : ℕ) (k : TokenKind) (more : Syntax) → calls_in text tokens (word t k more) ≡ calls_in text tokens more
unfolding calls_in
calls_word text tokens t k more = refl

calls_node : (text : List ℕ) (tokens : List Token) (r : Rule) (inside more : Syntax)
    → calls_in text tokens (node r inside more) ≡ node_calls text tokens r inside ++ calls_in text tokens more
unfolding calls_in node_calls
calls_node text tokens r inside more = refl

pub calls_count : (text : List ℕ) (tokens : List Token) → Counts (calls_in text tokens) (node_calls text tokens)
calls_count text tokens = record { ended = calls_end text tokens; words = calls_word text tokens; nodes = calls_node text tokens }

-- the `@import`s of a file are those among its calls
pub imports_are : (f : File) (calls : List Called) (imports : List Import) (row inside : Syntax) → row ≡ inside → calls ≡ calls_in f.text f.tokens inside
    → imports ≡ filter_map (import_at f) calls → imports ≡ imports_of f row
unfolding imports_of
imports_are f calls imports row inside r c i = i ∙ ap (λ (l : List Called). filter_map (import_at f) l) c ∙ ap (λ (s : Syntax). filter_map (import_at f) (calls_in f.text f.tokens s)) (sym r)

-- what is wrong with the builtins of a file is what is wrong with its calls
pub faults_are : (o : Outline) (text : List ℕ) (nodes : List Node) (root : ℕ) (calls lent : List Called) (found : List Found) → o.nodes.now ≡ nodes
    → calls ≡ calls_in text o.tokens.now (inside_of o root) → lent ≡ calls → found ≡ filter_map (call_fault o.tokens.now) lent → found ≡ builtin_faults text o.tokens.now nodes root
unfolding builtin_faults inside_of
faults_are o text nodes root calls lent found n c l f =
    f ∙ ap (λ (x : List Called). filter_map (call_fault o.tokens.now) x) (l ∙ c)
    ∙ ap (λ (x : List Node). filter_map (call_fault o.tokens.now) (calls_in text o.tokens.now (row_at (rows_of o.tokens.now x) root))) n
