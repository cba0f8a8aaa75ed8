-- Nodes that are closed, and what the open ones have so far.
use Rattle.std.specs.Prelude.{ℕ, ◌-◌, List, [], ◌∷◌, ◌++◌, length, take, drop, slice_get, Option, Some, None}
use Rattle.zw_base.specs.declared.diag.Span.{Span}
use Rattle.zig_tree.specs.declared.token.Token.{Token}
use Rattle.zig_tree.specs.declared.grammar.Rule.{Rule}
use Rattle.zig_tree.specs.declared.tree.Kid.{Kid}
use Rattle.zig_tree.specs.declared.tree.Kid.TheVariants as kid
use Rattle.zig_tree.specs.declared.tree.Node.{Node}

-- closed nodes, and tokens and closed nodes that an open node holds
pub record Parts : Type 0 where
  pub nodes : List Node
  pub kids : List Kid

-- where a token lies
abbrev pub token_span : Option Token → Option Span
token_span None = None
token_span (Some t) = Some t.span

-- where a node lies
abbrev pub node_span : Option Node → Option Span
node_span None = None
node_span (Some n) = Some n.span

-- where what a node holds lies
abbrev pub kid_span : List Token → List Node → Kid → Option Span
kid_span tokens nodes (kid.Token at) = token_span (slice_get tokens at)
kid_span tokens nodes (kid.Node at) = node_span (slice_get nodes at)

abbrev pub span_at : List Token → List Node → Option Kid → Option Span
span_at tokens nodes None = None
span_at tokens nodes (Some k) = kid_span tokens nodes k

-- from the start of one span to the end of another
abbrev pub joined : Option Span → Option Span → Span
joined (Some a) (Some b) = record { start = a.start; end = b.end }
joined (Some a) None = record { start = 0; end = 0 }
joined None (Some b) = record { start = 0; end = 0 }
joined None None = record { start = 0; end = 0 }

-- from the first of what a node holds to the last
unfoldable pub span_of : List Token → List Node → List Kid → Span
span_of tokens nodes kids = joined (span_at tokens nodes (slice_get kids 0)) (span_at tokens nodes (slice_get kids (length kids - 1)))

-- a node that holds the last so many of the kids takes their place
unfoldable pub with_node : List Token → Rule → ℕ → Parts → Parts
with_node tokens r count p = record {
  nodes = p.nodes ++ (record { rule = r; span = span_of tokens p.nodes (drop (length p.kids - count) p.kids); kids = drop (length p.kids - count) p.kids }) ∷ [];
  kids = take (length p.kids - count) p.kids ++ kid.Node (length p.nodes) ∷ [];
}

-- a token joins what the innermost node holds
unfoldable pub with_token : ℕ → Parts → Parts
with_token at p = record { nodes = p.nodes; kids = p.kids ++ kid.Token at ∷ [] }
