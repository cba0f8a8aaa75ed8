-- Forks after a value was put into one of their trees.
use Rattle.std.proofs.Common.{◌≡◌, ◌≢◌, ℕ, Some, None, Option, ◌-◌, ◌/◌, ◌%◌, refl, sym, ◌∙◌, ap, arith}
use Rattle.std.proofs.lemmas.Bool.Decides.{nat_tests}
use Rattle.std.specs.declared.alloc.Global.{Global}
use Rattle.std.specs.declared.sync.Arc.{Arc}
use Rattle.trace_log.specs.declared.tables.table.Node.{Node, fold-roll-Node, map-Node}
use Rattle.trace_log.specs.declared.tables.table.Node.TheOpen as layer
use Rattle.trace_log.specs.declared.tables.table.Node.TheVariants as node
use Rattle.trace_log.specs.Tables.{forked, layer_get, link_get, node_get, PutsAt}

pub put-odd : {T : Type 0} (here v : Option T) (odd odd' even even' : ℕ → Option T) (m : ℕ) → m % 2 ≡ 1
    → PutsAt odd odd' (m / 2) v → ((n : ℕ) → even' n ≡ even n) → PutsAt (forked here odd even) (forked here odd' even') m v
put-odd here v odd odd' even even' m h p q = λ n. let a = p (n / 2) in let b = q (n / 2 - 1) in grind (arith, nat_tests)

pub put-even : {T : Type 0} (here v : Option T) (odd odd' even even' : ℕ → Option T) (m : ℕ) → m ≢ 0 → m % 2 ≢ 1
    → PutsAt even even' (m / 2 - 1) v → ((n : ℕ) → odd' n ≡ odd n) → PutsAt (forked here odd even) (forked here odd' even') m v
put-even here v odd odd' even even' m z h p q = λ n. let a = p (n / 2 - 1) in let b = q (n / 2) in grind (arith, nat_tests)

pub node-fork : {T : Type 0} (here : Option T) (odd even : Option (Arc (Node T) Global)) (n : ℕ) → node_get (node.Fork here odd even) n ≡ forked here (link_get odd) (link_get even) n
node-fork {T = T} here odd even n =
    ap (λ (x : Node T). node_get x n) (sym (node.rolls-Fork here odd even))
    ∙ (ap (λ (f : ℕ → Option T). f n) (fold-roll-Node T (ℕ → Option T) layer_get (layer.Fork here odd even)) ∙ parts odd even)
  where
    parts : (o e : Option (Arc (Node T) Global)) → layer_get (map-Node T (Node T) (ℕ → Option T) node_get (layer.Fork here o e)) n ≡ forked here (link_get o) (link_get e) n
    parts None None = refl
    parts None (Some e) = refl
    parts (Some o) None = refl
    parts (Some o) (Some e) = refl

-- a fork with a value put into its odd tree
pub fork-put-odd : {T : Type 0} (here here' v : Option T) (odd even even' : Option (Arc (Node T) Global)) (a : Arc (Node T) Global) (t : Node T) (m : ℕ)
    → m % 2 ≡ 1 → a.value ≡ t → here' ≡ here → PutsAt (link_get odd) (node_get t) (m / 2) v → ((n : ℕ) → link_get even' n ≡ link_get even n)
    → PutsAt (forked here (link_get odd) (link_get even)) (node_get (node.Fork here' (Some a) even')) m v
fork-put-odd here here' v odd even even' a t m h at_a same p q = λ n.
    node-fork here' (Some a) even' n
    ∙ (ap (λ o. forked o (link_get (Some a)) (link_get even') n) same
    ∙ put-odd here v (link_get odd) (link_get (Some a)) (link_get even) (link_get even') m h (λ k. ap (λ x. node_get x k) at_a ∙ p k) q n)

-- and one into its even tree
pub fork-put-even : {T : Type 0} (here here' v : Option T) (odd odd' even : Option (Arc (Node T) Global)) (a : Arc (Node T) Global) (t : Node T) (m : ℕ)
    → m ≢ 0 → m % 2 ≢ 1 → a.value ≡ t → here' ≡ here → PutsAt (link_get even) (node_get t) (m / 2 - 1) v → ((n : ℕ) → link_get odd' n ≡ link_get odd n)
    → PutsAt (forked here (link_get odd) (link_get even)) (node_get (node.Fork here' odd' (Some a))) m v
fork-put-even here here' v odd odd' even a t m z h at_a same p q = λ n.
    node-fork here' odd' (Some a) n
    ∙ (ap (λ o. forked o (link_get odd') (link_get (Some a)) n) same
    ∙ put-even here v (link_get odd) (link_get odd') (link_get even) (link_get (Some a)) m z h (λ k. ap (λ x. node_get x k) at_a ∙ p k) q n)
