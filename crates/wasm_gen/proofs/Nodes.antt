-- Nodes that are there, and the tree of one that is not.
use Rattle.std.proofs.Common.{◌≡◌, ℕ, zero, suc, ◌+◌, ◌≤◌, List, [], ◌∷◌, ◌++◌, length, length-append, Some, None, sym, subst, ◌∙◌, arith, add-zero, zero-add}
use Rattle.std.proofs.lemmas.List.{get_or_past}
use Rattle.std.specs.Prelude.{All, slice_get}
use Rattle.type_form.specs.Known.{Known}
use Rattle.air_form.specs.declared.node.AirRef.{AirRef}
use Rattle.air_form.specs.declared.node.AirNode.{AirNode}
use Rattle.air_form.specs.Nodes.{IsNode}
use Rattle.air_form.specs.Typed as typed
use Rattle.air_form.specs.Denote.{Air, air_at, of_statement, over_nodes, tree_at, trees_after, trees_of}
use Rattle.air_form.proofs.Trees.{All-head, All-tail}

after-length : (k : Known) (trees : List Air) (nodes : List AirNode) → length (trees_after k trees nodes) ≡ length trees + length nodes
after-length k trees [] = sym (add-zero (length trees))
after-length k trees (n ∷ more) =
    let t : Air = over_nodes k (tree_at trees) n in
    let one : length (trees ++ t ∷ []) ≡ length trees + 1 = length-append trees (t ∷ []) in
    let later : length (trees_after k (trees ++ t ∷ []) more) ≡ length (trees ++ t ∷ []) + length more = after-length k (trees ++ t ∷ []) more in
    later ∙ omega (arith, one)

past-end : {A : Type 0} (xs : List A) (i : ℕ) → slice_get xs i ≡ None → length xs ≤ i
past-end [] i e = omega arith
past-end (x ∷ xs) zero e = absurd (cc)
past-end (x ∷ xs) (suc i) e = let h : length xs ≤ i = past-end xs i e in omega (arith, h)

-- a node that is not there is read as a statement that has no template
pub no-node : (k : Known) (nodes : List AirNode) (r : AirRef) → slice_get nodes r.0 ≡ None → air_at k nodes r ≡ of_statement typed.trap
unfolding air_at trees_of
no-node k nodes r e =
    let many : length (trees_after k [] nodes) ≡ length nodes = after-length k [] nodes ∙ zero-add (length nodes) in
    let end : length nodes ≤ r.0 = past-end nodes r.0 e in
    get_or_past (trees_after k [] nodes) r.0 (of_statement typed.trap) (omega (arith, many, end))

some-same : (a b : AirNode) → Some a ≡ Some b → a ≡ b
some-same a b h = cc

-- the indices of a node that is there are known
pub node-known : (k : Known) (nodes : List AirNode) (i : ℕ) (n : AirNode) → All (IsNode k) nodes → slice_get nodes i ≡ Some n → IsNode k n
node-known k [] i n h e = absurd (cc)
node-known k (m ∷ ms) zero n h e = subst (IsNode k) (some-same m n e) (All-head (IsNode k) m ms h)
node-known k (m ∷ ms) (suc i) n h e = node-known k ms i n (All-tail (IsNode k) m ms h) e
