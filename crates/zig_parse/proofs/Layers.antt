-- Where the tokens lie that a thread has read: what its open nodes hold of a tree, from the outermost one on.
use Rattle.std.proofs.Common.{◌≡◌, ℕ, ◌+◌, ◌-◌, ◌≤◌, Bool, true, false, List, [], ◌∷◌, ◌++◌, length, take, sym, ◌∙◌, ap, subst, arith, append_assoc, append-nil, length-append}
use Rattle.std.specs.Prelude.{suc, min, if◌then◌else◌, ◌&&◌, not}
use Rattle.zig_tree.specs.declared.grammar.Rule.{Rule}
use Rattle.zig_tree.specs.GrammarSentences.{Pieces, nothing, node, followed, makes_no_node_alone, is_one_node, made, height, token_depths, AreShallow}
use Rattle.zig_parse.specs.declared.thread.Frame.{Frame}
use Rattle.zig_parse.proofs.Shapes.{count}
use Rattle.zig_parse.proofs.Depths.{depths_followed, depths_length, words}

-- ---- pieces in a tree

-- the tokens of pieces, in a node at this depth, are those of a tree from this number on
abbrev pub Lays : List ℕ → ℕ → ℕ → Pieces → Type 0
Lays depths at depth p = (x : List ℕ) × (y : List ℕ) × (depths ≡ x ++ (token_depths depth p ++ y)) × (length x ≡ at)

pub lays_left : (depths : List ℕ) (at depth : ℕ) (p q : Pieces) → Lays depths at depth (followed p q) → Lays depths at depth p
lays_left depths at depth p q (x, y, e, l) = (
  x,
  token_depths depth q ++ y,
  e ∙ ap (λ (z : List ℕ). x ++ (z ++ y)) (depths_followed depth p q) ∙ ap (λ (z : List ℕ). x ++ z) (append_assoc (token_depths depth p) (token_depths depth q) y),
  l,
)

pub lays_right : (depths : List ℕ) (at depth : ℕ) (p q : Pieces) → Lays depths at depth (followed p q) → Lays depths (at + words p) depth q
lays_right depths at depth p q (x, y, e, l) = (
  x ++ token_depths depth p,
  y,
  e ∙ ap (λ (z : List ℕ). x ++ (z ++ y)) (depths_followed depth p q) ∙ ap (λ (z : List ℕ). x ++ z) (append_assoc (token_depths depth p) (token_depths depth q) y)
      ∙ sym (append_assoc x (token_depths depth p) (token_depths depth q ++ y)),
  omega (arith, l, length-append x (token_depths depth p), depths_length depth p),
)

lays_if : (depths : List ℕ) (at depth : ℕ) (b : Bool) (r : Rule) (p : Pieces) → Lays depths at depth (if b then p else node r p nothing) → Lays depths at (depth + count (not b)) p
lays_if depths at depth true r p h = subst (λ (d : ℕ). Lays depths at d p) (let e : depth ≡ depth + 0 = omega arith in e) h
lays_if depths at depth false r p (x, y, e, l) = (x, y, e ∙ ap (λ (z : List ℕ). x ++ (z ++ y)) (append-nil (token_depths (depth + 1) p)), l)

pub lays_made : (depths : List ℕ) (at depth : ℕ) (r : Rule) (p : Pieces) → Lays depths at depth (made r p) → Lays depths at (depth + count (not (makes_no_node_alone r && is_one_node p))) p
lays_made depths at depth r p h = lays_if depths at depth (makes_no_node_alone r && is_one_node p) r p h

shallow_joined : (n : ℕ) (xs ys : List ℕ) → AreShallow (take (length xs) (xs ++ ys)) → AreShallow (take n ys) → AreShallow (take (length xs + n) (xs ++ ys))
shallow_joined n [] ys h k = subst (λ (m : ℕ). AreShallow (take m ys)) (let e : n ≡ 0 + n = omega arith in e) k
shallow_joined n (x ∷ xs) ys h k = subst (λ (m : ℕ). AreShallow (take m (x ∷ (xs ++ ys)))) (let e : suc (length xs + n) ≡ length (x ∷ xs) + n = omega arith in e) (h.0, shallow_joined n xs ys h.1 k)

shallow_front : (xs ys : List ℕ) → AreShallow xs → AreShallow (take (length xs) (xs ++ ys))
shallow_front [] [] h = tt
shallow_front [] (y ∷ ys) h = tt
shallow_front (x ∷ xs) ys h = (h.0, shallow_front xs ys h.1)

-- where the tokens before pieces are shallow, and theirs are, those up to their end are
pub lays_shallow : (depths : List ℕ) (at depth : ℕ) (p : Pieces) → Lays depths at depth p → AreShallow (token_depths depth p) → AreShallow (take at depths) → AreShallow (take (at + words p) depths)
lays_shallow depths at depth p (x, y, e, l) h k =
    let tail = token_depths depth p ++ y in
    let before : AreShallow (take (length x) (x ++ tail)) = subst (λ (n : ℕ). AreShallow (take n (x ++ tail))) (sym l) (subst (λ (z : List ℕ). AreShallow (take at z)) e k) in
    let both = shallow_joined (length (token_depths depth p)) x tail before (shallow_front (token_depths depth p) y h) in
    subst (λ (n : ℕ). AreShallow (take n depths)) (let s : length x + length (token_depths depth p) ≡ at + words p = omega (arith, l, depths_length depth p) in s) (subst (λ (z : List ℕ). AreShallow (take (length x + length (token_depths depth p)) z)) (sym e) both)

-- ---- open nodes

-- how deep each token of a tree lies, the number of the first token of the innermost brace, and how deep the
-- node lies around what stands in it
pub record Spot : Type 0 where
  pub depths : List ℕ
  pub start : ℕ
  pub base : ℕ

-- in the file itself
abbrev pub root_spot : List ℕ → Spot
root_spot depths = record { depths = depths; start = 0; base = 0 }

-- in the brace at this number, of a node that lies so deep
abbrev pub inside_spot : Spot → ℕ → ℕ → Spot
inside_spot spot at base = record { depths = spot.depths; start = at; base = base }

-- Open nodes, the innermost first, with what each holds of the tree up to the token of this number: it counts
-- no fewer nodes below it, up to 1000. The innermost one lies at this depth in the tree, and so many of them
-- are none as yet that are nodes of the tree.
pub data Layers (spot : Spot) : List Frame → ℕ → ℕ → ℕ → Type 0 where
  layers_none : Layers spot [] spot.start spot.base 0
  layers_more : (fs : List Frame) (at depth loose : ℕ) (f : Frame) (had : Pieces) (is_node : Bool)
      → Layers spot fs at depth loose → (f.solid ≡ true → is_node ≡ true) → min (height had) 1000 ≤ f.height → Lays spot.depths at (depth + count is_node) had
      → Layers spot (f ∷ fs) (at + words had) (depth + count is_node) (loose + (count is_node - count f.solid))
