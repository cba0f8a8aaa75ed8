-- Where each open node is a node as yet, or is none in the tree, the tokens that a thread has read lie no deeper
-- than it counts.
use Rattle.std.proofs.Common.{◌≡◌, ℕ, ◌+◌, ◌-◌, ◌≤◌, Bool, true, false, List, [], ◌∷◌, take, refl, arith}
use Rattle.zig_tree.specs.GrammarSentences.{AreShallow}
use Rattle.zig_parse.specs.declared.thread.Frame.{Frame}
use Rattle.zig_parse.proofs.Shapes.{count}
use Rattle.zig_parse.proofs.Depths.{shallow_tree}
use Rattle.zig_parse.proofs.Layers.{Layers, Spot, layers_more, layers_none, lays_shallow}
use Rattle.zig_parse.proofs.Budgets.{Within}
use Rattle.zig_tree.specs.declared.tree.TheConstants.{DEPTH_LIMIT}

-- the nodes around lie no deeper than the innermost one
pub within_base : (base n : ℕ) (fs : List Frame) → Within base n fs → base ≤ n
within_base base n [] w = omega arith
within_base base n (f ∷ fs) w = omega (arith, within_base base (n - count f.solid) fs w.2)

same_count : (x y : Bool) → (x ≡ true → y ≡ true) → count y - count x ≡ 0 → count y ≡ count x
same_count true true f e = refl
same_count true false f e = let wrong = f refl in absurd (cc)
same_count false true f e = absurd (omega (arith, e))
same_count false false f e = refl

pub firm_low : (spot : Spot) (base n : ℕ) (fs : List Frame) (at depth loose : ℕ) → Layers spot fs at depth loose → loose ≡ 0 → Within base n fs → spot.base ≤ base → n ≤ DEPTH_LIMIT → AreShallow (take spot.start spot.depths)
    → AreShallow (take at spot.depths) × (depth ≤ n)
firm_low spot base n fs at depth loose layers_none firm w b l h = (h, omega (arith, w, b))
firm_low spot base n fs at depth loose (layers_more gs start outer less f had is_node layers solid high lays) firm w b l h =
    let same = same_count f.solid is_node solid (omega (arith, firm)) in
    let around = firm_low spot base (n - count f.solid) gs start outer less layers (omega (arith, firm)) w.2 b (omega arith) h in
    (lays_shallow spot.depths start (outer + count is_node) had lays (shallow_tree (outer + count is_node) had (omega (arith, same, around.1, w.0, w.1, high, l))) around.0, omega (arith, same, around.1, w.1))
