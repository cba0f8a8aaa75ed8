-- Lists of nodes in which each node stands after those that it holds.
use Rattle.std.proofs.Common.{◌≡◌, ℕ, zero, suc, ◌+◌, Bool, true, false, ◌&&◌, List, [], ◌∷◌, ◌++◌, length, take, drop, refl, subst, arith, nat_lt, add-zero, zero-add}
use Rattle.std.proofs.lemmas.Bool.Decides.{nat_tests}
use Rattle.zig_tree.specs.declared.tree.Kid.{Kid}
use Rattle.zig_tree.specs.declared.tree.Kid.TheVariants as kid
use Rattle.zig_tree.specs.declared.tree.Node.{Node}
use Rattle.zig_tree.specs.Nodes.{is_earlier, are_earlier, all_earlier, AreEarlier}

and_both : (a b : Bool) → a ≡ true → b ≡ true → a && b ≡ true
and_both a b p q = rw (p, q) refl

and_first : (a b : Bool) → a && b ≡ true → a ≡ true
and_first true b h = refl
and_first false b h = h

and_second : (a b : Bool) → a && b ≡ true → b ≡ true
and_second true b h = h
and_second false b h = cc

pub earlier_append : (n : ℕ) (a b : List Kid) → are_earlier n a ≡ true → are_earlier n b ≡ true → are_earlier n (a ++ b) ≡ true
earlier_append n [] b h k = k
earlier_append n (x ∷ a) b h k = and_both _ _ (and_first (is_earlier n x) (are_earlier n a) h) (earlier_append n a b (and_second (is_earlier n x) (are_earlier n a) h) k)

pub earlier_take : (n k : ℕ) (a : List Kid) → are_earlier n a ≡ true → are_earlier n (take k a) ≡ true
earlier_take n zero a h = refl
earlier_take n (suc k) [] h = refl
earlier_take n (suc k) (x ∷ a) h = and_both _ _ (and_first (is_earlier n x) (are_earlier n a) h) (earlier_take n k a (and_second (is_earlier n x) (are_earlier n a) h))

pub earlier_drop : (n k : ℕ) (a : List Kid) → are_earlier n a ≡ true → are_earlier n (drop k a) ≡ true
earlier_drop n zero a h = h
earlier_drop n (suc k) [] h = refl
earlier_drop n (suc k) (x ∷ a) h = earlier_drop n k a (and_second (is_earlier n x) (are_earlier n a) h)

still_earlier : (n : ℕ) (x : Kid) → is_earlier n x ≡ true → is_earlier (n + 1) x ≡ true
still_earlier n (kid.Token at) h = refl
still_earlier n (kid.Node k) h = grind (arith, nat_tests)

pub earlier_more : (n : ℕ) (a : List Kid) → are_earlier n a ≡ true → are_earlier (n + 1) a ≡ true
earlier_more n [] h = refl
earlier_more n (x ∷ a) h = and_both _ _ (still_earlier n x (and_first (is_earlier n x) (are_earlier n a) h)) (earlier_more n a (and_second (is_earlier n x) (are_earlier n a) h))

pub all_append : (first : ℕ) (ns : List Node) (n : Node) → all_earlier first ns ≡ true → are_earlier (first + length ns) n.kids ≡ true → all_earlier first (ns ++ n ∷ []) ≡ true
all_append first [] n h k = and_both _ _ (rw add-zero at k) refl
all_append first (m ∷ ns) n h k =
    let same : first + suc (length ns) ≡ first + 1 + length ns = omega arith in
    and_both _ _ (and_first (are_earlier first m.kids) (all_earlier (first + 1) ns) h)
    (all_append (first + 1) ns n (and_second (are_earlier first m.kids) (all_earlier (first + 1) ns) h) (subst (λ (k : ℕ). are_earlier k n.kids ≡ true) same k))

pub nodes_append : (ns : List Node) (n : Node) → AreEarlier ns → are_earlier (length ns) n.kids ≡ true → AreEarlier (ns ++ n ∷ [])
nodes_append ns n h k = all_append 0 ns n h (rw zero-add k)

pub push_token : (n at : ℕ) (ks : List Kid) → are_earlier n ks ≡ true → are_earlier n (ks ++ kid.Token at ∷ []) ≡ true
push_token n at ks h = earlier_append n ks (kid.Token at ∷ []) h refl

below_next : (n : ℕ) → nat_lt n (n + 1) ≡ true
below_next n = grind (arith, nat_tests)

pub push_node : (n : ℕ) (ks : List Kid) → are_earlier n ks ≡ true → are_earlier (n + 1) (ks ++ kid.Node n ∷ []) ≡ true
push_node n ks h = earlier_append (n + 1) ks (kid.Node n ∷ []) (earlier_more n ks h) (and_both _ _ (below_next n) refl)

pub ruleset earlier_steps = (earlier_take, earlier_drop, earlier_more, nodes_append, push_token, push_node)
