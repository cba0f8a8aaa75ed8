-- Nodes spell one row of pieces.
use Rattle.std.proofs.Common.{◌≡◌, ℕ, ◌+◌, List, [], ◌∷◌, Some, refl, sym, ◌∙◌, ap, subst}
use Rattle.std.specs.Prelude.{slice_get}
use Rattle.zig_tree.specs.declared.token.Token.{Token}
use Rattle.zig_tree.specs.declared.tree.Kid.{Kid}
use Rattle.zig_tree.specs.declared.tree.Kid.TheVariants as kid
use Rattle.zig_tree.specs.declared.tree.Node.{Node}
use Rattle.zig_tree.specs.GrammarSentences.{Pieces, nothing, word, node}
use Rattle.zig_parse.specs.Trees.{Spells, spells_nothing, spells_token, spells_node}

none_spelled : (tokens : List Token) (nodes : List Node) (kids : List Kid) (a b : ℕ) (p : Pieces) → Spells tokens nodes kids a b p → kids ≡ [] → (p ≡ nothing) × (b ≡ a)
none_spelled tokens nodes kids a b p (spells_nothing _) e = (refl, refl)
none_spelled tokens nodes kids a b p (spells_token _ _ t ks later h s) e = absurd (cc)
none_spelled tokens nodes kids a b p (spells_node number _ next _ n ks inside later h l f s t) e = absurd (cc)

-- what a token, and what comes after it, spells
record TokenSpelled (tokens : List Token) (nodes : List Node) (ks : List Kid) (a b : ℕ) (p : Pieces) : Type 0 where
  t : Token
  later : Pieces
  there : slice_get tokens a ≡ Some t
  spelled : Spells tokens nodes ks (a + 1) b later
  same : p ≡ word t.kind later

token_spelled : (tokens : List Token) (nodes : List Node) (kids : List Kid) (a b : ℕ) (p : Pieces) (x : ℕ) (ks : List Kid) → Spells tokens nodes kids a b p → kids ≡ kid.Token x ∷ ks → TokenSpelled tokens nodes ks a b p
token_spelled tokens nodes kids a b p x ks (spells_nothing _) e = absurd (cc)
token_spelled tokens nodes kids a b p x ks (spells_token _ _ t more later h s) e =
    let same : more ≡ ks = cc in record { t = t; later = later; there = h; spelled = subst (λ (l : List Kid). Spells tokens nodes l (a + 1) b later) same s; same = refl }
token_spelled tokens nodes kids a b p x ks (spells_node number _ next _ n more inside later h l f s t) e = absurd (cc)

-- what a node, and what comes after it, spells
record NodeSpelled (tokens : List Token) (nodes : List Node) (number : ℕ) (ks : List Kid) (a b : ℕ) (p : Pieces) : Type 0 where
  n : Node
  next : ℕ
  inside : Pieces
  later : Pieces
  there : slice_get nodes number ≡ Some n
  first : Spells tokens nodes n.kids a next inside
  others : Spells tokens nodes ks next b later
  same : p ≡ node n.rule inside later

node_spelled : (tokens : List Token) (nodes : List Node) (kids : List Kid) (a b : ℕ) (p : Pieces) (x : ℕ) (ks : List Kid) → Spells tokens nodes kids a b p → kids ≡ kid.Node x ∷ ks → NodeSpelled tokens nodes x ks a b p
node_spelled tokens nodes kids a b p x ks (spells_nothing _) e = absurd (cc)
node_spelled tokens nodes kids a b p x ks (spells_token _ _ t more later h s) e = absurd (cc)
node_spelled tokens nodes kids a b p x ks (spells_node number _ next _ n more inside later h l f s t) e =
    let same : more ≡ ks = cc in
    let number_as : number ≡ x = cc in
    record {
      n = n;
      next = next;
      inside = inside;
      later = later;
      there = ap (slice_get nodes) (sym number_as) ∙ h;
      first = s;
      others = subst (λ (l : List Kid). Spells tokens nodes l next b later) same t;
      same = refl;
    }

-- from one token the same nodes spell the same, up to the same token
pub spells_same : (tokens : List Token) (nodes : List Node) (kids : List Kid) (a b c : ℕ) (p q : Pieces) → Spells tokens nodes kids a b p → Spells tokens nodes kids a c q → (p ≡ q) × (b ≡ c)
spells_same tokens nodes kids a b c p q (spells_nothing _) e = let n = none_spelled tokens nodes [] a c q e refl in (sym n.0, sym n.1)
spells_same tokens nodes kids a b c p q (spells_token _ _ t ks later h s) e =
    let n = token_spelled tokens nodes (kid.Token a ∷ ks) a c q a ks e refl in
    let token : t ≡ n.t = (let both : Some t ≡ Some n.t = sym h ∙ n.there in cc) in
    let more = spells_same tokens nodes ks (a + 1) b c later n.later s n.spelled in
    (ap (λ (x : Token). word x.kind later) token ∙ ap (word n.t.kind) more.0 ∙ sym n.same, more.1)
spells_same tokens nodes kids a b c p q (spells_node number _ next _ m ks inside later h l f s t) e =
    let n = node_spelled tokens nodes (kid.Node number ∷ ks) a c q number ks e refl in
    let one : m ≡ n.n = (let both : Some m ≡ Some n.n = sym h ∙ n.there in cc) in
    let first = spells_same tokens nodes m.kids a next n.next inside n.inside s (subst (λ (x : Node). Spells tokens nodes x.kids a n.next n.inside) (sym one) n.first) in
    let more = spells_same tokens nodes ks next b c later n.later t (subst (λ (x : ℕ). Spells tokens nodes ks x c n.later) (sym first.1) n.others) in
    (ap (λ (x : Node). node x.rule inside later) one ∙ ap (λ (x : Pieces). node n.n.rule x later) first.0 ∙ ap (node n.n.rule n.inside) more.0 ∙ sym n.same, more.1)
