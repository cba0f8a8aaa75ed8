-- The innermost open node has all that it will hold, and is closed.
use Rattle.std.proofs.Common.{◌≡◌, ℕ, ◌<◌, ◌≤◌, Bool, true, false, inl, inr, List, [], ◌∷◌, ◌++◌, length, refl, sym, ◌∙◌, ap, subst, arith, append_assoc, length-append}
use Rattle.std.specs.Prelude.{if◌then◌else◌, ◌^◌}
use Rattle.zig_tree.specs.declared.token.Token.{Token}
use Rattle.zig_tree.specs.declared.grammar.Rule.{Rule}
use Rattle.zig_tree.specs.declared.tree.Kid.{Kid}
use Rattle.zig_tree.specs.declared.tree.Kid.TheVariants as kid
use Rattle.zig_tree.specs.declared.tree.Node.{Node}
use Rattle.zig_tree.specs.GrammarSentences.{Pieces, nothing, node, followed, made, height}
use Rattle.zig_parse.specs.declared.thread.Item.{Item}
use Rattle.zig_parse.specs.declared.thread.Thread.{Thread}
use Rattle.zig_parse.specs.Threads.{one_more, part_height, with_part}
use Rattle.zig_parse.specs.Nodes.{Parts, with_node}
use Rattle.zig_parse.specs.Growth.{Grown, shut}
use Rattle.zig_parse.specs.Trees.{Spells, spells_nothing, spells_node}
use Rattle.zig_parse.proofs.Spelled.{amount, got_last, spells_amount, spells_joined, spells_more, spells_span, spells_within}
use Rattle.zig_parse.proofs.Story.{height_followed, lone_piece, made_lone, made_one, not_nothing, one_amount}
use Rattle.zig_parse.proofs.Closing.{Shut, around, closed_around, cut_as, depth_as, node_of, same_parts}
use Rattle.zig_parse.proofs.Sound.{shut_is}
use Rattle.zig_parse.proofs.Growing.{Place, State, opened_place}

-- a node that is none of the tree's holds one part
record Lone (made_of pieces : Pieces) (own : List Kid) : Type 0 where
  same : made_of ≡ pieces
  one : length own ≡ 1

lone_node : (tokens : List Token) (at : ℕ) (g : Grown) (l : Place) (items : List Item) (s : State tokens at g l items l.whole) → l.from < at → s.f.solid ≡ false → Lone (made l.r l.whole) l.whole s.own
lone_node tokens at g l items s some soft =
    let a = s.alone soft in
    let have = spells_amount tokens g.parts.nodes s.own l.from at l.whole s.spelled in
    let filled = not_nothing tokens g.parts.nodes s.own l.from at l.whole s.spelled some in
    elim a.1 [
      | inl none ↦ absurd (omega (arith, ap amount none))
      | inr one ↦ record { same = made_lone l.r l.whole a.0 one; one = omega (arith, one_amount l.whole one) }
    ]

shut_solid : (tokens : List Token) (at : ℕ) (g : Grown) (l : Place) (items : List Item) (s : State tokens at g l items l.whole) → l.from < at → s.f.solid ≡ true → Shut tokens g.parts (with_node tokens s.f.rule s.f.parts g.parts) l.others l.from at (made l.r l.whole) true
unfolding node_of
shut_solid tokens at g l items s some hard =
    let nodes = g.parts.nodes in
    let n = node_of tokens s.f.rule nodes s.own in
    let same : node s.f.rule l.whole nothing ≡ made l.r l.whole = ap (λ (x : Rule). node x l.whole nothing) s.rule_is ∙ sym (s.solid hard) in
    record {
      more = n ∷ [];
      lone = kid.Node (length nodes) ∷ [];
      same = cut_as tokens s.f.rule g.parts l.others s.own s.f.parts s.kids s.counted;
      spelled = subst (Spells tokens (nodes ++ n ∷ []) (kid.Node (length nodes) ∷ []) l.from at) same
          (spells_node (length nodes) l.from at at n [] l.whole nothing (got_last nodes n) some (spells_span tokens nodes s.own l.from at l.whole s.spelled some)
          (spells_more tokens nodes (n ∷ []) s.own l.from at l.whole s.spelled) (spells_nothing at));
      one = refl;
      last = λ e. (refl, refl);
    }

shut_soft : (tokens : List Token) (at : ℕ) (g : Grown) (l : Place) (items : List Item) (s : State tokens at g l items l.whole) → l.from < at → s.f.solid ≡ false → Shut tokens g.parts g.parts l.others l.from at (made l.r l.whole) false
shut_soft tokens at g l items s some soft =
    let lone = lone_node tokens at g l items s some soft in
    record {
      more = [];
      lone = s.own;
      same = same_parts g.parts l.others s.own s.kids;
      spelled = subst (Spells tokens (g.parts.nodes ++ []) s.own l.from at) (sym lone.same) (spells_more tokens g.parts.nodes [] s.own l.from at l.whole s.spelled);
      one = lone.one;
      last = λ e. absurd (cc);
    }

shut_by : (tokens : List Token) (at : ℕ) (g : Grown) (l : Place) (items : List Item) (s : State tokens at g l items l.whole) → l.from < at → (b : Bool) → s.f.solid ≡ b
    → Shut tokens g.parts (if b then with_node tokens s.f.rule s.f.parts g.parts else g.parts) l.others l.from at (made l.r l.whole) b
shut_by tokens at g l items s some true e = shut_solid tokens at g l items s some e
shut_by tokens at g l items s some false e = shut_soft tokens at g l items s some e

-- what the nodes and kids are after it is closed
pub gathered : (tokens : List Token) (at : ℕ) (g : Grown) (l : Place) (items : List Item) (s : State tokens at g l items l.whole) → l.from < at
    → Shut tokens g.parts (if s.f.solid then with_node tokens s.f.rule s.f.parts g.parts else g.parts) l.others l.from at (made l.r l.whole) s.f.solid
gathered tokens at g l items s some = shut_by tokens at g l items s some s.f.solid refl

-- how many nodes it is one in the other
tall_part : (tokens : List Token) (at : ℕ) (g : Grown) (l : Place) (items : List Item) (s : State tokens at g l items l.whole) → l.from < at → l.told ≡ true → part_height s.f ≡ height (made l.r l.whole)
tall_part tokens at g l items s some t = by s.f.solid refl
  where
    by : (b : Bool) → s.f.solid ≡ b → (if b then one_more s.f.height else s.f.height) ≡ height (made l.r l.whole)
    by true e = (let low = l.low t in omega (arith, s.tall t, ap height (s.solid e)))
    by false e = (let lone = lone_node tokens at g l items s some e in omega (arith, s.tall t, ap height lone.same))

-- the state once it is closed
pub record Gathered (tokens : List Token) (at : ℕ) (before after : Grown) (l : Place) (items : List Item) (had : Pieces) : Type 0 where
  pub more : List Node
  pub nodes : after.parts.nodes ≡ before.parts.nodes ++ more
  pub state : State tokens at after l items had

pub close_state : (tokens : List Token) (start at : ℕ) (b g : Grown) (l : Place) (r : Rule) (items : List Item) (had inside more : Pieces) (news : List Node) (s : State tokens start b l items had) → (s.f.solid ≡ false → length s.own ≡ 0)
    → (e : l.whole ≡ followed had (followed (made r inside) more)) → (i : State tokens at g (opened_place tokens start b l r items had inside more s e) items inside) → g.parts.nodes ≡ b.parts.nodes ++ news → start < at → at ≤ length tokens → length tokens < 2 ^ 32
    → Gathered tokens at b (shut tokens g) l items (followed had (made r inside))
unfolding opened_place
close_state tokens start at b g l r items had inside more news s waits e i grown some end fits =
    let o = opened_place tokens start b l r items had inside more s e in
    let h = gathered tokens at g o items i some in
    let nodes = g.parts.nodes ++ h.more in
    let parts : Parts = record { nodes = nodes; kids = b.parts.kids ++ h.lone } in
    let u = around g.thread i.f s.f l.fs in
    let nodes_as : nodes ≡ b.parts.nodes ++ (news ++ h.more) = ap (λ (x : List Node). x ++ h.more) grown ∙ append_assoc b.parts.nodes news h.more in
    let mine : Spells tokens nodes s.own l.from start had = subst (λ (x : List Node). Spells tokens x s.own l.from start had) (sym nodes_as) (spells_more tokens b.parts.nodes (news ++ h.more) s.own l.from start had s.spelled) in
    let within = spells_within tokens b.parts.nodes s.own l.from start had s.spelled in
    let state : State tokens at (record { thread = u; parts = parts }) l items (followed had (made r inside)) = record {
      f = with_part (part_height i.f) s.f;
      own = s.own ++ h.lone;
      rule_is = s.rule_is;
      frames = refl;
      items_are = i.items_are;
      kids = ap (λ (x : List Kid). x ++ h.lone) s.kids ∙ append_assoc l.others s.own h.lone;
      depth = λ t. depth_as i.f.solid g.thread.depth b.thread.depth (i.depth t) ∙ s.depth t;
      calm = i.calm;
      spelled = spells_joined tokens nodes s.own h.lone l.from start at had (made r inside) mine h.spelled;
      counted = omega (arith, s.counted, h.one, length-append s.own h.lone);
      tall = λ t. omega (arith, s.tall t, tall_part tokens at g o items i some t, height_followed had (made r inside));
      solid = s.solid;
      alone = λ x. ((s.alone x).0, inr (lone_piece tokens nodes s.own l.from start had (made r inside) mine (waits x) (made_one r inside)));
    } in
    let is : shut tokens g ≡ record { thread = u; parts = parts } = shut_is tokens g i.f (s.f ∷ l.fs) i.frames ∙ both u parts (closed_around g.thread i.f s.f l.fs i.frames) h.same in
    subst (λ (x : Grown). Gathered tokens at b x l items (followed had (made r inside))) (sym is) (record { more = news ++ h.more; nodes = nodes_as; state = state })
  where
    both : {u : Thread} {ps : Parts} (t : Thread) (parts : Parts) → u ≡ t → ps ≡ parts → ◌≡◌ {A = Grown} (record { thread = u; parts = ps }) (record { thread = t; parts = parts })
    both t parts h k = rw (h, k) refl
