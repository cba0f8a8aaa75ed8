-- One step of the walk over a tree.
use Rattle.std.proofs.Common.{◌≡◌, ℕ, List, [], ◌∷◌, ◌++◌, length, take, subst, sym, arith, ◌<◌, ◌∙◌, ap, append_assoc}
use Rattle.std.proofs.lemmas.List.{append-nil}
use Rattle.zig_tree.specs.declared.token.TokenKind.{TokenKind}
use Rattle.zig_tree.specs.declared.grammar.Rule.{Rule}
use Rattle.zig_tree.specs.declared.tree.Kid.{Kid}
use Rattle.zir_scope.specs.declared.bindings.Binding.{Binding}
use Rattle.zir_scope.specs.declared.event.Event.{Event}
use Rattle.zir_scope.specs.declared.facts.Fact.{Fact}
use Rattle.zir_scope.specs.declared.outline.Outline.{Outline}
use Rattle.zir_scope.specs.declared.place.Context.{Context}
use Rattle.zir_scope.specs.declared.place.Exit.{Exit}
use Rattle.zir_scope.specs.declared.roles.Role.{Role}
use Rattle.zir_scope.specs.Roles.{role_of, mark_of}
use Rattle.zir_scope.specs.Syntax.{Syntax, nothing, word, node, row_in}
use Rattle.zir_scope.specs.Scoping.{Place, word_events, past_word, past_node, changes_within, declared, end_events, within, walk, visited}
use Rattle.zir_scope.specs.State.{Seen, place, Extends}
use Rattle.zir_scope.proofs.Prefixes.{extends_all, extends_cut}

pub walk_end : (facts : List Fact) (p : Place) (found : List Event) → found ++ walk facts p nothing ≡ found
unfolding walk
walk_end facts p found = append-nil found

pub walk_done : (facts : List Fact) (p : Place) (found : List Event) (o : Outline) (rest : List Kid) → length rest < 1 → found ++ walk facts p (row_in o rest) ≡ found
unfolding row_in
walk_done facts p found o [] h = walk_end facts p found
walk_done facts p found o (k ∷ more) h = absurd (omega (arith, h))

-- a token is read
pub walk_word : (facts : List Fact) (p q : Place) (found now : List Event) (t : ℕ) (k : TokenKind) (more : Syntax)
    → now ≡ found ++ word_events facts p t (mark_of k) more → q ≡ past_word facts p t (mark_of k)
    → now ++ walk facts q more ≡ found ++ walk facts p (word t k more)
unfolding walk
walk_word facts p q found now t k more e a =
    ap (λ l. l ++ walk facts q more) e ∙ append_assoc found (word_events facts p t (mark_of k) more) (walk facts q more)
    ∙ ap (λ (x : Place). found ++ (word_events facts p t (mark_of k) more ++ walk facts x more)) a

-- a node is read, and all that it holds
pub walk_node : (facts : List Fact) (p q : Place) (found now : List Event) (r : Rule) (inside more : Syntax)
    → now ≡ found ++ visited facts p (role_of r) inside → q ≡ past_node facts p (role_of r) inside
    → now ++ walk facts q more ≡ found ++ walk facts p (node r inside more)
unfolding walk visited
walk_node facts p q found now r inside more e a =
    let here : List Event =
    declared facts p (role_of r) inside ++ changes_within facts (within facts p (role_of r) inside) (role_of r) inside
    ++ walk facts (within facts p (role_of r) inside) inside ++ end_events (role_of r) in
    ap (λ l. l ++ walk facts q more) e ∙ append_assoc found here (walk facts q more)
    ∙ ap (λ (x : Place). found ++ (here ++ walk facts x more)) a

-- a node is visited: what it declares, what it changes, what it holds, and what stands behind it
pub visit_step : (facts : List Fact) (o : Outline) (s0 s1 s2 c2 s3 s4 s5 : Seen) (context inner : Context) (r : Role) (inside : Syntax)
    → s1 ≡ record s0 { events = s0.events ++ declared facts (place o s0 context) r inside }
    → place o s2 inner ≡ within facts (place o s1 context) r inside
    → s2.events ≡ s1.events → Extends s1.locals s2.locals → Extends s1.members s2.members → Extends s1.exits s2.exits
    → c2 ≡ record s2 { events = s2.events ++ changes_within facts (place o s2 inner) r inside }
    → s3.events ≡ c2.events ++ walk facts (place o c2 inner) inside → s3.members ≡ c2.members → s3.exits ≡ c2.exits → Extends c2.locals s3.locals
    → s4 ≡ record s3 { locals = take (length s0.locals) s3.locals; members = take (length s0.members) s3.members; exits = take (length s0.exits) s3.exits }
    → s5 ≡ record s4 { events = s4.events ++ end_events r }
    → s5 ≡ record s0 { events = s0.events ++ visited facts (place o s0 context) r inside }
unfolding visited
visit_step facts o s0 s1 s2 c2 s3 s4 s5 context inner r inside before enters kept ls ms xs change walked msame xsame lgrow cut behind =
    let p : Place = place o s0 context in
    let q : Place = within facts p r inside in
    let heads : List Event = declared facts p r inside in
    let changing : List Event = changes_within facts q r inside in
    let inners : List Event = walk facts q inside in
    let around : place o s1 context ≡ p = ap (λ (s : Seen). place o s context) before in
    let begun : place o s2 inner ≡ q = enters ∙ ap (λ (x : Place). within facts x r inside) around in
    let still : place o c2 inner ≡ q = ap (λ (s : Seen). place o s inner) change ∙ begun in
    let l1 : s1.locals ≡ s0.locals = ap (λ (s : Seen). s.locals) before in
    let m1 : s1.members ≡ s0.members = ap (λ (s : Seen). s.members) before in
    let x1 : s1.exits ≡ s0.exits = ap (λ (s : Seen). s.exits) before in
    let e1 : s1.events ≡ s0.events ++ heads = ap (λ (s : Seen). s.events) before in
    let l2 : c2.locals ≡ s2.locals = ap (λ (s : Seen). s.locals) change in
    let m2 : c2.members ≡ s2.members = ap (λ (s : Seen). s.members) change in
    let x2 : c2.exits ≡ s2.exits = ap (λ (s : Seen). s.exits) change in
    let e2 : c2.events ≡ s0.events ++ (heads ++ changing) =
    ap (λ (s : Seen). s.events) change ∙ ap (λ (x : Place). s2.events ++ changes_within facts x r inside) begun
    ∙ ap (λ (l : List Event). l ++ changing) (kept ∙ e1) ∙ append_assoc s0.events heads changing in
    let l3 : Extends s1.locals s3.locals =
    extends_all s1.locals s2.locals s3.locals ls (subst (λ (l : List Binding). Extends l s3.locals) l2 lgrow) in
    let lcut : take (length s0.locals) s3.locals ≡ s0.locals =
    ap (λ (l : List Binding). take (length l) s3.locals) (sym l1) ∙ extends_cut s1.locals s3.locals l3 ∙ l1 in
    let mcut : take (length s0.members) s3.members ≡ s0.members =
    ap (λ (l : List Binding). take (length l) s3.members) (sym m1) ∙ ap (take (length s1.members)) (msame ∙ m2) ∙ extends_cut s1.members s2.members ms ∙ m1 in
    let xcut : take (length s0.exits) s3.exits ≡ s0.exits =
    ap (λ (l : List Exit). take (length l) s3.exits) (sym x1) ∙ ap (take (length s1.exits)) (xsame ∙ x2) ∙ extends_cut s1.exits s2.exits xs ∙ x1 in
    let e3 : s3.events ≡ s0.events ++ (heads ++ changing ++ inners) =
    walked ∙ ap (λ (x : Place). c2.events ++ walk facts x inside) still ∙ ap (λ (l : List Event). l ++ inners) e2
    ∙ append_assoc s0.events (heads ++ changing) inners in
    let e5 : s3.events ++ end_events r ≡ s0.events ++ (heads ++ changing ++ inners ++ end_events r) =
    ap (λ (l : List Event). l ++ end_events r) e3 ∙ append_assoc s0.events (heads ++ changing ++ inners) (end_events r) in
    behind ∙ ap (λ (s : Seen). record s { events = s.events ++ end_events r }) cut
    ∙ ap (λ (l : List Binding). record { locals = l; members = take (length s0.members) s3.members; exits = take (length s0.exits) s3.exits; events = s3.events ++ end_events r }) lcut
    ∙ ap (λ (l : List Binding). record { locals = s0.locals; members = l; exits = take (length s0.exits) s3.exits; events = s3.events ++ end_events r }) mcut
    ∙ ap (λ (l : List Exit). record { locals = s0.locals; members = s0.members; exits = l; events = s3.events ++ end_events r }) xcut
    ∙ ap (λ (l : List Event). record { locals = s0.locals; members = s0.members; exits = s0.exits; events = l }) e5

-- the same, by what is seen before and behind a token
pub word_step : (facts : List Fact) (o : Outline) (s0 s1 : Seen) (now then : Context) (t : ℕ) (k : TokenKind) (more : Syntax)
    → s1 ≡ record s0 { events = s0.events ++ word_events facts (place o s0 now) t (mark_of k) more }
    → ((s : Seen) → place o s then ≡ past_word facts (place o s now) t (mark_of k))
    → s1.events ++ walk facts (place o s1 then) more ≡ s0.events ++ walk facts (place o s0 now) (word t k more)
word_step facts o s0 s1 now then t k more h a =
    walk_word facts (place o s0 now) (place o s1 then) s0.events s1.events t k more (ap (λ (s : Seen). s.events) h)
    (a s1 ∙ ap (λ (s : Seen). past_word facts (place o s now) t (mark_of k)) h)

-- and behind a node
pub node_step : (facts : List Fact) (o : Outline) (s0 s1 s2 : Seen) (now then : Context) (r : Rule) (inside more : Syntax)
    → s1 ≡ record s0 { events = s0.events ++ visited facts (place o s0 now) (role_of r) inside }
    → s2.events ≡ s1.events → place o s2 then ≡ past_node facts (place o s1 now) (role_of r) inside
    → s2.events ++ walk facts (place o s2 then) more ≡ s0.events ++ walk facts (place o s0 now) (node r inside more)
node_step facts o s0 s1 s2 now then r inside more h e a =
    walk_node facts (place o s0 now) (place o s2 then) s0.events s2.events r inside more (e ∙ ap (λ (s : Seen). s.events) h)
    (a ∙ ap (λ (s : Seen). past_node facts (place o s now) (role_of r) inside) h)

pub ruleset walk_steps = (walk_end)
