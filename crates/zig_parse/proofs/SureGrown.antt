-- With marks that name the choices of a sure tree, no deeper than 200 nodes, the second pass gives nodes that
-- spell that very tree.
use Rattle.std.proofs.Common.{◌≡◌, ℕ, ◌+◌, ◌-◌, ◌<◌, ◌≤◌, Bool, true, false, ◌⊎◌, inl, inr, List, [], ◌∷◌, ◌++◌, length, Result, Ok, Err, refl, sym, ◌∙◌, ap, subst, arith, append-nil, length-append, length-drop}
use Rattle.std.specs.Prelude.{if◌then◌else◌, ◌^◌, nat_eq, replicate}
use Rattle.std.proofs.lemmas.Bool.{eq-eqb}
use Rattle.zig_tree.specs.declared.token.Token.{Token}
use Rattle.zig_tree.specs.declared.token.TokenKind.{TokenKind}
use Rattle.zig_tree.specs.declared.token.TokenKind.TheVariants.{End}
use Rattle.zig_tree.specs.declared.grammar.Rule.TheVariants as rule
use Rattle.zig_tree.specs.declared.grammar.Group.TheVariants as group
use Rattle.zig_tree.specs.declared.grammar.When.TheVariants as when
use Rattle.zig_tree.specs.declared.grammar.Part.{Part}
use Rattle.zig_tree.specs.declared.grammar.Part.TheVariants as part
use Rattle.zig_tree.specs.declared.tree.Kid.{Kid}
use Rattle.zig_tree.specs.declared.tree.Kid.TheVariants as kid
use Rattle.zig_tree.specs.declared.tree.Node.{Node}
use Rattle.zig_tree.specs.Grammar.{Alternative, row, rule_rows}
use Rattle.zig_tree.specs.GrammarSentences.{Pieces, nothing, word, followed, made, makes_no_node_alone, is_one_node, height, open_at}
use Rattle.zig_parse.specs.declared.thread.Frame.{Frame}
use Rattle.zig_parse.specs.declared.thread.Item.{Item}
use Rattle.zig_parse.specs.declared.fault.SyntaxFault.{SyntaxFault}
use Rattle.zig_parse.specs.declared.fault.SyntaxFault.TheVariants.{Unexpected, TooDeep}
use Rattle.zig_parse.specs.Threads.{collapses, fresh, is_braced, item, opened, put}
use Rattle.zig_parse.specs.Choices.{choices, matching}
use Rattle.zig_parse.specs.Nodes.{Parts}
use Rattle.zig_parse.specs.Passes.{begun}
use Rattle.zig_parse.specs.Surveys.{first_state, look_at, surveyed}
use Rattle.zig_parse.specs.Growth.{Grown, all_read, all_shut, grown_from, nodes_or, parse_of, shut, sprout, whole, ◌>>=◌}
use Rattle.zig_parse.specs.Trees.{HoldsAll, Spells, kinds_of, spells_nothing}
use Rattle.zig_parse.proofs.Derived.{followed_nothing, no_longer}
use Rattle.zig_parse.proofs.Tokens.{all_read_end}
use Rattle.zig_parse.proofs.Sound.{shut_is}
use Rattle.zig_parse.specs.Ways.{Fork, Sure, Taken, noted, sure_none, sure_token, sure_group, sure_rule, sure_group_apart, sure_rule_apart, taken_sole, taken_first, taken_second}
use Rattle.zig_parse.proofs.SpelledOnce.{spells_same}
use Rattle.zig_parse.proofs.Runs.{run_or, run_read, run_whole, run_within}
use Rattle.zig_parse.proofs.Growing.{Place, State, coming}
use Rattle.zig_parse.proofs.Gathered.{gathered}
use Rattle.zig_parse.proofs.Goes.{After, Goes, after_run, kinds_length, token_after}
use Rattle.zig_parse.proofs.SureGoes.{Agrees, reads_token, sure_derives, sure_goes}
use Rattle.zig_tree.specs.declared.tree.TheConstants.{DEPTH_LIMIT}

-- ---- the root's parts

sole_taken : (later : List Part) (kinds end : List TokenKind) (rows : List Alternative) (a b : Alternative) (cs : List Bool) → Taken later kinds end rows a cs → rows ≡ b ∷ [] → a ≡ b
sole_taken later kinds end rows a b cs (taken_sole _) e = cc
sole_taken later kinds end rows a b cs (taken_first _ c) e = absurd (cc)
sole_taken later kinds end rows a b cs (taken_second _ c never) e = absurd (cc)

none_sure : (behind : List Part) (kinds next end : List TokenKind) (p : Pieces) (forks : List Fork) → Sure [] behind kinds next end p forks → (kinds ≡ next) × (p ≡ nothing) × (forks ≡ [])
none_sure behind kinds next end p forks (sure_none _ _ _) = (refl, refl, refl)

token_sure : (k : TokenKind) (behind : List Part) (kinds next end : List TokenKind) (p : Pieces) (forks : List Fork) → Sure (part.Token k ∷ []) behind kinds next end p forks → (kinds ≡ k ∷ next) × (p ≡ word k nothing) × (forks ≡ [])
token_sure k behind kinds next end p forks (sure_token _ _ _ after _ _ later _ d) = let n = none_sure behind after next end later forks d in (ap (λ (x : List TokenKind). k ∷ x) n.0, ap (word k) n.1, n.2)

abbrev root_row : Alternative
root_row = row (when.Always) (part.Group group.RootMembers ∷ part.Token End ∷ [])

-- the members before the file's end
record Members (kinds : List TokenKind) (p : Pieces) (forks : List Fork) : Type 0 where
  inside : Pieces
  sure : Sure (part.Group group.RootMembers ∷ []) (part.Token End ∷ []) kinds (End ∷ []) [] inside forks
  same : p ≡ followed inside (word End nothing)

members_sure : (kinds : List TokenKind) (p : Pieces) (forks : List Fork) → Sure (part.Group group.RootMembers ∷ part.Token End ∷ []) [] kinds [] [] p forks → Members kinds p forks
members_sure kinds p forks (sure_group _ a _ _ _ mid _ _ inside later cs inner outer h t d e) =
    let last = token_sure End [] mid [] [] later outer e in
    let sure = sure_group group.RootMembers a [] (part.Token End ∷ []) kinds mid mid [] inside nothing cs inner [] h t d (sure_none (part.Token End ∷ []) mid []) in
    let forks_as : noted kinds cs ++ (inner ++ []) ≡ noted kinds cs ++ (inner ++ outer) = ap (λ (x : List Fork). noted kinds cs ++ (inner ++ x)) (sym last.2) in
    record {
      inside = inside;
      sure = subst (λ (x : List TokenKind). Sure (part.Group group.RootMembers ∷ []) (part.Token End ∷ []) kinds x [] inside (noted kinds cs ++ (inner ++ outer))) last.0
          (subst (λ (x : Pieces). Sure (part.Group group.RootMembers ∷ []) (part.Token End ∷ []) kinds mid [] x (noted kinds cs ++ (inner ++ outer))) (followed_nothing inside)
          (subst (Sure (part.Group group.RootMembers ∷ []) (part.Token End ∷ []) kinds mid [] (followed inside nothing)) forks_as sure));
      same = ap (followed inside) last.1;
    }
members_sure kinds p forks (sure_group_apart _ a _ _ _ mid _ _ inside later inner outer h t d e) = absurd (cc)

record RootSure (kinds : List TokenKind) (tree : Pieces) (forks : List Fork) : Type 0 where
  p : Pieces
  members : Members kinds p forks
  same : tree ≡ made rule.Root p

root_parts : (kinds : List TokenKind) (tree p later : Pieces) (mid : List TokenKind) (a : Alternative) (inner outer : List Fork) → a ≡ root_row → Sure a.parts [] kinds mid [] p inner → Sure [] [] mid [] [] later outer → RootSure kinds (followed (made rule.Root p) later) (inner ++ outer)
root_parts kinds tree p later mid a inner outer row_is d e =
    let n = none_sure [] mid [] [] later outer e in
    let parts = subst (λ (x : Alternative). Sure x.parts [] kinds mid [] p inner) row_is d in
    let all = subst (λ (x : List TokenKind). Sure root_row.parts [] kinds x [] p inner) n.0 parts in
    let forks_as : inner ≡ inner ++ outer = sym (append-nil inner) ∙ ap (λ (x : List Fork). inner ++ x) (sym n.2) in
    record {
      p = p;
      members = subst (Members kinds p) forks_as (members_sure kinds p inner all);
      same = ap (followed (made rule.Root p)) n.1 ∙ followed_nothing (made rule.Root p);
    }

no_choice : (later : List Part) (kinds end : List TokenKind) (rows : List Alternative) (a b : Alternative) (cs : List Bool) → Taken later kinds end rows a cs → rows ≡ b ∷ [] → cs ≡ []
no_choice later kinds end rows a b cs (taken_sole _) e = refl
no_choice later kinds end rows a b cs (taken_first _ c) e = absurd (cc)
no_choice later kinds end rows a b cs (taken_second _ c never) e = absurd (cc)

root_sure : (kinds : List TokenKind) (tree : Pieces) (forks : List Fork) → Sure (part.Rule rule.Root ∷ []) [] kinds [] [] tree forks → RootSure kinds tree forks
unfolding rule_rows is_braced
root_sure kinds tree forks (sure_rule _ a _ _ _ mid _ _ p later cs inner outer h t d e) =
    let one = sole_taken [] kinds [] (open_at kinds (rule_rows rule.Root)) a root_row cs t refl in
    let none = no_choice [] kinds [] (open_at kinds (rule_rows rule.Root)) a root_row cs t refl in
    subst (λ (x : List Bool). RootSure kinds (followed (made rule.Root p) later) (noted kinds x ++ (inner ++ outer))) (sym none) (root_parts kinds tree p later mid a inner outer one d e)
root_sure kinds tree forks (sure_rule_apart _ a _ _ _ mid _ _ p later inner outer h t d e) = absurd (cc)

-- ---- the root is opened, and all tokens are read

-- where it is told, no node of these pieces in the root lies too deep
abbrev Low : Bool → Pieces → Type 0
Low told p = told ≡ true → 0 + height (made rule.Root p) ≤ DEPTH_LIMIT

abbrev root_place : (told : Bool) (p : Pieces) → Low told p → Place
root_place told p low = record { r = rule.Root; fs = []; below = 0; from = 0; others = []; whole = p; told = told; low = low }

sprout_state : (tokens : List Token) (told : Bool) (p : Pieces) (low : Low told p) → State tokens 0 (sprout (look_at tokens 0)) (root_place told p low) (coming (root_place told p low) root_row.parts []) nothing
unfolding sprout begun choices matching rule_rows put opened fresh collapses
sprout_state tokens told p low = record {
  f = record { rule = rule.Root; parts = 0; height = 0; solid = true };
  own = [];
  rule_is = refl;
  frames = refl;
  items_are = refl;
  kids = refl;
  depth = λ t. refl;
  calm = λ t. refl;
  spelled = spells_nothing 0;
  counted = refl;
  tall = λ t. refl;
  solid = λ h. refl;
  alone = λ h. absurd (cc);
}

all_gone : (tokens : List Token) (marks : List Bool) (told : Bool) (p inside : Pieces) (low : Low told p) → length tokens < 2 ^ 32 → p ≡ followed inside (word End nothing) → Goes tokens marks (part.Group group.RootMembers ∷ []) (kinds_of tokens) (End ∷ []) inside
    → After tokens marks 0 (sprout (look_at tokens 0)) (root_place told p low) [] p []
all_gone tokens marks told p inside low fits e go =
    let l = root_place told p low in
    let start = sprout (look_at tokens 0) in
    let end : Item = item 1 (part.Token End) in
    let a = go 0 l (part.Token End ∷ []) (end ∷ []) nothing (word End nothing) start refl (record { i = end; is = []; some = refl; level = omega arith; pieces = λ h. omega arith }) refl e (sprout_state tokens told p low) in
    let b = token_after tokens marks (part.Token End) End [] fits (reads_token End) a.end l [] inside nothing a.last a.ends e a.state in
    subst (λ (x : Pieces). After tokens marks 0 start l [] x []) (sym e) (after_run tokens marks 0 a.end start a.last l [] (followed inside (word End nothing)) [] a.more a.run a.nodes b)

-- ---- the root is closed

root_solid : (tokens : List Token) (at : ℕ) (g : Grown) (told : Bool) (p : Pieces) (low : Low told p) (items : List Item) (had : Pieces) (s : State tokens at g (root_place told p low) items had) → s.f.solid ≡ true
root_solid tokens at g told p low items had s = by s.f.solid s.alone
  where
    by : (b : Bool) → (b ≡ false → (makes_no_node_alone rule.Root ≡ true) × ((had ≡ nothing) ⊎ (is_one_node had ≡ true))) → b ≡ true
    by true h = refl
    by false h = let lone = (h refl).0 in absurd (cc)

some_nodes : (at : ℕ) (nodes : List Node) → 0 < length nodes → nodes_or at nodes ≡ Ok nodes
some_nodes at [] h = absurd (omega arith)
some_nodes at (n ∷ ns) h = refl

one_shut : (tokens : List Token) (g : Grown) → all_shut 1 tokens g ≡ shut tokens g
unfolding all_shut
one_shut tokens g = refl

-- the nodes of the tree, and that they spell it
pub record GrownAs (tokens : List Token) (given : Result (List Node) SyntaxFault) (tree : Pieces) : Type 0 where
  pub nodes : List Node
  pub grows : given ≡ Ok nodes
  pub spelled : Spells tokens nodes (kid.Node (length nodes - 1) ∷ []) 0 (length tokens) tree

root_nodes : (tokens : List Token) (g : Grown) (told : Bool) (p : Pieces) (low : Low told p) → 0 < length tokens → State tokens (length tokens) g (root_place told p low) [] p → GrownAs tokens (nodes_or (length tokens) (shut tokens g).parts.nodes) (made rule.Root p)
root_nodes tokens g told p low some s =
    let l = root_place told p low in
    let h = gathered tokens (length tokens) g l [] s some in
    let nodes = g.parts.nodes ++ h.more in
    let last = h.last (root_solid tokens (length tokens) g told p low [] p s) in
    let nodes_as : (shut tokens g).parts.nodes ≡ nodes = ap (λ (x : Grown). x.parts.nodes) (shut_is tokens g s.f [] s.frames) ∙ ap (λ (x : Parts). x.nodes) h.same in
    let longer : length nodes ≡ length g.parts.nodes + 1 = omega (arith, length-append g.parts.nodes h.more, last.1) in
    let number : length g.parts.nodes ≡ length nodes - 1 = omega arith in
    record {
      nodes = nodes;
      grows = ap (nodes_or (length tokens)) nodes_as ∙ some_nodes (length tokens) nodes (omega arith);
      spelled = subst (λ (x : List Kid). Spells tokens nodes x 0 (length tokens) (made rule.Root p)) (last.0 ∙ ap (λ (n : ℕ). kid.Node n ∷ []) number) h.spelled;
    }

whole_is : (tokens : List Token) (g : Grown) (f : Frame) → g.thread.items ≡ [] → g.thread.frames ≡ f ∷ [] → whole (length tokens) tokens g ≡ nodes_or (length tokens) (shut tokens g).parts.nodes
unfolding whole
whole_is tokens g f ei ef =
    let none : nat_eq (length g.thread.items) 0 ≡ true = eq-eqb (length g.thread.items) 0 (ap (λ (x : List Item). length x) ei) in
    let end = length tokens in
    empty (nat_eq (length g.thread.items) 0) none ∙ ap (λ (x : List Frame). nodes_or end (all_shut (length x) tokens g).parts.nodes) ef ∙ ap (λ (x : Grown). nodes_or end x.parts.nodes) (one_shut tokens g)
  where
    empty : (b : Bool) → b ≡ true → (if b then nodes_or (length tokens) (all_shut (length g.thread.frames) tokens g).parts.nodes else Err (Unexpected End (length tokens))) ≡ nodes_or (length tokens) (all_shut (length g.thread.frames) tokens g).parts.nodes
    empty true e = refl
    empty false e = absurd (cc)

-- ---- the whole pass

-- all tokens are read where the pass makes these moves
ends_last : (tokens : List Token) (marks : List Bool) (told : Bool) (p : Pieces) (low : Low told p) (a : After tokens marks 0 (sprout (look_at tokens 0)) (root_place told p low) [] p []) → a.end ≡ length tokens
ends_last tokens marks told p low a =
    let within = run_within told tokens marks 0 a.end (sprout (look_at tokens 0)) a.last a.run (omega arith) in
    omega (arith, length-drop a.end (kinds_of tokens), kinds_length tokens, ap (λ (x : List TokenKind). length x) a.ends)

read_whole : (tokens : List Token) (marks : List Bool) (told : Bool) (p : Pieces) (low : Low told p) → 0 < length tokens → (a : After tokens marks 0 (sprout (look_at tokens 0)) (root_place told p low) [] p [])
    → all_read (length tokens) 0 tokens marks (sprout (look_at tokens 0)) ≡ Ok a.last → GrownAs tokens (grown_from tokens marks) (made rule.Root p)
unfolding grown_from
read_whole tokens marks told p low some a read =
    let s = subst (λ (n : ℕ). State tokens n a.last (root_place told p low) [] p) (ends_last tokens marks told p low a) a.state in
    let g = root_nodes tokens a.last told p low some s in
    record {
      nodes = g.nodes;
      grows = ap (λ (r : Result Grown SyntaxFault). r >>= λ x. whole (length tokens) tokens x) read ∙ whole_is tokens a.last s.f s.items_are s.frames ∙ g.grows;
      spelled = g.spelled;
    }

told_read : (tokens : List Token) (marks : List Bool) (p : Pieces) (low : Low true p) (a : After tokens marks 0 (sprout (look_at tokens 0)) (root_place true p low) [] p []) → all_read (length tokens) 0 tokens marks (sprout (look_at tokens 0)) ≡ Ok a.last
told_read tokens marks p low a =
    let start = sprout (look_at tokens 0) in
    let end = ends_last tokens marks true p low a in
    let all : length tokens - 0 ≡ length tokens = omega arith in
    ap (λ (n : ℕ). all_read n 0 tokens marks start) (sym all) ∙ run_read tokens marks 0 a.end start a.last a.run ∙ all_read_end (length tokens) a.end tokens marks a.last (omega arith)

first_grown : (r : Result Grown SyntaxFault) (f : Grown → Result (List Node) SyntaxFault) (nodes : List Node) → (r >>= f) ≡ Ok nodes → (g : Grown) × (r ≡ Ok g)
first_grown (Ok g) f nodes e = (g, refl)
first_grown (Err x) f nodes e = absurd (cc)

-- where the pass gives nodes it has read all tokens, and made the same moves
loose_read : (tokens : List Token) (marks : List Bool) (told : Bool) (p : Pieces) (low : Low told p) (nodes : List Node) (a : After tokens marks 0 (sprout (look_at tokens 0)) (root_place told p low) [] p []) → grown_from tokens marks ≡ Ok nodes
    → all_read (length tokens) 0 tokens marks (sprout (look_at tokens 0)) ≡ Ok a.last
unfolding grown_from
loose_read tokens marks told p low nodes a e =
    let start = sprout (look_at tokens 0) in
    let end = ends_last tokens marks told p low a in
    let all : length tokens - 0 ≡ length tokens = omega arith in
    let first = first_grown (all_read (length tokens) 0 tokens marks start) (λ g. whole (length tokens) tokens g) nodes e in
    let last = run_whole told tokens marks 0 a.end start a.last first.0 a.run (ap (λ (n : ℕ). all_read n 0 tokens marks start) all ∙ first.1) in
    let same : a.last ≡ first.0 = (let both : Ok a.last ≡ Ok first.0 = sym (all_read_end (length tokens) a.end tokens marks a.last (omega arith)) ∙ last in cc) in
    first.1 ∙ ap (λ (g : Grown). Ok g) (sym same)

members_some : (tokens : List Token) (marks : List Bool) (forks : List Fork) (inside : Pieces) → length tokens < 2 ^ 32 → Sure (part.Group group.RootMembers ∷ []) (part.Token End ∷ []) (kinds_of tokens) (End ∷ []) [] inside forks → 0 < length tokens
members_some tokens marks forks inside fits s =
    omega (arith, kinds_length tokens, no_longer (part.Group group.RootMembers ∷ []) (kinds_of tokens) (End ∷ []) inside (sure_derives (part.Group group.RootMembers ∷ []) (part.Token End ∷ []) (kinds_of tokens) (End ∷ []) [] inside forks s))

-- the root of a sure tree, once all tokens are read
record RootRead (tokens : List Token) (marks : List Bool) (told : Bool) (tree : Pieces) : Type 0 where
  p : Pieces
  same : tree ≡ made rule.Root p
  some : 0 < length tokens
  low : Low told p
  after : After tokens marks 0 (sprout (look_at tokens 0)) (root_place told p low) [] p []

root_read : (told : Bool) (tokens : List Token) (tree : Pieces) (forks : List Fork) (marks : List Bool) → length tokens < 2 ^ 32 → Sure (part.Rule rule.Root ∷ []) [] (kinds_of tokens) [] [] tree forks → Agrees tokens marks forks → (told ≡ true → height tree ≤ DEPTH_LIMIT)
    → RootRead tokens marks told tree
root_read told tokens tree forks marks fits s agree low =
    let r = root_sure (kinds_of tokens) tree forks s in
    let m = r.members in
    let lower : Low told r.p = λ t. (let l = low t in omega (arith, ap height r.same)) in
    let some = members_some tokens marks forks m.inside fits m.sure in
    let go = sure_goes tokens marks fits (part.Group group.RootMembers ∷ []) (part.Token End ∷ []) (kinds_of tokens) (End ∷ []) [] m.inside forks m.sure agree (omega arith) in
    record { p = r.p; same = r.same; some = some; low = lower; after = all_gone tokens marks told r.p m.inside lower fits m.same go }

-- the second pass gives nodes that spell the tree
pub sure_grown : (tokens : List Token) (tree : Pieces) (forks : List Fork) (marks : List Bool) → length tokens < 2 ^ 32 → Sure (part.Rule rule.Root ∷ []) [] (kinds_of tokens) [] [] tree forks → Agrees tokens marks forks → height tree ≤ DEPTH_LIMIT
    → GrownAs tokens (grown_from tokens marks) tree
sure_grown tokens tree forks marks fits s agree low =
    let r = root_read true tokens tree forks marks fits s agree (λ t. low) in
    subst (GrownAs tokens (grown_from tokens marks)) (sym r.same) (read_whole tokens marks true r.p r.low r.some r.after (told_read tokens marks r.p r.low r.after))

-- and where it gives nodes these spell the tree, however deep that might be
pub grown_sure : (tokens : List Token) (tree : Pieces) (forks : List Fork) (marks : List Bool) (nodes : List Node) → length tokens < 2 ^ 32 → Sure (part.Rule rule.Root ∷ []) [] (kinds_of tokens) [] [] tree forks → Agrees tokens marks forks → grown_from tokens marks ≡ Ok nodes
    → GrownAs tokens (grown_from tokens marks) tree
grown_sure tokens tree forks marks nodes fits s agree e =
    let r = root_read false tokens tree forks marks fits s agree (λ t. absurd (cc)) in
    subst (GrownAs tokens (grown_from tokens marks)) (sym r.same) (read_whole tokens marks false r.p r.low r.some r.after (loose_read tokens marks false r.p r.low nodes r.after e))

or_read : (tokens : List Token) (marks : List Bool) (told : Bool) (p : Pieces) (low : Low told p) (a : After tokens marks 0 (sprout (look_at tokens 0)) (root_place told p low) [] p [])
    → (all_read (length tokens) 0 tokens marks (sprout (look_at tokens 0)) ≡ Ok a.last) ⊎ ((at : ℕ) × (all_read (length tokens) 0 tokens marks (sprout (look_at tokens 0)) ≡ Err (TooDeep at)))
or_read tokens marks told p low a =
    let start = sprout (look_at tokens 0) in
    let end = ends_last tokens marks told p low a in
    let all : length tokens - 0 ≡ length tokens = omega arith in
    let same = ap (λ (n : ℕ). all_read n 0 tokens marks start) (sym all) in
    elim (run_or told tokens marks 0 a.end start a.last a.run) [
      | inl h ↦ inl (same ∙ h ∙ all_read_end (length tokens) a.end tokens marks a.last (omega arith))
      | inr h ↦ inr (h.0, same ∙ h.1)
    ]

-- or else a token lies too deep
pub grown_or : (tokens : List Token) (tree : Pieces) (forks : List Fork) (marks : List Bool) → length tokens < 2 ^ 32 → Sure (part.Rule rule.Root ∷ []) [] (kinds_of tokens) [] [] tree forks → Agrees tokens marks forks
    → GrownAs tokens (grown_from tokens marks) tree ⊎ ((at : ℕ) × (grown_from tokens marks ≡ Err (TooDeep at)))
unfolding grown_from
grown_or tokens tree forks marks fits s agree =
    let r = root_read false tokens tree forks marks fits s agree (λ t. absurd (cc)) in
    elim (or_read tokens marks false r.p r.low r.after) [
      | inl h ↦ inl (subst (GrownAs tokens (grown_from tokens marks)) (sym r.same) (read_whole tokens marks false r.p r.low r.some r.after h))
      | inr h ↦ inr (h.0, ap (λ (x : Result Grown SyntaxFault). x >>= λ g. whole (length tokens) tokens g) h.1)
    ]

-- so where the first pass names the choices, all is read as that tree
pub sure_parsed : (tokens : List Token) (tree : Pieces) (forks : List Fork) (marks : List Bool) → length tokens < 2 ^ 32 → Sure (part.Rule rule.Root ∷ []) [] (kinds_of tokens) [] [] tree forks → Agrees tokens marks forks → height tree ≤ DEPTH_LIMIT
    → surveyed (length tokens) 0 tokens (first_state (look_at tokens 0)) (replicate (length tokens) false) ≡ Ok marks → GrownAs tokens (parse_of tokens) tree
unfolding parse_of
sure_parsed tokens tree forks marks fits s agree low found =
    subst (λ (r : Result (List Bool) SyntaxFault). GrownAs tokens (r >>= grown_from tokens) tree) (sym found) (sure_grown tokens tree forks marks fits s agree low)

-- and the nodes of the answer hold no other tree
pub grown_tree : (tokens : List Token) (nodes : List Node) (root : ℕ) (given : Result (List Node) SyntaxFault) (tree : Pieces) → given ≡ Ok nodes → root + 1 ≡ length nodes → GrownAs tokens given tree → (h : HoldsAll tokens nodes root) → h.tree ≡ tree
grown_tree tokens nodes root given tree e number g h =
    let same : g.nodes ≡ nodes = (let both : Ok g.nodes ≡ Ok nodes = sym g.grows ∙ e in cc) in
    let at : length g.nodes - 1 ≡ root = omega (arith, ap (λ (x : List Node). length x) same) in
    let spelled = subst (λ (x : List Node). Spells tokens x (kid.Node (length g.nodes - 1) ∷ []) 0 (length tokens) tree) same g.spelled in
    let rooted = subst (λ (n : ℕ). Spells tokens nodes (kid.Node n ∷ []) 0 (length tokens) tree) at spelled in
    (spells_same tokens nodes (kid.Node root ∷ []) 0 (length tokens) (length tokens) h.tree tree h.spelled rooted).0
