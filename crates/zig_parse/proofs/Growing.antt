-- The state of the second pass in an open node of which it is known what it will hold, and how each move
-- changes it.
use Rattle.std.proofs.Common.{◌≡◌, ℕ, suc, ◌+◌, ◌-◌, ◌<◌, ◌≤◌, Bool, true, false, ◌&&◌, ◌||◌, ◌⊎◌, inl, inr, List, [], ◌∷◌, ◌++◌, map, length, Some, None, refl, sym, ◌∙◌, ap, subst, arith, append_assoc, append-nil, length-append}
use Rattle.std.specs.Prelude.{if◌then◌else◌, not, min, slice_get, nat_lt, ◌^◌}
use Rattle.std.proofs.lemmas.Bool.{le-ltb, ltb-true, ltb-false, not-true}
use Rattle.zig_tree.specs.declared.token.Token.{Token}
use Rattle.zig_tree.specs.declared.token.TokenKind.{TokenKind}
use Rattle.zig_tree.specs.declared.grammar.Rule.{Rule}
use Rattle.zig_tree.specs.declared.grammar.Group.{Group}
use Rattle.zig_tree.specs.declared.grammar.Part.{Part}
use Rattle.zig_tree.specs.declared.grammar.Part.TheVariants as part
use Rattle.zig_tree.specs.declared.tree.Kid.{Kid}
use Rattle.zig_tree.specs.declared.tree.Kid.TheVariants as kid
use Rattle.zig_tree.specs.GrammarSentences.{Pieces, nothing, word, node, followed, made, makes_no_node_alone, is_one_node, height}
use Rattle.zig_parse.specs.declared.choice.Look.{Look}
use Rattle.zig_parse.specs.declared.thread.Frame.{Frame}
use Rattle.zig_parse.specs.declared.thread.Item.{Item}
use Rattle.zig_parse.specs.declared.thread.Thread.{Thread}
use Rattle.zig_parse.specs.Stack.{rest, with_first}
use Rattle.zig_parse.specs.Threads.{after_read, collapses, gained, hardened, is_deep, is_never_alone, item, met, met_from, one_more, opened, passed, put, replaced, touched_from, with_gain, with_part}
use Rattle.zig_parse.specs.Moves.{move_at, next_move}
use Rattle.zig_parse.specs.Nodes.{with_token}
use Rattle.zig_parse.specs.Growth.{Grown, with_thread}
use Rattle.zig_parse.specs.Trees.{Spells, spells_nothing, spells_token}
use Rattle.zig_parse.proofs.Shapes.{count}
use Rattle.zig_parse.proofs.TreeTables.{same_lone}
use Rattle.zig_parse.proofs.Spelled.{amount, spells_joined, spells_amount, spells_within}
use Rattle.zig_parse.proofs.Story.{amount_followed, height_followed, made_always, made_one, made_several, one_amount, several, worded}
use Rattle.zig_parse.proofs.Standing.{opened_depth}
use Rattle.zig_parse.proofs.Sound.{next_at, level_same}
use Rattle.zig_parse.proofs.Runs.{read_at}
use Rattle.zig_tree.specs.declared.tree.TheConstants.{DEPTH_LIMIT}

-- an open node: its rule, the nodes around it and how many of them are nodes of the tree for sure, its first
-- token, what those nodes hold, and all that it will hold itself; and, where that is told, that no node lies too deep
pub record Place : Type 0 where
  pub r : Rule
  pub fs : List Frame
  pub below : ℕ
  pub from : ℕ
  pub others : List Kid
  pub whole : Pieces
  pub told : Bool
  pub low : told ≡ true → below + height (made r whole) ≤ DEPTH_LIMIT

-- what is to come in it, and after it
abbrev pub coming : Place → List Part → List Item → List Item
coming l ps items = map (item (suc (length l.fs))) ps ++ items

-- the second pass at a token in an open node that has these pieces
pub record State (tokens : List Token) (at : ℕ) (g : Grown) (l : Place) (items : List Item) (had : Pieces) : Type 0 where
  pub f : Frame
  pub own : List Kid
  pub rule_is : f.rule ≡ l.r
  pub frames : g.thread.frames ≡ f ∷ l.fs
  pub items_are : g.thread.items ≡ items
  pub kids : g.parts.kids ≡ l.others ++ own
  pub depth : l.told ≡ true → g.thread.depth ≡ l.below + count f.solid
  pub calm : l.told ≡ true → g.thread.deep ≡ false
  pub spelled : Spells tokens g.parts.nodes own l.from at had
  pub counted : f.parts ≡ length own
  pub tall : l.told ≡ true → f.height ≡ height had
  pub solid : f.solid ≡ true → made l.r l.whole ≡ node l.r l.whole nothing
  pub alone : f.solid ≡ false → (makes_no_node_alone l.r ≡ true) × ((had ≡ nothing) ⊎ (is_one_node had ≡ true))

-- ---- how deep it lies

tall_by : (b : Bool) (r : Rule) (p : Pieces) → height p ≤ height (if b then p else node r p nothing)
tall_by true r p = omega arith
tall_by false r p = omega arith

pub made_tall : (r : Rule) (p : Pieces) → height p ≤ height (made r p)
made_tall r p = tall_by (makes_no_node_alone r && is_one_node p) r p

pub not_deep : (depth tall : ℕ) → depth + tall ≤ DEPTH_LIMIT → is_deep depth tall ≡ false
unfolding is_deep
not_deep depth tall h = le-ltb DEPTH_LIMIT (min (depth + tall) (2 ^ 32 - 1)) (omega arith)

or_none : (x y : Bool) → x ≡ false → y ≡ false → (x || y) ≡ false
or_none true y h e = absurd (cc)
or_none false y h e = e

pub solid_low : (l : Place) → l.told ≡ true → made l.r l.whole ≡ node l.r l.whole nothing → l.below + 1 + height l.whole ≤ DEPTH_LIMIT
solid_low l t e = let h = l.low t in omega (arith, ap height e)

pub had_low : (whole had more : Pieces) → whole ≡ followed had more → (height had ≤ height whole) × (height more ≤ height whole)
had_low whole had more e = (omega (arith, ap height e, height_followed had more), omega (arith, ap height e, height_followed had more))

-- whatever is made of what it will hold lies no deeper than 200
pub within_low : (tokens : List Token) (at : ℕ) (g : Grown) (l : Place) (items : List Item) (had : Pieces) (s : State tokens at g l items had) → l.told ≡ true → g.thread.depth + height l.whole ≤ DEPTH_LIMIT
within_low tokens at g l items had s t = by s.f.solid (s.depth t) s.solid
  where
    by : (b : Bool) → g.thread.depth ≡ l.below + count b → (b ≡ true → made l.r l.whole ≡ node l.r l.whole nothing) → g.thread.depth + height l.whole ≤ DEPTH_LIMIT
    by true e h = (let low = solid_low l t (h refl) in omega arith)
    by false e h = (let low = l.low t in omega (arith, made_tall l.r l.whole))

-- ---- the next move

pub next_is : (tokens : List Token) (at : ℕ) (look : Look) (g : Grown) (l : Place) (q : Part) (items : List Item) (had : Pieces) → State tokens at g l (item (suc (length l.fs)) q ∷ items) had → next_move look false g.thread ≡ move_at look false q
next_is tokens at look g l q items had s = next_at look g.thread (s.f ∷ l.fs) (item (suc (length l.fs)) q ∷ items) s.frames s.items_are ∙ level_same look (suc (length l.fs)) q items

-- ---- a token is read

token_whole : (l : Place) (had more : Pieces) (k : TokenKind) → l.whole ≡ followed had (word k more) → made l.r l.whole ≡ node l.r l.whole nothing
token_whole l had more k e = made_several l.r l.whole (subst (λ (x : Pieces). is_one_node x ≡ false) (sym e) (worded had more k))

-- what holds of the thread once the token is read in it
record Read (tokens : List Token) (at : ℕ) (u : Thread) (l : Place) (f : Frame) (items : List Item) : Type 0 where
  frames : u.frames ≡ with_part 0 (record f { solid = true }) ∷ l.fs
  items_are : u.items ≡ items
  depth : l.told ≡ true → u.depth ≡ l.below + 1
  calm : l.told ≡ true → u.deep ≡ false

read_thread : (tokens : List Token) (at : ℕ) (g : Grown) (l : Place) (q : Part) (items : List Item) (had more : Pieces) (k : TokenKind) (s : State tokens at g l (item (suc (length l.fs)) q ∷ items) had) → l.whole ≡ followed had (word k more) → (b : Bool) → s.f.solid ≡ b
    → Read tokens at (with_gain 0 (if b then record (passed g.thread) { deep = g.thread.deep || is_deep g.thread.depth 0 } else hardened s.f (passed g.thread))) l s.f items
unfolding hardened
read_thread tokens at g l q items had more k s e true solid = record {
  frames = ap (gained 0) s.frames ∙ ap (λ (b : Bool). with_part 0 (record s.f { solid = b }) ∷ l.fs) solid;
  items_are = ap rest s.items_are;
  depth = λ t. s.depth t ∙ ap (λ (b : Bool). l.below + count b) solid;
  calm = λ t. (
      let low = solid_low l t (token_whole l had more k e) in
      let deep : g.thread.depth ≡ l.below + 1 = s.depth t ∙ ap (λ (b : Bool). l.below + count b) solid in
      or_none g.thread.deep (is_deep g.thread.depth 0) (s.calm t) (not_deep g.thread.depth 0 (omega arith))
      );
}
read_thread tokens at g l q items had more k s e false solid = record {
  frames = ap (λ (x : List Frame). gained 0 (with_first (record s.f { solid = true }) x)) s.frames;
  items_are = ap rest s.items_are;
  depth = λ t. (
      let low = solid_low l t (token_whole l had more k e) in
      let deep : g.thread.depth ≡ l.below + 0 = s.depth t ∙ ap (λ (b : Bool). l.below + count b) solid in
      omega arith
      );
  calm = λ t. (
      let low = solid_low l t (token_whole l had more k e) in
      let under = had_low l.whole had (word k more) e in
      let deep : g.thread.depth ≡ l.below + 0 = s.depth t ∙ ap (λ (b : Bool). l.below + count b) solid in
      let deeper : one_more g.thread.depth ≡ l.below + 1 = omega arith in
      or_none g.thread.deep (is_deep (one_more g.thread.depth) s.f.height) (s.calm t) (not_deep (one_more g.thread.depth) s.f.height (omega (arith, s.tall t, under.0)))
      );
}

read_is : (tokens : List Token) (at : ℕ) (g : Grown) (l : Place) (q : Part) (items : List Item) (had more : Pieces) (k : TokenKind) (s : State tokens at g l (item (suc (length l.fs)) q ∷ items) had) → l.whole ≡ followed had (word k more)
    → Read tokens at (after_read g.thread) l s.f items
unfolding after_read
read_is tokens at g l q items had more k s e =
    subst (λ (x : List Frame). Read tokens at (with_gain 0 (touched_from (passed g.thread) x)) l s.f items) (sym s.frames) (read_thread tokens at g l q items had more k s e s.f.solid refl)

pub read_calm : (tokens : List Token) (at : ℕ) (g : Grown) (l : Place) (q : Part) (items : List Item) (had more : Pieces) (k : TokenKind) → State tokens at g l (item (suc (length l.fs)) q ∷ items) had → l.whole ≡ followed had (word k more)
    → l.told ≡ true → (after_read g.thread).deep ≡ false
read_calm tokens at g l q items had more k s e = (read_is tokens at g l q items had more k s e).calm

pub read_state : (tokens : List Token) (at : ℕ) (g : Grown) (l : Place) (q : Part) (items : List Item) (had more : Pieces) (k : Token) → length tokens < 2 ^ 32 → at < length tokens → slice_get tokens at ≡ Some k
    → State tokens at g l (item (suc (length l.fs)) q ∷ items) had → l.whole ≡ followed had (word k.kind more) → State tokens (at + 1) (read_at at g) l items (followed had (word k.kind nothing))
unfolding with_token
read_state tokens at g l q items had more k fits inside there s e =
    let r = read_is tokens at g l q items had more k.kind s e in
    let within = spells_within tokens g.parts.nodes s.own l.from at had s.spelled in
    record {
      f = with_part 0 (record s.f { solid = true });
      own = s.own ++ kid.Token at ∷ [];
      rule_is = s.rule_is;
      frames = r.frames;
      items_are = r.items_are;
      kids = ap (λ (x : List Kid). x ++ kid.Token at ∷ []) s.kids ∙ append_assoc l.others s.own (kid.Token at ∷ []);
      depth = r.depth;
      calm = r.calm;
      spelled = spells_joined tokens g.parts.nodes s.own (kid.Token at ∷ []) l.from at (at + 1) had (word k.kind nothing) s.spelled (spells_token at (at + 1) k [] nothing there (spells_nothing (at + 1)));
      counted = omega (arith, s.counted, length-append s.own (kid.Token at ∷ []));
      tall = λ t. omega (arith, s.tall t, height_followed had (word k.kind nothing));
      solid = λ h. token_whole l had more k.kind e;
      alone = λ h. absurd (cc);
    }

-- ---- a group is replaced

pub group_state : (tokens : List Token) (at : ℕ) (g : Grown) (l : Place) (k : Group) (ps qs : List Part) (items : List Item) (had : Pieces) → State tokens at g l (coming l (part.Group k ∷ qs) items) had
    → State tokens at (with_thread (replaced None ps g.thread) g) l (coming l ps (coming l qs items)) had
unfolding replaced put
group_state tokens at g l k ps qs items had s = record {
  f = s.f;
  own = s.own;
  rule_is = s.rule_is;
  frames = s.frames;
  items_are = ap (λ (x : List Frame). map (item (length x)) ps ++ rest g.thread.items) s.frames ∙ ap (λ (x : List Item). map (item (suc (length l.fs))) ps ++ rest x) s.items_are;
  kids = s.kids;
  depth = s.depth;
  calm = s.calm;
  spelled = s.spelled;
  counted = s.counted;
  tall = s.tall;
  solid = s.solid;
  alone = s.alone;
}

-- ---- a rule is met

-- the state where a rule begins: its node is made one where a part came before
pub record Met (tokens : List Token) (at : ℕ) (g : Grown) (l : Place) (items : List Item) (had : Pieces) : Type 0 where
  pub state : State tokens at g l items had
  pub waits : state.f.solid ≡ false → length state.own ≡ 0

met_soft : (tokens : List Token) (at : ℕ) (g : Grown) (l : Place) (r : Rule) (items : List Item) (had : Pieces) (s : State tokens at g l (item (suc (length l.fs)) (part.Rule r) ∷ items) had) → (s.f.solid ≡ false → s.f.parts ≡ 0)
    → Met tokens at (with_thread (passed g.thread) g) l items had
met_soft tokens at g l r items had s w = record {
  state = record {
    f = s.f;
    own = s.own;
    rule_is = s.rule_is;
    frames = s.frames;
    items_are = ap rest s.items_are;
    kids = s.kids;
    depth = s.depth;
    calm = s.calm;
    spelled = s.spelled;
    counted = s.counted;
    tall = s.tall;
    solid = s.solid;
    alone = s.alone;
  };
  waits = λ e. sym s.counted ∙ w e;
}

met_hard : (tokens : List Token) (at : ℕ) (g : Grown) (l : Place) (r : Rule) (items : List Item) (had more : Pieces) (s : State tokens at g l (item (suc (length l.fs)) (part.Rule r) ∷ items) had) → s.f.solid ≡ false → l.whole ≡ followed had more → is_one_node l.whole ≡ false
    → Met tokens at (with_thread (hardened s.f (passed g.thread)) g) l items had
unfolding hardened
met_hard tokens at g l r items had more s soft e many =
    let hard = made_several l.r l.whole many in
    record {
      state = record {
        f = record s.f { solid = true };
        own = s.own;
        rule_is = s.rule_is;
        frames = ap (with_first (record s.f { solid = true })) s.frames;
        items_are = ap rest s.items_are;
        kids = s.kids;
        depth = λ t. (
            let low = solid_low l t hard in
            let deep : g.thread.depth ≡ l.below + 0 = s.depth t ∙ ap (λ (b : Bool). l.below + count b) soft in
            omega arith
            );
        calm = λ t. (
            let low = solid_low l t hard in
            let under = had_low l.whole had more e in
            let deep : g.thread.depth ≡ l.below + 0 = s.depth t ∙ ap (λ (b : Bool). l.below + count b) soft in
            let deeper : one_more g.thread.depth ≡ l.below + 1 = omega arith in
            or_none g.thread.deep (is_deep (one_more g.thread.depth) s.f.height) (s.calm t) (not_deep (one_more g.thread.depth) s.f.height (omega (arith, s.tall t, under.0)))
            );
        spelled = s.spelled;
        counted = s.counted;
        tall = s.tall;
        solid = λ h. hard;
        alone = λ h. absurd (cc);
      };
      waits = λ h. absurd (cc);
    }

many_pieces : (had p more : Pieces) → is_one_node p ≡ true → (0 < amount had) ⊎ (0 < amount more) → is_one_node (followed had (followed p more)) ≡ false
many_pieces had p more h (inl some) = several (followed had (followed p more)) (omega (arith, amount_followed had (followed p more), amount_followed p more, one_amount p h))
many_pieces had p more h (inr some) = several (followed had (followed p more)) (omega (arith, amount_followed had (followed p more), amount_followed p more, one_amount p h))

met_by : (tokens : List Token) (at : ℕ) (g : Grown) (l : Place) (r : Rule) (items : List Item) (had more : Pieces) (s : State tokens at g l (item (suc (length l.fs)) (part.Rule r) ∷ items) had) → l.whole ≡ followed had more
    → ((0 < amount had) ⊎ (is_never_alone r ≡ true) → is_one_node l.whole ≡ false) → (x y z : Bool) → s.f.solid ≡ x → nat_lt 0 s.f.parts ≡ y → is_never_alone r ≡ z
    → Met tokens at (with_thread (if not x && (y || z) then hardened s.f (passed g.thread) else passed g.thread) g) l items had
met_by tokens at g l r items had more s e many true y z ex ey ez = met_soft tokens at g l r items had s (λ h. absurd (cc))
met_by tokens at g l r items had more s e many false true z ex ey ez =
    let some = ltb-true 0 s.f.parts ey in
    met_hard tokens at g l r items had more s ex e (many (inl (omega (arith, s.counted, spells_amount tokens g.parts.nodes s.own l.from at had s.spelled))))
met_by tokens at g l r items had more s e many false false true ex ey ez = met_hard tokens at g l r items had more s ex e (many (inr ez))
met_by tokens at g l r items had more s e many false false false ex ey ez = met_soft tokens at g l r items had s (λ h. (let none = ltb-false 0 s.f.parts ey in omega arith))

pub met_state : (tokens : List Token) (at : ℕ) (g : Grown) (l : Place) (r : Rule) (items : List Item) (had inside more : Pieces) → State tokens at g l (item (suc (length l.fs)) (part.Rule r) ∷ items) had
    → l.whole ≡ followed had (followed (made r inside) more) → (is_never_alone r ≡ true → 0 < amount more) → Met tokens at (with_thread (met r (passed g.thread)) g) l items had
unfolding met
met_state tokens at g l r items had inside more s e never =
    subst (λ (x : List Frame). Met tokens at (with_thread (met_from r (passed g.thread) x) g) l items had) (sym s.frames)
    (met_by tokens at g l r items had (followed (made r inside) more) s e (λ h. subst (λ (x : Pieces). is_one_node x ≡ false) (sym e) (many_pieces had (made r inside) more (made_one r inside) (elim h [ inl some ↦ inl some | inr lone ↦ inr (never lone) ]))) s.f.solid
    (nat_lt 0 s.f.parts) (is_never_alone r) refl refl refl)

-- ---- a node is opened

-- the node that is opened
unfoldable pub opened_place : (tokens : List Token) (at : ℕ) (g : Grown) (l : Place) (r : Rule) (items : List Item) (had inside more : Pieces) → State tokens at g l items had → l.whole ≡ followed had (followed (made r inside) more) → Place
opened_place tokens at g l r items had inside more s e = record {
  r = r;
  fs = s.f ∷ l.fs;
  below = g.thread.depth;
  from = at;
  others = g.parts.kids;
  whole = inside;
  told = l.told;
  low = λ t. (
      let all = within_low tokens at g l items had s t in
      let under = had_low l.whole had (followed (made r inside) more) e in
      omega (arith, under.1, height_followed (made r inside) more)
      );
}

pub open_state : (tokens : List Token) (at : ℕ) (g : Grown) (l : Place) (r : Rule) (ps : List Part) (items : List Item) (had inside more : Pieces) (s : State tokens at g l items had) (e : l.whole ≡ followed had (followed (made r inside) more))
    → State tokens at (with_thread (put ps (opened r g.thread)) g) (opened_place tokens at g l r items had inside more s e) (coming (opened_place tokens at g l r items had inside more s e) ps items) nothing
unfolding put opened opened_place
open_state tokens at g l r ps items had inside more s e =
    let f : Frame = record { rule = r; parts = 0; height = 0; solid = not (collapses r) } in
    let lone = same_lone r in
    record {
      f = f;
      own = [];
      rule_is = refl;
      frames = ap (λ (x : List Frame). f ∷ x) s.frames;
      items_are = ap (λ (x : List Frame). map (item (length (f ∷ x))) ps ++ g.thread.items) s.frames ∙ ap (λ (x : List Item). map (item (suc (suc (length l.fs)))) ps ++ x) s.items_are;
      kids = sym (append-nil g.parts.kids);
      depth = λ t. (let all = within_low tokens at g l items had s t in opened_depth (collapses r) g.thread.depth (omega arith));
      calm = s.calm;
      spelled = spells_nothing at;
      counted = refl;
      tall = λ t. refl;
      solid = λ h. made_always r inside (sym lone ∙ not-true (collapses r) h);
      alone = λ h. (sym lone ∙ not_false (collapses r) h, inl refl);
    }
  where
    not_false : (x : Bool) → not x ≡ false → x ≡ true
    not_false true h = refl
    not_false false h = absurd (cc)
