-- A thread that follows pieces of a tree: how its innermost node and its depth stand to them.
use Rattle.std.proofs.Common.{◌≡◌, ℕ, ◌+◌, ◌-◌, ◌<◌, ◌≤◌, Bool, true, false, ◌||◌, ◌⊎◌, inl, inr, List, ◌∷◌, length, refl, sym, ◌∙◌, ap, subst, arith}
use Rattle.std.specs.Prelude.{max, min, if◌then◌else◌, not, ◌&&◌, nat_lt, ◌^◌}
use Rattle.std.proofs.lemmas.Bool.{le-ltb, ltb-false, ltb-true}
use Rattle.zig_tree.specs.declared.grammar.Rule.{Rule}
use Rattle.zig_tree.specs.declared.grammar.Part.{Part}
use Rattle.zig_tree.specs.declared.token.TokenKind.{TokenKind}
use Rattle.zig_tree.specs.GrammarSentences.{Pieces, nothing, word, followed, makes_no_node_alone, is_one_node, made, height}
use Rattle.zig_parse.specs.declared.thread.Frame.{Frame}
use Rattle.zig_parse.specs.declared.thread.Thread.{Thread}
use Rattle.zig_parse.specs.Stack.{with_first}
use Rattle.zig_parse.specs.Threads.{after_read, closed, closed_from, gained, hardened, is_deep, is_never_alone, met, met_from, one_more, opened, part_height, passed, put, received, collapses, risen, touched_from, with_gain, with_part}
use Rattle.zig_parse.proofs.Shapes.{count}
use Rattle.zig_parse.proofs.Spelled.{amount}
use Rattle.zig_parse.proofs.TreeTables.{same_lone}
use Rattle.zig_parse.proofs.Story.{amount_followed, height_followed, made_one, one_amount}
use Rattle.zig_parse.proofs.Rises.{rise_made}
use Rattle.zig_parse.proofs.Depths.{words, words_followed, IsLow, low_joined}
use Rattle.zig_tree.specs.declared.tree.TheConstants.{DEPTH_LIMIT}

-- ---- nodes that are done

-- a thread closes some nodes, which are done, but not the last one
pub data Closes : Thread → Thread → Type 0 where
  closes_none : (t : Thread) → Closes t t
  closes_one : (t u : Thread) (f g : Frame) (fs : List Frame) → t.frames ≡ f ∷ g ∷ fs → Closes (closed t) u → Closes t u

-- the thread after its innermost node is closed
abbrev pub shut_in : Thread → Frame → Frame → List Frame → Thread
shut_in t f g fs = record t { frames = with_part (part_height f) g ∷ fs; depth = if f.solid then t.depth - 1 else t.depth }

pub closed_is : (t : Thread) (f g : Frame) (fs : List Frame) → t.frames ≡ f ∷ g ∷ fs → closed t ≡ shut_in t f g fs
unfolding closed
closed_is t f g fs e = ap (closed_from t) e

pub closes_more : (t u : Thread) (f g : Frame) (fs : List Frame) → Closes t u → u.frames ≡ f ∷ g ∷ fs → Closes t (closed u)
closes_more t u f g fs (closes_none _) e = closes_one t (closed t) f g fs e (closes_none (closed t))
closes_more t u f g fs (closes_one _ _ a b cs h c) e = closes_one t (closed u) a b cs h (closes_more (closed t) u f g fs c e)

pub closes_items : (t u : Thread) → Closes t u → t.items ≡ u.items
closes_items t u (closes_none _) = refl
closes_items t u (closes_one _ _ f g fs h c) = sym (ap (λ (x : Thread). x.items) (closed_is t f g fs h)) ∙ closes_items (closed t) u c

pub closes_count : (t u : Thread) → Closes t u → length u.frames ≤ length t.frames
closes_count t u (closes_none _) = omega arith
closes_count t u (closes_one _ _ f g fs h c) = omega (arith, closes_count (closed t) u c, ap (λ (x : Thread). length x.frames) (closed_is t f g fs h), ap length h)

pub closes_fewer : (t u : Thread) (f g : Frame) (fs : List Frame) → t.frames ≡ f ∷ g ∷ fs → Closes (closed t) u → length u.frames < length t.frames
closes_fewer t u f g fs h c = omega (arith, closes_count (closed t) u c, ap (λ (x : Thread). length x.frames) (closed_is t f g fs h), ap length h)

part_same : (f : Frame) → part_height (with_part 0 f) ≡ part_height f
part_same f = ap (λ (n : ℕ). if f.solid then one_more n else n) (let e : max f.height 0 ≡ f.height = omega arith in e)

rise_same : (f g : Frame) (fs : List Frame) → risen 0 (f ∷ g ∷ fs) ≡ risen 0 (with_part (part_height f) g ∷ fs)
unfolding risen
rise_same f g fs = ap (λ (n : ℕ). risen (part_height (with_part n g)) fs) (part_same f) ∙ ap (λ (n : ℕ). risen n fs) (sym (part_same (with_part (part_height f) g)))

pub closes_risen : (t u : Thread) → Closes t u → risen 0 t.frames ≡ risen 0 u.frames
closes_risen t u (closes_none _) = refl
closes_risen t u (closes_one _ _ f g fs h c) = ap (risen 0) h ∙ rise_same f g fs ∙ ap (λ (x : Thread). risen 0 x.frames) (sym (closed_is t f g fs h)) ∙ closes_risen (closed t) u c

-- ---- the state

-- A thread, once it has closed what is done, stands in a node of which it has read these pieces, where a
-- node is made of them in the end or not. What the node holds lies at this depth in the tree, and the thread
-- counts no more than that.
pub record Stands (low : ℕ → Type 0) (told : Bool) (t : Thread) (at : ℕ) (f : Frame) (fs : List Frame) (had : Pieces) (lone is_node : Bool) (base depth : ℕ) : Type 0 where
  pub u : Thread
  pub closes : Closes t u
  pub frames : u.frames ≡ f ∷ fs
  pub shallow : told ≡ true → low (at + 1) → u.deep ≡ false
  pub level : told ≡ true → u.depth ≤ base + count f.solid
  pub solid : f.solid ≡ true → is_node ≡ true
  pub soft : f.solid ≡ false → (lone ≡ true) × ((had ≡ nothing) ⊎ (is_one_node had ≡ true))
  pub some : 0 < f.parts → 0 < amount had
  pub none : f.parts ≡ 0 → had ≡ nothing
  pub lies : low at → IsLow depth (words had) (height had)
  pub tall : f.height ≤ height had

-- The same where the next piece begins, which the innermost node gains: if that is a second piece of a node
-- that would have been none, it is made one before
pub record Begins (low : ℕ → Type 0) (told : Bool) (v : Thread) (at : ℕ) (f : Frame) (fs : List Frame) (had : Pieces) (lone is_node : Bool) (base depth : ℕ) : Type 0 where
  pub frames : v.frames ≡ f ∷ fs
  pub shallow : told ≡ true → low (at + 1) → v.deep ≡ false
  pub level : told ≡ true → v.depth ≤ base + count f.solid
  pub solid : f.solid ≡ true → is_node ≡ true
  pub soft : f.solid ≡ false → (lone ≡ true) × (had ≡ nothing)
  pub lies : low at → IsLow depth (words had) (height had)
  pub tall : f.height ≤ height had

shallow_is : (depth tall : ℕ) → depth + tall ≤ DEPTH_LIMIT → is_deep depth tall ≡ false
unfolding is_deep
shallow_is depth tall h = le-ltb DEPTH_LIMIT (min (depth + tall) (2 ^ 32 - 1)) (omega arith)

or_false : (x y : Bool) → x ≡ false → y ≡ false → (x || y) ≡ false
or_false true y h e = absurd (cc)
or_false false y h e = e

-- a node that turns solid
level_hard : (at_depth base depth tall high some : ℕ) (solid is_node : Bool) → solid ≡ false → is_node ≡ true → at_depth ≤ base + count solid → base + count is_node ≤ depth → tall ≤ high → depth ≤ DEPTH_LIMIT → IsLow depth some high → one_more at_depth + tall ≤ DEPTH_LIMIT
level_hard at_depth base depth tall high some true is_node s n l b t d i = absurd (cc)
level_hard at_depth base depth tall high some false false s n l b t d i = absurd (cc)
level_hard at_depth base depth tall high some false true s n l b t d (inl none) = omega (arith, none.1)
level_hard at_depth base depth tall high some false true s n l b t d (inr i) = omega arith

deeper_hard : (at_depth base : ℕ) (solid : Bool) → solid ≡ false → at_depth ≤ base + count solid → one_more at_depth ≤ base + 1
deeper_hard at_depth base true s l = absurd (cc)
deeper_hard at_depth base false s l = omega arith

hard_begins : (low : ℕ → Type 0) (told : Bool) (t v : Thread) (at : ℕ) (f : Frame) (fs : List Frame) (had : Pieces) (lone is_node : Bool) (base depth : ℕ) → ((n m : ℕ) → n ≤ m → low m → low n) → (s : Stands low told t at f fs had lone is_node base depth)
    → base + count is_node ≤ depth → (low (at + 1) → depth ≤ DEPTH_LIMIT) → v.frames ≡ f ∷ fs → v.depth ≡ s.u.depth → v.deep ≡ s.u.deep → f.solid ≡ false → is_node ≡ true
    → Begins low told (hardened f v) at (record f { solid = true }) fs had lone is_node base depth
unfolding hardened
hard_begins low told t v at f fs had lone is_node base depth falls s b d ef ed ep soft n = record {
  frames = ap (with_first (record f { solid = true })) ef;
  shallow = λ h l. or_false v.deep (is_deep (one_more v.depth) f.height) (ep ∙ s.shallow h l)
      (shallow_is (one_more v.depth) f.height (level_hard v.depth base depth f.height (height had) (words had) f.solid is_node soft n (subst (λ (x : ℕ). x ≤ base + count f.solid) (sym ed) (s.level h)) b s.tall (d l) (s.lies (falls at (at + 1) (omega arith) l))));
  level = λ h. deeper_hard v.depth base f.solid soft (subst (λ (x : ℕ). x ≤ base + count f.solid) (sym ed) (s.level h));
  solid = λ h. n;
  soft = λ h. absurd (cc);
  lies = s.lies;
  tall = s.tall;
}

same_begins : (low : ℕ → Type 0) (told : Bool) (t v : Thread) (at : ℕ) (f : Frame) (fs : List Frame) (had : Pieces) (lone is_node : Bool) (base depth : ℕ) (s : Stands low told t at f fs had lone is_node base depth)
    → v.frames ≡ f ∷ fs → v.depth ≡ s.u.depth → v.deep ≡ s.u.deep → (f.solid ≡ false → f.parts ≡ 0) → Begins low told v at f fs had lone is_node base depth
same_begins low told t v at f fs had lone is_node base depth s ef ed ep soft = record {
  frames = ef;
  shallow = λ h l. ep ∙ s.shallow h l;
  level = λ h. subst (λ (x : ℕ). x ≤ base + count f.solid) (sym ed) (s.level h);
  solid = s.solid;
  soft = λ h. ((s.soft h).0, s.none (soft h));
  lies = s.lies;
  tall = s.tall;
}

-- ---- a rule begins

-- the innermost node where a rule begins
abbrev pub met_frame : Rule → Frame → Frame
met_frame r f = if not f.solid && (nat_lt 0 f.parts || is_never_alone r) then record f { solid = true } else f

met_by : (low : ℕ → Type 0) (told : Bool) (t v : Thread) (at : ℕ) (r : Rule) (f : Frame) (fs : List Frame) (had : Pieces) (lone is_node : Bool) (base depth : ℕ) → ((n m : ℕ) → n ≤ m → low m → low n) → (s : Stands low told t at f fs had lone is_node base depth)
    → base + count is_node ≤ depth → (low (at + 1) → depth ≤ DEPTH_LIMIT) → v.frames ≡ f ∷ fs → v.depth ≡ s.u.depth → v.deep ≡ s.u.deep
    → ((0 < f.parts) ⊎ (is_never_alone r ≡ true) → is_node ≡ true) → (x y z : Bool) → f.solid ≡ x → nat_lt 0 f.parts ≡ y → is_never_alone r ≡ z
    → Begins low told (if not x && (y || z) then hardened f v else v) at (if not x && (y || z) then record f { solid = true } else f) fs had lone is_node base depth
met_by low told t v at r f fs had lone is_node base depth falls s b d ef ed ep n true y z ex ey ez = same_begins low told t v at f fs had lone is_node base depth s ef ed ep (λ e. absurd (cc))
met_by low told t v at r f fs had lone is_node base depth falls s b d ef ed ep n false true z ex ey ez = hard_begins low told t v at f fs had lone is_node base depth falls s b d ef ed ep ex (n (inl (ltb-true 0 f.parts ey)))
met_by low told t v at r f fs had lone is_node base depth falls s b d ef ed ep n false false true ex ey ez = hard_begins low told t v at f fs had lone is_node base depth falls s b d ef ed ep ex (n (inr ez))
met_by low told t v at r f fs had lone is_node base depth falls s b d ef ed ep n false false false ex ey ez = same_begins low told t v at f fs had lone is_node base depth s ef ed ep (λ e. (let l = ltb-false 0 f.parts ey in omega arith))

pub met_begins : (low : ℕ → Type 0) (told : Bool) (t v : Thread) (at : ℕ) (r : Rule) (f : Frame) (fs : List Frame) (had : Pieces) (lone is_node : Bool) (base depth : ℕ) → ((n m : ℕ) → n ≤ m → low m → low n) → (s : Stands low told t at f fs had lone is_node base depth)
    → base + count is_node ≤ depth → (low (at + 1) → depth ≤ DEPTH_LIMIT) → v.frames ≡ f ∷ fs → v.depth ≡ s.u.depth → v.deep ≡ s.u.deep
    → ((0 < f.parts) ⊎ (is_never_alone r ≡ true) → is_node ≡ true)
    → Begins low told (met r v) at (met_frame r f) fs had lone is_node base depth
unfolding met
met_begins low told t v at r f fs had lone is_node base depth falls s b d ef ed ep n =
    subst (λ (x : Thread). Begins low told x at (met_frame r f) fs had lone is_node base depth) (sym (ap (met_from r v) ef))
    (met_by low told t v at r f fs had lone is_node base depth falls s b d ef ed ep n f.solid (nat_lt 0 f.parts) (is_never_alone r) refl refl refl)

pub met_height : (r : Rule) (f : Frame) → (met_frame r f).height ≡ f.height
met_height r f = by (not f.solid && (nat_lt 0 f.parts || is_never_alone r))
  where
    by : (b : Bool) → (if b then record f { solid = true } else f).height ≡ f.height
    by true = refl
    by false = refl

-- ---- a token is read

-- the innermost node where a token is read
abbrev pub hard_frame : Frame → Frame
hard_frame f = record f { solid = true }

level_touch : (at_depth base depth : ℕ) (solid is_node : Bool) → (solid ≡ true → is_node ≡ true) → solid ≡ true → at_depth ≤ base + count solid → base + count is_node ≤ depth → depth ≤ DEPTH_LIMIT → at_depth + 0 ≤ DEPTH_LIMIT
level_touch at_depth base depth true true n s l b d = omega arith
level_touch at_depth base depth true false n s l b d = absurd (let e = n s in cc)
level_touch at_depth base depth false is_node n s l b d = absurd (cc)

pub hard_same : (f : Frame) → f.solid ≡ true → f ≡ hard_frame f
hard_same f e = ap (λ (b : Bool). record f { solid = b }) e

soft_begins : (low : ℕ → Type 0) (told : Bool) (t : Thread) (at : ℕ) (f : Frame) (fs : List Frame) (had : Pieces) (lone is_node : Bool) (base depth : ℕ) (s : Stands low told t at f fs had lone is_node base depth)
    → base + count is_node ≤ depth → (low (at + 1) → depth ≤ DEPTH_LIMIT) → f.solid ≡ true
    → Begins low told (record (passed s.u) { deep = s.u.deep || is_deep s.u.depth 0 }) at (hard_frame f) fs had lone is_node base depth
soft_begins low told t at f fs had lone is_node base depth s b d e = record {
  frames = s.frames ∙ ap (λ (g : Frame). g ∷ fs) (hard_same f e);
  shallow = λ h l. or_false s.u.deep (is_deep s.u.depth 0) (s.shallow h l) (shallow_is s.u.depth 0 (level_touch s.u.depth base depth f.solid is_node s.solid e (s.level h) b (d l)));
  level = λ h. subst (λ (x : Bool). s.u.depth ≤ base + count x) e (s.level h);
  solid = λ h. s.solid e;
  soft = λ h. absurd (cc);
  lies = s.lies;
  tall = s.tall;
}

touch_by : (low : ℕ → Type 0) (told : Bool) (t : Thread) (at : ℕ) (f : Frame) (fs : List Frame) (had : Pieces) (lone is_node : Bool) (base depth : ℕ) → ((n m : ℕ) → n ≤ m → low m → low n) → (s : Stands low told t at f fs had lone is_node base depth)
    → base + count is_node ≤ depth → (low (at + 1) → depth ≤ DEPTH_LIMIT) → is_node ≡ true → (x : Bool) → f.solid ≡ x
    → Begins low told (if x then record (passed s.u) { deep = s.u.deep || is_deep s.u.depth 0 } else hardened f (passed s.u)) at (hard_frame f) fs had lone is_node base depth
touch_by low told t at f fs had lone is_node base depth falls s b d n true e = soft_begins low told t at f fs had lone is_node base depth s b d e
touch_by low told t at f fs had lone is_node base depth falls s b d n false e = hard_begins low told t (passed s.u) at f fs had lone is_node base depth falls s b d s.frames refl refl e n

pub touch_begins : (low : ℕ → Type 0) (told : Bool) (t : Thread) (at : ℕ) (f : Frame) (fs : List Frame) (had : Pieces) (lone is_node : Bool) (base depth : ℕ) → ((n m : ℕ) → n ≤ m → low m → low n) → (s : Stands low told t at f fs had lone is_node base depth)
    → base + count is_node ≤ depth → (low (at + 1) → depth ≤ DEPTH_LIMIT) → is_node ≡ true
    → Begins low told (touched_from (passed s.u) s.u.frames) at (hard_frame f) fs had lone is_node base depth
touch_begins low told t at f fs had lone is_node base depth falls s b d n =
    subst (λ (x : Thread). Begins low told x at (hard_frame f) fs had lone is_node base depth) (sym (ap (touched_from (passed s.u)) s.frames)) (touch_by low told t at f fs had lone is_node base depth falls s b d n f.solid refl)

-- ---- a piece is there

lone_piece : (had piece : Pieces) → had ≡ nothing → is_one_node piece ≡ true → is_one_node (followed had piece) ≡ true
lone_piece had piece e h = subst (λ (p : Pieces). is_one_node (followed p piece) ≡ true) (sym e) h

more_parts : (n : ℕ) → one_more n ≡ 0 → ⊥
more_parts n h = omega arith

pub piece_stands : (low : ℕ → Type 0) (told : Bool) (t u v : Thread) (at later : ℕ) (f g : Frame) (fs : List Frame) (had piece : Pieces) (lone is_node : Bool) (base depth rise : ℕ) → ((n m : ℕ) → n ≤ m → low m → low n)
    → Begins low told v at f fs had lone is_node base depth → Closes t u → u.frames ≡ g ∷ fs → g ≡ with_part rise f → (told ≡ true → low (later + 1) → u.deep ≡ false) → (told ≡ true → u.depth ≤ base + count f.solid)
    → at ≤ later → rise ≤ height piece → 0 < amount piece → (f.solid ≡ false → is_one_node piece ≡ true) → (low later → IsLow depth (words piece) (height piece))
    → Stands low told t later g fs (followed had piece) lone is_node base depth
piece_stands low told t u v at later f g fs had piece lone is_node base depth rise falls b c ef eg shallow level within small some one lies = record {
  u = u;
  closes = c;
  frames = ef;
  shallow = shallow;
  level = λ h. subst (λ (x : Frame). u.depth ≤ base + count x.solid) (sym eg) (level h);
  solid = λ h. b.solid (sym (ap (λ (x : Frame). x.solid) eg) ∙ h);
  soft = λ h. (let e : f.solid ≡ false = sym (ap (λ (x : Frame). x.solid) eg) ∙ h in ((b.soft e).0, inr (lone_piece had piece (b.soft e).1 (one e))));
  some = λ h. omega (arith, amount_followed had piece);
  none = λ h. absurd (more_parts f.parts (sym (ap (λ (x : Frame). x.parts) eg) ∙ h));
  lies = λ l. (let j = low_joined depth (words had) (words piece) (height had) (height piece) (b.lies (falls at later within l)) (lies l) in
      subst (λ (n : ℕ). IsLow depth n (height (followed had piece))) (sym (words_followed had piece)) (subst (IsLow depth (words had + words piece)) (sym (height_followed had piece)) j));
  tall = omega (arith, ap (λ (x : Frame). x.height) eg, b.tall, height_followed had piece);
}

-- ---- a node is opened, and closed

-- whether a rule that makes no node alone, or not, makes one of these pieces
abbrev pub makes : Bool → Pieces → Bool
makes lone whole = not (lone && is_one_node whole)

abbrev pub new_frame : Rule → Frame
new_frame r = record { rule = r; parts = 0; height = 0; solid = not (collapses r) }

level_open : (lone : Bool) (at_depth base : ℕ) → at_depth ≤ base → (if lone then at_depth else one_more at_depth) ≤ base + count (not lone)
level_open true at_depth base h = omega arith
level_open false at_depth base h = omega arith

not_lone : (x y z : Bool) → x ≡ y → not x ≡ true → not (y && z) ≡ true
not_lone true y z e h = absurd (cc)
not_lone false true z e h = absurd (cc)
not_lone false false z e h = refl

is_lone : (x y : Bool) → x ≡ y → not x ≡ false → y ≡ true
is_lone true y e h = sym e
is_lone false y e h = absurd (cc)

pub open_stands : (low : ℕ → Type 0) (told : Bool) (v : Thread) (at : ℕ) (r : Rule) (fs : List Frame) (base depth : ℕ) (inside : Pieces) (ps : List Part)
    → v.frames ≡ fs → (told ≡ true → low (at + 1) → v.deep ≡ false) → (told ≡ true → v.depth ≤ base)
    → Stands low told (put ps (opened r v)) at (new_frame r) fs nothing (makes_no_node_alone r) (makes (makes_no_node_alone r) inside) base depth
unfolding put opened
open_stands low told v at r fs base depth inside ps ef shallow level = record {
  u = put ps (opened r v);
  closes = closes_none (put ps (opened r v));
  frames = ap (λ (l : List Frame). new_frame r ∷ l) ef;
  shallow = shallow;
  level = λ h. level_open (collapses r) v.depth base (level h);
  solid = λ h. not_lone (collapses r) (makes_no_node_alone r) (is_one_node inside) (same_lone r) h;
  soft = λ h. (is_lone (collapses r) (makes_no_node_alone r) (same_lone r) h, inl refl);
  some = λ h. absurd (omega arith);
  none = λ h. refl;
  lies = λ l. inl (refl, refl);
  tall = omega arith;
}

level_shut : (solid : Bool) (at_depth base : ℕ) → at_depth ≤ base + count solid → (if solid then at_depth - 1 else at_depth) ≤ base
level_shut true at_depth base h = omega arith
level_shut false at_depth base h = omega arith

pub shut_stands : (low : ℕ → Type 0) (told : Bool) (t v : Thread) (at later : ℕ) (r : Rule) (f n : Frame) (fs : List Frame) (had inside : Pieces) (lone is_node lone2 is_node2 : Bool) (base depth deeper : ℕ) → ((n m : ℕ) → n ≤ m → low m → low n)
    → Begins low told v at f fs had lone is_node base depth → (s : Stands low told t later n (f ∷ fs) inside lone2 is_node2 (base + count f.solid) deeper)
    → at ≤ later → part_height n ≤ height (made r inside) → (low later → IsLow depth (words (made r inside)) (height (made r inside)))
    → Stands low told t later (with_part (part_height n) f) fs (followed had (made r inside)) lone is_node base depth
shut_stands low told t v at later r f n fs had inside lone is_node lone2 is_node2 base depth deeper falls b s within small lies =
    let e = closed_is s.u n f fs s.frames in
    piece_stands low told t (closed s.u) v at later f (with_part (part_height n) f) fs had (made r inside) lone is_node base depth (part_height n) falls b
    (closes_more t s.u n f fs s.closes s.frames) (ap (λ (x : Thread). x.frames) e) refl (λ h l. ap (λ (x : Thread). x.deep) e ∙ s.shallow h l)
    (λ h. subst (λ (k : ℕ). k ≤ base + count f.solid) (sym (ap (λ (x : Thread). x.depth) e)) (level_shut n.solid s.u.depth (base + count f.solid) (s.level h)))
    within small (omega (arith, one_amount (made r inside) (made_one r inside))) (λ h. made_one r inside) lies

rise_by : (x b : Bool) (h k : ℕ) → h ≡ k → (x ≡ true → b ≡ false) → (x ≡ false → b ≡ true) → (if x then one_more h else h) ≡ (if b then k else one_more k)
rise_by true true h k e f g = absurd (let c = f refl in cc)
rise_by true false h k e f g = ap one_more e
rise_by false true h k e f g = e
rise_by false false h k e f g = absurd (let c = g refl in cc)

lone_one : (x y : Bool) (p : Pieces) → x ≡ true → 0 < amount p → (p ≡ nothing) ⊎ (y ≡ true) → (x && y) ≡ true
lone_one x y p h some (inl e) = absurd (omega (arith, ap amount e))
lone_one true y p h some (inr e) = e
lone_one false y p h some (inr e) = absurd (cc)

not_is : (x : Bool) → not x ≡ true → x ≡ false
not_is true h = absurd (cc)
not_is false h = refl

-- how high it is counted
pub shut_rise : (low : ℕ → Type 0) (told : Bool) (t : Thread) (at : ℕ) (r : Rule) (n : Frame) (fs : List Frame) (inside : Pieces) (base depth tall : ℕ)
    → Stands low told t at n fs inside (makes_no_node_alone r) (makes (makes_no_node_alone r) inside) base depth → (makes_no_node_alone r ≡ true → 0 < amount inside) → n.height ≡ tall
    → part_height n ≡ rise_made r inside tall
shut_rise low told t at r n fs inside base depth tall s some e =
    rise_by n.solid (makes_no_node_alone r && is_one_node inside) n.height tall e (λ h. not_is (makes_no_node_alone r && is_one_node inside) (s.solid h))
    (λ h. (let l = s.soft h in lone_one (makes_no_node_alone r) (is_one_node inside) inside l.0 (some l.0) l.1))

-- ---- a token is read, or a brace by another thread

read_level : (low : ℕ → Type 0) (at depth : ℕ) → (low (at + 1) → depth ≤ DEPTH_LIMIT) → low (at + 1) → IsLow depth 1 0
read_level low at depth d l = inr (let h = d l in omega arith)

pub read_stands : (low : ℕ → Type 0) (told : Bool) (t : Thread) (at : ℕ) (f : Frame) (fs : List Frame) (had : Pieces) (lone is_node : Bool) (base depth : ℕ) (k : TokenKind) → ((n m : ℕ) → n ≤ m → low m → low n) → (s : Stands low told t at f fs had lone is_node base depth)
    → base + count is_node ≤ depth → (low (at + 1) → depth ≤ DEPTH_LIMIT) → is_node ≡ true
    → Stands low told (after_read s.u) (at + 1) (with_part 0 (hard_frame f)) fs (followed had (word k nothing)) lone is_node base depth
unfolding after_read
read_stands low told t at f fs had lone is_node base depth k falls s b d n =
    let v = touched_from (passed s.u) s.u.frames in
    let g = touch_begins low told t at f fs had lone is_node base depth falls s b d n in
    piece_stands low told (with_gain 0 v) (with_gain 0 v) v at (at + 1) (hard_frame f) (with_part 0 (hard_frame f)) fs had (word k nothing) lone is_node base depth 0 falls g
    (closes_none (with_gain 0 v)) (ap (gained 0) g.frames) refl (λ h l. g.shallow h (falls (at + 1) (at + 1 + 1) (omega arith) l)) g.level (omega arith) (omega arith) (omega arith) (λ h. absurd (cc)) (read_level low at depth d)

pub read_shallow : (low : ℕ → Type 0) (told : Bool) (t : Thread) (at : ℕ) (f : Frame) (fs : List Frame) (had : Pieces) (lone is_node : Bool) (base depth : ℕ) → ((n m : ℕ) → n ≤ m → low m → low n) → (s : Stands low told t at f fs had lone is_node base depth)
    → base + count is_node ≤ depth → (low (at + 1) → depth ≤ DEPTH_LIMIT) → is_node ≡ true → told ≡ true → low (at + 1) → (after_read s.u).deep ≡ false
unfolding after_read
read_shallow low told t at f fs had lone is_node base depth falls s b d n h l = (touch_begins low told t at f fs had lone is_node base depth falls s b d n).shallow h l

level_in : (x y : Bool) (at_depth base depth : ℕ) → (x ≡ true → y ≡ true) → at_depth ≤ base + count x → base + count y ≤ depth → at_depth ≤ depth
level_in true true at_depth base depth h l b = omega arith
level_in true false at_depth base depth h l b = absurd (let e = h refl in cc)
level_in false true at_depth base depth h l b = omega arith
level_in false false at_depth base depth h l b = omega arith

pub received_shallow : (low : ℕ → Type 0) (told : Bool) (v : Thread) (at later : ℕ) (f : Frame) (fs : List Frame) (had : Pieces) (lone is_node : Bool) (base depth tall own : ℕ) → ((n m : ℕ) → n ≤ m → low m → low n)
    → Begins low told v at f fs had lone is_node base depth → base + count is_node ≤ depth → at < later → own ≤ tall → (low later → depth + tall ≤ DEPTH_LIMIT) → told ≡ true → low later → (received own v).deep ≡ false
unfolding received
received_shallow low told v at later f fs had lone is_node base depth tall own falls g b within small d h l =
    let inner = d l in
    let level = level_in f.solid is_node v.depth base depth g.solid (g.level h) b in
    or_false v.deep (is_deep v.depth own) (g.shallow h (falls (at + 1) later (omega arith) l)) (shallow_is v.depth own (omega arith))

pub received_stands : (low : ℕ → Type 0) (told : Bool) (v : Thread) (at later : ℕ) (f : Frame) (fs : List Frame) (had piece : Pieces) (lone is_node : Bool) (base depth own : ℕ) → ((n m : ℕ) → n ≤ m → low m → low n)
    → Begins low told v at f fs had lone is_node base depth → base + count is_node ≤ depth → at < later → own ≤ height piece → 0 < amount piece → (f.solid ≡ false → is_one_node piece ≡ true) → (low later → depth + height piece ≤ DEPTH_LIMIT)
    → Stands low told (received own v) later (with_part own f) fs (followed had piece) lone is_node base depth
unfolding received
received_stands low told v at later f fs had piece lone is_node base depth own falls g b within small some one d =
    piece_stands low told (received own v) (received own v) v at later f (with_part own f) fs had piece lone is_node base depth own falls g
    (closes_none (received own v)) (ap (gained own) g.frames) refl
    (λ h l. received_shallow low told v at later f fs had lone is_node base depth (height piece) own falls g b within small d h (falls later (later + 1) (omega arith) l))
    g.level (omega arith) small some one (λ l. inr (d l))
