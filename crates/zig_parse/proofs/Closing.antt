-- The innermost node is closed.
use Rattle.std.proofs.Common.{◌≡◌, ℕ, ◌+◌, ◌-◌, ◌*◌, ◌<◌, ◌≤◌, Bool, true, false, ◌⊎◌, inl, inr, List, [], ◌∷◌, ◌++◌, length, drop, take, refl, sym, ◌∙◌, ap, subst, arith, append_assoc, append-nil, length-append}
use Rattle.std.specs.Prelude.{if◌then◌else◌, max, ◌^◌}
use Rattle.zig_tree.specs.declared.token.Token.{Token}
use Rattle.zig_tree.specs.declared.grammar.Rule.{Rule}
use Rattle.zig_tree.specs.declared.grammar.Part.{Part}
use Rattle.zig_tree.specs.declared.grammar.Part.TheVariants as part
use Rattle.zig_tree.specs.declared.tree.Kid.{Kid}
use Rattle.zig_tree.specs.declared.tree.Kid.TheVariants as kid
use Rattle.zig_tree.specs.declared.tree.Node.{Node}
use Rattle.zig_tree.specs.GrammarSentences.{Pieces, nothing, made}
use Rattle.zig_parse.specs.declared.thread.Frame.{Frame}
use Rattle.zig_parse.specs.declared.thread.Item.{Item}
use Rattle.zig_parse.specs.declared.thread.Thread.{Thread}
use Rattle.zig_parse.specs.Threads.{closed, closed_from, one_more, part_height, with_part}
use Rattle.zig_parse.specs.Nodes.{Parts, span_of, with_node}
use Rattle.zig_parse.specs.Trees.{Spells, spells_nothing, spells_token, spells_node}
use Rattle.zig_parse.proofs.Shapes.{count}
use Rattle.zig_parse.proofs.Spelled.{got_last, spells_more, spells_span, spells_within}
use Rattle.zig_parse.proofs.Story.{Inside, inside_more, inside_part, inside_some, inside_made, inside_lone}
use Rattle.zig_parse.proofs.Standing.{Outer, at_root, in_node, outer_more, Standing}
use Rattle.zig_tree.specs.declared.tree.TheConstants.{DEPTH_LIMIT}

take_front : {A : Type 0} (xs ys : List A) → take (length xs) (xs ++ ys) ≡ xs
take_front [] ys = refl
take_front (x ∷ xs) ys = ap (λ (l : List _). x ∷ l) (take_front xs ys)

drop_front : {A : Type 0} (xs ys : List A) → drop (length xs) (xs ++ ys) ≡ ys
drop_front [] ys = refl
drop_front (x ∷ xs) ys = drop_front xs ys

-- what the nodes and kids are after the node is closed
pub record Shut (tokens : List Token) (parts after : Parts) (others : List Kid) (from at : ℕ) (p : Pieces) (solid : Bool) : Type 0 where
  pub more : List Node
  pub lone : List Kid
  pub same : after ≡ record { nodes = parts.nodes ++ more; kids = others ++ lone }
  pub spelled : Spells tokens (parts.nodes ++ more) lone from at p
  pub one : length lone ≡ 1
  pub last : solid ≡ true → (lone ≡ kid.Node (length parts.nodes) ∷ []) × (length more ≡ 1)

unfoldable pub node_of : List Token → Rule → List Node → List Kid → Node
node_of tokens r nodes own = record { rule = r; span = span_of tokens nodes own; kids = own }

cut_by : (tokens : List Token) (r : Rule) (parts : Parts) (dropped own kept others : List Kid) → dropped ≡ own → kept ≡ others
    → ◌≡◌ {A = Parts} (record { nodes = parts.nodes ++ node_of tokens r parts.nodes dropped ∷ []; kids = kept ++ kid.Node (length parts.nodes) ∷ [] }) (record { nodes = parts.nodes ++ node_of tokens r parts.nodes own ∷ []; kids = others ++ kid.Node (length parts.nodes) ∷ [] })
cut_by tokens r parts dropped own kept others h k = rw (h, k) refl

pub cut_as : (tokens : List Token) (r : Rule) (parts : Parts) (others own : List Kid) (n : ℕ) → parts.kids ≡ others ++ own → n ≡ length own
    → with_node tokens r n parts ≡ record { nodes = parts.nodes ++ node_of tokens r parts.nodes own ∷ []; kids = others ++ kid.Node (length parts.nodes) ∷ [] }
unfolding with_node node_of
cut_as tokens r parts others own n k h =
    let cut : length parts.kids - n ≡ length others = omega (arith, length-append others own, ap length k) in
    let dropped : drop (length parts.kids - n) parts.kids ≡ own = ap (λ (m : ℕ). drop m parts.kids) cut ∙ ap (drop (length others)) k ∙ drop_front others own in
    let taken : take (length parts.kids - n) parts.kids ≡ others = ap (λ (m : ℕ). take m parts.kids) cut ∙ ap (take (length others)) k ∙ take_front others own in
    cut_by tokens r parts (drop (length parts.kids - n) parts.kids) own (take (length parts.kids - n) parts.kids) others dropped taken

shut_solid : (tokens : List Token) (parts : Parts) (f : Frame) (others own : List Kid) (from at depth : ℕ) (i : Inside tokens parts.nodes f from at own [] depth) → parts.kids ≡ others ++ own → f.solid ≡ true
    → Shut tokens parts (with_node tokens f.rule f.parts parts) others from at (made f.rule i.pieces) true
unfolding node_of
shut_solid tokens parts f others own from at depth i k s =
    let n = node_of tokens f.rule parts.nodes own in
    let some = inside_some tokens parts.nodes f from at own depth i in
    record {
      more = n ∷ [];
      lone = kid.Node (length parts.nodes) ∷ [];
      same = cut_as tokens f.rule parts others own f.parts k i.counted;
      spelled = subst (Spells tokens (parts.nodes ++ n ∷ []) (kid.Node (length parts.nodes) ∷ []) from at) (sym (inside_made tokens parts.nodes f from at own depth i s))
          (spells_node (length parts.nodes) from at at n [] i.pieces nothing (got_last parts.nodes n) some (spells_span tokens parts.nodes own from at i.pieces i.spelled some)
          (spells_more tokens parts.nodes (n ∷ []) own from at i.pieces i.spelled) (spells_nothing at));
      one = refl;
      last = λ e. (refl, refl);
    }

pub same_parts : (parts : Parts) (others own : List Kid) → parts.kids ≡ others ++ own → parts ≡ record { nodes = parts.nodes ++ []; kids = others ++ own }
same_parts parts others own k = rw (append-nil parts.nodes, sym k) refl

shut_soft : (tokens : List Token) (parts : Parts) (f : Frame) (others own : List Kid) (from at depth : ℕ) (i : Inside tokens parts.nodes f from at own [] depth) → parts.kids ≡ others ++ own → f.solid ≡ false
    → Shut tokens parts parts others from at (made f.rule i.pieces) false
shut_soft tokens parts f others own from at depth i k s =
    let l = inside_lone tokens parts.nodes f from at own depth i s in
    record {
      more = [];
      lone = own;
      same = same_parts parts others own k;
      spelled = subst (Spells tokens (parts.nodes ++ []) own from at) (sym l.0) (spells_more tokens parts.nodes [] own from at i.pieces i.spelled);
      one = l.1;
      last = λ e. absurd (cc);
    }

shut_by : (tokens : List Token) (parts : Parts) (f : Frame) (others own : List Kid) (from at depth : ℕ) (i : Inside tokens parts.nodes f from at own [] depth) → parts.kids ≡ others ++ own → (s : Bool) → f.solid ≡ s
    → Shut tokens parts (if s then with_node tokens f.rule f.parts parts else parts) others from at (made f.rule i.pieces) s
shut_by tokens parts f others own from at depth i k true e = shut_solid tokens parts f others own from at depth i k e
shut_by tokens parts f others own from at depth i k false e = shut_soft tokens parts f others own from at depth i k e

pub shut_parts : (tokens : List Token) (at moves : ℕ) (parts : Parts) (f : Frame) (others own : List Kid) (from depth : ℕ) (i : Inside tokens parts.nodes f from at own [] depth) → parts.kids ≡ others ++ own
    → Shut tokens parts (if f.solid then with_node tokens f.rule f.parts parts else parts) others from at (made f.rule i.pieces) f.solid
shut_parts tokens at moves parts f others own from depth i k = shut_by tokens parts f others own from at depth i k f.solid refl

-- ---- the node around it

height_as : (f : Frame) (depth own : ℕ) → ((own ≡ 0) × (f.height ≡ 0)) ⊎ (depth + f.height ≤ DEPTH_LIMIT) → 0 < own → part_height f ≡ f.height + count f.solid
height_as f depth own (inl none) h = absurd (omega (arith, none.0))
height_as f depth own (inr l) h = by f.solid
  where
    by : (s : Bool) → (if s then one_more f.height else f.height) ≡ f.height + count s
    by true = omega arith
    by false = omega arith

pub depth_as : (solid : Bool) (depth below : ℕ) → depth ≡ below + count solid → (if solid then depth - 1 else depth) ≡ below
depth_as true depth below h = omega arith
depth_as false depth below h = omega arith

-- the thread after its innermost node is closed
abbrev pub around : Thread → Frame → Frame → List Frame → Thread
around t f g gs = record t { frames = with_part (part_height f) g ∷ gs; depth = if f.solid then t.depth - 1 else t.depth }

pub closed_around : (t : Thread) (f g : Frame) (gs : List Frame) → t.frames ≡ f ∷ g ∷ gs → closed t ≡ around t f g gs
unfolding closed
closed_around t f g gs e = ap (closed_from t) e

some_kids : (kids : List Kid) (a b : ℕ) → a < b → (tokens : List Token) (nodes : List Node) (p : Pieces) → Spells tokens nodes kids a b p → 0 < length kids
some_kids kids a b l tokens nodes p (spells_nothing _) = absurd (omega arith)
some_kids kids a b l tokens nodes p (spells_token _ _ t ks later h s) = omega arith
some_kids kids a b l tokens nodes p (spells_node number _ next _ n ks inside later h k e s u) = omega arith

close_by : (tokens : List Token) (at moves : ℕ) (t : Thread) (parts after : Parts) (f : Frame) (fs : List Frame) (r : Rule) (behind : List Item) (from : ℕ) (others own : List Kid) (depth : ℕ) → at ≤ length tokens → length tokens < 2 ^ 32
    → Outer tokens parts.nodes fs r behind from others depth → r ≡ f.rule → (i : Inside tokens parts.nodes f from at own [] t.depth) → t.frames ≡ f ∷ fs → t.items ≡ behind → t.depth ≡ depth + count f.solid → t.depth + 2 * moves ≤ 400
    → 0 < length fs → Shut tokens parts after others from at (made f.rule i.pieces) f.solid → (qs : List Part) × Standing tokens at moves (closed t) after qs
unfolding inside_more
close_by tokens at moves t parts after f fs r behind from others own depth within fits at_root er i ef ei ed budget some s = absurd (omega arith)
close_by tokens at moves t parts after f fs r behind from others own depth within fits (in_node g gs _ qs below _ from2 _ others2 own2 _ depth2 _ o inner waits ej ek el) er i ef ei ed budget some s =
    let nodes = parts.nodes ++ s.more in
    let u = around t f g gs in
    let whole : Parts = record { nodes = nodes; kids = others ++ s.lone } in
    let lower : (if f.solid then t.depth - 1 else t.depth) ≡ depth = depth_as f.solid t.depth depth ed in
    let later = inside_some tokens parts.nodes f from at own t.depth i in
    let held = spells_within tokens parts.nodes own2 from2 from inner.pieces inner.spelled in
    let mine = spells_within tokens parts.nodes own from at i.pieces i.spelled in
    let taller = height_as f t.depth (length own) i.shallow (some_kids own from at later tokens parts.nodes i.pieces i.spelled) in
    let counted : one_more g.parts ≡ g.parts + 1 = omega (arith, inner.counted) in
    let told : Inside tokens nodes g from2 from own2 (part.Rule f.rule ∷ qs) depth = inside_more tokens parts.nodes s.more g from2 from own2 (part.Rule f.rule ∷ qs) depth (subst (λ (x : Rule). Inside tokens parts.nodes g from2 from own2 (part.Rule x ∷ qs) depth) er inner) in
    let joined : Inside tokens nodes (with_part (part_height f) g) from2 at (own2 ++ s.lone) qs depth =
    inside_part tokens nodes g f (with_part (part_height f) g) from2 at from own2 own s.lone qs t.depth depth (inside_more tokens parts.nodes s.more f from at own [] t.depth i) s.spelled s.one waits refl refl counted (ap (max g.height) taller) (sym ed) told in
    let stands : Standing tokens at moves u whole qs = record {
      f = with_part (part_height f) g;
      fs = gs;
      behind = below;
      from = from2;
      others = others2;
      own = own2 ++ s.lone;
      depth = depth2;
      outer = outer_more tokens parts.nodes s.more gs g.rule below from2 others2 depth2 o;
      inside = subst (Inside tokens nodes (with_part (part_height f) g) from2 at (own2 ++ s.lone) qs) (sym lower) joined;
      frames = refl;
      items = ei ∙ ej;
      kids = ap (λ (l : List Kid). l ++ s.lone) ek ∙ append_assoc others2 own2 s.lone;
      deep_as = lower ∙ el;
      budget = omega (arith, lower, ed, budget);
    } in
    (qs, subst (λ (x : Thread). Standing tokens at moves x after qs) (sym (closed_around t f g gs ef)) (subst (λ (x : Parts). Standing tokens at moves u x qs) (sym s.same) stands))

pub close_step : (tokens : List Token) (at moves : ℕ) (t : Thread) (parts : Parts) → at ≤ length tokens → length tokens < 2 ^ 32 → (s : Standing tokens at moves t parts []) → 0 < length s.fs
    → (qs : List Part) × Standing tokens at moves (closed t) (if s.f.solid then with_node tokens s.f.rule s.f.parts parts else parts) qs
close_step tokens at moves t parts within fits s some =
    close_by tokens at moves t parts (if s.f.solid then with_node tokens s.f.rule s.f.parts parts else parts) s.f s.fs s.f.rule s.behind s.from s.others s.own s.depth within fits s.outer refl s.inside s.frames s.items s.deep_as s.budget some
    (shut_parts tokens at moves parts s.f s.others s.own s.from t.depth s.inside s.kids)
