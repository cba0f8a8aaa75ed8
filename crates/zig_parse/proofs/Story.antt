-- What was read so far, with what is to come, derives: in the innermost node and in those around it.
use Rattle.std.proofs.Common.{◌≡◌, ℕ, ◌+◌, ◌<◌, ◌≤◌, Bool, true, false, ◌&&◌, ◌||◌, ◌⊎◌, inl, inr, List, [], ◌∷◌, ◌++◌, length, drop, Some, refl, sym, ◌∙◌, ap, subst, arith, length-append, length-drop}
use Rattle.std.specs.Prelude.{if◌then◌else◌, not, max, slice_get}
use Rattle.std.proofs.lemmas.Bool.{and_parts, and_from, not-true}
use Rattle.zig_tree.specs.declared.token.Token.{Token}
use Rattle.zig_tree.specs.declared.token.TokenKind.{TokenKind}
use Rattle.zig_tree.specs.declared.grammar.Rule.{Rule}
use Rattle.zig_tree.specs.declared.grammar.Group.{Group}
use Rattle.zig_tree.specs.declared.grammar.Group.TheVariants as group
use Rattle.zig_tree.specs.declared.grammar.Part.{Part}
use Rattle.zig_tree.specs.declared.grammar.Part.TheVariants as part
use Rattle.zig_tree.specs.declared.tree.Kid.{Kid}
use Rattle.zig_tree.specs.declared.tree.Kid.TheVariants as kid
use Rattle.zig_tree.specs.declared.tree.Node.{Node}
use Rattle.zig_tree.specs.Grammar.{Alternative, group_rows, rule_rows}
use Rattle.zig_tree.specs.GrammarSentences.{Pieces, nothing, word, node, followed, makes_no_node_alone, is_one_node, made, open_at, Among, Derives, derives_none, derives_token, derives_one_of, derives_group, derives_rule, height}
use Rattle.zig_parse.specs.declared.thread.Frame.{Frame}
use Rattle.zig_parse.specs.Threads.{is_never_alone}
use Rattle.zig_parse.specs.Trees.{Spells, spells_nothing, spells_token, spells_node, kinds_of}
use Rattle.zig_parse.proofs.Derived.{followed_nothing, followed_twice, split_derived, open_is_row, row_tested}
use Rattle.zig_parse.proofs.Balance.{reads_some}
use Rattle.zig_parse.proofs.Shapes.{count, row_fills, has_piece, row_has_piece, is_before_more, is_led, row_led}
use Rattle.zig_parse.proofs.Tables.{rule_filled}
use Rattle.zig_parse.proofs.TreeTables.{lone_filled, rule_led, group_led}
use Rattle.zig_parse.proofs.Spelled.{amount, spells_more, spells_joined, spells_amount, spells_within}
use Rattle.zig_tree.specs.declared.tree.TheConstants.{DEPTH_LIMIT}

-- ---- pieces

pub amount_followed : (p q : Pieces) → amount (followed p q) ≡ amount p + amount q
amount_followed nothing q = omega arith
amount_followed (word k more) q = omega (arith, amount_followed more q)
amount_followed (node r inside more) q = omega (arith, amount_followed more q)

pub several : (p : Pieces) → 2 ≤ amount p → is_one_node p ≡ false
several nothing h = absurd (omega arith)
several (word k more) h = refl
several (node r inside nothing) h = absurd (omega arith)
several (node r inside (word k more)) h = refl
several (node r inside (node q others more)) h = refl

pub one_amount : (p : Pieces) → is_one_node p ≡ true → amount p ≡ 1
one_amount nothing h = absurd (cc)
one_amount (word k more) h = absurd (cc)
one_amount (node r inside nothing) h = refl
one_amount (node r inside (word k more)) h = absurd (cc)
one_amount (node r inside (node q others more)) h = absurd (cc)

pub worded : (p q : Pieces) (k : TokenKind) → is_one_node (followed p (word k q)) ≡ false
worded nothing q k = refl
worded (word j more) q k = refl
worded (node r inside nothing) q k = refl
worded (node r inside (word j more)) q k = refl
worded (node r inside (node s others more)) q k = refl

if_not_second : (x y : Bool) (p q : Pieces) → y ≡ false → (if x && y then p else q) ≡ q
if_not_second true y p q h = rw h refl
if_not_second false y p q h = refl

pub made_several : (r : Rule) (p : Pieces) → is_one_node p ≡ false → made r p ≡ node r p nothing
made_several r p h = if_not_second (makes_no_node_alone r) (is_one_node p) p (node r p nothing) h

pub made_always : (r : Rule) (p : Pieces) → makes_no_node_alone r ≡ false → made r p ≡ node r p nothing
made_always r p h = rw h refl

pub made_lone : (r : Rule) (p : Pieces) → makes_no_node_alone r ≡ true → is_one_node p ≡ true → made r p ≡ p
made_lone r p h k = rw (h, k) refl

one_if : (x y : Bool) (r : Rule) (p : Pieces) → is_one_node p ≡ y → is_one_node (if x && y then p else node r p nothing) ≡ true
one_if true true r p h = h
one_if true false r p h = refl
one_if false y r p h = refl

pub made_one : (r : Rule) (p : Pieces) → is_one_node (made r p) ≡ true
made_one r p = one_if (makes_no_node_alone r) (is_one_node p) r p refl

pub piece_amount : (ps : List Part) (tokens rest : List TokenKind) (p : Pieces) → Derives ps tokens rest p → has_piece ps ≡ true → 0 < amount p
piece_amount ps tokens rest p (derives_none _) h = absurd (cc)
piece_amount ps tokens rest p (derives_token k more after _ later d) h = omega arith
piece_amount ps tokens rest p (derives_one_of c k more after _ later e d) h = omega arith
piece_amount ps tokens rest p (derives_group g a more _ next _ inside later m d e) h = let s = piece_amount more next rest later e h in omega (arith, amount_followed inside later)
piece_amount ps tokens rest p (derives_rule r a more _ next _ inside later m d e) h = omega (arith, amount_followed (made r inside) later, one_amount (made r inside) (made_one r inside))

pub height_followed : (p q : Pieces) → height (followed p q) ≡ max (height p) (height q)
height_followed nothing q = omega arith
height_followed (word k more) q = height_followed more q
height_followed (node r inside more) q = omega (arith, height_followed more q)

-- ---- prefixes of a type stand before another part

not_or : (x y : Bool) → (not x || y) ≡ true → x ≡ true → y ≡ true
not_or true y h e = h
not_or false y h e = absurd (cc)

pub led_rest : (p : Part) (ps : List Part) → is_led (p ∷ ps) ≡ true → is_led ps ≡ true
led_rest p ps h = (and_parts (not (is_before_more p) || has_piece ps) (is_led ps) h).1

pub led_first : (p : Part) (ps : List Part) → is_led (p ∷ ps) ≡ true → is_before_more p ≡ true → has_piece ps ≡ true
led_first p ps h e = not_or (is_before_more p) (has_piece ps) (and_parts (not (is_before_more p) || has_piece ps) (is_led ps) h).0 e

pub piece_joined : (ps qs : List Part) → has_piece ps ≡ true → has_piece (ps ++ qs) ≡ true
piece_joined [] qs h = absurd (cc)
piece_joined (part.Token _ ∷ ps) qs h = refl
piece_joined (part.OneOf _ ∷ ps) qs h = refl
piece_joined (part.Rule _ ∷ ps) qs h = refl
piece_joined (part.Group g ∷ ps) qs h = piece_joined ps qs h

or_kept : (x y z : Bool) → (x || y) ≡ true → (y ≡ true → z ≡ true) → (x || z) ≡ true
or_kept true y z h f = refl
or_kept false y z h f = f h

pub led_joined : (ps qs : List Part) → is_led ps ≡ true → is_led qs ≡ true → is_led (ps ++ qs) ≡ true
led_joined [] qs h e = e
led_joined (p ∷ ps) qs h e =
    let s = and_parts (not (is_before_more p) || has_piece ps) (is_led ps) h in
    and_from (not (is_before_more p) || has_piece (ps ++ qs)) (is_led (ps ++ qs)) (or_kept (not (is_before_more p)) (has_piece ps) (has_piece (ps ++ qs)) s.0 (piece_joined ps qs)) (led_joined ps qs s.1 e)

prefixes_led : (a : Alternative) (qs : List Part) → Among a (group_rows group.MoreTypePrefixes) → has_piece qs ≡ true → is_led qs ≡ true → is_led (a.parts ++ qs) ≡ true
unfolding group_rows is_never_alone
prefixes_led a qs (inl e) h l = subst (λ (x : Alternative). is_led (x.parts ++ qs) ≡ true) (sym e) (rw (h, l) refl)
prefixes_led a qs (inr (inl e)) h l = subst (λ (x : Alternative). is_led (x.parts ++ qs) ≡ true) (sym e) l
prefixes_led a qs (inr (inr n)) h l = elim n [ ]

pub group_keeps_led : (g : Group) (a : Alternative) (qs : List Part) → Among a (group_rows g) → is_led (part.Group g ∷ qs) ≡ true → is_led (a.parts ++ qs) ≡ true
group_keeps_led g a qs m h =
    elim (group_led g) [
      | inl e ↦ prefixes_led a qs (subst (λ (x : Group). Among a (group_rows x)) e m) (led_first (part.Group g) qs h (ap (λ (x : Group). is_before_more (part.Group x)) e)) (led_rest (part.Group g) qs h)
      | inr t ↦ led_joined a.parts qs (row_tested row_led a (group_rows g) t m) (led_rest (part.Group g) qs h)
    ]

-- ---- inside a node

-- the kinds of the tokens from a number on
abbrev pub left_from : List Token → ℕ → List TokenKind
left_from tokens at = drop at (kinds_of tokens)

-- A node that is open since a token, of which so many tokens are read into these kids: whatever the parts
-- to come derive, an alternative of its rule derives with what it has.
pub record Inside (tokens : List Token) (nodes : List Node) (f : Frame) (from at : ℕ) (own : List Kid) (qs : List Part) (depth : ℕ) : Type 0 where
  pub a : Alternative
  pub among : Among a (open_at (left_from tokens from) (rule_rows f.rule))
  pub pieces : Pieces
  pub goes_on : (end : List TokenKind) (later : Pieces) → Derives qs (left_from tokens at) end later → Derives a.parts (left_from tokens from) end (followed pieces later)
  pub solid : f.solid ≡ true → (end : List TokenKind) (later : Pieces) → Derives qs (left_from tokens at) end later → made f.rule (followed pieces later) ≡ node f.rule (followed pieces later) nothing
  pub alone : f.solid ≡ false → (makes_no_node_alone f.rule ≡ true) × ((pieces ≡ nothing) ⊎ (is_one_node pieces ≡ true))
  pub spelled : Spells tokens nodes own from at pieces
  pub counted : f.parts ≡ length own
  pub low : height pieces ≤ f.height
  pub shallow : ((length own ≡ 0) × (f.height ≡ 0)) ⊎ (depth + f.height ≤ DEPTH_LIMIT)
  pub led : is_led qs ≡ true

unfoldable pub inside_more : (tokens : List Token) (nodes more : List Node) (f : Frame) (from at : ℕ) (own : List Kid) (qs : List Part) (depth : ℕ) → Inside tokens nodes f from at own qs depth → Inside tokens (nodes ++ more) f from at own qs depth
inside_more tokens nodes more f from at own qs depth i = record {
  a = i.a;
  among = i.among;
  pieces = i.pieces;
  goes_on = i.goes_on;
  solid = i.solid;
  alone = i.alone;
  spelled = spells_more tokens nodes more own from at i.pieces i.spelled;
  counted = i.counted;
  low = i.low;
  shallow = i.shallow;
  led = i.led;
}

-- a group is replaced by an alternative of it
pub inside_group : (tokens : List Token) (nodes : List Node) (f : Frame) (from at : ℕ) (own : List Kid) (g : Group) (b : Alternative) (qs : List Part) (depth : ℕ)
    → Among b (open_at (left_from tokens at) (group_rows g)) → Inside tokens nodes f from at own (part.Group g ∷ qs) depth → Inside tokens nodes f from at own (b.parts ++ qs) depth
inside_group tokens nodes f from at own g b qs depth m i =
    let back : (end : List TokenKind) (later : Pieces) → Derives (b.parts ++ qs) (left_from tokens at) end later → Derives (part.Group g ∷ qs) (left_from tokens at) end later =
    λ end later d. (let s = split_derived b.parts qs (left_from tokens at) end later d in
    subst (Derives (part.Group g ∷ qs) (left_from tokens at) end) (sym s.3) (derives_group g b qs (left_from tokens at) s.0 end s.1 s.2 m s.4 s.5)) in
    record {
      a = i.a;
      among = i.among;
      pieces = i.pieces;
      goes_on = λ end later d. i.goes_on end later (back end later d);
      solid = λ h end later d. i.solid h end later (back end later d);
      alone = i.alone;
      spelled = i.spelled;
      counted = i.counted;
      low = i.low;
      shallow = i.shallow;
      led = group_keeps_led g b qs (open_is_row (left_from tokens at) b (group_rows g) m) i.led;
    }

not_false : (x : Bool) → not x ≡ false → x ≡ true
not_false true h = refl
not_false false h = absurd (cc)

-- a node is opened
pub inside_new : (tokens : List Token) (nodes : List Node) (f : Frame) (at : ℕ) (b : Alternative) (depth : ℕ) → Among b (open_at (left_from tokens at) (rule_rows f.rule)) → f.solid ≡ not (makes_no_node_alone f.rule) → f.parts ≡ 0 → f.height ≡ 0
    → Inside tokens nodes f at at [] b.parts depth
inside_new tokens nodes f at b depth m s p h = record {
  a = b;
  among = m;
  pieces = nothing;
  goes_on = λ end later d. d;
  solid = λ t end later d. made_always f.rule later (not-true (makes_no_node_alone f.rule) (sym s ∙ t));
  alone = λ t. (not_false (makes_no_node_alone f.rule) (sym s ∙ t), inl refl);
  spelled = spells_nothing at;
  counted = p;
  low = omega arith;
  shallow = inl (refl, h);
  led = row_tested row_led b (rule_rows f.rule) (rule_led f.rule) (open_is_row (left_from tokens at) b (rule_rows f.rule) m);
}

rule_and_more : (r : Rule) (qs : List Part) (tokens rest : List TokenKind) (p : Pieces) → Derives (part.Rule r ∷ qs) tokens rest p → has_piece qs ≡ true → 2 ≤ amount p
rule_and_more r qs tokens rest p (derives_rule _ a _ _ next _ inside later m d e) h =
    let s = piece_amount qs next rest later e h in omega (arith, amount_followed (made r inside) later, one_amount (made r inside) (made_one r inside))

-- a rule begins after a part, or before another one: a node is made for sure
begun_amount : (tokens : List Token) (nodes : List Node) (f : Frame) (from at : ℕ) (own : List Kid) (r : Rule) (qs : List Part) (depth : ℕ) (i : Inside tokens nodes f from at own (part.Rule r ∷ qs) depth) → (0 < f.parts) ⊎ (is_never_alone r ≡ true)
    → (end : List TokenKind) (later : Pieces) → Derives (part.Rule r ∷ qs) (left_from tokens at) end later → is_one_node (followed i.pieces later) ≡ false
begun_amount tokens nodes f from at own r qs depth i (inl some) end later d =
    let have = spells_amount tokens nodes own from at i.pieces i.spelled in
    let come = piece_amount (part.Rule r ∷ qs) (left_from tokens at) end later d refl in
    several (followed i.pieces later) (omega (arith, amount_followed i.pieces later, i.counted))
begun_amount tokens nodes f from at own r qs depth i (inr more) end later d =
    let two = rule_and_more r qs (left_from tokens at) end later d (led_first (part.Rule r) qs i.led more) in
    several (followed i.pieces later) (omega (arith, amount_followed i.pieces later))

pub inside_hard : (tokens : List Token) (nodes : List Node) (f : Frame) (from at : ℕ) (own : List Kid) (r : Rule) (qs : List Part) (depth deeper : ℕ) → (0 < f.parts) ⊎ (is_never_alone r ≡ true) → deeper + f.height ≤ DEPTH_LIMIT
    → Inside tokens nodes f from at own (part.Rule r ∷ qs) depth → Inside tokens nodes (record f { solid = true }) from at own (part.Rule r ∷ qs) deeper
inside_hard tokens nodes f from at own r qs depth deeper some l i = record {
  a = i.a;
  among = i.among;
  pieces = i.pieces;
  goes_on = i.goes_on;
  solid = λ h end later d. made_several f.rule (followed i.pieces later) (begun_amount tokens nodes f from at own r qs depth i some end later d);
  alone = λ h. absurd (cc);
  spelled = i.spelled;
  counted = i.counted;
  low = i.low;
  shallow = inr l;
  led = i.led;
}

-- a token is read
pub inside_token : (tokens : List Token) (nodes : List Node) (f : Frame) (from at : ℕ) (own : List Kid) (q : Part) (t : Token) (qs : List Part) (depth deeper : ℕ) (more : Frame)
    → ((end : List TokenKind) (later : Pieces) → Derives qs (left_from tokens (at + 1)) end later → Derives (q ∷ qs) (left_from tokens at) end (word t.kind later)) → slice_get tokens at ≡ Some t
    → more.rule ≡ f.rule → more.solid ≡ true → more.parts ≡ f.parts + 1 → f.height ≤ more.height → deeper + more.height ≤ DEPTH_LIMIT
    → Inside tokens nodes f from at own (q ∷ qs) depth → Inside tokens nodes more from (at + 1) (own ++ kid.Token at ∷ []) qs deeper
inside_token tokens nodes f from at own q t qs depth deeper more reads there r s p h l i =
    let pieces = followed i.pieces (word t.kind nothing) in
    record {
      a = i.a;
      among = subst (λ (x : Rule). Among i.a (open_at (left_from tokens from) (rule_rows x))) (sym r) i.among;
      pieces = pieces;
      goes_on = λ end later d. subst (Derives i.a.parts (left_from tokens from) end) (sym (followed_twice i.pieces (word t.kind nothing) later)) (i.goes_on end (word t.kind later) (reads end later d));
      solid = λ e end later d. made_several more.rule (followed pieces later) (subst (λ (x : Pieces). is_one_node x ≡ false) (sym (followed_twice i.pieces (word t.kind nothing) later)) (worded i.pieces later t.kind));
      alone = λ e. absurd (cc);
      spelled = spells_joined tokens nodes own (kid.Token at ∷ []) from at (at + 1) i.pieces (word t.kind nothing) i.spelled (spells_token at (at + 1) t [] nothing there (spells_nothing (at + 1)));
      counted = omega (arith, i.counted, length-append own (kid.Token at ∷ []));
      low = omega (arith, i.low, height_followed i.pieces (word t.kind nothing));
      shallow = inr l;
      led = led_rest q qs i.led;
    }

-- ---- a node is closed

-- what it derives
pub inside_done : (tokens : List Token) (nodes : List Node) (f : Frame) (from at : ℕ) (own : List Kid) (depth : ℕ) (i : Inside tokens nodes f from at own [] depth) → Derives i.a.parts (left_from tokens from) (left_from tokens at) i.pieces
inside_done tokens nodes f from at own depth i = subst (Derives i.a.parts (left_from tokens from) (left_from tokens at)) (followed_nothing i.pieces) (i.goes_on (left_from tokens at) nothing (derives_none (left_from tokens at)))

-- it holds a token at least
pub inside_some : (tokens : List Token) (nodes : List Node) (f : Frame) (from at : ℕ) (own : List Kid) (depth : ℕ) → Inside tokens nodes f from at own [] depth → from < at
inside_some tokens nodes f from at own depth i =
    let filled = row_tested row_fills i.a (rule_rows f.rule) (rule_filled f.rule) (open_is_row (left_from tokens from) i.a (rule_rows f.rule) i.among) in
    let less = reads_some i.a.parts (left_from tokens from) (left_from tokens at) i.pieces (inside_done tokens nodes f from at own depth i) filled in
    omega (arith, length-drop from (kinds_of tokens), length-drop at (kinds_of tokens))

pub inside_made : (tokens : List Token) (nodes : List Node) (f : Frame) (from at : ℕ) (own : List Kid) (depth : ℕ) (i : Inside tokens nodes f from at own [] depth) → f.solid ≡ true → made f.rule i.pieces ≡ node f.rule i.pieces nothing
inside_made tokens nodes f from at own depth i s =
    subst (λ (p : Pieces). made f.rule p ≡ node f.rule p nothing) (followed_nothing i.pieces) (i.solid s (left_from tokens at) nothing (derives_none (left_from tokens at)))

pub inside_lone : (tokens : List Token) (nodes : List Node) (f : Frame) (from at : ℕ) (own : List Kid) (depth : ℕ) (i : Inside tokens nodes f from at own [] depth) → f.solid ≡ false → (made f.rule i.pieces ≡ i.pieces) × (length own ≡ 1)
inside_lone tokens nodes f from at own depth i s =
    let l = i.alone s in
    let piece = row_tested row_has_piece i.a (rule_rows f.rule) (lone_filled f.rule l.0) (open_is_row (left_from tokens from) i.a (rule_rows f.rule) i.among) in
    let some = piece_amount i.a.parts (left_from tokens from) (left_from tokens at) i.pieces (inside_done tokens nodes f from at own depth i) piece in
    let have = spells_amount tokens nodes own from at i.pieces i.spelled in
    elim l.1 [
      | inl none ↦ absurd (omega (arith, ap amount none))
      | inr one ↦ (made_lone f.rule i.pieces l.0 one, omega (arith, one_amount i.pieces one))
    ]

pub made_height : (tokens : List Token) (nodes : List Node) (f : Frame) (from at : ℕ) (own : List Kid) (depth : ℕ) (i : Inside tokens nodes f from at own [] depth) → height (made f.rule i.pieces) ≤ f.height + count f.solid
made_height tokens nodes f from at own depth i = by f.solid refl
  where
    by : (s : Bool) → f.solid ≡ s → height (made f.rule i.pieces) ≤ f.height + count s
    by true e = omega (arith, i.low, ap height (inside_made tokens nodes f from at own depth i e))
    by false e = omega (arith, i.low, ap height (inside_lone tokens nodes f from at own depth i e).0)

pub not_nothing : (tokens : List Token) (nodes : List Node) (kids : List Kid) (a b : ℕ) (p : Pieces) → Spells tokens nodes kids a b p → a < b → 0 < length kids
not_nothing tokens nodes kids a b p (spells_nothing _) l = absurd (omega arith)
not_nothing tokens nodes kids a b p (spells_token _ _ t ks later h s) l = omega arith
not_nothing tokens nodes kids a b p (spells_node number _ next _ n ks inside later h k e s u) l = omega arith

pub lone_piece : (tokens : List Token) (nodes : List Node) (kids : List Kid) (a b : ℕ) (p q : Pieces) → Spells tokens nodes kids a b p → length kids ≡ 0 → is_one_node q ≡ true → is_one_node (followed p q) ≡ true
lone_piece tokens nodes kids a b p q (spells_nothing _) e h = h
lone_piece tokens nodes kids a b p q (spells_token _ _ t ks later i s) e h = absurd (omega arith)
lone_piece tokens nodes kids a b p q (spells_node number _ next _ n ks inside later i k f s u) e h = absurd (omega arith)

shallow_part : (f g more own others depth0 depth solid : ℕ) → more ≡ max f (g + solid) → depth0 + solid ≡ depth → ((own ≡ 0) × (f ≡ 0)) ⊎ (depth0 + f ≤ DEPTH_LIMIT) → ((others ≡ 0) × (g ≡ 0)) ⊎ (depth + g ≤ DEPTH_LIMIT) → 0 < others → depth0 + more ≤ DEPTH_LIMIT
shallow_part f g more own others depth0 depth solid h l o (inl none) some = absurd (omega (arith, none.0))
shallow_part f g more own others depth0 depth solid h l (inl none) (inr i) some = omega (arith, none.1)
shallow_part f g more own others depth0 depth solid h l (inr o) (inr i) some = omega arith

-- the node around it gains it
pub inside_part : (tokens : List Token) (nodes : List Node) (f g more : Frame) (from at at0 : ℕ) (own others lone : List Kid) (qs : List Part) (depth depth0 : ℕ) (i : Inside tokens nodes g at0 at others [] depth)
    → Spells tokens nodes lone at0 at (made g.rule i.pieces) → length lone ≡ 1 → (f.solid ≡ false → length own ≡ 0)
    → more.rule ≡ f.rule → more.solid ≡ f.solid → more.parts ≡ f.parts + 1 → more.height ≡ max f.height (g.height + count g.solid) → depth0 + count g.solid ≡ depth
    → Inside tokens nodes f from at0 own (part.Rule g.rule ∷ qs) depth0 → Inside tokens nodes more from at (own ++ lone) qs depth0
inside_part tokens nodes f g more from at at0 own others lone qs depth depth0 i s one waits r t p h l o =
    let inner = made g.rule i.pieces in
    let pieces = followed o.pieces inner in
    let back : (end : List TokenKind) (later : Pieces) → Derives qs (left_from tokens at) end later → Derives (part.Rule g.rule ∷ qs) (left_from tokens at0) end (followed inner later) =
    λ end later d. derives_rule g.rule i.a qs (left_from tokens at0) (left_from tokens at) end i.pieces later i.among (inside_done tokens nodes g at0 at others depth i) d in
    let some = inside_some tokens nodes g at0 at others depth i in
    let within = spells_within tokens nodes others at0 at i.pieces i.spelled in
    let tall = made_height tokens nodes g at0 at others depth i in
    record {
      a = o.a;
      among = subst (λ (x : Rule). Among o.a (open_at (left_from tokens from) (rule_rows x))) (sym r) o.among;
      pieces = pieces;
      goes_on = λ end later d. subst (Derives o.a.parts (left_from tokens from) end) (sym (followed_twice o.pieces inner later)) (o.goes_on end (followed inner later) (back end later d));
      solid = λ e end later d. subst (λ (x : Rule). made x (followed pieces later) ≡ node x (followed pieces later) nothing) (sym r) (subst (λ (x : Pieces). made f.rule x ≡ node f.rule x nothing) (sym (followed_twice o.pieces inner later)) (o.solid (sym t ∙ e) end (followed inner later) (back end later d)));
      alone = λ e. (subst (λ (x : Rule). makes_no_node_alone x ≡ true) (sym r) (o.alone (sym t ∙ e)).0, inr (lone_piece tokens nodes own from at0 o.pieces inner o.spelled (waits (sym t ∙ e)) (made_one g.rule i.pieces)));
      spelled = spells_joined tokens nodes own lone from at0 at o.pieces inner o.spelled s;
      counted = omega (arith, o.counted, length-append own lone);
      low = omega (arith, o.low, tall, height_followed o.pieces inner);
      shallow = inr (shallow_part f.height g.height more.height (length own) (length others) depth0 depth (count g.solid) h l o.shallow i.shallow (not_nothing tokens nodes others at0 at i.pieces i.spelled some));
      led = led_rest (part.Rule g.rule) qs o.led;
    }
