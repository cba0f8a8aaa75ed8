-- Where a thread stands in a tree while it follows it: what is known of its nodes before each part.
use Rattle.std.proofs.Common.{◌≡◌, ℕ, ◌+◌, ◌-◌, ◌≤◌, Bool, true, false, ◌&&◌, ◌||◌, inl, inr, List, [], ◌∷◌, ◌++◌, refl, sym, ◌∙◌, ap, subst, arith}
use Rattle.std.specs.Prelude.{max, min, if◌then◌else◌, not, nat_lt}
use Rattle.std.proofs.lemmas.Bool.{ltb-false}
use Rattle.zig_tree.specs.declared.token.TokenKind.{TokenKind}
use Rattle.zig_tree.specs.declared.grammar.Rule.{Rule}
use Rattle.zig_tree.specs.declared.grammar.Group.{Group}
use Rattle.zig_tree.specs.declared.grammar.Part.{Part}
use Rattle.zig_tree.specs.declared.grammar.Part.TheVariants as part
use Rattle.zig_tree.specs.Grammar.{Alternative, rule_rows}
use Rattle.zig_tree.specs.GrammarSentences.{Pieces, nothing, word, followed, makes_no_node_alone, is_one_node, made, open_at, Among, Derives, height}
use Rattle.zig_parse.specs.declared.thread.Frame.{Frame}
use Rattle.zig_parse.specs.declared.thread.Thread.{Thread}
use Rattle.zig_parse.specs.Stack.{rest}
use Rattle.zig_parse.specs.Threads.{is_never_alone, surround, with_part}
use Rattle.zig_parse.proofs.Derived.{followed_nothing, followed_twice}
use Rattle.zig_parse.proofs.Shapes.{count}
use Rattle.zig_parse.proofs.Spelled.{amount}
use Rattle.zig_parse.proofs.Story.{amount_followed, height_followed, made_one, one_amount}
use Rattle.zig_parse.proofs.Depths.{words, words_followed, words_made}
use Rattle.zig_parse.specs.Leads.{heavy}
use Rattle.zig_parse.proofs.Weights.{are_tails, begins_lone, lightest, lightest_joined, lone_begins, tails_light, tails_weigh, weighs}
use Rattle.zig_parse.proofs.Layers.{Layers, Lays, Spot, inside_spot, layers_more, layers_none, lays_left, lays_made, lays_right}
use Rattle.zig_parse.proofs.Paths.{Awaits, Seen, parts_of_items}
use Rattle.zig_parse.proofs.Follows.{hard_frame, makes, met_frame, met_height, new_frame}

-- ---- where it stands

-- Before parts of a node whose content begins at the token `from`: what is known of the nodes around it, where
-- its content lies in the tree, and that what comes after the parts weighs no less than it must. In a node that
-- makes none alone the first part comes before all others.
pub record Sight (spot : Spot) (at : ℕ) (ps behind : List Part) (next end : List TokenKind) (f : Frame) (fs : List Frame) (had after whole : Pieces) (lone : Bool) : Type 0 where
  pub from : ℕ
  pub outer : ℕ
  pub loose : ℕ
  pub layers : Layers spot fs from outer loose
  pub lays : Lays spot.depths from (outer + count (makes lone whole)) whole
  pub place : at ≡ from + words had
  pub high : min (height had) 1000 ≤ f.height
  pub light : lightest behind + loose + heavy end ≤ heavy next
  pub first : lone ≡ true → had ≡ nothing → (after ≡ nothing) × (begins_lone ps ≡ true)

-- its node with those around it
layer_of : {spot : Spot} {at : ℕ} {ps behind : List Part} {next end : List TokenKind} {f : Frame} {fs : List Frame} {had after whole : Pieces} {lone : Bool} (s : Sight spot at ps behind next end f fs had after whole lone)
    (g : Frame) (held later : Pieces) (n : ℕ) → whole ≡ followed held later → (g.solid ≡ true → makes lone whole ≡ true) → min (height held) 1000 ≤ g.height → n ≡ s.from + words held
    → Layers spot (g ∷ fs) n (s.outer + count (makes lone whole)) (s.loose + (count (makes lone whole) - count g.solid))
layer_of {spot} {at} {ps} {behind} {next} {end} {f} {fs} {had} {after} {whole} {lone} s g held later n e solid high place =
    let lays = lays_left spot.depths s.from (s.outer + count (makes lone whole)) held later (subst (Lays spot.depths s.from (s.outer + count (makes lone whole))) e s.lays) in
    subst (λ (m : ℕ). Layers spot (g ∷ fs) m (s.outer + count (makes lone whole)) (s.loose + (count (makes lone whole) - count g.solid))) (sym place)
    (layers_more fs s.from s.outer s.loose g held (makes lone whole) s.layers solid high lays)

-- what the next piece is
lays_next : {spot : Spot} {at : ℕ} {ps behind : List Part} {next end : List TokenKind} {f : Frame} {fs : List Frame} {had after whole : Pieces} {lone : Bool} (s : Sight spot at ps behind next end f fs had after whole lone)
    (p q : Pieces) → whole ≡ followed had (followed (followed p q) after) → Lays spot.depths at (s.outer + count (makes lone whole)) p
lays_next {spot} {at} {ps} {behind} {next} {end} {f} {fs} {had} {after} {whole} {lone} s p q e =
    let depth = s.outer + count (makes lone whole) in
    let whole_lays = subst (Lays spot.depths s.from depth) e s.lays in
    let right = lays_right spot.depths s.from depth had (followed (followed p q) after) whole_lays in
    subst (λ (n : ℕ). Lays spot.depths n depth p) (sym s.place) (lays_left spot.depths (s.from + words had) depth p q (lays_left spot.depths (s.from + words had) depth (followed p q) after right))

-- ---- a token

no_word : (had : Pieces) (k : TokenKind) → followed had (word k nothing) ≡ nothing → ⊥
no_word had k e = let none = ap amount e in omega (arith, none, amount_followed had (word k nothing))

word_place : (at from : ℕ) (had : Pieces) (k : TokenKind) → at ≡ from + words had → at + 1 ≡ from + words (followed had (word k nothing))
word_place at from had k e = omega (arith, e, words_followed had (word k nothing))

word_high : (had : Pieces) (k : TokenKind) (n : ℕ) → min (height had) 1000 ≤ n → min (height (followed had (word k nothing))) 1000 ≤ max n 0
word_high had k n h = omega (arith, h, height_followed had (word k nothing))

pub token_seen : {spot : Spot} {at : ℕ} {q : Part} {ps behind : List Part} {next end : List TokenKind} {f : Frame} {fs : List Frame} {had after whole : Pieces} {lone : Bool} (s : Sight spot at (q ∷ ps) behind next end f fs had after whole lone)
    (k : TokenKind) (p : Pieces) (tokens : List TokenKind) (t : Thread) → whole ≡ followed had (followed (word k p) after) → makes lone whole ≡ true → Derives ps tokens next p → t.frames ≡ with_part 0 (hard_frame f) ∷ fs → parts_of_items t.items ≡ ps ++ behind
    → Seen spot (at + 1) tokens end t.frames t.items
token_seen {spot} {at} {q} {ps} {behind} {next} {end} {f} {fs} {had} {after} {whole} {lone} s k p tokens t e node d ef ei =
    let held = followed had (word k nothing) in
    let g = with_part 0 (hard_frame f) in
    let layer = layer_of s g held (followed p after) (at + 1) (e ∙ sym (followed_twice had (word k nothing) (followed p after))) (λ h. node) (word_high had k f.height s.high) (word_place at s.from had k s.place) in
    record {
      depth = s.outer + count (makes lone whole);
      loose = s.loose + (count (makes lone whole) - count g.solid);
      layers = subst (λ (l : List Frame). Layers spot l (at + 1) (s.outer + count (makes lone whole)) (s.loose + (count (makes lone whole) - count g.solid))) (sym ef) layer;
      light = omega (arith, ap lightest ei, lightest_joined ps behind, weighs ps tokens next p d, s.light, ap count node);
    }

pub token_sight : {spot : Spot} {at : ℕ} {q : Part} {ps behind : List Part} {next end : List TokenKind} {f : Frame} {fs : List Frame} {had after whole : Pieces} {lone : Bool} (s : Sight spot at (q ∷ ps) behind next end f fs had after whole lone) (k : TokenKind)
    → Sight spot (at + 1) ps behind next end (with_part 0 (hard_frame f)) fs (followed had (word k nothing)) after whole lone
token_sight {spot} {at} {q} {ps} {behind} {next} {end} {f} {fs} {had} {after} {whole} {lone} s k = record {
  from = s.from;
  outer = s.outer;
  loose = s.loose;
  layers = s.layers;
  lays = s.lays;
  place = word_place at s.from had k s.place;
  high = word_high had k f.height s.high;
  light = s.light;
  first = λ l e. absurd (no_word had k e);
}

-- ---- a group

had_before : (had inside : Pieces) → followed had inside ≡ nothing → had ≡ nothing
had_before nothing inside e = refl
had_before (word k more) inside e = absurd (cc)
had_before (Rattle.zig_tree.specs.GrammarSentences.node r p more) inside e = absurd (cc)

pub group_sight : {spot : Spot} {at : ℕ} {g : Group} {ps behind : List Part} {next end : List TokenKind} {f : Frame} {fs : List Frame} {had after whole : Pieces} {lone : Bool} (s : Sight spot at (part.Group g ∷ ps) behind next end f fs had after whole lone)
    (qs : List Part) (mid : List TokenKind) (p : Pieces) → Derives ps mid next p → Sight spot at qs (ps ++ behind) mid end f fs had (followed p after) whole lone
group_sight {spot} {at} {g} {ps} {behind} {next} {end} {f} {fs} {had} {after} {whole} {lone} s qs mid p d = record {
  from = s.from;
  outer = s.outer;
  loose = s.loose;
  layers = s.layers;
  lays = s.lays;
  place = s.place;
  high = s.high;
  light = omega (arith, s.light, lightest_joined ps behind, weighs ps mid next p d);
  first = λ l e. absurd (let wrong = (s.first l e).1 in cc);
}

pub after_group_sight : {spot : Spot} {at : ℕ} {g : Group} {ps behind : List Part} {next end : List TokenKind} {f : Frame} {fs : List Frame} {had after whole : Pieces} {lone : Bool} (s : Sight spot at (part.Group g ∷ ps) behind next end f fs had after whole lone)
    (inside : Pieces) (g2 : Frame) (n : ℕ) → g2.height ≡ max f.height n → min (height inside) 1000 ≤ n → Sight spot (at + words inside) ps behind next end g2 fs (followed had inside) after whole lone
after_group_sight {spot} {at} {g} {ps} {behind} {next} {end} {f} {fs} {had} {after} {whole} {lone} s inside g2 n e h = record {
  from = s.from;
  outer = s.outer;
  loose = s.loose;
  layers = s.layers;
  lays = s.lays;
  place = omega (arith, s.place, words_followed had inside);
  high = omega (arith, s.high, e, h, height_followed had inside);
  light = s.light;
  first = λ l i. absurd (let wrong = (s.first l (had_before had inside i)).1 in cc);
}

-- ---- a rule

one_alone : (lone : Bool) (whole p q : Pieces) → whole ≡ followed p q → q ≡ nothing → is_one_node p ≡ true → lone ≡ true → makes lone whole ≡ false
one_alone lone whole p q e none one l =
    let same : whole ≡ p = e ∙ ap (followed p) none ∙ followed_nothing p in
    rw (l, same, one) refl

or_true : (x y : Bool) → (x || y) ≡ true → x ≡ false → y ≡ true
or_true true y h e = absurd (cc)
or_true false y h e = h

or_false : (x y : Bool) → (x || y) ≡ false → (x ≡ false) × (y ≡ false)
or_false true y h = absurd (cc)
or_false false y h = (refl, h)

-- the innermost node is none as yet: no part came before, and the rule may stand alone
record Softly (f : Frame) (q : Rule) : Type 0 where
  soft : f.solid ≡ false
  none : f.parts ≡ 0
  may : is_never_alone q ≡ false

softly : (f : Frame) (q : Rule) → (met_frame q f).solid ≡ false → Softly f q
softly f q h = by f.solid refl (nat_lt 0 f.parts || is_never_alone q) refl h
  where
    by : (x : Bool) → f.solid ≡ x → (y : Bool) → (nat_lt 0 f.parts || is_never_alone q) ≡ y → (if not x && y then record f { solid = true } else f).solid ≡ false → Softly f q
    by true e y ey k = absurd (let wrong : true ≡ false = sym e ∙ k in cc)
    by false e true ey k = absurd (cc)
    by false e false ey k =
        (let both = or_false (nat_lt 0 f.parts) (is_never_alone q) ey in
        record { soft = e; none = (let l = ltb-false 0 f.parts both.0 in omega arith); may = both.1 })

-- What comes after the rule weighs as much as it must, and more where the node around it is none as yet and will
-- be one
pub rule_light : {spot : Spot} {at : ℕ} {q : Rule} {ps behind : List Part} {next end : List TokenKind} {f : Frame} {fs : List Frame} {had after whole : Pieces} {lone : Bool} (s : Sight spot at (part.Rule q ∷ ps) behind next end f fs had after whole lone)
    (inside p : Pieces) (mid : List TokenKind) → whole ≡ followed had (followed (followed (made q inside) p) after) → Derives ps mid next p → (f.solid ≡ false → lone ≡ true) → (f.parts ≡ 0 → had ≡ nothing)
    → lightest (ps ++ behind) + (s.loose + (count (makes lone whole) - count (met_frame q f).solid)) + heavy end ≤ heavy mid
rule_light {spot} {at} {q} {ps} {behind} {next} {end} {f} {fs} {had} {after} {whole} {lone} s inside p mid e d soft none = by (met_frame q f).solid refl (makes lone whole) refl
  where
    plain : lightest ps + heavy next ≤ heavy mid
    plain = weighs ps mid next p d

    more : (met_frame q f).solid ≡ false → makes lone whole ≡ true → 1 + (lightest ps + heavy next) ≤ heavy mid
    more h k =
        (let so = softly f q h in
        let l = soft so.soft in
        let no = none so.none in
        let first = s.first l no in
        let tails : are_tails ps ≡ true = or_true (is_never_alone q) (are_tails ps) first.1 so.may in
        let whole_is : whole ≡ followed (made q inside) p = e ∙ ap (λ (x : Pieces). followed x (followed (followed (made q inside) p) after)) no ∙ ap (followed (followed (made q inside) p)) first.0 ∙ followed_nothing (followed (made q inside) p) in
        elim (tails_weigh ps mid next p tails d) [
          | inl nil ↦ absurd (let wrong : true ≡ false = sym k ∙ one_alone lone whole (made q inside) p whole_is nil (made_one q inside) l in cc)
          | inr w ↦ omega (arith, w, tails_light ps tails)
        ])

    by : (x : Bool) → (met_frame q f).solid ≡ x → (y : Bool) → makes lone whole ≡ y → lightest (ps ++ behind) + (s.loose + (count y - count x)) + heavy end ≤ heavy mid
    by true ex true ey = omega (arith, s.light, plain, lightest_joined ps behind)
    by true ex false ey = omega (arith, s.light, plain, lightest_joined ps behind)
    by false ex true ey = omega (arith, s.light, more ex ey, lightest_joined ps behind)
    by false ex false ey = omega (arith, s.light, plain, lightest_joined ps behind)

pub rule_sight : {spot : Spot} {at : ℕ} {q : Rule} {ps behind : List Part} {next end : List TokenKind} {f : Frame} {fs : List Frame} {had after whole : Pieces} {lone : Bool} (s : Sight spot at (part.Rule q ∷ ps) behind next end f fs had after whole lone)
    (a : Alternative) (tokens : List TokenKind) (inside p : Pieces) (mid : List TokenKind) → whole ≡ followed had (followed (followed (made q inside) p) after) → Derives ps mid next p → (f.solid ≡ false → lone ≡ true) → (f.parts ≡ 0 → had ≡ nothing)
    → ((met_frame q f).solid ≡ true → makes lone whole ≡ true) → Among a (open_at tokens (rule_rows q))
    → Sight spot at a.parts (ps ++ behind) mid end (new_frame q) (met_frame q f ∷ fs) nothing nothing inside (makes_no_node_alone q)
rule_sight {spot} {at} {q} {ps} {behind} {next} {end} {f} {fs} {had} {after} {whole} {lone} s a tokens inside p mid e d soft none solid among = record {
  from = at;
  outer = s.outer + count (makes lone whole);
  loose = s.loose + (count (makes lone whole) - count (met_frame q f).solid);
  layers = layer_of s (met_frame q f) had (followed (followed (made q inside) p) after) at e solid (omega (arith, s.high, met_height q f)) s.place;
  lays = lays_made spot.depths at (s.outer + count (makes lone whole)) q inside (lays_next s (made q inside) p e);
  place = omega arith;
  high = omega arith;
  light = rule_light s inside p mid e d soft none;
  first = λ l i. (refl, lone_begins q a tokens l among);
}

one_some : (had p : Pieces) → is_one_node p ≡ true → followed had p ≡ nothing → ⊥
one_some had p one e = let none = ap amount e in omega (arith, none, amount_followed had p, one_amount p one)

pub after_rule_sight : {spot : Spot} {at : ℕ} {q : Rule} {ps behind : List Part} {next end : List TokenKind} {f : Frame} {fs : List Frame} {had after whole : Pieces} {lone : Bool} (s : Sight spot at (part.Rule q ∷ ps) behind next end f fs had after whole lone)
    (inside : Pieces) (n : ℕ) → min (height (made q inside)) 1000 ≤ n → Sight spot (at + words inside) ps behind next end (with_part n (met_frame q f)) fs (followed had (made q inside)) after whole lone
after_rule_sight {spot} {at} {q} {ps} {behind} {next} {end} {f} {fs} {had} {after} {whole} {lone} s inside n h = record {
  from = s.from;
  outer = s.outer;
  loose = s.loose;
  layers = s.layers;
  lays = s.lays;
  place = omega (arith, s.place, words_followed had (made q inside), words_made q inside);
  high = omega (arith, s.high, met_height q f, h, height_followed had (made q inside));
  light = s.light;
  first = λ l i. absurd (one_some had (made q inside) (made_one q inside) i);
}

-- ---- a rule in braces, which a thread of its own reads

pub rule_awaits : {spot : Spot} {at : ℕ} {q : Rule} {ps behind : List Part} {next end : List TokenKind} {f : Frame} {fs : List Frame} {had after whole : Pieces} {lone : Bool} (s : Sight spot at (part.Rule q ∷ ps) behind next end f fs had after whole lone)
    (inside p : Pieces) (mid : List TokenKind) (t : Thread) → whole ≡ followed had (followed (followed (made q inside) p) after) → Derives ps mid next p → (f.solid ≡ false → lone ≡ true) → (f.parts ≡ 0 → had ≡ nothing)
    → ((met_frame q f).solid ≡ true → makes lone whole ≡ true) → t.frames ≡ met_frame q f ∷ fs → parts_of_items (rest t.items) ≡ ps ++ behind
    → Awaits spot at mid end t.frames t.items (part.Rule q) (s.outer + count (makes lone whole))
rule_awaits {spot} {at} {q} {ps} {behind} {next} {end} {f} {fs} {had} {after} {whole} {lone} s inside p mid t e d soft none solid ef ei =
    let depth = s.outer + count (makes lone whole) in
    let loose = s.loose + (count (makes lone whole) - count (met_frame q f).solid) in
    record {
      depth = depth;
      loose = loose;
      layers = subst (λ (l : List Frame). Layers spot l at depth loose) (sym ef) (layer_of s (met_frame q f) had (followed (followed (made q inside) p) after) at e solid (omega (arith, s.high, met_height q f)) s.place);
      light = omega (arith, ap lightest ei, rule_light s inside p mid e d soft none);
      inner = refl;
    }

pub rule_seen : {spot : Spot} {at : ℕ} {q : Rule} {ps behind : List Part} {next end : List TokenKind} {f : Frame} {fs : List Frame} {had after whole : Pieces} {lone : Bool} (s : Sight spot at (part.Rule q ∷ ps) behind next end f fs had after whole lone)
    (inside p : Pieces) (mid : List TokenKind) (own later : ℕ) (t : Thread) → whole ≡ followed had (followed (followed (made q inside) p) after) → Derives ps mid next p → (f.solid ≡ false → lone ≡ true) → (f.parts ≡ 0 → had ≡ nothing)
    → ((met_frame q f).solid ≡ true → makes lone whole ≡ true) → min (height (made q inside)) 1000 ≤ own → later ≡ at + words inside → t.frames ≡ with_part own (met_frame q f) ∷ fs → parts_of_items t.items ≡ ps ++ behind
    → Seen spot later mid end t.frames t.items
rule_seen {spot} {at} {q} {ps} {behind} {next} {end} {f} {fs} {had} {after} {whole} {lone} s inside p mid own later t e d soft none solid h place ef ei =
    let depth = s.outer + count (makes lone whole) in
    let loose = s.loose + (count (makes lone whole) - count (met_frame q f).solid) in
    let held = followed had (made q inside) in
    let whole_is = e ∙ ap (followed had) (followed_twice (made q inside) p after) ∙ sym (followed_twice had (made q inside) (followed p after)) in
    record {
      depth = depth;
      loose = loose;
      layers = subst (λ (l : List Frame). Layers spot l later depth loose) (sym ef)
          (layer_of s (with_part own (met_frame q f)) held (followed p after) later whole_is solid (omega (arith, s.high, met_height q f, h, height_followed had (made q inside))) (omega (arith, place, s.place, words_followed had (made q inside), words_made q inside)));
      light = omega (arith, ap lightest ei, rule_light s inside p mid e d soft none);
    }

-- what stands in the braces
pub rule_inner : {spot : Spot} {at : ℕ} {q : Rule} {ps behind : List Part} {next end : List TokenKind} {f : Frame} {fs : List Frame} {had after whole : Pieces} {lone : Bool} (s : Sight spot at (part.Rule q ∷ ps) behind next end f fs had after whole lone)
    (a : Alternative) (tokens : List TokenKind) (inside p : Pieces) (mid : List TokenKind) → whole ≡ followed had (followed (followed (made q inside) p) after) → Among a (open_at tokens (rule_rows q))
    → Sight (inside_spot spot at (s.outer + count (makes lone whole))) at a.parts [] mid mid (new_frame q) [] nothing nothing inside (makes_no_node_alone q)
rule_inner {spot} {at} {q} {ps} {behind} {next} {end} {f} {fs} {had} {after} {whole} {lone} s a tokens inside p mid e among = record {
  from = at;
  outer = s.outer + count (makes lone whole);
  loose = 0;
  layers = layers_none;
  lays = lays_made spot.depths at (s.outer + count (makes lone whole)) q inside (lays_next s (made q inside) p e);
  place = omega arith;
  high = omega arith;
  light = omega arith;
  first = λ l i. (refl, lone_begins q a tokens l among);
}

-- ---- a group in braces

node_one : (b : Bool) (n : ℕ) → b ≡ true → n + 1 ≡ n + count b
node_one b n h = omega (arith, ap count h)

pub group_awaits : {spot : Spot} {at : ℕ} {g : Group} {ps behind : List Part} {next end : List TokenKind} {f : Frame} {fs : List Frame} {had after whole : Pieces} {lone : Bool} (s : Sight spot at (part.Group g ∷ ps) behind next end f fs had after whole lone)
    (inside p : Pieces) (mid : List TokenKind) (t : Thread) → whole ≡ followed had (followed (followed inside p) after) → Derives ps mid next p → f.solid ≡ true → makes lone whole ≡ true → t.frames ≡ f ∷ fs → parts_of_items (rest t.items) ≡ ps ++ behind
    → Awaits spot at mid end t.frames t.items (part.Group g) s.outer
group_awaits {spot} {at} {g} {ps} {behind} {next} {end} {f} {fs} {had} {after} {whole} {lone} s inside p mid t e d solid node ef ei =
    let depth = s.outer + count (makes lone whole) in
    let loose = s.loose + (count (makes lone whole) - count f.solid) in
    record {
      depth = depth;
      loose = loose;
      layers = subst (λ (l : List Frame). Layers spot l at depth loose) (sym ef) (layer_of s f had (followed (followed inside p) after) at e (λ h. node) s.high s.place);
      light = omega (arith, ap lightest ei, lightest_joined ps behind, weighs ps mid next p d, s.light, ap count node, ap count solid);
      inner = node_one (makes lone whole) s.outer node;
    }

pub group_seen : {spot : Spot} {at : ℕ} {g : Group} {ps behind : List Part} {next end : List TokenKind} {f : Frame} {fs : List Frame} {had after whole : Pieces} {lone : Bool} (s : Sight spot at (part.Group g ∷ ps) behind next end f fs had after whole lone)
    (inside p : Pieces) (mid : List TokenKind) (own later : ℕ) (t : Thread) → whole ≡ followed had (followed (followed inside p) after) → Derives ps mid next p → f.solid ≡ true → makes lone whole ≡ true → min (height inside) 1000 ≤ own → later ≡ at + words inside
    → t.frames ≡ with_part own f ∷ fs → parts_of_items t.items ≡ ps ++ behind → Seen spot later mid end t.frames t.items
group_seen {spot} {at} {g} {ps} {behind} {next} {end} {f} {fs} {had} {after} {whole} {lone} s inside p mid own later t e d solid node h place ef ei =
    let depth = s.outer + count (makes lone whole) in
    let loose = s.loose + (count (makes lone whole) - count f.solid) in
    let held = followed had inside in
    let whole_is = e ∙ ap (followed had) (followed_twice inside p after) ∙ sym (followed_twice had inside (followed p after)) in
    record {
      depth = depth;
      loose = loose;
      layers = subst (λ (l : List Frame). Layers spot l later depth loose) (sym ef)
          (layer_of s (with_part own f) held (followed p after) later whole_is (λ i. node) (omega (arith, s.high, h, height_followed had inside)) (omega (arith, place, s.place, words_followed had inside)));
      light = omega (arith, ap lightest ei, lightest_joined ps behind, weighs ps mid next p d, s.light, ap count node, ap count solid);
    }

pub group_inner : {spot : Spot} {at : ℕ} {g : Group} {ps behind : List Part} {next end : List TokenKind} {f : Frame} {fs : List Frame} {had after whole : Pieces} {lone : Bool} (s : Sight spot at (part.Group g ∷ ps) behind next end f fs had after whole lone)
    (qs : List Part) (inside p : Pieces) (mid : List TokenKind) → whole ≡ followed had (followed (followed inside p) after) → makes lone whole ≡ true
    → Sight (inside_spot spot at s.outer) at qs [] mid mid surround [] nothing nothing inside false
group_inner {spot} {at} {g} {ps} {behind} {next} {end} {f} {fs} {had} {after} {whole} {lone} s qs inside p mid e node = record {
  from = at;
  outer = s.outer;
  loose = 0;
  layers = layers_none;
  lays = subst (λ (n : ℕ). Lays spot.depths at n inside) (sym (node_one (makes lone whole) s.outer node)) (lays_next s inside p e);
  place = omega arith;
  high = omega arith;
  light = omega arith;
  first = λ l i. absurd (cc);
}
