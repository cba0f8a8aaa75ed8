-- The moves of a thread before it reads a token or waits at a brace: over a token, a group and a rule.
use Rattle.std.proofs.Common.{◌≡◌, ℕ, suc, ◌+◌, ◌<◌, ◌≤◌, Bool, true, false, ◌&&◌, ◌||◌, ◌⊎◌, inl, inr, List, [], ◌∷◌, ◌++◌, map, length, Some, None, refl, sym, ◌∙◌, ap, subst, arith, append_assoc, append-nil}
use Rattle.std.specs.Prelude.{max, if◌then◌else◌, not, nat_lt}
use Rattle.std.proofs.lemmas.Bool.{and_parts, lt-ltb, le-ltb}
use Rattle.zig_tree.specs.declared.token.TokenKind.{TokenKind}
use Rattle.zig_tree.specs.declared.token.TokenKind.TheVariants.{LeftBrace}
use Rattle.zig_tree.specs.declared.grammar.Rule.{Rule}
use Rattle.zig_tree.specs.declared.grammar.Group.{Group}
use Rattle.zig_tree.specs.declared.grammar.Part.{Part}
use Rattle.zig_tree.specs.declared.grammar.Part.TheVariants as part
use Rattle.zig_tree.specs.Kinds.{is_kind}
use Rattle.zig_tree.specs.Grammar.{Alternative, group_rows, rule_rows}
use Rattle.zig_tree.specs.GrammarSentences.{Pieces, nothing, word, followed, makes_no_node_alone, is_one_node, made, open_at, Among, Derives, height, next_kind}
use Rattle.zig_parse.specs.declared.thread.Frame.{Frame}
use Rattle.zig_parse.specs.declared.thread.Item.{Item}
use Rattle.zig_parse.specs.declared.thread.Thread.{Thread}
use Rattle.zig_parse.specs.declared.thread.Move.TheVariants as move
use Rattle.zig_parse.specs.Stack.{rest}
use Rattle.zig_parse.specs.Threads.{after_read, closed, hardened, has_braces, is_deep, is_apart, is_braced, is_never_alone, item, met, met_from, opened, passed, put, replaced, touched_from, with_part}
use Rattle.zig_parse.specs.Moves.{apart_from, move_at, move_from, next_move, reading, waits_for}
use Rattle.zig_parse.proofs.Derived.{followed_nothing, followed_twice, open_is_row, row_tested}
use Rattle.zig_parse.proofs.Shapes.{count, has_piece, is_led, row_fills, row_has_piece, row_led}
use Rattle.zig_parse.proofs.Tables.{rule_filled}
use Rattle.zig_parse.proofs.TreeTables.{lone_filled, rule_led}
use Rattle.zig_parse.proofs.Balance.{reads_some}
use Rattle.zig_parse.proofs.Spelled.{amount}
use Rattle.zig_parse.proofs.Story.{amount_followed, group_keeps_led, led_first, led_rest, made_one, one_amount, piece_amount, several, worded}
use Rattle.zig_parse.specs.Ways.{Fork, Taken, noted}
use Rattle.zig_parse.proofs.Paths.{Seen, Told, look_of, parts_of_items, is_cons, Path, path_closes, path_rule, path_group, path_reads}
use Rattle.zig_parse.proofs.Depths.{words, words_followed, words_made, words_read, derived_full, full_made, Lies, lies_left, lies_right, lies_made, IsLow, next_low, read_low}
use Rattle.zig_parse.proofs.Calm.{is_calm_rule, starts_calm, rule_forks, group_forks, fork_starts, calm_starts, is_free, is_free_group, lone_row_free, group_row_free, taken_among}
use Rattle.zig_parse.proofs.Follows.{Closes, closes_none, closes_one, closes_items, closes_fewer, Stands, Begins, met_begins, met_frame, hard_frame, makes, new_frame, open_stands, read_stands, read_shallow}
use Rattle.zig_tree.specs.declared.tree.TheConstants.{DEPTH_LIMIT}

-- ---- what a thread does next

level_first : (apart : Bool) (tokens : List TokenKind) (level : ℕ) (q : Part) (is : List Item) → move_from (look_of tokens) apart level (item level q ∷ is) ≡ move_at (look_of tokens) apart q
level_first apart tokens level q is = rw (le-ltb level level (omega arith)) refl

pub next_is : (apart : Bool) (tokens : List TokenKind) (u : Thread) (f : Frame) (fs : List Frame) (q : Part) (is : List Item) → u.frames ≡ f ∷ fs → u.items ≡ item (suc (length fs)) q ∷ is
    → next_move (look_of tokens) apart u ≡ move_at (look_of tokens) apart q
unfolding next_move
next_is apart tokens u f fs q is ef ei =
    ap (λ (l : List Frame). move_from (look_of tokens) apart (length l) u.items) ef ∙ ap (move_from (look_of tokens) apart (length (f ∷ fs))) ei ∙ level_first apart tokens (suc (length fs)) q is

close_first : (apart : Bool) (tokens : List TokenKind) (level n : ℕ) (q : Part) (is : List Item) → level < n → move_from (look_of tokens) apart n (item level q ∷ is) ≡ move.Close
close_first apart tokens level n q is h = rw (lt-ltb level n h) refl

next_closes : (apart : Bool) (tokens : List TokenKind) (t : Thread) (level : ℕ) (q : Part) (is : List Item) → t.items ≡ item level q ∷ is → level < length t.frames → next_move (look_of tokens) apart t ≡ move.Close
unfolding next_move
next_closes apart tokens t level q is e h = ap (move_from (look_of tokens) apart (length t.frames)) e ∙ close_first apart tokens level (length t.frames) q is h

-- nodes that are done are closed before the first of what is to come
pub path_closing : (apart : Bool) (low : ℕ → Type 0) (told : Told) (calm : Bool) (t u : Thread) (at : ℕ) (tokens end : List TokenKind) (height : ℕ) (forks : List Fork) (q : Part) (is : List Item)
    → Closes t u → u.items ≡ item (length u.frames) q ∷ is → Path apart low told calm u at tokens end height forks → Path apart low told calm t at tokens end height forks
path_closing apart low told calm t u at tokens end height forks q is (closes_none _) e p = p
path_closing apart low told calm t u at tokens end height forks q is (closes_one _ _ f g fs h c) e p =
    path_closes told calm t at tokens end height forks
    (next_closes apart tokens t (length u.frames) q is (closes_items t u (closes_one t u f g fs h c) ∙ e) (closes_fewer t u f g fs h c))
    (path_closing apart low told calm (closed t) u at tokens end height forks q is c e p)

waits_none : (u : Thread) (i : Item) (is : List Item) → u.items ≡ i ∷ is → is_apart i.part ≡ false → waits_for u ≡ None
unfolding waits_for
waits_none u i is e h = ap apart_from e ∙ ap (λ (b : Bool). if b then Some i.part else None) h

pub waits_some : (u : Thread) (i : Item) (is : List Item) → u.items ≡ i ∷ is → is_apart i.part ≡ true → waits_for u ≡ Some i.part
unfolding waits_for
waits_some u i is e h = ap apart_from e ∙ ap (λ (b : Bool). if b then Some i.part else None) h

-- ---- items

pub parts_joined : (level : ℕ) (ps : List Part) (later : List Item) (behind : List Part) → parts_of_items later ≡ behind → parts_of_items (map (item level) ps ++ later) ≡ ps ++ behind
parts_joined level [] later behind e = e
parts_joined level (p ∷ ps) later behind e = ap (λ (l : List Part). p ∷ l) (parts_joined level ps later behind e)

touched_items : (t : Thread) (fs : List Frame) → (touched_from t fs).items ≡ t.items
unfolding hardened
touched_items t [] = refl
touched_items t (f ∷ fs) = by f.solid
  where
    by : (b : Bool) → (if b then record t { deep = t.deep || is_deep t.depth 0 } else hardened f t).items ≡ t.items
    by true = refl
    by false = refl

pub read_items : (t : Thread) → (after_read t).items ≡ rest t.items
unfolding after_read
read_items t = touched_items (passed t) t.frames

pub met_items : (r : Rule) (t : Thread) (fs : List Frame) → (met_from r t fs).items ≡ t.items
unfolding hardened
met_items r t [] = refl
met_items r t (f ∷ fs) = by (not f.solid && (nat_lt 0 f.parts || is_never_alone r))
  where
    by : (b : Bool) → (if b then hardened f t else t).items ≡ t.items
    by true = refl
    by false = refl

-- ---- what a thread has to follow

-- a thread that stands before parts which derive these pieces, with all that the node will hold
pub record Ready (low : ℕ → Type 0) (told calm : Bool) (ps behind : List Part) (p : Pieces) (t : Thread) (at : ℕ) (f : Frame) (fs : List Frame) (had after whole : Pieces) (lone : Bool) (base depth : ℕ) (qs : List Part) (later : List Item) : Type 0 where
  pub stands : Stands low told t at f fs had lone (makes lone whole) base depth
  pub whole_is : whole ≡ followed had (followed p after)
  pub items : t.items ≡ map (item (suc (length fs))) ps ++ later
  pub come : parts_of_items later ≡ behind
  pub starts : calm ≡ true → starts_calm ps ≡ true
  pub led : is_led (ps ++ qs) ≡ true
  pub more : has_piece qs ≡ true → 0 < amount after
  pub free : lone ≡ true → is_free ps ≡ true
  pub lies : Lies low at depth p
  pub within : base + count (makes lone whole) ≤ depth

-- what goes on after them
abbrev pub Goes : (low : ℕ → Type 0) (told : Told) (fs : List Frame) (lone is_node : Bool) (base depth : ℕ) (later : List Item) (next end : List TokenKind) (height : ℕ) (outer : List Fork) → ℕ → Pieces → ℕ → Type 0
Goes low told fs lone is_node base depth later next end height outer at had tall =
    (t : Thread) (g : Frame) → Stands low told.is t at g fs had lone is_node base depth → t.items ≡ later → g.height ≡ tall → Path true low told false t at next end height outer

pub goes_as : (low : ℕ → Type 0) (told : Told) (fs : List Frame) (lone is_node : Bool) (base depth : ℕ) (later : List Item) (next end : List TokenKind) (height : ℕ) (outer : List Fork) (m n : ℕ) (p q : Pieces) (x y : ℕ) → m ≡ n → p ≡ q → x ≡ y
    → Goes low told fs lone is_node base depth later next end height outer m p x → Goes low told fs lone is_node base depth later next end height outer n q y
goes_as low told fs lone is_node base depth later next end height outer m n p q x y e h k goes =
    subst (λ (i : ℕ). Goes low told fs lone is_node base depth later next end height outer i q y) e
    (subst (λ (c : Pieces). Goes low told fs lone is_node base depth later next end height outer m c y) h
    (subst (λ (z : ℕ). Goes low told fs lone is_node base depth later next end height outer m p z) k goes))

-- ---- nothing is to come

done_by : (low : ℕ → Type 0) (told : Told) (calm : Bool) (t : Thread) (at : ℕ) (next end : List TokenKind) (height : ℕ) (outer : List Fork) → (calm ≡ true → false ≡ true) → Path true low told false t at next end height outer → Path true low told calm t at next end height outer
done_by low told true t at next end height outer h p = absurd (let e = h refl in cc)
done_by low told false t at next end height outer h p = p

pub none_path : (low : ℕ → Type 0) (behind : List Part) (next end : List TokenKind) (told : Told) (calm : Bool) (t : Thread) (at : ℕ) (f : Frame) (fs : List Frame) (had after whole : Pieces) (lone : Bool) (base depth : ℕ) (qs : List Part) (later : List Item) (height : ℕ) (outer : List Fork)
    → Ready low told.is calm [] behind nothing t at f fs had after whole lone base depth qs later
    → Goes low told fs lone (makes lone whole) base depth later next end height outer (at + 0) (followed had nothing) (max f.height 0)
    → Path true low told calm t at next end height outer
none_path low behind next end told calm t at f fs had after whole lone base depth qs later height outer r goes =
    done_by low told calm t at next end height outer r.starts
    (goes_as low told fs lone (makes lone whole) base depth later next end height outer (at + 0) at (followed had nothing) had (max f.height 0) f.height (omega arith) (followed_nothing had) (omega arith) goes
    t f r.stands r.items refl)

-- ---- a token

pub one_makes : (lone : Bool) (whole : Pieces) → is_one_node whole ≡ false → makes lone whole ≡ true
one_makes true whole h = rw h refl
one_makes false whole h = refl

pub token_makes : (lone : Bool) (whole had later after : Pieces) (k : TokenKind) → whole ≡ followed had (followed (word k later) after) → makes lone whole ≡ true
token_makes lone whole had later after k e = one_makes lone whole (subst (λ (x : Pieces). is_one_node x ≡ false) (sym e) (worded had (followed later after) k))

-- the state after a token
pub token_ready : (low : ℕ → Type 0) (falls : (n m : ℕ) → n ≤ m → low m → low n) (q : Part) (ps behind : List Part) (k : TokenKind) (p : Pieces) (told calm : Bool) (t : Thread) (at : ℕ) (f : Frame) (fs : List Frame) (had after whole : Pieces) (lone : Bool) (base depth : ℕ) (qs : List Part) (later : List Item)
    → (is_free (q ∷ ps) ≡ true → is_free ps ≡ true) → (r : Ready low told calm (q ∷ ps) behind (word k p) t at f fs had after whole lone base depth qs later)
    → Ready low told false ps behind p (after_read r.stands.u) (at + 1) (with_part 0 (hard_frame f)) fs (followed had (word k nothing)) after whole lone base depth qs later
token_ready low falls q ps behind k p told calm t at f fs had after whole lone base depth qs later free r =
    let node_made = token_makes lone whole had p after k r.whole_is in
    record {
      stands = read_stands low told t at f fs had lone (makes lone whole) base depth k falls r.stands r.within (next_low low at depth (word k p) (omega arith) r.lies) node_made;
      whole_is = r.whole_is ∙ sym (followed_twice had (word k nothing) (followed p after));
      items = read_items r.stands.u ∙ ap rest (sym (closes_items t r.stands.u r.stands.closes) ∙ r.items);
      come = r.come;
      starts = λ e. absurd (cc);
      led = led_rest q (ps ++ qs) r.led;
      more = r.more;
      free = λ e. free (r.free e);
      lies = lies_right low at depth (word k nothing) p r.lies;
      within = r.within;
    }

pub token_path : (low : ℕ → Type 0) (falls : (n m : ℕ) → n ≤ m → low m → low n) (q : Part) (ps behind : List Part) (k : TokenKind) (tokens end : List TokenKind) (p : Pieces) (told : Told) (calm : Bool) (t : Thread) (at : ℕ) (f : Frame) (fs : List Frame) (had after whole : Pieces) (lone : Bool) (base depth : ℕ) (qs : List Part) (later : List Item) (height : ℕ) (forks : List Fork)
    → is_apart q ≡ false → move_at (look_of (k ∷ tokens)) true q ≡ move.Read → (r : Ready low told.is calm (q ∷ ps) behind (word k p) t at f fs had after whole lone base depth qs later)
    → Seen told.spot (at + 1) tokens end (after_read r.stands.u).frames (after_read r.stands.u).items → Path true low told false (after_read r.stands.u) (at + 1) tokens end height forks
    → Path true low told calm t at (k ∷ tokens) end height forks
token_path low falls q ps behind k tokens end p told calm t at f fs had after whole lone base depth qs later height forks free reads r seen path =
    let u = r.stands.u in
    let e : u.items ≡ item (suc (length fs)) q ∷ (map (item (suc (length fs))) ps ++ later) = sym (closes_items t u r.stands.closes) ∙ r.items in
    path_closing true low told calm t u at (k ∷ tokens) end height forks q (map (item (suc (length fs))) ps ++ later) r.stands.closes (e ∙ ap (λ (l : List Frame). item (length l) q ∷ (map (item (suc (length fs))) ps ++ later)) (sym r.stands.frames))
    (path_reads told calm u at k tokens end height forks (next_is true (k ∷ tokens) u f fs q (map (item (suc (length fs))) ps ++ later) r.stands.frames e ∙ reads)
    (waits_none u (item (suc (length fs)) q) (map (item (suc (length fs))) ps ++ later) e free)
    (read_shallow low told.is t at f fs had lone (makes lone whole) base depth falls r.stands r.within (next_low low at depth (word k p) (omega arith) r.lies) (token_makes lone whole had p after k r.whole_is)) seen path)

-- ---- a group

piece_split : (ps qs : List Part) → has_piece (ps ++ qs) ≡ true → (has_piece ps ≡ true) ⊎ (has_piece qs ≡ true)
piece_split [] qs h = inr h
piece_split (part.Token _ ∷ ps) qs h = inl refl
piece_split (part.OneOf _ ∷ ps) qs h = inl refl
piece_split (part.Rule _ ∷ ps) qs h = inl refl
piece_split (part.Group g ∷ ps) qs h = piece_split ps qs h

-- a piece comes in the same node
more_come : (ps qs : List Part) (tokens next : List TokenKind) (p after : Pieces) → Derives ps tokens next p → (has_piece qs ≡ true → 0 < amount after) → has_piece (ps ++ qs) ≡ true → 0 < amount (followed p after)
more_come ps qs tokens next p after d more h =
    elim (piece_split ps qs h) [
      | inl own ↦ omega (arith, amount_followed p after, piece_amount ps tokens next p d own)
      | inr others ↦ omega (arith, amount_followed p after, more others)
    ]

group_starts : (calm : Bool) (choices : List Bool) (ps : List Part) → (calm ≡ true → false ≡ true) → (choices ≡ []) ⊎ (starts_calm ps ≡ true) → (calm || is_cons choices) ≡ true → starts_calm ps ≡ true
group_starts true choices ps h s e = absurd (let c = h refl in cc)
group_starts false choices ps h (inl none) e = absurd (let c : is_cons choices ≡ false = ap is_cons none in cc)
group_starts false choices ps h (inr s) e = s

group_none : (calm : Bool) (choices : List Bool) → (calm ≡ true → false ≡ true) → calm ≡ true → choices ≡ []
group_none calm choices h e = absurd (let c = h e in cc)

group_stands : (low : ℕ → Type 0) (told : Bool) (t : Thread) (at : ℕ) (f : Frame) (fs : List Frame) (had : Pieces) (lone is_node : Bool) (base depth : ℕ) (ps : List Part) (s : Stands low told t at f fs had lone is_node base depth)
    → Stands low told (replaced None ps s.u) at f fs had lone is_node base depth
unfolding replaced put
group_stands low told t at f fs had lone is_node base depth ps s = record {
  u = replaced None ps s.u;
  closes = closes_none (replaced None ps s.u);
  frames = s.frames;
  shallow = s.shallow;
  level = s.level;
  solid = s.solid;
  soft = s.soft;
  some = s.some;
  none = s.none;
  lies = s.lies;
  tall = s.tall;
}

group_items : (u : Thread) (f : Frame) (fs : List Frame) (ps : List Part) (is : List Item) → u.frames ≡ f ∷ fs → rest u.items ≡ is → (replaced None ps u).items ≡ map (item (suc (length fs))) ps ++ is
unfolding replaced put
group_items u f fs ps is ef ei = ap (λ (l : List Frame). map (item (length l)) ps ++ rest u.items) ef ∙ ap (λ (l : List Item). map (item (suc (length fs))) ps ++ l) ei

-- what is to come after the first part
pub rest_is : (low : ℕ → Type 0) (told calm : Bool) (q : Part) (ps behind : List Part) (p : Pieces) (t : Thread) (at : ℕ) (f : Frame) (fs : List Frame) (had after whole : Pieces) (lone : Bool) (base depth : ℕ) (qs : List Part) (later : List Item)
    → (r : Ready low told calm (q ∷ ps) behind p t at f fs had after whole lone base depth qs later) → rest r.stands.u.items ≡ map (item (suc (length fs))) ps ++ later
rest_is low told calm q ps behind p t at f fs had after whole lone base depth qs later r = ap rest (sym (closes_items t r.stands.u r.stands.closes) ∙ r.items)

pub group_ready : (low : ℕ → Type 0) (told calm : Bool) (g : Group) (a : Alternative) (ps behind : List Part) (tokens mid next end : List TokenKind) (inside p : Pieces) (choices : List Bool) (t : Thread) (at : ℕ) (f : Frame) (fs : List Frame) (had after whole : Pieces) (lone : Bool) (base depth : ℕ) (qs : List Part) (later : List Item)
    → Taken (ps ++ behind) tokens end (open_at tokens (group_rows g)) a choices → Derives ps mid next p → (r : Ready low told calm (part.Group g ∷ ps) behind (followed inside p) t at f fs had after whole lone base depth qs later)
    → Ready low told (calm || is_cons choices) a.parts (ps ++ behind) inside (replaced None a.parts r.stands.u) at f fs had (followed p after) whole lone base depth (ps ++ qs) (map (item (suc (length fs))) ps ++ later)
group_ready low told calm g a ps behind tokens mid next end inside p choices t at f fs had after whole lone base depth qs later taken d r =
    let among = taken_among (ps ++ behind) tokens end (open_at tokens (group_rows g)) a choices taken in
    record {
      stands = group_stands low told t at f fs had lone (makes lone whole) base depth a.parts r.stands;
      whole_is = r.whole_is ∙ ap (followed had) (followed_twice inside p after);
      items = group_items r.stands.u f fs a.parts (map (item (suc (length fs))) ps ++ later) r.stands.frames (rest_is low told calm (part.Group g) ps behind (followed inside p) t at f fs had after whole lone base depth qs later r);
      come = parts_joined (suc (length fs)) ps later behind r.come;
      starts = group_starts calm choices a.parts r.starts (fork_starts (group_rows g) (group_forks g) (ps ++ behind) tokens end a choices taken);
      led = group_keeps_led g a (ps ++ qs) (open_is_row tokens a (group_rows g) among) r.led;
      more = more_come ps qs mid next p after d r.more;
      free = λ e. group_row_free g a tokens (and_parts (is_free_group g) (is_free ps) (r.free e)).0 among;
      lies = lies_left low at depth inside p r.lies;
      within = r.within;
    }

-- after it
pub after_group : (low : ℕ → Type 0) (told calm : Bool) (g : Group) (ps behind : List Part) (inside p : Pieces) (t t2 : Thread) (at : ℕ) (f f2 : Frame) (fs : List Frame) (had after whole : Pieces) (lone : Bool) (base depth : ℕ) (qs : List Part) (later : List Item)
    → (r : Ready low told calm (part.Group g ∷ ps) behind (followed inside p) t at f fs had after whole lone base depth qs later)
    → Stands low told t2 (at + words inside) f2 fs (followed had inside) lone (makes lone whole) base depth → t2.items ≡ map (item (suc (length fs))) ps ++ later
    → Ready low told false ps behind p t2 (at + words inside) f2 fs (followed had inside) after whole lone base depth qs later
after_group low told calm g ps behind inside p t t2 at f f2 fs had after whole lone base depth qs later r s e = record {
  stands = s;
  whole_is = r.whole_is ∙ ap (followed had) (followed_twice inside p after) ∙ sym (followed_twice had inside (followed p after));
  items = e;
  come = r.come;
  starts = λ h. absurd (cc);
  led = led_rest (part.Group g) (ps ++ qs) r.led;
  more = r.more;
  free = λ h. (and_parts (is_free_group g) (is_free ps) (r.free h)).1;
  lies = lies_right low at depth inside p r.lies;
  within = r.within;
}

as_taken : (later parts : List Part) (tokens end : List TokenKind) (rows : List Alternative) (a : Alternative) (choices : List Bool) → parts ≡ later → Taken later tokens end rows a choices → Taken parts tokens end rows a choices
as_taken later parts tokens end rows a choices e t = subst (λ (ps : List Part). Taken ps tokens end rows a choices) (sym e) t

group_move : (look_kind : Bool) (g : Group) → has_braces g ≡ false → (if true && has_braces g then reading look_kind else move.Group g) ≡ move.Group g
group_move look_kind g h = rw h refl

forks_joined : (noted_here inner outer last : List Fork) → (noted_here ++ (inner ++ outer)) ++ last ≡ noted_here ++ (inner ++ (outer ++ last))
forks_joined noted_here inner outer last = append_assoc noted_here (inner ++ outer) last ∙ ap (λ (l : List Fork). noted_here ++ l) (append_assoc inner outer last)

pub first_item : (low : ℕ → Type 0) (told calm : Bool) (q : Part) (ps behind : List Part) (p : Pieces) (t : Thread) (at : ℕ) (f : Frame) (fs : List Frame) (had after whole : Pieces) (lone : Bool) (base depth : ℕ) (qs : List Part) (later : List Item)
    → (r : Ready low told calm (q ∷ ps) behind p t at f fs had after whole lone base depth qs later) → r.stands.u.items ≡ item (suc (length fs)) q ∷ (map (item (suc (length fs))) ps ++ later)
first_item low told calm q ps behind p t at f fs had after whole lone base depth qs later r = sym (closes_items t r.stands.u r.stands.closes) ∙ r.items

-- from the thread that has closed what is done
pub from_closed : (low : ℕ → Type 0) (told : Told) (calm calm2 : Bool) (q : Part) (ps behind : List Part) (p : Pieces) (t : Thread) (at : ℕ) (tokens end : List TokenKind) (f : Frame) (fs : List Frame) (had after whole : Pieces) (lone : Bool) (base depth : ℕ) (qs : List Part) (later : List Item) (height : ℕ) (forks : List Fork)
    → (r : Ready low told.is calm (q ∷ ps) behind p t at f fs had after whole lone base depth qs later) → Path true low told calm2 r.stands.u at tokens end height forks → Path true low told calm2 t at tokens end height forks
from_closed low told calm calm2 q ps behind p t at tokens end f fs had after whole lone base depth qs later height forks r path =
    let e = first_item low told.is calm q ps behind p t at f fs had after whole lone base depth qs later r in
    path_closing true low told calm2 t r.stands.u at tokens end height forks q (map (item (suc (length fs))) ps ++ later) r.stands.closes
    (e ∙ ap (λ (l : List Frame). item (length l) q ∷ (map (item (suc (length fs))) ps ++ later)) (sym r.stands.frames)) path

pub group_path : (low : ℕ → Type 0) (told : Told) (calm : Bool) (g : Group) (a : Alternative) (ps behind : List Part) (tokens end : List TokenKind) (p : Pieces) (choices : List Bool) (t : Thread) (at : ℕ) (f : Frame) (fs : List Frame) (had after whole : Pieces) (lone : Bool) (base depth : ℕ) (qs : List Part) (later : List Item) (height : ℕ) (inner outer last : List Fork)
    → has_braces g ≡ false → Taken (ps ++ behind) tokens end (open_at tokens (group_rows g)) a choices → (r : Ready low told.is calm (part.Group g ∷ ps) behind p t at f fs had after whole lone base depth qs later)
    → Path true low told (calm || is_cons choices) (replaced None a.parts r.stands.u) at tokens end height (inner ++ (outer ++ last))
    → Path true low told calm t at tokens end height ((noted tokens choices ++ (inner ++ outer)) ++ last)
group_path low told calm g a ps behind tokens end p choices t at f fs had after whole lone base depth qs later height inner outer last free taken r path =
    let u = r.stands.u in
    let behind_items = map (item (suc (length fs))) ps ++ later in
    let parts = ap parts_of_items (rest_is low told.is calm (part.Group g) ps behind p t at f fs had after whole lone base depth qs later r) ∙ parts_joined (suc (length fs)) ps later behind r.come in
    subst (Path true low told calm t at tokens end height) (sym (forks_joined (noted tokens choices) inner outer last))
    (from_closed low told calm calm (part.Group g) ps behind p t at tokens end f fs had after whole lone base depth qs later height (noted tokens choices ++ (inner ++ (outer ++ last))) r
    (path_group told calm u at tokens end height (inner ++ (outer ++ last)) g a choices
    (next_is true tokens u f fs (part.Group g) behind_items r.stands.frames (first_item low told.is calm (part.Group g) ps behind p t at f fs had after whole lone base depth qs later r) ∙ group_move (is_kind (next_kind tokens) LeftBrace) g free)
    (group_none calm choices r.starts) (as_taken (ps ++ behind) (parts_of_items (rest u.items)) tokens end (open_at tokens (group_rows g)) a choices parts taken) path))

-- ---- a rule

rule_starts : (r : Rule) (later : List Part) (tokens end : List TokenKind) (a : Alternative) (choices : List Bool) (calm : Bool) → (calm ≡ true → is_calm_rule r ≡ true) → Taken later tokens end (open_at tokens (rule_rows r)) a choices
    → (calm || is_cons choices) ≡ true → starts_calm a.parts ≡ true
rule_starts r later tokens end a choices true h t e = (calm_starts r later tokens end a choices (h refl) t).1
rule_starts r later tokens end a choices false h t e = group_starts false choices a.parts (λ i. i) (fork_starts (rule_rows r) (rule_forks r) later tokens end a choices t) e

rule_none : (r : Rule) (later : List Part) (tokens end : List TokenKind) (a : Alternative) (choices : List Bool) (calm : Bool) → (calm ≡ true → is_calm_rule r ≡ true) → Taken later tokens end (open_at tokens (rule_rows r)) a choices → calm ≡ true → choices ≡ []
rule_none r later tokens end a choices calm h t e = (calm_starts r later tokens end a choices (h e) t).0

-- the node around it is one for sure, where a part came before or has to come after
met_makes : (low : ℕ → Type 0) (told calm : Bool) (r : Rule) (ps behind : List Part) (mid next : List TokenKind) (inside p : Pieces) (t : Thread) (at : ℕ) (f : Frame) (fs : List Frame) (had after whole : Pieces) (lone : Bool) (base depth : ℕ) (qs : List Part) (later : List Item)
    → Derives ps mid next p → Ready low told calm (part.Rule r ∷ ps) behind (followed (made r inside) p) t at f fs had after whole lone base depth qs later → (0 < f.parts) ⊎ (is_never_alone r ≡ true) → makes lone whole ≡ true
met_makes low told calm r ps behind mid next inside p t at f fs had after whole lone base depth qs later d ready (inl some) =
    let have = ready.stands.some some in
    one_makes lone whole (several whole (omega (arith, ap amount ready.whole_is, amount_followed had (followed (followed (made r inside) p) after), amount_followed (followed (made r inside) p) after, amount_followed (made r inside) p, one_amount (made r inside) (made_one r inside))))
met_makes low told calm r ps behind mid next inside p t at f fs had after whole lone base depth qs later d ready (inr more) =
    let come = more_come ps qs mid next p after d ready.more (led_first (part.Rule r) (ps ++ qs) ready.led more) in
    one_makes lone whole (several whole (omega (arith, ap amount ready.whole_is, amount_followed had (followed (followed (made r inside) p) after), ap amount (followed_twice (made r inside) p after), amount_followed (made r inside) (followed p after), one_amount (made r inside) (made_one r inside))))

pub some_words : (r : Rule) (a : Alternative) (tokens mid : List TokenKind) (inside : Pieces) → Among a (open_at tokens (rule_rows r)) → Derives a.parts tokens mid inside → 0 < words inside
some_words r a tokens mid inside m d =
    let some = reads_some a.parts tokens mid inside d (row_tested row_fills a (rule_rows r) (rule_filled r) (open_is_row tokens a (rule_rows r) m)) in
    omega (arith, words_read a.parts tokens mid inside d)

pub lone_some : (r : Rule) (a : Alternative) (tokens mid : List TokenKind) (inside : Pieces) → Among a (open_at tokens (rule_rows r)) → Derives a.parts tokens mid inside → makes_no_node_alone r ≡ true → 0 < amount inside
lone_some r a tokens mid inside m d h = piece_amount a.parts tokens mid inside d (row_tested row_has_piece a (rule_rows r) (lone_filled r h) (open_is_row tokens a (rule_rows r) m))

rule_next_low : (low : ℕ → Type 0) (at depth : ℕ) (r : Rule) (inside p : Pieces) → 0 < words inside → Lies low at depth (followed (made r inside) p) → low (at + 1) → depth ≤ DEPTH_LIMIT
rule_next_low low at depth r inside p some lies = next_low low at depth (followed (made r inside) p) (omega (arith, words_followed (made r inside) p, words_made r inside)) lies

-- where it begins
pub rule_begins : (low : ℕ → Type 0) (falls : (n m : ℕ) → n ≤ m → low m → low n) (told calm : Bool) (r : Rule) (ps behind : List Part) (mid next : List TokenKind) (inside p : Pieces) (t v : Thread) (at : ℕ) (f : Frame) (fs : List Frame) (had after whole : Pieces) (lone : Bool) (base depth : ℕ) (qs : List Part) (later : List Item)
    → 0 < words inside → Derives ps mid next p → (ready : Ready low told calm (part.Rule r ∷ ps) behind (followed (made r inside) p) t at f fs had after whole lone base depth qs later)
    → v.frames ≡ ready.stands.u.frames → v.depth ≡ ready.stands.u.depth → v.deep ≡ ready.stands.u.deep → Begins low told (met r v) at (met_frame r f) fs had lone (makes lone whole) base depth
rule_begins low falls told calm r ps behind mid next inside p t v at f fs had after whole lone base depth qs later some d ready ef ed ep =
    met_begins low told t v at r f fs had lone (makes lone whole) base depth falls ready.stands ready.within (rule_next_low low at depth r inside p some ready.lies) (ef ∙ ready.stands.frames) ed ep
    (met_makes low told calm r ps behind mid next inside p t at f fs had after whole lone base depth qs later d ready)

rule_items : (r : Rule) (u : Thread) (f : Frame) (fs : List Frame) (ps : List Part) (is : List Item) → (met r (passed u)).frames ≡ f ∷ fs → rest u.items ≡ is → (replaced (Some r) ps u).items ≡ map (item (suc (length (f ∷ fs)))) ps ++ is
unfolding replaced put opened met
rule_items r u f fs ps is ef ei =
    ap (λ (l : List Frame). map (item (suc (length l))) ps ++ (met_from r (passed u) u.frames).items) ef
    ∙ ap (λ (l : List Item). map (item (suc (length (f ∷ fs)))) ps ++ l) (met_items r (passed u) u.frames ∙ ei)

pub rule_within : (x y : Bool) (base depth n : ℕ) → (x ≡ true → y ≡ true) → base + count y ≤ depth → base + count x + n ≤ depth + n
rule_within true true base depth n h b = omega arith
rule_within true false base depth n h b = absurd (let e = h refl in cc)
rule_within false true base depth n h b = omega arith
rule_within false false base depth n h b = omega arith

rule_stands : (low : ℕ → Type 0) (told : Bool) (u : Thread) (at : ℕ) (r : Rule) (f : Frame) (fs : List Frame) (had : Pieces) (lone is_node : Bool) (base depth deeper : ℕ) (inside : Pieces) (ps : List Part) → Begins low told (met r (passed u)) at f fs had lone is_node base depth
    → Stands low told (replaced (Some r) ps u) at (new_frame r) (f ∷ fs) nothing (makes_no_node_alone r) (makes (makes_no_node_alone r) inside) (base + count f.solid) deeper
unfolding replaced
rule_stands low told u at r f fs had lone is_node base depth deeper inside ps b = open_stands low told (met r (passed u)) at r (f ∷ fs) (base + count f.solid) deeper inside ps b.frames b.shallow b.level

pub inner_lead : (r : Rule) (a : Alternative) (tokens : List TokenKind) → Among a (open_at tokens (rule_rows r)) → is_led (a.parts ++ []) ≡ true
inner_lead r a tokens m = subst (λ (l : List Part). is_led l ≡ true) (sym (append-nil a.parts)) (row_tested row_led a (rule_rows r) (rule_led r) (open_is_row tokens a (rule_rows r) m))

pub rule_ready : (low : ℕ → Type 0) (told calm : Bool) (r : Rule) (a : Alternative) (ps behind : List Part) (tokens end : List TokenKind) (inside p : Pieces) (choices : List Bool) (t : Thread) (at : ℕ) (f : Frame) (fs : List Frame) (had after whole : Pieces) (lone : Bool) (base depth : ℕ) (qs : List Part) (later : List Item)
    → Taken (ps ++ behind) tokens end (open_at tokens (rule_rows r)) a choices → (ready : Ready low told calm (part.Rule r ∷ ps) behind (followed (made r inside) p) t at f fs had after whole lone base depth qs later)
    → Begins low told (met r (passed ready.stands.u)) at (met_frame r f) fs had lone (makes lone whole) base depth
    → Ready low told (calm || is_cons choices) a.parts (ps ++ behind) inside (replaced (Some r) a.parts ready.stands.u) at (new_frame r) (met_frame r f ∷ fs) nothing nothing inside (makes_no_node_alone r) (base + count (met_frame r f).solid) (depth + count (makes (makes_no_node_alone r) inside)) []
    (map (item (suc (length fs))) ps ++ later)
rule_ready low told calm r a ps behind tokens end inside p choices t at f fs had after whole lone base depth qs later taken ready b =
    let among = taken_among (ps ++ behind) tokens end (open_at tokens (rule_rows r)) a choices taken in
    record {
      stands = rule_stands low told ready.stands.u at r (met_frame r f) fs had lone (makes lone whole) base depth (depth + count (makes (makes_no_node_alone r) inside)) inside a.parts b;
      whole_is = sym (followed_nothing inside);
      items = rule_items r ready.stands.u (met_frame r f) fs a.parts (map (item (suc (length fs))) ps ++ later) b.frames (rest_is low told calm (part.Rule r) ps behind (followed (made r inside) p) t at f fs had after whole lone base depth qs later ready);
      come = parts_joined (suc (length fs)) ps later behind ready.come;
      starts = rule_starts r (ps ++ behind) tokens end a choices calm ready.starts taken;
      led = inner_lead r a tokens among;
      more = λ h. absurd (cc);
      free = λ h. lone_row_free r a tokens h among;
      lies = lies_made low at depth r inside (lies_left low at depth (made r inside) p ready.lies);
      within = rule_within (met_frame r f).solid (makes lone whole) base depth (count (makes (makes_no_node_alone r) inside)) b.solid ready.within;
    }

pub made_lies : (low : ℕ → Type 0) (at depth : ℕ) (r : Rule) (a : Alternative) (tokens mid : List TokenKind) (inside p : Pieces) → 0 < words inside → Derives a.parts tokens mid inside → Lies low at depth (followed (made r inside) p) → low (at + words inside) → IsLow depth (words (made r inside)) (height (made r inside))
made_lies low at depth r a tokens mid inside p some d lies l =
    read_low low at depth (made r inside) (full_made r inside some (derived_full a.parts tokens mid inside d)) (lies_left low at depth (made r inside) p lies)
    (subst low (let e : at + words inside ≡ at + words (made r inside) = omega (arith, words_made r inside) in e) l)

-- after it
pub after_rule : (low : ℕ → Type 0) (told calm : Bool) (r : Rule) (ps behind : List Part) (inside p : Pieces) (t t2 : Thread) (at : ℕ) (f f2 : Frame) (fs : List Frame) (had after whole : Pieces) (lone : Bool) (base depth : ℕ) (qs : List Part) (later : List Item)
    → (ready : Ready low told calm (part.Rule r ∷ ps) behind (followed (made r inside) p) t at f fs had after whole lone base depth qs later)
    → Stands low told t2 (at + words inside) f2 fs (followed had (made r inside)) lone (makes lone whole) base depth → t2.items ≡ map (item (suc (length fs))) ps ++ later
    → Ready low told false ps behind p t2 (at + words inside) f2 fs (followed had (made r inside)) after whole lone base depth qs later
after_rule low told calm r ps behind inside p t t2 at f f2 fs had after whole lone base depth qs later ready s e = record {
  stands = s;
  whole_is = ready.whole_is ∙ ap (followed had) (followed_twice (made r inside) p after) ∙ sym (followed_twice had (made r inside) (followed p after));
  items = e;
  come = ready.come;
  starts = λ h. absurd (cc);
  led = led_rest (part.Rule r) (ps ++ qs) ready.led;
  more = ready.more;
  free = ready.free;
  lies = subst (λ (n : ℕ). Lies low (at + n) depth p) (words_made r inside) (lies_right low at depth (made r inside) p ready.lies);
  within = ready.within;
}

rule_move : (look_kind : Bool) (r : Rule) → is_braced r ≡ false → (if true && is_braced r then reading look_kind else move.Rule r) ≡ move.Rule r
rule_move look_kind r h = rw h refl

pub rule_path : (low : ℕ → Type 0) (told : Told) (calm : Bool) (q : Rule) (a : Alternative) (ps behind : List Part) (tokens end : List TokenKind) (p : Pieces) (choices : List Bool) (t : Thread) (at : ℕ) (f : Frame) (fs : List Frame) (had after whole : Pieces) (lone : Bool) (base depth : ℕ) (qs : List Part) (later : List Item) (height : ℕ) (inner outer last : List Fork)
    → is_braced q ≡ false → Taken (ps ++ behind) tokens end (open_at tokens (rule_rows q)) a choices → (r : Ready low told.is calm (part.Rule q ∷ ps) behind p t at f fs had after whole lone base depth qs later)
    → Path true low told (calm || is_cons choices) (replaced (Some q) a.parts r.stands.u) at tokens end height (inner ++ (outer ++ last))
    → Path true low told calm t at tokens end height ((noted tokens choices ++ (inner ++ outer)) ++ last)
rule_path low told calm q a ps behind tokens end p choices t at f fs had after whole lone base depth qs later height inner outer last free taken r path =
    let u = r.stands.u in
    let behind_items = map (item (suc (length fs))) ps ++ later in
    let parts = ap parts_of_items (rest_is low told.is calm (part.Rule q) ps behind p t at f fs had after whole lone base depth qs later r) ∙ parts_joined (suc (length fs)) ps later behind r.come in
    subst (Path true low told calm t at tokens end height) (sym (forks_joined (noted tokens choices) inner outer last))
    (from_closed low told calm calm (part.Rule q) ps behind p t at tokens end f fs had after whole lone base depth qs later height (noted tokens choices ++ (inner ++ (outer ++ last))) r
    (path_rule told calm u at tokens end height (inner ++ (outer ++ last)) q a choices
    (next_is true tokens u f fs (part.Rule q) behind_items r.stands.frames (first_item low told.is calm (part.Rule q) ps behind p t at f fs had after whole lone base depth qs later r) ∙ rule_move (is_kind (next_kind tokens) LeftBrace) q free)
    (rule_none q (ps ++ behind) tokens end a choices calm r.starts taken) (as_taken (ps ++ behind) (parts_of_items (rest u.items)) tokens end (open_at tokens (rule_rows q)) a choices parts taken) path))
