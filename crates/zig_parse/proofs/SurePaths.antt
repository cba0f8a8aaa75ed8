-- Where parts derive tokens in a way that is sure, a thread has a path: over what stands in braces, and over a whole sentence.
use Rattle.std.proofs.Common.{◌≡◌, ℕ, suc, ◌+◌, ◌-◌, ◌<◌, ◌≤◌, Bool, true, false, ◌&&◌, ◌||◌, inl, inr, List, [], ◌∷◌, ◌++◌, map, length, take, Some, None, refl, sym, ◌∙◌, ap, subst, arith, append_assoc, append-nil}
use Rattle.std.specs.Prelude.{max, min, if◌then◌else◌}
use Rattle.std.proofs.lemmas.Bool.{and_parts, eq-eqb}
use Rattle.zig_tree.specs.declared.token.TokenKind.{TokenKind}
use Rattle.zig_tree.specs.declared.token.TokenKind.TheVariants.{LeftBrace, RightBrace}
use Rattle.zig_tree.specs.declared.grammar.Rule.{Rule}
use Rattle.zig_tree.specs.declared.grammar.Rule.TheVariants as rule
use Rattle.zig_tree.specs.declared.grammar.Group.{Group}
use Rattle.zig_tree.specs.declared.grammar.Group.TheVariants as group
use Rattle.zig_tree.specs.declared.grammar.Part.{Part}
use Rattle.zig_tree.specs.declared.grammar.Part.TheVariants as part
use Rattle.zig_tree.specs.Kinds.{is_kind, number_of}
use Rattle.zig_tree.specs.Grammar.{Alternative, group_rows, rule_rows}
use Rattle.zig_tree.specs.GrammarSentences.{Pieces, nothing, word, followed, makes_no_node_alone, made, open_at, Among, Derives, height, token_depths, AreShallow, next_kind}
use Rattle.zig_parse.specs.declared.thread.Frame.{Frame}
use Rattle.zig_parse.specs.declared.thread.Item.{Item}
use Rattle.zig_parse.specs.declared.thread.Thread.{Thread}
use Rattle.zig_parse.specs.declared.thread.Move.TheVariants as move
use Rattle.zig_parse.specs.Stack.{rest, with_first}
use Rattle.zig_parse.specs.Threads.{gained, hardened, is_deep, touched_from, after_read, fresh, surround, has_braces, is_braced, item, met, met_part, one_more, opened, part_height, passed, put, received, replaced, risen, with_part}
use Rattle.zig_parse.specs.Moves.{next_move, reading, waits_for}
use Rattle.zig_parse.specs.Passes.{begun, begun_by, enclosed, own_height}
use Rattle.zig_parse.proofs.Picks.{choices_as, parts_in}
use Rattle.zig_parse.proofs.Derived.{followed_nothing, followed_twice, open_is_row}
use Rattle.zig_parse.proofs.Shapes.{count, fills, has_piece, is_led}
use Rattle.zig_parse.proofs.Balance.{reads_some}
use Rattle.zig_parse.proofs.Spelled.{amount}
use Rattle.zig_parse.proofs.Story.{group_keeps_led, height_followed, made_one, one_amount, piece_amount}
use Rattle.zig_parse.specs.Ways.{Fork, Taken, taken_sole, noted, Sure, sure_none, sure_token, sure_one_of, sure_group, sure_rule, sure_group_apart, sure_rule_apart}
use Rattle.zig_parse.proofs.Paths.{Awaits, Seen, Told, in_file, look_of, is_cons, parts_of_items, within, Path, path_ends, path_waits}
use Rattle.zig_parse.proofs.Depths.{shallow_some, shallow_tree, words, words_followed, words_made, words_read, derived_full, shallow_fewer, Lies, lies_left, lies_made, IsLow, read_low}
use Rattle.zig_parse.proofs.Calm.{is_free, is_free_group, braces_not_free, lone_row_free, taken_among}
use Rattle.zig_parse.proofs.Rises.{among_sole, sure_derives, rise_made, rise_made_high, rise_made_low, rise_of, rise_high, rise_low}
use Rattle.zig_parse.proofs.Follows.{hard_same, closes_none, closes_risen, Stands, Begins, met_frame, met_height, hard_frame, makes, new_frame, open_stands, shut_stands, shut_rise, received_shallow, received_stands}
use Rattle.zig_parse.proofs.PathSteps.{parts_joined, read_items, token_makes, next_is, waits_some, met_items, Goes, goes_as, none_path, token_ready, token_path, rest_is, group_ready, after_group, first_item, from_closed, group_path, some_words, lone_some, rule_begins, rule_within, inner_lead, rule_ready, made_lies, after_rule, rule_path, Ready}
use Rattle.zig_parse.proofs.Weights.{lone_begins}
use Rattle.zig_parse.proofs.Layers.{Lays, layers_none, lays_left, lays_made, root_spot}
use Rattle.zig_parse.proofs.Sights.{Sight, after_group_sight, after_rule_sight, group_awaits, group_inner, group_seen, group_sight, rule_awaits, rule_inner, rule_seen, rule_sight, token_seen, token_sight}
use Rattle.zig_tree.specs.declared.tree.TheConstants.{DEPTH_LIMIT}

-- ---- what stands in braces

head_parts : List Alternative → List Part
head_parts [] = []
head_parts (a ∷ more) = a.parts

-- a brace is its first token
braced_front : (r : Rule) (a : Alternative) (tokens : List TokenKind) → is_braced r ≡ true → open_at tokens (rule_rows r) ≡ a ∷ [] → (qs : List Part) × (a.parts ≡ part.Token LeftBrace ∷ qs)
unfolding is_braced rule_rows head_parts
braced_front rule.Block a tokens h e = (part.Group group.Statements ∷ part.Token RightBrace ∷ [], ap head_parts (sym e))
braced_front rule.Initializer a tokens h e = (part.Group group.InitializerBody ∷ [], ap head_parts (sym e))
braced_front rule.ContainerBody a tokens h e = (part.Group group.Members ∷ part.Token RightBrace ∷ [], ap head_parts (sym e))
braced_front _ a tokens h e = absurd (cc)

braces_front : (g : Group) (a : Alternative) (tokens : List TokenKind) → has_braces g ≡ true → open_at tokens (group_rows g) ≡ a ∷ [] → (qs : List Part) × (a.parts ≡ part.Token LeftBrace ∷ qs)
unfolding group_rows head_parts
braces_front group.ErrorBraces a tokens h e = (part.Group group.ErrorNames ∷ part.Token RightBrace ∷ [], ap head_parts (sym e))
braces_front group.SwitchBraces a tokens h e = (part.Group group.Prongs ∷ part.Token RightBrace ∷ [], ap head_parts (sym e))
braces_front _ a tokens h e = absurd (cc)

token_front : (k : TokenKind) (ps behind : List Part) (tokens next end : List TokenKind) (p : Pieces) (forks : List Fork) → Sure (part.Token k ∷ ps) behind tokens next end p forks → (more : List TokenKind) × (tokens ≡ k ∷ more)
token_front k ps behind tokens next end p forks (sure_token _ _ _ more _ _ later _ s) = (more, refl)

brace_first : (ps qs behind : List Part) (tokens next end : List TokenKind) (p : Pieces) (forks : List Fork) → ps ≡ part.Token LeftBrace ∷ qs → Sure ps behind tokens next end p forks → (more : List TokenKind) × (tokens ≡ LeftBrace ∷ more)
brace_first ps qs behind tokens next end p forks e s = token_front LeftBrace qs behind tokens next end p forks (subst (λ (l : List Part). Sure l behind tokens next end p forks) e s)

-- the paths of the threads that read what stands in the braces
abbrev Inner : (low : ℕ → Type 0) (told : Told) (v : Thread) (at base : ℕ) (tokens mid : List TokenKind) (q : Part) (height : ℕ) (inner : List Fork) → Type 0
Inner low told v at base tokens mid q height inner =
    (depth : ℕ) (heard : Bool) → (heard ≡ true → (told.is ≡ true) × (depth ≤ v.depth)) → Path true low (within told heard at base) false (begun (look_of tokens) q depth) at tokens mid height inner

brace_at : (low : ℕ → Type 0) (told : Told) (calm : Bool) (u : Thread) (at later base : ℕ) (more mid end : List TokenKind) (height inner_height : ℕ) (inner outer : List Fork) (q : Part) → later ≡ at + (length (LeftBrace ∷ more) - length mid)
    → next_move (look_of (LeftBrace ∷ more)) true u ≡ move.Read → waits_for u ≡ Some q → (told.is ≡ true → low (at + 1) → (met_part q u).deep ≡ false) → Awaits told.spot at mid end (met_part q u).frames (met_part q u).items q base → Inner low told (met_part q u) at base (LeftBrace ∷ more) mid q inner_height inner
    → (told.is ≡ true → low later → (received (own_height q inner_height) (met_part q u)).deep ≡ false) → Seen told.spot later mid end (received (own_height q inner_height) (met_part q u)).frames (received (own_height q inner_height) (met_part q u)).items → Path true low told false (received (own_height q inner_height) (met_part q u)) later mid end height outer
    → Path true low told calm u at (LeftBrace ∷ more) end height (inner ++ outer)
brace_at low told calm u at later base more mid end height inner_height inner outer q e n w d awaits paths deep seen path =
    path_waits told calm u at more mid end height inner_height inner outer q base refl n w d awaits paths
    (subst (λ (i : ℕ). told.is ≡ true → low i → (received (own_height q inner_height) (met_part q u)).deep ≡ false) e deep)
    (subst (λ (i : ℕ). Seen told.spot i mid end (received (own_height q inner_height) (met_part q u)).frames (received (own_height q inner_height) (met_part q u)).items) e seen)
    (subst (λ (i : ℕ). Path true low told false (received (own_height q inner_height) (met_part q u)) i mid end height outer) e path)

path_brace : (low : ℕ → Type 0) (told : Told) (calm : Bool) (u : Thread) (at later base : ℕ) (tokens more mid end : List TokenKind) (height inner_height : ℕ) (inner outer : List Fork) (q : Part) → tokens ≡ LeftBrace ∷ more → later ≡ at + (length tokens - length mid)
    → next_move (look_of tokens) true u ≡ move.Read → waits_for u ≡ Some q → (told.is ≡ true → low (at + 1) → (met_part q u).deep ≡ false) → Awaits told.spot at mid end (met_part q u).frames (met_part q u).items q base → Inner low told (met_part q u) at base tokens mid q inner_height inner
    → (told.is ≡ true → low later → (received (own_height q inner_height) (met_part q u)).deep ≡ false) → Seen told.spot later mid end (received (own_height q inner_height) (met_part q u)).frames (received (own_height q inner_height) (met_part q u)).items → Path true low told false (received (own_height q inner_height) (met_part q u)) later mid end height outer
    → Path true low told calm u at tokens end height (inner ++ outer)
path_brace low told calm u at later base tokens more mid end height inner_height inner outer q e el n w d awaits paths deep seen path =
    subst (λ (ts : List TokenKind). later ≡ at + (length ts - length mid) → next_move (look_of ts) true u ≡ move.Read → Inner low told (met_part q u) at base ts mid q inner_height inner → Path true low told calm u at ts end height (inner ++ outer)) (sym e)
    (λ el2 n2 paths2. brace_at low told calm u at later base more mid end height inner_height inner outer q el2 n2 w d awaits paths2 deep seen path) el n paths

-- the thread that reads a rule in braces
begun_rule : (tokens : List TokenKind) (r : Rule) (a : Alternative) (depth : ℕ) → open_at tokens (rule_rows r) ≡ a ∷ [] → begun (look_of tokens) (part.Rule r) depth ≡ put a.parts (opened r (fresh (part.Rule r) depth))
unfolding begun
begun_rule tokens r a depth e = ap (λ (l : List (List Part)). begun_by l (opened r (fresh (part.Rule r) depth))) (choices_as tokens (rule_rows r) ∙ ap parts_in e)

begun_group : (tokens : List TokenKind) (g : Group) (a : Alternative) (depth : ℕ) → open_at tokens (group_rows g) ≡ a ∷ [] → begun (look_of tokens) (part.Group g) depth ≡ put a.parts (enclosed (part.Group g) (fresh (part.Group g) depth))
unfolding begun
begun_group tokens g a depth e = ap (λ (l : List (List Part)). begun_by l (enclosed (part.Group g) (fresh (part.Group g) depth))) (choices_as tokens (group_rows g) ∙ ap parts_in e)

part_none : (f : Frame) → part_height (with_part 0 f) ≡ part_height f
part_none f = ap (λ (n : ℕ). if f.solid then one_more n else n) (let e : max f.height 0 ≡ f.height = omega arith in e)

risen_one : (f : Frame) → risen 0 (f ∷ []) ≡ part_height f
unfolding risen
risen_one f = part_none f

-- at the end of the braces
ends_path : (low : ℕ → Type 0) (heard : Told) (t : Thread) (at : ℕ) (mid : List TokenKind) (f : Frame) (had : Pieces) (lone is_node : Bool) (base depth height : ℕ) → Stands low heard.is t at f [] had lone is_node base depth → t.items ≡ [] → part_height f ≡ height
    → Path true low heard false t at mid mid height []
ends_path low heard t at mid f had lone is_node base depth height s e h =
    subst (λ (n : ℕ). Path true low heard false t at mid mid n []) (closes_risen t s.u s.closes ∙ ap (risen 0) s.frames ∙ risen_one f ∙ h) (path_ends heard false t at mid e)

rule_inside_ready : (low : ℕ → Type 0) (heard : Bool) (r : Rule) (a : Alternative) (tokens : List TokenKind) (inside : Pieces) (at base depth within : ℕ) → Among a (open_at tokens (rule_rows r)) → (heard ≡ true → depth ≤ base)
    → Lies low at (within + count (makes (makes_no_node_alone r) inside)) inside → base ≤ within
    → Ready low heard false a.parts [] inside (put a.parts (opened r (fresh (part.Rule r) depth))) at (new_frame r) [] nothing nothing inside (makes_no_node_alone r) base (within + count (makes (makes_no_node_alone r) inside)) [] []
unfolding fresh opened put
rule_inside_ready low heard r a tokens inside at base depth within among h lies b = record {
  stands = open_stands low heard (fresh (part.Rule r) depth) at r [] base (within + count (makes (makes_no_node_alone r) inside)) inside a.parts refl (λ e l. refl) h;
  whole_is = sym (followed_nothing inside);
  items = refl;
  come = refl;
  starts = λ e. absurd (cc);
  led = inner_lead r a tokens among;
  more = λ e. absurd (cc);
  free = λ e. lone_row_free r a tokens e among;
  lies = lies;
  within = omega arith;
}

group_inside_stands : (low : ℕ → Type 0) (heard : Bool) (g : Group) (ps : List Part) (at base depth within : ℕ) → (heard ≡ true → depth ≤ base + 1) → Stands low heard (put ps (enclosed (part.Group g) (fresh (part.Group g) depth))) at surround [] nothing false true base within
unfolding fresh put
group_inside_stands low heard g ps at base depth within h = record {
  u = put ps (enclosed (part.Group g) (fresh (part.Group g) depth));
  closes = closes_none (put ps (enclosed (part.Group g) (fresh (part.Group g) depth)));
  frames = refl;
  shallow = λ e l. refl;
  level = h;
  solid = λ e. refl;
  soft = λ e. absurd (cc);
  some = λ e. absurd (omega arith);
  none = λ e. refl;
  lies = λ l. inl (refl, refl);
  tall = omega arith;
}

group_lead : (g : Group) (a : Alternative) (tokens : List TokenKind) → has_braces g ≡ true → Among a (open_at tokens (group_rows g)) → is_led (a.parts ++ []) ≡ true
group_lead g a tokens h m = group_keeps_led g a [] (open_is_row tokens a (group_rows g) m) (by g h)
  where
    by : (x : Group) → has_braces x ≡ true → is_led (part.Group x ∷ []) ≡ true
    by group.ErrorBraces e = refl
    by group.SwitchBraces e = refl
    by _ e = absurd (cc)

group_inside_ready : (low : ℕ → Type 0) (heard : Bool) (g : Group) (a : Alternative) (tokens : List TokenKind) (inside : Pieces) (at base depth within : ℕ) → has_braces g ≡ true → Among a (open_at tokens (group_rows g)) → (heard ≡ true → depth ≤ base + 1)
    → Lies low at within inside → base + 1 ≤ within → Ready low heard false a.parts [] inside (put a.parts (enclosed (part.Group g) (fresh (part.Group g) depth))) at surround [] nothing nothing inside false base within [] []
unfolding fresh put
group_inside_ready low heard g a tokens inside at base depth within braces among h lies b = record {
  stands = group_inside_stands low heard g a.parts at base depth within h;
  whole_is = sym (followed_nothing inside);
  items = refl;
  come = refl;
  starts = λ e. absurd (cc);
  led = group_lead g a tokens braces among;
  more = λ e. absurd (cc);
  free = λ e. absurd (cc);
  lies = lies;
  within = b;
}

-- ---- the path

kind_reads : (k : TokenKind) → reading (is_kind k k) ≡ move.Read
kind_reads k = ap reading (eq-eqb (number_of k) (number_of k) refl)

piece_goes : (low : ℕ → Type 0) (told : Told) (fs : List Frame) (lone is_node : Bool) (base depth : ℕ) (later : List Item) (next end : List TokenKind) (height : ℕ) (outer : List Fork) (at n : ℕ) (had piece p : Pieces) (tall x y z : ℕ) → words piece ≡ n → z ≡ max tall x
    → Goes low told fs lone is_node base depth later next end height outer (at + words (followed piece p)) (followed had (followed piece p)) (max tall (max x y))
    → Goes low told fs lone is_node base depth later next end height outer (at + n + words p) (followed (followed had piece) p) (max z y)
piece_goes low told fs lone is_node base depth later next end height outer at n had piece p tall x y z e h goes =
    goes_as low told fs lone is_node base depth later next end height outer (at + words (followed piece p)) (at + n + words p) (followed had (followed piece p)) (followed (followed had piece) p) (max tall (max x y)) (max z y)
    (omega (arith, words_followed piece p)) (sym (followed_twice had piece p)) (omega arith) goes

low_some : (depth n tall : ℕ) → 0 < n → IsLow depth n tall → depth + tall ≤ DEPTH_LIMIT
low_some depth n tall h (inl none) = absurd (omega (arith, none.0))
low_some depth n tall h (inr l) = l

received_items : (own : ℕ) (r : Rule) (u : Thread) → (received own (met r u)).items ≡ rest u.items
unfolding received met
received_items own r u = ap rest (met_items r u u.frames)

received_rest : (own : ℕ) (u : Thread) → (received own u).items ≡ rest u.items
unfolding received
received_rest own u = refl

met_all : (r : Rule) (u : Thread) → (met r u).items ≡ u.items
unfolding met
met_all r u = met_items r u u.frames

received_frames : (own : ℕ) (v : Thread) (f : Frame) (fs : List Frame) → v.frames ≡ f ∷ fs → (received own v).frames ≡ with_part own f ∷ fs
unfolding received
received_frames own v f fs e = ap (gained own) e

touched_frames : (t : Thread) (f : Frame) (fs : List Frame) → t.frames ≡ f ∷ fs → (touched_from t (f ∷ fs)).frames ≡ hard_frame f ∷ fs
unfolding hardened
touched_frames t f fs e = by f.solid refl
  where
    by : (b : Bool) → f.solid ≡ b → (if b then record t { deep = t.deep || is_deep t.depth 0 } else hardened f t).frames ≡ hard_frame f ∷ fs
    by true h = e ∙ ap (λ (g : Frame). g ∷ fs) (hard_same f h)
    by false h = ap (with_first (hard_frame f)) e

read_frames : (u : Thread) (f : Frame) (fs : List Frame) → u.frames ≡ f ∷ fs → (after_read u).frames ≡ with_part 0 (hard_frame f) ∷ fs
unfolding after_read
read_frames u f fs e = ap (gained 0) (ap (λ (l : List Frame). (touched_from (passed u) l).frames) e ∙ touched_frames (passed u) f fs e)

-- what is seen after a token
read_seen : (low : ℕ → Type 0) (told : Told) (calm : Bool) (q : Part) (ps behind : List Part) (k : TokenKind) (tokens next end : List TokenKind) (p : Pieces) (t : Thread) (at : ℕ) (f : Frame) (fs : List Frame) (had after whole : Pieces) (lone : Bool) (base depth : ℕ) (qs : List Part) (later : List Item)
    → Derives ps tokens next p → (r : Ready low told.is calm (q ∷ ps) behind (word k p) t at f fs had after whole lone base depth qs later) → Sight told.spot at (q ∷ ps) behind next end f fs had after whole lone
    → Seen told.spot (at + 1) tokens end (after_read r.stands.u).frames (after_read r.stands.u).items
read_seen low told calm q ps behind k tokens next end p t at f fs had after whole lone base depth qs later d r s =
    let u = r.stands.u in
    let come = ap parts_of_items (rest_is low told.is calm q ps behind (word k p) t at f fs had after whole lone base depth qs later r) ∙ parts_joined (suc (length fs)) ps later behind r.come in
    token_seen s k p tokens (after_read u) r.whole_is (token_makes lone whole had p after k r.whole_is) d (read_frames u f fs r.stands.frames) (ap parts_of_items (read_items u) ∙ come)

rule_brace : (kind : TokenKind) (r : Rule) → is_braced r ≡ true → kind ≡ LeftBrace → (if true && is_braced r then reading (is_kind kind LeftBrace) else move.Rule r) ≡ move.Read
rule_brace kind r h e = rw h (ap (λ (k : TokenKind). reading (is_kind k LeftBrace)) e ∙ kind_reads LeftBrace)

group_brace : (kind : TokenKind) (g : Group) → has_braces g ≡ true → kind ≡ LeftBrace → (if true && has_braces g then reading (is_kind kind LeftBrace) else move.Group g) ≡ move.Read
group_brace kind g h e = rw h (ap (λ (k : TokenKind). reading (is_kind k LeftBrace)) e ∙ kind_reads LeftBrace)

-- the thread that waits is met, and gains what was read
rule_waits : (low : ℕ → Type 0) (falls : (n m : ℕ) → n ≤ m → low m → low n) (told : Told) (calm : Bool) (q : Rule) (a : Alternative) (ps behind : List Part) (tokens more mid next end : List TokenKind) (inside p : Pieces) (own : ℕ) (inner rest_forks : List Fork)
    (t : Thread) (at : ℕ) (f : Frame) (fs : List Frame) (had after whole : Pieces) (lone : Bool) (base depth : ℕ) (qs : List Part) (later : List Item) (height_end : ℕ)
    → is_braced q ≡ true → Among a (open_at tokens (rule_rows q)) → Derives a.parts tokens mid inside → Derives ps mid next p → tokens ≡ LeftBrace ∷ more → own ≤ height (made q inside)
    → (r : Ready low told.is calm (part.Rule q ∷ ps) behind (followed (made q inside) p) t at f fs had after whole lone base depth qs later)
    → (s : Sight told.spot at (part.Rule q ∷ ps) behind next end f fs had after whole lone) → min (height (made q inside)) 1000 ≤ own
    → (Begins low told.is (met q r.stands.u) at (met_frame q f) fs had lone (makes lone whole) base depth → Inner low told (met q r.stands.u) at (s.outer + count (makes lone whole)) tokens mid (part.Rule q) own inner)
    → ((t2 : Thread) → Ready low told.is false ps behind p t2 (at + words inside) (with_part own (met_frame q f)) fs (followed had (made q inside)) after whole lone base depth qs later → Path true low told false t2 (at + words inside) mid end height_end rest_forks)
    → Path true low told calm t at tokens end height_end (inner ++ rest_forks)
rule_waits low falls told calm q a ps behind tokens more mid next end inside p own inner rest_forks t at f fs had after whole lone base depth qs later height_end braced among d d2 front small r s high paths on =
    let u = r.stands.u in
    let some = some_words q a tokens mid inside among d in
    let count_read = words_read a.parts tokens mid inside d in
    let b = rule_begins low falls told.is calm q ps behind mid next inside p t u at f fs had after whole lone base depth qs later some d2 r refl refl refl in
    let shallow = λ (l : low (at + words inside)). low_some depth (words (made q inside)) (height (made q inside)) (omega (arith, words_made q inside)) (made_lies low at depth q a tokens mid inside p some d r.lies l) in
    let first = first_item low told.is calm (part.Rule q) ps behind (followed (made q inside) p) t at f fs had after whole lone base depth qs later r in
    let is = map (item (suc (length fs))) ps ++ later in
    let stands = received_stands low told.is (met q u) at (at + words inside) (met_frame q f) fs had (made q inside) lone (makes lone whole) base depth own falls b r.within (omega arith) small (omega (arith, one_amount (made q inside) (made_one q inside))) (λ e. made_one q inside) shallow in
    let soft = λ (e : f.solid ≡ false). (r.stands.soft e).0 in
    let come = ap parts_of_items (rest_is low told.is calm (part.Rule q) ps behind (followed (made q inside) p) t at f fs had after whole lone base depth qs later r) ∙ parts_joined (suc (length fs)) ps later behind r.come in
    let awaits = rule_awaits s inside p mid (met q u) r.whole_is d2 soft r.stands.none b.solid b.frames (ap (λ (l : List Item). parts_of_items (rest l)) (met_all q u) ∙ come) in
    let seen = rule_seen s inside p mid own (at + words inside) (received own (met q u)) r.whole_is d2 soft r.stands.none b.solid high refl (received_frames own (met q u) (met_frame q f) fs b.frames) (ap parts_of_items (received_items own q u) ∙ come) in
    from_closed low told calm calm (part.Rule q) ps behind (followed (made q inside) p) t at tokens end f fs had after whole lone base depth qs later height_end (inner ++ rest_forks) r
    (path_brace low told calm u at (at + words inside) (s.outer + count (makes lone whole)) tokens more mid end height_end own inner rest_forks (part.Rule q) front (omega (arith, count_read))
    (next_is true tokens u f fs (part.Rule q) is r.stands.frames first ∙ rule_brace (next_kind tokens) q braced (ap next_kind front))
    (waits_some u (item (suc (length fs)) (part.Rule q)) is first braced) b.shallow awaits (paths b)
    (received_shallow low told.is (met q u) at (at + words inside) (met_frame q f) fs had lone (makes lone whole) base depth (height (made q inside)) own falls b r.within (omega arith) small shallow)
    seen
    (on (received own (met q u)) (after_rule low told.is calm q ps behind inside p t (received own (met q u)) at f (with_part own (met_frame q f)) fs had after whole lone base depth qs later r stands (received_items own q u ∙ rest_is low told.is calm (part.Rule q) ps behind (followed (made q inside) p) t at f fs had after whole lone base depth qs later r))))

solid_begins : (low : ℕ → Type 0) (told : Bool) (t : Thread) (at : ℕ) (f : Frame) (fs : List Frame) (had : Pieces) (lone is_node : Bool) (base depth : ℕ) (s : Stands low told t at f fs had lone is_node base depth) → f.solid ≡ true → Begins low told s.u at f fs had lone is_node base depth
solid_begins low told t at f fs had lone is_node base depth s h = record {
  frames = s.frames;
  shallow = s.shallow;
  level = s.level;
  solid = s.solid;
  soft = λ e. absurd (cc);
  lies = s.lies;
  tall = s.tall;
}

solid_by : (x lone : Bool) → (x ≡ false → lone ≡ true) → lone ≡ false → x ≡ true
solid_by true lone h e = refl
solid_by false lone h e = absurd (let c = h refl in cc)

not_free_lone : (lone : Bool) (g : Group) (ps : List Part) → has_braces g ≡ true → (lone ≡ true → (is_free_group g && is_free ps) ≡ true) → lone ≡ false
not_free_lone true g ps h free = absurd (let c = (and_parts (is_free_group g) (is_free ps) (free refl)).0 in let d = braces_not_free g h in cc)
not_free_lone false g ps h free = refl

group_level : (x : Bool) (base depth n : ℕ) → x ≡ true → base + count x ≤ depth → n ≤ base + count x → (n ≤ base + 1) × (base + 1 ≤ depth)
group_level true base depth n e h k = (omega arith, omega arith)
group_level false base depth n e h k = absurd (cc)

-- the same for the braces of a group, which make no node
group_waits : (low : ℕ → Type 0) (falls : (n m : ℕ) → n ≤ m → low m → low n) (told : Told) (calm : Bool) (g : Group) (a : Alternative) (ps behind : List Part) (tokens more mid next end : List TokenKind) (inside p : Pieces) (tall : ℕ) (inner rest_forks : List Fork)
    (t : Thread) (at : ℕ) (f : Frame) (fs : List Frame) (had after whole : Pieces) (lone : Bool) (base depth : ℕ) (qs : List Part) (later : List Item) (height_end : ℕ)
    → has_braces g ≡ true → Among a (open_at tokens (group_rows g)) → Derives a.parts tokens mid inside → Derives ps mid next p → 0 < words inside → 0 < amount inside → tokens ≡ LeftBrace ∷ more → tall - 1 ≤ height inside
    → (r : Ready low told.is calm (part.Group g ∷ ps) behind (followed inside p) t at f fs had after whole lone base depth qs later)
    → (s : Sight told.spot at (part.Group g ∷ ps) behind next end f fs had after whole lone) → min (height inside) 1000 ≤ tall - 1
    → (Begins low told.is r.stands.u at f fs had lone (makes lone whole) base depth → f.solid ≡ true → Inner low told r.stands.u at s.outer tokens mid (part.Group g) tall inner)
    → ((t2 : Thread) → Ready low told.is false ps behind p t2 (at + words inside) (with_part (tall - 1) f) fs (followed had inside) after whole lone base depth qs later → Path true low told false t2 (at + words inside) mid end height_end rest_forks)
    → Path true low told calm t at tokens end height_end (inner ++ rest_forks)
group_waits low falls told calm g a ps behind tokens more mid next end inside p tall inner rest_forks t at f fs had after whole lone base depth qs later height_end braced among d d2 some filled front small r s high paths on =
    let u = r.stands.u in
    let count_read = words_read a.parts tokens mid inside d in
    let hard : f.solid ≡ true = solid_by f.solid lone (λ e. (r.stands.soft e).0) (not_free_lone lone g ps braced r.free) in
    let b = solid_begins low told.is t at f fs had lone (makes lone whole) base depth r.stands hard in
    let shallow = λ (l : low (at + words inside)). low_some depth (words inside) (height inside) some (read_low low at depth inside (derived_full a.parts tokens mid inside d) (lies_left low at depth inside p r.lies) l) in
    let first = first_item low told.is calm (part.Group g) ps behind (followed inside p) t at f fs had after whole lone base depth qs later r in
    let is = map (item (suc (length fs))) ps ++ later in
    let stands = received_stands low told.is u at (at + words inside) f fs had inside lone (makes lone whole) base depth (tall - 1) falls b r.within (omega arith) small filled (λ e. absurd (cc)) shallow in
    let node = b.solid hard in
    let come = ap parts_of_items (rest_is low told.is calm (part.Group g) ps behind (followed inside p) t at f fs had after whole lone base depth qs later r) ∙ parts_joined (suc (length fs)) ps later behind r.come in
    let awaits = group_awaits s inside p mid u r.whole_is d2 hard node r.stands.frames come in
    let seen = group_seen s inside p mid (tall - 1) (at + words inside) (received (tall - 1) u) r.whole_is d2 hard node high refl (received_frames (tall - 1) u f fs r.stands.frames) (ap parts_of_items (received_rest (tall - 1) u) ∙ come) in
    from_closed low told calm calm (part.Group g) ps behind (followed inside p) t at tokens end f fs had after whole lone base depth qs later height_end (inner ++ rest_forks) r
    (path_brace low told calm u at (at + words inside) s.outer tokens more mid end height_end tall inner rest_forks (part.Group g) front (omega (arith, count_read))
    (next_is true tokens u f fs (part.Group g) is r.stands.frames first ∙ group_brace (next_kind tokens) g braced (ap next_kind front))
    (waits_some u (item (suc (length fs)) (part.Group g)) is first braced) b.shallow awaits (paths b hard)
    (received_shallow low told.is u at (at + words inside) f fs had lone (makes lone whole) base depth (height inside) (tall - 1) falls b r.within (omega arith) small shallow)
    seen
    (on (received (tall - 1) u) (after_group low told.is calm g ps behind inside p t (received (tall - 1) u) at f (with_part (tall - 1) f) fs had after whole lone base depth qs later r stands (received_rest (tall - 1) u ∙ rest_is low told.is calm (part.Group g) ps behind (followed inside p) t at f fs had after whole lone base depth qs later r))))

no_more : (n : ℕ) → max 0 n ≡ n
no_more n = omega arith

solid_high : (f : Frame) (n : ℕ) → f.solid ≡ true → f.height ≡ n → part_height f ≡ one_more n
solid_high f n h e = rw (h, e) refl

braces_filled : (a : Alternative) (qs : List Part) → a.parts ≡ part.Token LeftBrace ∷ qs → (has_piece a.parts ≡ true) × (fills a.parts ≡ true)
braces_filled a qs e = (ap has_piece e, ap fills e)

words_some : (ps : List Part) (tokens mid : List TokenKind) (inside : Pieces) → Derives ps tokens mid inside → fills ps ≡ true → 0 < words inside
words_some ps tokens mid inside d h = let some = reads_some ps tokens mid inside d h in omega (arith, words_read ps tokens mid inside d)

-- Whatever way is sure, a thread that stands before its parts goes on by a path, up to where they end.
sure_path_by : (low : ℕ → Type 0) (falls : (n m : ℕ) → n ≤ m → low m → low n) (ps behind : List Part) (tokens next end : List TokenKind) (p : Pieces) (forks : List Fork) (s : Sure ps behind tokens next end p forks)
    (told : Told) (calm : Bool) (t : Thread) (at : ℕ) (f : Frame) (fs : List Frame) (had after whole : Pieces) (lone : Bool) (base depth : ℕ) (qs : List Part) (later : List Item) (height_end : ℕ) (last : List Fork)
    → Ready low told.is calm ps behind p t at f fs had after whole lone base depth qs later → Sight told.spot at ps behind next end f fs had after whole lone
    → Goes low told fs lone (makes lone whole) base depth later next end height_end last (at + words p) (followed had p) (max f.height (rise_of ps behind tokens next end p forks s))
    → Path true low told calm t at tokens end height_end (forks ++ last)
sure_path_by low falls ps behind tokens next end p forks (sure_none _ _ _) told calm t at f fs had after whole lone base depth qs later height_end last r sight goes =
    none_path low behind next end told calm t at f fs had after whole lone base depth qs later height_end last r goes
sure_path_by low falls ps behind tokens next end p forks (sure_token k more _ after_k _ _ later_p _ s) told calm t at f fs had after whole lone base depth qs later height_end last r sight goes =
    token_path low falls (part.Token k) more behind k after_k end later_p told calm t at f fs had after whole lone base depth qs later height_end (forks ++ last) refl (kind_reads k) r
    (read_seen low told calm (part.Token k) more behind k after_k next end later_p t at f fs had after whole lone base depth qs later (sure_derives more behind after_k next end later_p forks s) r sight)
    (sure_path_by low falls more behind after_k next end later_p forks s told false (after_read r.stands.u) (at + 1) (with_part 0 (hard_frame f)) fs (followed had (word k nothing)) after whole lone base depth qs later height_end last
    (token_ready low falls (part.Token k) more behind k later_p told.is calm t at f fs had after whole lone base depth qs later (λ h. h) r) (token_sight sight k)
    (piece_goes low told fs lone (makes lone whole) base depth later next end height_end last at 1 had (word k nothing) later_p f.height 0 (rise_of more behind after_k next end later_p forks s) (max f.height 0) (omega arith) refl
    (goes_as low told fs lone (makes lone whole) base depth later next end height_end last (at + words (word k later_p)) (at + words (word k later_p)) (followed had (word k later_p)) (followed had (word k later_p))
    (max f.height (rise_of more behind after_k next end later_p forks s)) (max f.height (max 0 (rise_of more behind after_k next end later_p forks s))) refl refl (omega arith) goes)))
sure_path_by low falls ps behind tokens next end p forks (sure_one_of c k more _ after_k _ _ later_p _ has s) told calm t at f fs had after whole lone base depth qs later height_end last r sight goes =
    token_path low falls (part.OneOf c) more behind k after_k end later_p told calm t at f fs had after whole lone base depth qs later height_end (forks ++ last) refl (ap reading has) r
    (read_seen low told calm (part.OneOf c) more behind k after_k next end later_p t at f fs had after whole lone base depth qs later (sure_derives more behind after_k next end later_p forks s) r sight)
    (sure_path_by low falls more behind after_k next end later_p forks s told false (after_read r.stands.u) (at + 1) (with_part 0 (hard_frame f)) fs (followed had (word k nothing)) after whole lone base depth qs later height_end last
    (token_ready low falls (part.OneOf c) more behind k later_p told.is calm t at f fs had after whole lone base depth qs later (λ h. h) r) (token_sight sight k)
    (piece_goes low told fs lone (makes lone whole) base depth later next end height_end last at 1 had (word k nothing) later_p f.height 0 (rise_of more behind after_k next end later_p forks s) (max f.height 0) (omega arith) refl
    (goes_as low told fs lone (makes lone whole) base depth later next end height_end last (at + words (word k later_p)) (at + words (word k later_p)) (followed had (word k later_p)) (followed had (word k later_p))
    (max f.height (rise_of more behind after_k next end later_p forks s)) (max f.height (max 0 (rise_of more behind after_k next end later_p forks s))) refl refl (omega arith) goes)))
sure_path_by low falls ps behind tokens next end p forks (sure_group g a more _ _ mid _ _ inside later_p choices inner outer free taken s s2) told calm t at f fs had after whole lone base depth qs later height_end last r sight goes =
    let d2 = sure_derives more behind mid next end later_p outer s2 in
    group_path low told calm g a more behind tokens end (followed inside later_p) choices t at f fs had after whole lone base depth qs later height_end inner outer last free taken r
    (sure_path_by low falls a.parts (more ++ behind) tokens mid end inside inner s told (calm || is_cons choices) (replaced None a.parts r.stands.u) at f fs had (followed later_p after) whole lone base depth (more ++ qs) (map (item (suc (length fs))) more ++ later) height_end (outer ++ last)
    (group_ready low told.is calm g a more behind tokens mid next end inside later_p choices t at f fs had after whole lone base depth qs later taken d2 r) (group_sight sight a.parts mid later_p d2)
    (λ t2 f2 stands items tall. sure_path_by low falls more behind mid next end later_p outer s2 told false t2 (at + words inside) f2 fs (followed had inside) after whole lone base depth qs later height_end last
    (after_group low told.is calm g more behind inside later_p t t2 at f f2 fs had after whole lone base depth qs later r stands items)
    (after_group_sight sight inside f2 (rise_of a.parts (more ++ behind) tokens mid end inside inner s) tall (rise_high a.parts (more ++ behind) tokens mid end inside inner s))
    (piece_goes low told fs lone (makes lone whole) base depth later next end height_end last at (words inside) had inside later_p f.height (rise_of a.parts (more ++ behind) tokens mid end inside inner s) (rise_of more behind mid next end later_p outer s2) f2.height refl tall goes)))
sure_path_by low falls ps behind tokens next end p forks (sure_rule q a more _ _ mid _ _ inside later_p choices inner outer free taken s s2) told calm t at f fs had after whole lone base depth qs later height_end last r sight goes =
    let d = sure_derives a.parts (more ++ behind) tokens mid end inside inner s in
    let d2 = sure_derives more behind mid next end later_p outer s2 in
    let among = taken_among (more ++ behind) tokens end (open_at tokens (rule_rows q)) a choices taken in
    let some = some_words q a tokens mid inside among d in
    let rise = rise_of a.parts (more ++ behind) tokens mid end inside inner s in
    let b = rule_begins low falls told.is calm q more behind mid next inside later_p t (passed r.stands.u) at f fs had after whole lone base depth qs later some d2 r refl refl refl in
    let deeper = depth + count (makes (makes_no_node_alone q) inside) in
    rule_path low told calm q a more behind tokens end (followed (made q inside) later_p) choices t at f fs had after whole lone base depth qs later height_end inner outer last free taken r
    (sure_path_by low falls a.parts (more ++ behind) tokens mid end inside inner s told (calm || is_cons choices) (replaced (Some q) a.parts r.stands.u) at (new_frame q) (met_frame q f ∷ fs) nothing nothing inside (makes_no_node_alone q) (base + count (met_frame q f).solid) deeper []
    (map (item (suc (length fs))) more ++ later) height_end (outer ++ last)
    (rule_ready low told.is calm q a more behind tokens end inside later_p choices t at f fs had after whole lone base depth qs later taken r b) (rule_sight sight a tokens inside later_p mid r.whole_is d2 (λ e. (r.stands.soft e).0) r.stands.none b.solid among)
    (λ t2 n stands items tall.
    (let high : part_height n ≡ rise_made q inside rise = shut_rise low told.is t2 (at + words inside) q n (met_frame q f ∷ fs) inside (base + count (met_frame q f).solid) deeper rise stands (lone_some q a tokens mid inside among d) (tall ∙ no_more rise) in
    let shut = shut_stands low told.is t2 (met q (passed r.stands.u)) at (at + words inside) q (met_frame q f) n fs had inside lone (makes lone whole) (makes_no_node_alone q) (makes (makes_no_node_alone q) inside) base depth deeper falls b stands (omega arith)
    (omega (arith, high, rise_made_low q inside rise (rise_low a.parts (more ++ behind) tokens mid end inside inner s))) (made_lies low at depth q a tokens mid inside later_p some d r.lies) in
    sure_path_by low falls more behind mid next end later_p outer s2 told false t2 (at + words inside) (with_part (part_height n) (met_frame q f)) fs (followed had (made q inside)) after whole lone base depth qs later height_end last
    (after_rule low told.is calm q more behind inside later_p t t2 at f (with_part (part_height n) (met_frame q f)) fs had after whole lone base depth qs later r shut items)
    (after_rule_sight sight inside (part_height n) (omega (arith, high, rise_made_high q inside rise (rise_high a.parts (more ++ behind) tokens mid end inside inner s))))
    (piece_goes low told fs lone (makes lone whole) base depth later next end height_end last at (words inside) had (made q inside) later_p f.height (rise_made q inside rise) (rise_of more behind mid next end later_p outer s2) (max (met_frame q f).height (part_height n)) (words_made q inside)
    (omega (arith, met_height q f, high)) goes))))
sure_path_by low falls ps behind tokens next end p forks (sure_group_apart g a more _ _ mid _ _ inside later_p inner outer braced e s s2) told calm t at f fs had after whole lone base depth qs later height_end last r sight goes =
    let d = sure_derives a.parts [] tokens mid mid inside inner s in
    let d2 = sure_derives more behind mid next end later_p outer s2 in
    let rise = rise_of a.parts [] tokens mid mid inside inner s in
    let rises = rise_high a.parts [] tokens mid mid inside inner s in
    let among = among_sole (open_at tokens (group_rows g)) a e in
    let front = braces_front g a tokens braced e in
    let filled = braces_filled a front.0 front.1 in
    let brace = brace_first a.parts front.0 [] tokens mid mid inside inner front.1 s in
    subst (Path true low told calm t at tokens end height_end) (sym (append_assoc inner outer last))
    (group_waits low falls told calm g a more behind tokens brace.0 mid next end inside later_p (one_more rise) inner (outer ++ last) t at f fs had after whole lone base depth qs later height_end braced among d d2
    (words_some a.parts tokens mid inside d filled.1) (piece_amount a.parts tokens mid inside d filled.0) brace.1 (omega (arith, rise_low a.parts [] tokens mid mid inside inner s)) r sight (omega (arith, rises))
    (λ b hard deep heard h.
    (let v = put a.parts (enclosed (part.Group g) (fresh (part.Group g) deep)) in
    subst (λ (x : Thread). Path true low (within told heard at sight.outer) false x at tokens mid (one_more rise) inner) (sym (begun_group tokens g a deep e))
    (subst (Path true low (within told heard at sight.outer) false v at tokens mid (one_more rise)) (append-nil inner)
    (sure_path_by low falls a.parts [] tokens mid mid inside inner s (within told heard at sight.outer) false v at surround [] nothing nothing inside false base depth [] [] (one_more rise) []
    (group_inside_ready low heard g a tokens inside at base deep depth braced among (λ i. (let x = h i in let y = b.level x.0 in omega (arith, x.1, y, ap count hard))) (lies_left low at depth inside later_p r.lies)
    (omega (arith, ap count hard, rule_within f.solid (makes lone whole) base depth 0 b.solid r.within)))
    (group_inner sight a.parts inside later_p mid r.whole_is (b.solid hard))
    (λ t2 g2 stands items tall. ends_path low (within told heard at sight.outer) t2 (at + words inside) mid g2 (followed nothing inside) false (makes false inside) base depth (one_more rise) stands items (solid_high g2 rise (solid_by g2.solid false (λ i. (stands.soft i).0) refl) (tall ∙ no_more rise)))))))
    (λ t2 ready. sure_path_by low falls more behind mid next end later_p outer s2 told false t2 (at + words inside) (with_part (one_more rise - 1) f) fs (followed had inside) after whole lone base depth qs later height_end last ready
    (after_group_sight sight inside (with_part (one_more rise - 1) f) (one_more rise - 1) refl (omega (arith, rises)))
    (piece_goes low told fs lone (makes lone whole) base depth later next end height_end last at (words inside) had inside later_p f.height (one_more rise - 1) (rise_of more behind mid next end later_p outer s2) (max f.height (one_more rise - 1)) refl refl goes)))
sure_path_by low falls ps behind tokens next end p forks (sure_rule_apart q a more _ _ mid _ _ inside later_p inner outer braced e s s2) told calm t at f fs had after whole lone base depth qs later height_end last r sight goes =
    let d = sure_derives a.parts [] tokens mid mid inside inner s in
    let d2 = sure_derives more behind mid next end later_p outer s2 in
    let rise = rise_of a.parts [] tokens mid mid inside inner s in
    let own = rise_made q inside rise in
    let rises = rise_made_high q inside rise (rise_high a.parts [] tokens mid mid inside inner s) in
    let in_told = λ (heard : Bool). within told heard at (sight.outer + count (makes lone whole)) in
    let among = among_sole (open_at tokens (rule_rows q)) a e in
    let front = braced_front q a tokens braced e in
    let brace = brace_first a.parts front.0 [] tokens mid mid inside inner front.1 s in
    let base2 = base + count (met_frame q f).solid in
    let deeper = depth + count (makes (makes_no_node_alone q) inside) in
    subst (Path true low told calm t at tokens end height_end) (sym (append_assoc inner outer last))
    (rule_waits low falls told calm q a more behind tokens brace.0 mid next end inside later_p own inner (outer ++ last) t at f fs had after whole lone base depth qs later height_end braced among d d2 brace.1
    (rise_made_low q inside rise (rise_low a.parts [] tokens mid mid inside inner s)) r sight rises
    (λ b deep heard h.
    (let v = put a.parts (opened q (fresh (part.Rule q) deep)) in
    subst (λ (x : Thread). Path true low (in_told heard) false x at tokens mid own inner) (sym (begun_rule tokens q a deep e))
    (subst (Path true low (in_told heard) false v at tokens mid own) (append-nil inner)
    (sure_path_by low falls a.parts [] tokens mid mid inside inner s (in_told heard) false v at (new_frame q) [] nothing nothing inside (makes_no_node_alone q) base2 deeper [] [] own []
    (rule_inside_ready low heard q a tokens inside at base2 deep depth among (λ i. (let x = h i in let y = b.level x.0 in omega (arith, x.1, y))) (lies_made low at depth q inside (lies_left low at depth (made q inside) later_p r.lies))
    (omega (arith, rule_within (met_frame q f).solid (makes lone whole) base depth 0 b.solid r.within)))
    (rule_inner sight a tokens inside later_p mid r.whole_is among)
    (λ t2 g2 stands items tall. ends_path low (in_told heard) t2 (at + words inside) mid g2 (followed nothing inside) (makes_no_node_alone q) (makes (makes_no_node_alone q) inside) base2 deeper own stands items
    (shut_rise low heard t2 (at + words inside) q g2 [] inside base2 deeper rise stands (lone_some q a tokens mid inside among d) (tall ∙ no_more rise)))))))
    (λ t2 ready. sure_path_by low falls more behind mid next end later_p outer s2 told false t2 (at + words inside) (with_part own (met_frame q f)) fs (followed had (made q inside)) after whole lone base depth qs later height_end last ready
    (after_rule_sight sight inside own rises)
    (piece_goes low told fs lone (makes lone whole) base depth later next end height_end last at (words inside) had (made q inside) later_p f.height own (rise_of more behind mid next end later_p outer s2) (max (met_frame q f).height own) (words_made q inside) (omega (arith, met_height q f)) goes)))

-- ---- a whole sentence

taken_one : (later : List Part) (tokens end : List TokenKind) (b a : Alternative) (choices : List Bool) → Taken later tokens end (b ∷ []) a choices → (a ≡ b) × (choices ≡ [])
taken_one later tokens end b a choices (taken_sole _) = (refl, refl)

none_sure : (behind : List Part) (tokens next end : List TokenKind) (p : Pieces) (forks : List Fork) → Sure [] behind tokens next end p forks → (tokens ≡ next) × (p ≡ nothing) × (forks ≡ [])
none_sure behind tokens next end p forks (sure_none _ _ _) = (refl, refl, refl)

-- the first so many tokens of a tree lie no deeper than 200
abbrev pub low_in : Pieces → ℕ → Type 0
low_in tree n = AreShallow (take n (token_depths 0 tree))

low_lies : (tree : Pieces) → Lies (low_in tree) 0 0 tree
low_lies tree n m e l = subst (λ (k : ℕ). AreShallow (take k (token_depths 0 tree))) (let same : m ≡ n = omega arith in same) l

-- fewer of them do as well
pub low_falls : (tree : Pieces) (n m : ℕ) → n ≤ m → low_in tree m → low_in tree n
low_falls tree n m e l = shallow_fewer n m (token_depths 0 tree) e l

-- and all of them do in a tree of no more than 200 nodes one in the other
pub tree_low : (tree : Pieces) (n : ℕ) → height tree ≤ DEPTH_LIMIT → low_in tree n
tree_low tree n h = shallow_some n (token_depths 0 tree) (shallow_tree 0 tree (omega arith))

root_sole : (tokens : List TokenKind) (a : Alternative) → Taken [] tokens [] (open_at tokens (rule_rows rule.Root)) a [] → open_at tokens (rule_rows rule.Root) ≡ a ∷ []
unfolding rule_rows
root_sole tokens a t = ap (λ (x : Alternative). x ∷ []) (sym (taken_one [] tokens [] _ a [] t).0)

root_choices : (tokens : List TokenKind) (a : Alternative) (choices : List Bool) → Taken [] tokens [] (open_at tokens (rule_rows rule.Root)) a choices → choices ≡ []
unfolding rule_rows
root_choices tokens a choices t = (taken_one [] tokens [] _ a choices t).1

root_sight : (depths : List ℕ) (a : Alternative) (tokens : List TokenKind) (inside : Pieces) → Among a (open_at tokens (rule_rows rule.Root)) → Lays depths 0 (0 + count (makes (makes_no_node_alone rule.Root) inside)) inside
    → Sight (root_spot depths) 0 a.parts [] [] [] (new_frame rule.Root) [] nothing nothing inside (makes_no_node_alone rule.Root)
root_sight depths a tokens inside among lays = record {
  from = 0;
  outer = 0;
  loose = 0;
  layers = layers_none;
  lays = lays;
  place = refl;
  high = omega arith;
  light = omega arith;
  first = λ l e. (refl, lone_begins rule.Root a tokens l among);
}

root_path : (low : ℕ → Type 0) (depths : List ℕ) (falls : (n m : ℕ) → n ≤ m → low m → low n) (tokens : List TokenKind) (a : Alternative) (inside : Pieces) (inner : List Fork) → Taken [] tokens [] (open_at tokens (rule_rows rule.Root)) a []
    → Lies low 0 0 (made rule.Root inside) → Lays depths 0 0 (made rule.Root inside) → (s : Sure a.parts [] tokens [] [] inside inner)
    → Path true low (in_file depths) false (begun (look_of tokens) (part.Rule rule.Root) 0) 0 tokens [] (rise_made rule.Root inside (rise_of a.parts [] tokens [] [] inside inner s)) inner
root_path low depths falls tokens a inside inner taken lies lays s =
    let e = root_sole tokens a taken in
    let d = sure_derives a.parts [] tokens [] [] inside inner s in
    let rise = rise_of a.parts [] tokens [] [] inside inner s in
    let own = rise_made rule.Root inside rise in
    let among = taken_among [] tokens [] (open_at tokens (rule_rows rule.Root)) a [] taken in
    let v = put a.parts (opened rule.Root (fresh (part.Rule rule.Root) 0)) in
    let deeper = 0 + count (makes (makes_no_node_alone rule.Root) inside) in
    subst (λ (x : Thread). Path true low (in_file depths) false x 0 tokens [] own inner) (sym (begun_rule tokens rule.Root a 0 e))
    (subst (Path true low (in_file depths) false v 0 tokens [] own) (append-nil inner)
    (sure_path_by low falls a.parts [] tokens [] [] inside inner s (in_file depths) false v 0 (new_frame rule.Root) [] nothing nothing inside (makes_no_node_alone rule.Root) 0 deeper [] [] own []
    (rule_inside_ready low true rule.Root a tokens inside 0 0 0 0 among (λ i. omega arith) (lies_made low 0 0 rule.Root inside lies) (omega arith))
    (root_sight depths a tokens inside among (lays_made depths 0 0 rule.Root inside lays))
    (λ t2 g2 stands items tall. ends_path low (in_file depths) t2 (0 + words inside) [] g2 (followed nothing inside) (makes_no_node_alone rule.Root) (makes (makes_no_node_alone rule.Root) inside) 0 deeper own stands items
    (shut_rise low true t2 (0 + words inside) rule.Root g2 [] inside 0 deeper rise stands (lone_some rule.Root a tokens [] inside among d) (tall ∙ no_more rise)))))

whole_at : (low : ℕ → Type 0) (depths : List ℕ) (falls : (n m : ℕ) → n ≤ m → low m → low n) (tokens mid : List TokenKind) (a : Alternative) (inside : Pieces) (choices : List Bool) (inner outer : List Fork) → choices ≡ [] → mid ≡ [] → outer ≡ []
    → Taken [] tokens [] (open_at tokens (rule_rows rule.Root)) a choices → Lies low 0 0 (made rule.Root inside) → Lays depths 0 0 (made rule.Root inside) → Sure a.parts [] tokens mid [] inside inner
    → (tall : ℕ) × Path true low (in_file depths) false (begun (look_of tokens) (part.Rule rule.Root) 0) 0 tokens [] tall (noted tokens choices ++ (inner ++ outer)) × (min (height (made rule.Root inside)) 1000 ≤ tall)
whole_at low depths falls tokens mid a inside choices inner outer c m o taken lies lays s =
    let t2 = subst (Taken [] tokens [] (open_at tokens (rule_rows rule.Root)) a) c taken in
    let s2 = subst (λ (l : List TokenKind). Sure a.parts [] tokens l [] inside inner) m s in (
      rise_made rule.Root inside (rise_of a.parts [] tokens [] [] inside inner s2),
      subst (λ (l : List Bool). Path true low (in_file depths) false (begun (look_of tokens) (part.Rule rule.Root) 0) 0 tokens [] (rise_made rule.Root inside (rise_of a.parts [] tokens [] [] inside inner s2)) (noted tokens l ++ (inner ++ outer))) (sym c)
          (subst (λ (l : List Fork). Path true low (in_file depths) false (begun (look_of tokens) (part.Rule rule.Root) 0) 0 tokens [] (rise_made rule.Root inside (rise_of a.parts [] tokens [] [] inside inner s2)) (inner ++ l)) (sym o)
          (subst (λ (l : List Fork). Path true low (in_file depths) false (begun (look_of tokens) (part.Rule rule.Root) 0) 0 tokens [] (rise_made rule.Root inside (rise_of a.parts [] tokens [] [] inside inner s2)) l) (sym (append-nil inner))
          (root_path low depths falls tokens a inside inner t2 lies lays s2))),
      rise_made_high rule.Root inside (rise_of a.parts [] tokens [] [] inside inner s2) (rise_high a.parts [] tokens [] [] inside inner s2),
    )

tree_lays : (tree : Pieces) → Lays (token_depths 0 tree) 0 0 tree
tree_lays tree = ([], [], sym (append-nil (token_depths 0 tree)), refl)

whole_path : (tokens mid : List TokenKind) (a : Alternative) (inside later : Pieces) (choices : List Bool) (inner outer : List Fork) → Taken [] tokens [] (open_at tokens (rule_rows rule.Root)) a choices → Sure a.parts [] tokens mid [] inside inner
    → (mid ≡ []) × (later ≡ nothing) × (outer ≡ [])
    → (tall : ℕ) × Path true (low_in (followed (made rule.Root inside) later)) (in_file (token_depths 0 (followed (made rule.Root inside) later))) false (begun (look_of tokens) (part.Rule rule.Root) 0) 0 tokens [] tall (noted tokens choices ++ (inner ++ outer)) × (min (height (followed (made rule.Root inside) later)) 1000 ≤ tall)
whole_path tokens mid a inside later choices inner outer taken s h =
    let tree = followed (made rule.Root inside) later in
    let path = whole_at (low_in tree) (token_depths 0 tree) (low_falls tree) tokens mid a inside choices inner outer (root_choices tokens a choices taken) h.0 h.2 taken (lies_left (low_in tree) 0 0 (made rule.Root inside) later (low_lies tree)) (lays_left (token_depths 0 tree) 0 0 (made rule.Root inside) later (tree_lays tree)) s in
    (path.0, path.1, omega (arith, path.2, height_followed (made rule.Root inside) later, ap height h.1))

-- The thread of a tree that is sure has a path, and is not marked as deep while the tokens that it has read
-- lie no deeper than 200. It has as many nodes one in the other in the end as the tree, up to 1000.
pub sure_path : (tokens : List TokenKind) (tree : Pieces) (forks : List Fork) → Sure (part.Rule rule.Root ∷ []) [] tokens [] [] tree forks
    → (tall : ℕ) × Path true (low_in tree) (in_file (token_depths 0 tree)) false (begun (look_of tokens) (part.Rule rule.Root) 0) 0 tokens [] tall forks × (min (height tree) 1000 ≤ tall)
unfolding is_braced
sure_path tokens tree forks (sure_rule _ a _ _ _ mid _ _ inside later choices inner outer free taken s s2) = whole_path tokens mid a inside later choices inner outer taken s (none_sure [] mid [] [] later outer s2)
sure_path tokens tree forks (sure_rule_apart _ a _ _ _ mid _ _ inside later inner outer braced e s s2) = absurd (cc)
