-- Where parts derive tokens for sure, and the marks say which alternatives are taken, the second pass reads
-- these tokens and has these pieces.
use Rattle.std.proofs.Common.{◌≡◌, ℕ, zero, suc, ◌+◌, ◌<◌, ◌≤◌, Bool, true, false, ◌⊎◌, inl, inr, List, [], ◌∷◌, ◌++◌, length, drop, Option, Some, None, refl, sym, ◌∙◌, ap, subst, arith, append_assoc, append-nil, length-drop}
use Rattle.std.specs.Prelude.{slice_get, ◌^◌}
use Rattle.std.proofs.lemmas.Bool.{lt-ltb}
use Rattle.zig_tree.specs.declared.token.Token.{Token}
use Rattle.zig_tree.specs.declared.token.TokenKind.{TokenKind}
use Rattle.zig_tree.specs.declared.grammar.Rule.{Rule}
use Rattle.zig_tree.specs.declared.grammar.Group.{Group}
use Rattle.zig_tree.specs.declared.grammar.Part.{Part}
use Rattle.zig_tree.specs.declared.grammar.Part.TheVariants as part
use Rattle.zig_tree.specs.declared.tree.Node.{Node}
use Rattle.zig_tree.specs.Grammar.{Alternative, group_rows, rule_rows}
use Rattle.zig_tree.specs.GrammarSentences.{Pieces, nothing, word, followed, made, Among}
use Rattle.zig_parse.specs.declared.choice.Look.{Look}
use Rattle.zig_parse.specs.declared.thread.Frame.{Frame}
use Rattle.zig_parse.specs.declared.thread.Item.{Item}
use Rattle.zig_parse.specs.declared.thread.Move.TheVariants as move
use Rattle.zig_parse.specs.Threads.{is_never_alone, item, met, opened, passed, put, replaced}
use Rattle.zig_parse.specs.Moves.{move_at, move_from, next_move}
use Rattle.zig_parse.specs.Choices.{choices}
use Rattle.zig_parse.specs.Nodes.{with_token}
use Rattle.zig_parse.specs.Surveys.{kind_of, look_at}
use Rattle.zig_parse.specs.Growth.{Grown, is_second, known, moved, picked, shut, stuck_at, swapped, with_thread}
use Rattle.zig_parse.specs.Trees.{kinds_of}
use Rattle.zig_parse.proofs.Derived.{followed_nothing, followed_twice}
use Rattle.zig_parse.proofs.Shapes.{has_piece, is_led}
use Rattle.zig_parse.proofs.Spelled.{amount}
use Rattle.zig_parse.proofs.Story.{amount_followed, group_keeps_led, left_from, led_first, led_rest}
use Rattle.zig_parse.proofs.Sound.{next_at}
use Rattle.zig_parse.proofs.Runs.{Run, moved_is, read_at, run_joined, run_moves, run_none, run_reads}
use Rattle.zig_parse.proofs.Growing.{Met, Place, State, coming, group_state, met_state, next_is, open_state, opened_place, read_calm, read_state}
use Rattle.zig_parse.proofs.Gathered.{close_state}

-- ---- what is to come after some parts

-- something, put there before a node in this one would be, and the pieces that the rest of the node will have
pub record Room (l : Place) (qs : List Part) (items : List Item) (more : Pieces) : Type 0 where
  pub i : Item
  pub is : List Item
  pub some : items ≡ i ∷ is
  pub level : i.level ≤ suc (length l.fs)
  pub pieces : has_piece qs ≡ true → 0 < amount more

piece_of : (ps qs : List Part) → has_piece (ps ++ qs) ≡ true → (has_piece ps ≡ true) ⊎ (has_piece qs ≡ true)
piece_of [] qs h = inr h
piece_of (part.Token _ ∷ ps) qs h = inl refl
piece_of (part.OneOf _ ∷ ps) qs h = inl refl
piece_of (part.Rule _ ∷ ps) qs h = inl refl
piece_of (part.Group g ∷ ps) qs h = piece_of ps qs h

more_pieces : (ps qs : List Part) (p more : Pieces) → (has_piece ps ≡ true → 0 < amount p) → (has_piece qs ≡ true → 0 < amount more) → has_piece (ps ++ qs) ≡ true → 0 < amount (followed p more)
more_pieces ps qs p more h k e =
    elim (piece_of ps qs e) [
      | inl first ↦ let some = h first in omega (arith, amount_followed p more)
      | inr later ↦ let some = k later in omega (arith, amount_followed p more)
    ]

room_more : (l : Place) (ps qs : List Part) (items : List Item) (p more : Pieces) → (has_piece ps ≡ true → 0 < amount p) → Room l qs items more → Room l (ps ++ qs) (coming l ps items) (followed p more)
room_more l [] qs items p more h r = record { i = r.i; is = r.is; some = r.some; level = r.level; pieces = more_pieces [] qs p more h r.pieces }
room_more l (q ∷ ps) qs items p more h r = record { i = item (suc (length l.fs)) q; is = coming l ps items; some = refl; level = omega arith; pieces = more_pieces (q ∷ ps) qs p more h r.pieces }

-- in a node that is opened in this one
room_inside : (l o : Place) (f : Frame) (qs : List Part) (items : List Item) (more : Pieces) → o.fs ≡ f ∷ l.fs → Room l qs items more → Room o [] items nothing
room_inside l o f qs items more e r = record { i = r.i; is = r.is; some = r.some; level = (let h = r.level in omega (arith, ap (λ (x : List Frame). length x) e)); pieces = λ h. absurd (cc) }

-- such a node is closed before they are read
closes : (tokens : List Token) (at : ℕ) (look : Look) (g : Grown) (l o : Place) (f : Frame) (qs : List Part) (items : List Item) (had more : Pieces) → o.fs ≡ f ∷ l.fs → Room l qs items more → State tokens at g o items had → next_move look false g.thread ≡ move.Close
closes tokens at look g l o f qs items had more e r s =
    let h = r.level in
    let below : r.i.level < length (s.f ∷ o.fs) = omega (arith, ap (λ (x : List Frame). length x) e) in
    let first : move_from look false (length (s.f ∷ o.fs)) (r.i ∷ r.is) ≡ move.Close = rw (lt-ltb r.i.level (length (s.f ∷ o.fs)) below) refl in
    next_at look g.thread (s.f ∷ o.fs) (r.i ∷ r.is) s.frames (s.items_are ∙ r.some) ∙ first

-- ---- where the tokens are

pub kinds_length : (tokens : List Token) → length (kinds_of tokens) ≡ length tokens
kinds_length [] = refl
kinds_length (t ∷ ts) = ap suc (kinds_length ts)

-- tokens that are left begin before the last one's end
pub still_before : (tokens : List Token) (at : ℕ) (kinds : List TokenKind) → kinds ≡ left_from tokens at → 0 < length kinds → at < length tokens
still_before tokens at kinds e h = omega (arith, length-drop at (kinds_of tokens), kinds_length tokens, ap (λ (x : List TokenKind). length x) e)

-- a token that is left
record Here (tokens : List Token) (at : ℕ) (k : TokenKind) (more : List TokenKind) : Type 0 where
  t : Token
  there : slice_get tokens at ≡ Some t
  kind : t.kind ≡ k
  after : more ≡ left_from tokens (at + 1)

here_more : (t : Token) (ts : List Token) (at : ℕ) (k : TokenKind) (more : List TokenKind) → Here ts at k more → Here (t ∷ ts) (suc at) k more
here_more t ts at k more h = let e : suc at + 1 ≡ suc (at + 1) = omega arith in record { t = h.t; there = h.there; kind = h.kind; after = h.after ∙ ap (λ (n : ℕ). drop n (kinds_of (t ∷ ts))) (sym e) }

token_here : (tokens : List Token) (at : ℕ) (k : TokenKind) (more : List TokenKind) → k ∷ more ≡ left_from tokens at → Here tokens at k more
token_here [] zero k more e = absurd (cc)
token_here [] (suc at) k more e = absurd (cc)
token_here (t ∷ ts) zero k more e = record { t = t; there = refl; kind = cc; after = cc }
token_here (t ∷ ts) (suc at) k more e = here_more t ts at k more (token_here ts at k more e)

-- ---- from one state to a later one

-- a later state, before these tokens, in which the node has these pieces
pub record After (tokens : List Token) (marks : List Bool) (at : ℕ) (g : Grown) (l : Place) (items : List Item) (had : Pieces) (next : List TokenKind) : Type 0 where
  pub end : ℕ
  pub ends : next ≡ left_from tokens end
  pub last : Grown
  pub run : Run l.told tokens marks at g end last
  pub more : List Node
  pub nodes : last.parts.nodes ≡ g.parts.nodes ++ more
  pub state : State tokens end last l items had

pub after_run : (tokens : List Token) (marks : List Bool) (start at : ℕ) (b g : Grown) (l : Place) (items : List Item) (had : Pieces) (next : List TokenKind) (news : List Node) → Run l.told tokens marks start b at g → g.parts.nodes ≡ b.parts.nodes ++ news
    → After tokens marks at g l items had next → After tokens marks start b l items had next
after_run tokens marks start at b g l items had next news r e a = record {
  end = a.end;
  ends = a.ends;
  last = a.last;
  run = run_joined l.told tokens marks start at a.end b g a.last r a.run;
  more = news ++ a.more;
  nodes = a.nodes ∙ ap (λ (x : List Node). x ++ a.more) e ∙ append_assoc b.parts.nodes news a.more;
  state = a.state;
}

-- parts derive tokens up to others with these pieces, and so the second pass goes from any state before them
abbrev pub Goes : List Token → List Bool → List Part → List TokenKind → List TokenKind → Pieces → Type 0
Goes tokens marks ps kinds next p = (at : ℕ) (l : Place) (qs : List Part) (items : List Item) (had more : Pieces) (g : Grown) → kinds ≡ left_from tokens at → Room l qs items more → is_led (ps ++ qs) ≡ true → l.whole ≡ followed had (followed p more)
    → State tokens at g l (coming l ps items) had → After tokens marks at g l items (followed had p) next

pub goes_none : (tokens : List Token) (marks : List Bool) (kinds : List TokenKind) → Goes tokens marks [] kinds kinds nothing
goes_none tokens marks kinds at l qs items had more g e room led whole s = record {
  end = at;
  ends = e;
  last = g;
  run = run_none at g;
  more = [];
  nodes = sym (append-nil g.parts.nodes);
  state = subst (State tokens at g l items) (sym (followed_nothing had)) s;
}

-- ---- a token

same_nodes : (at : ℕ) (g : Grown) → (read_at at g).parts.nodes ≡ g.parts.nodes ++ []
unfolding with_token
same_nodes at g = sym (append-nil g.parts.nodes)

pub token_after : (tokens : List Token) (marks : List Bool) (q : Part) (k : TokenKind) (kinds : List TokenKind) → length tokens < 2 ^ 32 → ((look : Look) → look.kind ≡ k → move_at look false q ≡ move.Read)
    → (at : ℕ) (l : Place) (items : List Item) (had more : Pieces) (g : Grown) → k ∷ kinds ≡ left_from tokens at → l.whole ≡ followed had (word k more) → State tokens at g l (item (suc (length l.fs)) q ∷ items) had → After tokens marks at g l items (followed had (word k nothing)) kinds
token_after tokens marks q k kinds fits reads at l items had more g e whole s =
    let h = token_here tokens at k kinds e in
    let before = still_before tokens at (k ∷ kinds) e (omega arith) in
    let look = look_at tokens at in
    let kind : look.kind ≡ k = ap kind_of h.there ∙ h.kind in
    let now = next_is tokens at look g l q items had s ∙ reads look kind in
    let told : l.whole ≡ followed had (word h.t.kind more) = whole ∙ ap (λ (x : TokenKind). followed had (word x more)) (sym h.kind) in
    record {
      end = at + 1;
      ends = h.after;
      last = read_at at g;
      run = run_reads at (at + 1) g (read_at at g) before now (read_calm tokens at g l q items had more h.t.kind s told) (run_none (at + 1) (read_at at g));
      more = [];
      nodes = same_nodes at g;
      state = subst (λ (x : TokenKind). State tokens (at + 1) (read_at at g) l items (followed had (word x nothing))) h.kind (read_state tokens at g l q items had more h.t fits before h.there s told);
    }

pub goes_token : (tokens : List Token) (marks : List Bool) (q : Part) (ps : List Part) (k : TokenKind) (kinds next : List TokenKind) (later : Pieces) → length tokens < 2 ^ 32 → ((look : Look) → look.kind ≡ k → move_at look false q ≡ move.Read)
    → Goes tokens marks ps kinds next later → Goes tokens marks (q ∷ ps) (k ∷ kinds) next (word k later)
goes_token tokens marks q ps k kinds next later fits reads go at l qs items had more g e room led whole s =
    let a = token_after tokens marks q k kinds fits reads at l (coming l ps items) had (followed later more) g e whole s in
    let had1 = followed had (word k nothing) in
    let rest = go a.end l qs items had1 more a.last a.ends room (led_rest q (ps ++ qs) led) (whole ∙ sym (followed_twice had (word k nothing) (followed later more))) a.state in
    subst (λ (x : Pieces). After tokens marks at g l items x next) (followed_twice had (word k nothing) later) (after_run tokens marks at a.end g a.last l items (followed had1 later) next a.more a.run a.nodes rest)

-- ---- a group

-- the marks name this alternative
abbrev pub Picks : List Token → List Bool → List TokenKind → List Alternative → Alternative → Type 0
Picks tokens marks kinds rows a = (at : ℕ) → kinds ≡ left_from tokens at → at < length tokens → picked (is_second marks at) (choices (look_at tokens at) rows) ≡ Some a.parts

pub goes_group : (tokens : List Token) (marks : List Bool) (k : Group) (a : Alternative) (ps : List Part) (kinds mid next : List TokenKind) (inside later : Pieces) → Among a (group_rows k) → Picks tokens marks kinds (group_rows k) a → 0 < length kinds
    → (has_piece ps ≡ true → 0 < amount later) → Goes tokens marks a.parts kinds mid inside → Goes tokens marks ps mid next later → Goes tokens marks (part.Group k ∷ ps) kinds next (followed inside later)
goes_group tokens marks k a ps kinds mid next inside later among picks some pieces first second at l qs items had more g e room led whole s =
    let before = still_before tokens at kinds e some in
    let look = look_at tokens at in
    let mark = is_second marks at in
    let pick = picks at e before in
    let m = moved_is tokens look mark g (move.Group k) (next_is tokens at look g l (part.Group k) (coming l ps items) had s) in
    let g1 = with_thread (replaced None a.parts g.thread) g in
    let to : moved tokens look mark g ≡ g1 = m.0 ∙ ap (λ (o : Option (List Part)). swapped None o g) pick in
    let none : known look mark g ≡ None = m.1 ∙ ap stuck_at pick in
    let s1 = group_state tokens at g l k a.parts ps items had s in
    let whole1 : l.whole ≡ followed had (followed inside (followed later more)) = whole ∙ ap (followed had) (followed_twice inside later more) in
    let a1 = first at l (ps ++ qs) (coming l ps items) had (followed later more) g1 e (room_more l ps qs items later more pieces room) (group_keeps_led k a (ps ++ qs) among led) whole1 s1 in
    let a2 = second a1.end l qs items (followed had inside) more a1.last a1.ends room (led_rest (part.Group k) (ps ++ qs) led) (whole1 ∙ sym (followed_twice had inside (followed later more))) a1.state in
    let moves = run_moves at a1.end g a1.last before none (subst (λ (x : Grown). Run l.told tokens marks at x a1.end a1.last) (sym to) a1.run) in
    subst (λ (x : Pieces). After tokens marks at g l items x next) (followed_twice had inside later) (after_run tokens marks at a1.end g a1.last l items (followed (followed had inside) later) next a1.more moves a1.nodes a2)

-- ---- a rule

-- its node is opened
record Opened (tokens : List Token) (marks : List Bool) (at : ℕ) (g : Grown) (l : Place) (r : Rule) (ps : List Part) (items : List Item) (had inside more : Pieces) (e : l.whole ≡ followed had (followed (made r inside) more)) : Type 0 where
  b : Grown
  met_as : Met tokens at b l items had
  last : Grown
  nodes : last.parts.nodes ≡ b.parts.nodes ++ []
  nodes_before : b.parts.nodes ≡ g.parts.nodes
  run : Run l.told tokens marks at g at last
  state : State tokens at last (opened_place tokens at b l r items had inside more met_as.state e) (coming (opened_place tokens at b l r items had inside more met_as.state e) ps items) nothing

open_rule : (tokens : List Token) (marks : List Bool) (at : ℕ) (g : Grown) (l : Place) (r : Rule) (a : Alternative) (items : List Item) (had inside more : Pieces) → at < length tokens → picked (is_second marks at) (choices (look_at tokens at) (rule_rows r)) ≡ Some a.parts
    → (e : l.whole ≡ followed had (followed (made r inside) more)) → (is_never_alone r ≡ true → 0 < amount more) → State tokens at g l (item (suc (length l.fs)) (part.Rule r) ∷ items) had → Opened tokens marks at g l r a.parts items had inside more e
unfolding replaced
open_rule tokens marks at g l r a items had inside more before pick e never s =
    let look = look_at tokens at in
    let mark = is_second marks at in
    let m = moved_is tokens look mark g (move.Rule r) (next_is tokens at look g l (part.Rule r) items had s) in
    let b = with_thread (met r (passed g.thread)) g in
    let last = with_thread (put a.parts (opened r b.thread)) g in
    let to : moved tokens look mark g ≡ last = m.0 ∙ ap (λ (o : Option (List Part)). swapped (Some r) o g) pick in
    let none : known look mark g ≡ None = m.1 ∙ ap stuck_at pick in
    let start = met_state tokens at g l r items had inside more s e never in
    record {
      b = b;
      met_as = start;
      last = last;
      nodes = sym (append-nil g.parts.nodes);
      nodes_before = refl;
      run = run_moves at at g last before none (subst (λ (x : Grown). Run l.told tokens marks at x at last) (sym to) (run_none at last));
      state = open_state tokens at b l r a.parts items had inside more start.state e;
    }

-- it is closed
close_rule : (tokens : List Token) (marks : List Bool) (start : ℕ) (g : Grown) (l : Place) (r : Rule) (a : Alternative) (ps qs : List Part) (items : List Item) (had inside later more : Pieces) (mid : List TokenKind) (e : l.whole ≡ followed had (followed (made r inside) (followed later more)))
    → length tokens < 2 ^ 32 → 0 < length mid → length mid < length (left_from tokens start) → (has_piece ps ≡ true → 0 < amount later) → Room l qs items more → (o : Opened tokens marks start g l r a.parts (coming l ps items) had inside (followed later more) e)
    → After tokens marks start o.last (opened_place tokens start o.b l r (coming l ps items) had inside (followed later more) o.met_as.state e) (coming l ps items) inside mid
    → After tokens marks start g l (coming l ps items) (followed had (made r inside)) mid
unfolding opened_place
close_rule tokens marks start g l r a ps qs items had inside later more mid e fits some less pieces room o c =
    let place = opened_place tokens start o.b l r (coming l ps items) had inside (followed later more) o.met_as.state e in
    let before = still_before tokens c.end mid c.ends some in
    let look = look_at tokens c.end in
    let mark = is_second marks c.end in
    let close = closes tokens c.end look c.last l place o.met_as.state.f (ps ++ qs) (coming l ps items) inside (followed later more) refl (room_more l ps qs items later more pieces room) c.state in
    let m = moved_is tokens look mark c.last move.Close close in
    let news : c.last.parts.nodes ≡ o.b.parts.nodes ++ c.more = c.nodes ∙ ap (λ (x : List Node). x ++ c.more) (o.nodes ∙ append-nil o.b.parts.nodes) in
    let longer : start < c.end = omega (arith, length-drop start (kinds_of tokens), length-drop c.end (kinds_of tokens), ap (λ (x : List TokenKind). length x) c.ends) in
    let done = close_state tokens start c.end o.b c.last l r (coming l ps items) had inside (followed later more) c.more o.met_as.state o.met_as.waits e c.state news longer (omega arith) fits in
    record {
      end = c.end;
      ends = c.ends;
      last = shut tokens c.last;
      run = run_joined l.told tokens marks start start c.end g o.last (shut tokens c.last) o.run (run_joined l.told tokens marks start c.end c.end o.last c.last (shut tokens c.last) c.run
          (run_moves c.end c.end c.last (shut tokens c.last) before m.1 (subst (λ (x : Grown). Run l.told tokens marks c.end x c.end (shut tokens c.last)) (sym m.0) (run_none c.end (shut tokens c.last)))));
      more = done.more;
      nodes = done.nodes ∙ ap (λ (x : List Node). x ++ done.more) o.nodes_before;
      state = done.state;
    }

pub goes_rule : (tokens : List Token) (marks : List Bool) (r : Rule) (a : Alternative) (ps : List Part) (kinds mid next : List TokenKind) (inside later : Pieces) → length tokens < 2 ^ 32 → is_led a.parts ≡ true → Picks tokens marks kinds (rule_rows r) a → 0 < length mid
    → length mid < length kinds → (has_piece ps ≡ true → 0 < amount later) → Goes tokens marks a.parts kinds mid inside → Goes tokens marks ps mid next later → Goes tokens marks (part.Rule r ∷ ps) kinds next (followed (made r inside) later)
unfolding opened_place
goes_rule tokens marks r a ps kinds mid next inside later fits inner picks some less pieces first second at l qs items had more g e room led whole s =
    let before = still_before tokens at kinds e (omega arith) in
    let told : l.whole ≡ followed had (followed (made r inside) (followed later more)) = whole ∙ ap (followed had) (followed_twice (made r inside) later more) in
    let wide = room_more l ps qs items later more pieces room in
    let o = open_rule tokens marks at g l r a (coming l ps items) had inside (followed later more) before (picks at e before) told (λ h. wide.pieces (led_first (part.Rule r) (ps ++ qs) led h)) s in
    let place = opened_place tokens at o.b l r (coming l ps items) had inside (followed later more) o.met_as.state told in
    let deep = room_inside l place o.met_as.state.f (ps ++ qs) (coming l ps items) (followed later more) (refl {a = o.met_as.state.f ∷ l.fs}) wide in
    let c = first at place [] (coming l ps items) nothing nothing o.last e deep (subst (λ (x : List Part). is_led x ≡ true) (sym (append-nil a.parts)) inner) (sym (followed_nothing inside)) o.state in
    let done = close_rule tokens marks at g l r a ps qs items had inside later more mid told fits some (omega (arith, ap (λ (x : List TokenKind). length x) e)) pieces room o c in
    let rest = second done.end l qs items (followed had (made r inside)) more done.last done.ends room (led_rest (part.Rule r) (ps ++ qs) led) (told ∙ sym (followed_twice had (made r inside) (followed later more))) done.state in
    subst (λ (x : Pieces). After tokens marks at g l items x next) (followed_twice had (made r inside) later)
    (after_run tokens marks at done.end g done.last l items (followed (followed had (made r inside)) later) next done.more done.run done.nodes rest)
