-- As long as a thread is left, some sentence begins with the tokens so far: what is to come in the thread, and
-- in those that wait for it, can end.
use Rattle.std.proofs.Common.{◌≡◌, ℕ, Bool, true, false, ◌⊎◌, inl, inr, List, [], ◌∷◌, ◌++◌, Option, Some, None, refl, sym, ◌∙◌, ap, subst, append_assoc}
use Rattle.std.specs.Prelude.{if◌then◌else◌}
use Rattle.std.proofs.lemmas.Bool.{and_parts}
use Rattle.zig_tree.specs.declared.token.TokenKind.{TokenKind}
use Rattle.zig_tree.specs.declared.token.TokenKind.TheVariants as kind
use Rattle.zig_tree.specs.declared.grammar.Rule.TheVariants as rule
use Rattle.zig_tree.specs.declared.grammar.Group.TheVariants as group
use Rattle.zig_tree.specs.declared.grammar.Part.{Part}
use Rattle.zig_tree.specs.declared.grammar.Part.TheVariants as part
use Rattle.zig_tree.specs.Kinds.{is_kind, number_of}
use Rattle.zig_tree.specs.GrammarSentences.{word, next_kind, derives_token}
use Rattle.zig_parse.specs.declared.choice.Look.{Look}
use Rattle.zig_parse.specs.declared.thread.Item.{Item}
use Rattle.zig_parse.specs.declared.thread.Thread.{Thread}
use Rattle.zig_parse.specs.declared.thread.Move.TheVariants as move
use Rattle.zig_parse.specs.Stack.{rest}
use Rattle.zig_parse.specs.Threads.{after_read, met_part}
use Rattle.zig_parse.specs.Moves.{moving, next_move, settled_all, waits_for}
use Rattle.zig_parse.specs.Passes.{begun, is_wanted, least_from, least_with, depth_for, those_waiting, waiting_by, wants}
use Rattle.zig_parse.proofs.Tables.{same_kind}
use Rattle.zig_parse.proofs.SameParts.{same_part}
use Rattle.zig_parse.proofs.Paths.{parts_of_items}
use Rattle.zig_parse.proofs.Reading.{Reads}
use Rattle.zig_parse.proofs.Tidy.{tidy, tidy_read, Fits, Left, is_closing}
use Rattle.zig_parse.proofs.Moving.{coming, Each, Comes, each_kept, fits_derives, met_part_keeps, moving_come, read_keeps, reads_front, settled_each, waits_brace}
use Rattle.zig_parse.proofs.Opening.{Five, five_block, five_initializer, five_body, five_errors, five_switch, body, opens}
use Rattle.zig_parse.proofs.Entering.{each_both, met_waits}
use Rattle.zig_parse.proofs.Endings.{ends_before, first_or, may_follow, quick_all}
use Rattle.zig_parse.proofs.Lively.{Ended, GoesOn, GoesOnPlain, Lively, Midway, Typed, is_colon, midway, typed_atom, typed_suffix, typed_type, typed_word}
use Rattle.zig_parse.proofs.LivelyMoves.{Moves, moving_moves}

-- ---- what is known of the threads in a brace and around it

abbrev pub In : Thread → List Thread → Type 0
In w [] = ⊥
In w (t ∷ ts) = (w ≡ t) ⊎ In w ts

-- a part is what is read in the innermost brace: one of the waiting threads wants it, or it is the file
abbrev pub Wanted : List (List Thread) → Part → Type 0
Wanted [] p = p ≡ part.Rule rule.Root
Wanted (those ∷ waiting) p = (w : Thread) × In w those × (waits_for w ≡ Some p)

abbrev pub is_file : List (List Thread) → Bool
is_file [] = true
is_file (those ∷ waiting) = false

-- a thread that has read these tokens since its brace, before a token of this kind
pub record Alive (waiting : List (List Thread)) (read : List TokenKind) (n : TokenKind) (t : Thread) : Type 0 where
  pub lively : Lively read n t.goal (coming t)
  pub tidies : tidy (is_file waiting) (coming t) ≡ true
  pub wanted : Wanted waiting t.goal

-- a thread that has read these tokens since its brace, and waits
pub record Waits (waiting : List (List Thread)) (read : List TokenKind) (w : Thread) : Type 0 where
  pub p : Part
  pub waits : waits_for w ≡ Some p
  pub story : (c end : List TokenKind) → Reads (coming w) (kind.LeftBrace ∷ c) end → Reads (w.goal ∷ []) (read ++ kind.LeftBrace ∷ c) end
  pub ended : Ended w.goal (coming w)
  pub tidies : tidy (is_file waiting) (coming w) ≡ true
  pub wanted : Wanted waiting w.goal

-- what was read in a brace begins with it
abbrev pub Starts : List (List Thread) → List TokenKind → Type 0
Starts [] read = Unit {0}
Starts (those ∷ waiting) read = (more : List TokenKind) × (read ≡ kind.LeftBrace ∷ more)

-- the tokens before the innermost open brace, and the threads that wait for the end of each
pub data Around : List TokenKind → List (List Thread) → Type 0 where
  around_none : Around [] []
  around_brace : (front read : List TokenKind) (those : List Thread) (waiting : List (List Thread)) → Around front waiting → Starts waiting read → Each (Waits waiting read) those → Around (front ++ read) (those ∷ waiting)

pub record Lasts (live : List Thread) (waiting : List (List Thread)) (front : List TokenKind) (n : TokenKind) : Type 0 where
  pub before : List TokenKind
  pub read : List TokenKind
  pub front_is : front ≡ before ++ read
  pub around : Around before waiting
  pub starts : Starts waiting read
  pub alive : Each (Alive waiting read n) live

-- ---- up to a token

-- a thread that can read the token
pub record Ready (waiting : List (List Thread)) (read : List TokenKind) (look : Look) (t : Thread) : Type 0 where
  pub moves : Moves (is_file waiting) read look t
  pub wanted : Wanted waiting t.goal
  pub reads : next_move look true t ≡ move.Read

abbrev Going : List (List Thread) → List TokenKind → Look → Thread → Type 0
Going waiting read look t = Moves (is_file waiting) read look t × Wanted waiting t.goal

going_more : (waiting : List (List Thread)) (read : List TokenKind) (look : Look) (at : ℕ) (t : Thread) → Going waiting read look t → Each (Going waiting read look) (moving look at t)
going_more waiting read look at t g =
    let seen = look.kind ∷ look.next ∷ [] in
    let both = each_both (Moves (is_file waiting) read look) (Comes seen t.goal (coming t)) (moving look at t) (moving_moves (is_file waiting) read look at t g.0) (moving_come seen at t) in
    each_kept (λ (u : Thread). Moves (is_file waiting) read look u × Comes seen t.goal (coming t) u) (Going waiting read look) (moving look at t) (λ u h. (h.0, subst (Wanted waiting) (sym h.1.same_goal) g.1)) both

begin_going : (waiting : List (List Thread)) (read : List TokenKind) (look : Look) (t : Thread) → Alive waiting read look.kind t → Going waiting read look t
begin_going waiting read look t a = (record { midway = midway read look t.goal (coming t) a.lively; tidies = a.tidies }, a.wanted)

pub all_ready : (waiting : List (List Thread)) (read : List TokenKind) (look : Look) (at : ℕ) (ts : List Thread) → Each (Alive waiting read look.kind) ts → Each (Ready waiting read look) (settled_all look at ts)
unfolding settled_all
all_ready waiting read look at ts h =
    settled_each (Going waiting read look) (Ready waiting read look) look at (going_more waiting read look at) (λ t g r. record { moves = g.0; wanted = g.1; reads = r }) _ ts
    (each_kept (Alive waiting read look.kind) (Going waiting read look) ts (begin_going waiting read look) h)

-- ---- the token is read

one_after : (read : List TokenKind) (k : TokenKind) (c : List TokenKind) → (read ++ k ∷ []) ++ c ≡ read ++ k ∷ c
one_after read k c = append_assoc read (k ∷ []) c

typed_reads : (p : Part) (qs : List Part) (k : TokenKind) → Typed (p ∷ qs) → Fits p k → (more : List Part) × (qs ≡ part.Group group.SuffixTail ∷ more)
typed_reads p qs k (typed_type _) f = absurd f
typed_reads p qs k (typed_suffix _) f = absurd f
typed_reads p qs k (typed_atom _) f = absurd f
typed_reads p qs k (typed_word more) f = (more, refl)

read_on : (p : Part) (qs : List Part) (k : TokenKind) (c end : List TokenKind) → Fits p k → Reads qs c end → Reads (p ∷ qs) (k ∷ c) end
read_on p qs k c end f r = (word k r.0, fits_derives p qs k c end r.0 f r.1)

read_lively : (read : List TokenKind) (look : Look) (goal p : Part) (qs : List Part) → Fits p look.kind → Midway read look goal (p ∷ qs) → Lively (read ++ look.kind ∷ []) look.next goal qs
read_lively read look goal p qs f m = record {
  story = by m.story;
  ended = λ k h. (and_parts (may_follow (first_or (quick_all qs) k) p) (ends_before k qs) (m.ended k h)).1;
}
  where
    back : (c end : List TokenKind) → Reads (goal ∷ []) (read ++ look.kind ∷ c) end → Reads (goal ∷ []) ((read ++ look.kind ∷ []) ++ c) end
    back c end r = subst (λ (l : List TokenKind). Reads (goal ∷ []) l end) (sym (one_after read look.kind c)) r

    by : ((c end : List TokenKind) → Reads (p ∷ qs) (look.kind ∷ c) end → Reads (goal ∷ []) (read ++ look.kind ∷ c) end)
        ⊎ ((look.kind ≡ kind.Identifier) × (is_colon look.next ≡ false) × Typed (p ∷ qs) × ((c end : List TokenKind) → is_colon (next_kind c) ≡ false → Reads (p ∷ qs) (look.kind ∷ c) end → Reads (goal ∷ []) (read ++ look.kind ∷ c) end))
        → GoesOn (read ++ look.kind ∷ []) goal qs ⊎ ((is_colon look.next ≡ false) × ((more : List Part) × (qs ≡ part.Group group.SuffixTail ∷ more)) × GoesOnPlain (read ++ look.kind ∷ []) goal qs)
    by (inl s) = inl (λ c end r. back c end (s c end (read_on p qs look.kind c end f r)))
    by (inr (e, plain, typed, s)) = inr (plain, typed_reads p qs look.kind typed f, λ c end free r. back c end (s c end free (read_on p qs look.kind c end f r)))

-- a thread after the token, and what it still has to read
pub record Gone (waiting : List (List Thread)) (read : List TokenKind) (k n : TokenKind) (t : Thread) : Type 0 where
  pub lively : Lively read n t.goal (coming t)
  pub left : Left (is_file waiting) k (coming t)
  pub wanted : Wanted waiting t.goal

left_tidy : (root : Bool) (k : TokenKind) (ps : List Part) → Left root k ps → tidy root ps ≡ true
left_tidy root k ps (inl e) = subst (λ (l : List Part). tidy root l ≡ true) (sym e.1) refl
left_tidy root k ps (inr e) = e.1

pub gone_alive : (waiting : List (List Thread)) (read : List TokenKind) (k n : TokenKind) (t : Thread) → Gone waiting read k n t → Alive waiting read n t
gone_alive waiting read k n t g = record { lively = g.lively; tidies = left_tidy (is_file waiting) k (coming t) g.left; wanted = g.wanted }

pub ready_gone : (waiting : List (List Thread)) (read : List TokenKind) (look : Look) (t : Thread) → Ready waiting read look t → waits_for t ≡ None → Gone waiting (read ++ look.kind ∷ []) look.kind look.next (after_read t)
ready_gone waiting read look t r w =
    let s = reads_front look t r.reads w in
    let keep = read_keeps t in
    let qs = parts_of_items (rest t.items) in
    let now : coming (after_read t) ≡ qs = ap parts_of_items keep.0 in
    let m = subst (λ (l : List Part). Midway read look t.goal l) s.first r.moves.midway in
    let lively = read_lively read look t.goal s.p qs s.fits m in
    record {
      lively = subst (λ (g : Part). Lively (read ++ look.kind ∷ []) look.next g (coming (after_read t))) (sym keep.1) (subst (λ (l : List Part). Lively (read ++ look.kind ∷ []) look.next t.goal l) (sym now) lively);
      left = subst (λ (l : List Part). Left (is_file waiting) look.kind l) (sym now) (tidy_read (is_file waiting) s.p qs look.kind s.fits (subst (λ (l : List Part). tidy (is_file waiting) l ≡ true) s.first r.moves.tidies));
      wanted = subst (Wanted waiting) (sym keep.1) r.wanted;
    }

-- ---- a thread waits

no_identifier : (k : TokenKind) → is_kind k kind.LeftBrace ≡ true → k ≡ kind.Identifier → ⊥
no_identifier k h e = let same : kind.LeftBrace ≡ kind.Identifier = sym (same_kind k kind.LeftBrace h) ∙ e in cc

pub ready_waits : (waiting : List (List Thread)) (read : List TokenKind) (look : Look) (t : Thread) (p : Part) → Ready waiting read look t → waits_for t ≡ Some p → Waits waiting read (met_part p t)
ready_waits waiting read look t p r w =
    let brace = waits_brace look t p r.reads w in
    let is : look.kind ≡ kind.LeftBrace = same_kind look.kind kind.LeftBrace brace in
    let keep = met_part_keeps p t in
    let same : coming (met_part p t) ≡ coming t = ap parts_of_items keep.0 in
    record {
      p = p;
      waits = met_waits p p t w;
      story = λ c end d. subst (λ (g : Part). Reads (g ∷ []) (read ++ kind.LeftBrace ∷ c) end) (sym keep.1)
          (by r.moves.midway.story is brace c end (subst (λ (l : List Part). Reads l (kind.LeftBrace ∷ c) end) same d));
      ended = λ k h. subst (λ (l : List Part). ends_before k l ≡ true) (sym same) (r.moves.midway.ended k (subst (λ (g : Part). may_follow k g ≡ true) keep.1 h));
      tidies = subst (λ (l : List Part). tidy (is_file waiting) l ≡ true) (sym same) r.moves.tidies;
      wanted = subst (Wanted waiting) (sym keep.1) r.wanted;
    }
  where
    by : ((c end : List TokenKind) → Reads (coming t) (look.kind ∷ c) end → Reads (t.goal ∷ []) (read ++ look.kind ∷ c) end)
        ⊎ ((look.kind ≡ kind.Identifier) × (is_colon look.next ≡ false) × Typed (coming t) × ((c end : List TokenKind) → is_colon (next_kind c) ≡ false → Reads (coming t) (look.kind ∷ c) end → Reads (t.goal ∷ []) (read ++ look.kind ∷ c) end))
        → look.kind ≡ kind.LeftBrace → is_kind look.kind kind.LeftBrace ≡ true → (c end : List TokenKind) → Reads (coming t) (kind.LeftBrace ∷ c) end → Reads (t.goal ∷ []) (read ++ kind.LeftBrace ∷ c) end
    by (inl s) is brace c end d = subst (λ (k : TokenKind). Reads (t.goal ∷ []) (read ++ k ∷ c) end) is (s c end (subst (λ (k : TokenKind). Reads (coming t) (k ∷ c) end) (sym is) d))
    by (inr s) is brace c end d = absurd (no_identifier look.kind brace s.0)

pub waiting_all : (waiting : List (List Thread)) (read : List TokenKind) (look : Look) (ts : List Thread) → Each (Ready waiting read look) ts → Each (Waits waiting read) (those_waiting ts)
unfolding those_waiting
waiting_all waiting read look [] h = tt
waiting_all waiting read look (t ∷ ts) h = by (waits_for t) refl (waiting_all waiting read look ts h.1)
  where
    by : (o : Option Part) → waits_for t ≡ o → Each (Waits waiting read) (those_waiting ts) → Each (Waits waiting read) (waiting_by o t ++ those_waiting ts)
    by None e more = more
    by (Some p) e more = (ready_waits waiting read look t p h.0 e, more)

-- ---- the threads inside

pub in_joined : (a b : List Thread) (w : Thread) → In w b → In w (a ++ b)
in_joined [] b w h = h
in_joined (t ∷ a) b w h = inr (in_joined a b w h)

wanted_by : (w : Thread) (goal : Part) (o : Option Part) → waits_for w ≡ o → is_wanted o goal ≡ true → waits_for w ≡ Some goal
wanted_by w goal None e h = absurd (cc)
wanted_by w goal (Some p) e h = e ∙ ap (λ (q : Part). Some q) (same_part p goal h)

-- where a depth is found for a part, a thread wants it
pub least_wanted : (least : Option ℕ) (goal : Part) (ts : List Thread) → (least ≡ None) → (d : ℕ) → least_from least goal ts ≡ Some d → (w : Thread) × In w ts × (waits_for w ≡ Some goal)
unfolding least_from wants
least_wanted least goal [] none d h = absurd (let wrong : None ≡ Some d = sym none ∙ h in cc)
least_wanted least goal (t ∷ ts) none d h = by (wants t goal) refl (λ e. least_wanted least goal ts none d (sym (ap (λ (b : Bool). least_from (if b then Some (least_with (depth_for t) least) else least) goal ts) e) ∙ h))
  where
    by : (b : Bool) → is_wanted (waits_for t) goal ≡ b → (is_wanted (waits_for t) goal ≡ false → (w : Thread) × In w ts × (waits_for w ≡ Some goal)) → (w : Thread) × In w (t ∷ ts) × (waits_for w ≡ Some goal)
    by true e f = (t, inl refl, wanted_by t goal (waits_for t) refl e)
    by false e f = (let more = f e in (more.0, inr more.1, more.2))

rest_parts : (items : List Item) → rest (parts_of_items items) ≡ parts_of_items (rest items)
rest_parts [] = refl
rest_parts (i ∷ items) = refl

some_body : (p : Part) → Five p → body p ≡ [] → ⊥
some_body p five_block e = cc
some_body p five_initializer e = cc
some_body p five_body e = cc
some_body p five_errors e = cc
some_body p five_switch e = cc

body_ended : (p : Part) → Five p → Ended p (body p)
unfolding number_of
body_ended p five_block k h = refl
body_ended p five_initializer k h = rw h refl
body_ended p five_body k h = refl
body_ended p five_errors k h = refl
body_ended p five_switch k h = refl

body_story : (p : Part) → Five p → GoesOn (kind.LeftBrace ∷ []) p (body p)
body_story p f c end r = let o = opens (kind.LeftBrace ∷ c) p 0 f in o.derives end (word kind.LeftBrace r.0) (derives_token kind.LeftBrace (body p) c end r.0 r.1)

left_brace : is_closing kind.LeftBrace ≡ false
unfolding number_of
left_brace = refl

pub begun_alive : (those : List Thread) (waiting : List (List Thread)) (look : Look) (p : Part) (depth : ℕ) → Five p → look.kind ≡ kind.LeftBrace → Wanted (those ∷ waiting) p → Gone (those ∷ waiting) (kind.LeftBrace ∷ []) kind.LeftBrace look.next (after_read (begun look p depth))
begun_alive those waiting look p depth f is w =
    let o = opens (look.kind ∷ look.next ∷ []) p depth f in
    let b = begun look p depth in
    let keep = read_keeps b in
    let now : coming (after_read b) ≡ body p = ap parts_of_items keep.0 ∙ sym (rest_parts b.items) ∙ ap rest o.first in
    let goal : (after_read b).goal ≡ p = keep.1 ∙ o.own_goal in
    let ended : Ended p (body p) = body_ended p f in
    let story : GoesOn (kind.LeftBrace ∷ []) p (body p) = body_story p f in
    record {
      lively = subst (λ (g : Part). Lively (kind.LeftBrace ∷ []) look.next g (coming (after_read b))) (sym goal)
          (subst (λ (l : List Part). Lively (kind.LeftBrace ∷ []) look.next p l) (sym now) (record { story = inl story; ended = ended }));
      left = inr (left_brace, subst (λ (l : List Part). tidy false l ≡ true) (sym now) o.body_tidy, λ e. some_body p f (sym now ∙ e));
      wanted = subst (Wanted (those ∷ waiting)) (sym goal) w;
    }
