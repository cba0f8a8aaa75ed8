-- What is known of the threads that are left stays with each token.
use Rattle.std.proofs.Common.{◌≡◌, ℕ, Bool, true, false, ◌||◌, ◌⊎◌, inl, inr, List, [], ◌∷◌, ◌++◌, map, Option, Some, None, refl, sym, ◌∙◌, ap, subst, append_assoc}
use Rattle.std.specs.Prelude.{if◌then◌else◌, is_some}
use Rattle.std.proofs.lemmas.Bool.{and_parts}
use Rattle.zig_tree.specs.declared.token.TokenKind.{TokenKind}
use Rattle.zig_tree.specs.declared.token.TokenKind.TheVariants as kind
use Rattle.zig_tree.specs.declared.grammar.Rule.TheVariants as rule
use Rattle.zig_tree.specs.declared.grammar.Group.TheVariants as group
use Rattle.zig_tree.specs.declared.grammar.Part.{Part}
use Rattle.zig_tree.specs.declared.grammar.Part.TheVariants as part
use Rattle.zig_tree.specs.Kinds.{is_kind, is_part, number_of}
use Rattle.zig_tree.specs.GrammarSentences.{nothing, derives_none}
use Rattle.zig_parse.specs.declared.choice.Look.{Look}
use Rattle.zig_parse.specs.declared.thread.Thread.{Thread}
use Rattle.zig_parse.specs.declared.survey.Finished.{Finished}
use Rattle.zig_parse.specs.declared.state.State.{State}
use Rattle.zig_parse.specs.Stack.{rest}
use Rattle.zig_parse.specs.Threads.{after_read, received, with_choices}
use Rattle.zig_parse.specs.Moves.{settled_all, waits_for}
use Rattle.zig_parse.specs.Passes.{after_token, alone, any_waits, begun_at, begun_for, finished, has_read_all, inside, is_closed, least_from, result_for, resumed_top, those_waiting}
use Rattle.zig_parse.specs.Surveys.{entered, entered_waiting, left, left_waiting, next_live, next_state, read_live, read_waiting}
use Rattle.zig_parse.proofs.Tables.{same_kind}
use Rattle.zig_parse.proofs.SameParts.{same_part}
use Rattle.zig_parse.proofs.Paths.{parts_of_items}
use Rattle.zig_parse.proofs.Reading.{Reads, joined_read}
use Rattle.zig_parse.proofs.Tidy.{tidy, tidy_apart, Left, is_closing}
use Rattle.zig_parse.proofs.Moving.{coming, Each, each_joined, each_kept, received_keeps, waits_brace, waits_front}
use Rattle.zig_parse.proofs.Opening.{Five, five_block, five_initializer, five_body, five_errors, five_switch}
use Rattle.zig_parse.proofs.Keeping.{all_go_on, goes_on, goes_on_by, keep_each, resumed_as, token_as}
use Rattle.zig_parse.proofs.Endings.{ends_before, first_or, may_follow, quick_all}
use Rattle.zig_parse.proofs.Lively.{Ended, GoesOn, GoesOnPlain, Lively, is_colon}
use Rattle.zig_parse.proofs.Lasting.{Alive, Around, around_none, around_brace, Gone, Lasts, Ready, Starts, Waits, Wanted, all_ready, begun_alive, gone_alive, is_file, least_wanted, ready_gone, waiting_all}

-- ---- the token is read

each_mapped : (P : Thread → Type 0) (f : Thread → Thread) (ts : List Thread) → Each (λ (t : Thread). P (f t)) ts → Each P (map f ts)
each_mapped P f [] h = tt
each_mapped P f (t ∷ ts) h = (h.0, each_mapped P f ts h.1)

none_waits : (ts : List Thread) → any_waits ts ≡ false → Each (λ (t : Thread). waits_for t ≡ None) ts
unfolding any_waits
none_waits [] h = tt
none_waits (t ∷ ts) h = by (waits_for t) refl h (none_waits ts)
  where
    by : (o : Option Part) → waits_for t ≡ o → (is_some o || any_waits ts) ≡ false → (any_waits ts ≡ false → Each (λ (u : Thread). waits_for u ≡ None) ts) → (waits_for t ≡ None) × Each (λ (u : Thread). waits_for u ≡ None) ts
    by None e k more = (e, more k)
    by (Some p) e k more = absurd (cc)

some_waits : (waiting : List (List Thread)) (read : List TokenKind) (look : Look) (ts : List Thread) → Each (Ready waiting read look) ts → any_waits ts ≡ true → look.kind ≡ kind.LeftBrace
unfolding any_waits
some_waits waiting read look [] h e = absurd (cc)
some_waits waiting read look (t ∷ ts) h e = by (waits_for t) refl e (some_waits waiting read look ts h.1)
  where
    by : (o : Option Part) → waits_for t ≡ o → (is_some o || any_waits ts) ≡ true → (any_waits ts ≡ true → look.kind ≡ kind.LeftBrace) → look.kind ≡ kind.LeftBrace
    by None w k more = more k
    by (Some p) w k more = same_kind look.kind kind.LeftBrace (waits_brace look t p h.0.reads w)

read_all : (waiting : List (List Thread)) (read : List TokenKind) (look : Look) (ts : List Thread) → Each (Ready waiting read look) ts → Each (λ (t : Thread). waits_for t ≡ None) ts → Each (Gone waiting (read ++ look.kind ∷ []) look.kind look.next) (map after_read ts)
read_all waiting read look [] h w = tt
read_all waiting read look (t ∷ ts) h w = (ready_gone waiting read look t h.0 w.0, read_all waiting read look ts h.1 w.1)

abbrev Inside : List Thread → List (List Thread) → Look → Thread → Type 0
Inside those waiting look t = Gone (those ∷ waiting) (kind.LeftBrace ∷ []) kind.LeftBrace look.next (after_read t)

for_inside : (those : List Thread) (waiting : List (List Thread)) (look : Look) (p : Part) → Five p → look.kind ≡ kind.LeftBrace → Each (Inside those waiting look) (begun_for look those p)
for_inside those waiting look p f is = by (least_from None p those) refl
  where
    by : (o : Option ℕ) → least_from None p those ≡ o → Each (Inside those waiting look) (begun_at look p o)
    by None e = tt
    by (Some d) e = (begun_alive those waiting look p d f is (least_wanted None p those refl d e), tt)

inside_all : (those : List Thread) (waiting : List (List Thread)) (look : Look) → look.kind ≡ kind.LeftBrace → Each (Inside those waiting look) (inside look those)
unfolding inside
inside_all those waiting look is =
    let P = Inside those waiting look in
    let one = λ (p : Part) (f : Five p). for_inside those waiting look p f is in
    let block = begun_for look those (part.Rule rule.Block) in
    let initializer = begun_for look those (part.Rule rule.Initializer) in
    let body = begun_for look those (part.Rule rule.ContainerBody) in
    let errors = begun_for look those (part.Group group.ErrorBraces) in
    let switch = begun_for look those (part.Group group.SwitchBraces) in
    each_joined P block (initializer ++ (body ++ (errors ++ switch))) (one (part.Rule rule.Block) five_block)
    (each_joined P initializer (body ++ (errors ++ switch)) (one (part.Rule rule.Initializer) five_initializer)
    (each_joined P body (errors ++ switch) (one (part.Rule rule.ContainerBody) five_body)
    (each_joined P errors switch (one (part.Group group.ErrorBraces) five_errors) (one (part.Group group.SwitchBraces) five_switch))))

kept_token : (P : Thread → Type 0) (ts : List Thread) → Each P (map after_read ts) → Each P (after_token [] ts)
kept_token P ts h = subst (λ (l : List Thread). Each P l) (sym (token_as [] ts)) (keep_each P [] (map after_read ts) tt h)

-- once the token is read
pub record Passed (live : List Thread) (waiting : List (List Thread)) (front : List TokenKind) (k n : TokenKind) : Type 0 where
  pub before : List TokenKind
  pub read : List TokenKind
  pub front_is : front ≡ before ++ read
  pub around : Around before waiting
  pub starts : Starts waiting read
  pub gone : Each (Gone waiting read k n) live

starts_more : (waiting : List (List Thread)) (read : List TokenKind) (k : TokenKind) → Starts waiting read → Starts waiting (read ++ k ∷ [])
starts_more [] read k s = tt
starts_more (those ∷ waiting) read k s = (s.0 ++ k ∷ [], ap (λ (l : List TokenKind). l ++ k ∷ []) s.1)

pub passes : (look : Look) (at : ℕ) (s : State) (front : List TokenKind) → Lasts s.live s.waiting front look.kind → Passed (read_live look at s) (read_waiting look at s) (front ++ look.kind ∷ []) look.kind look.next
unfolding read_live read_waiting entered entered_waiting
passes look at s front l = by (any_waits ready) refl
  where
    ready : List Thread
    ready = settled_all look at s.live

    each : Each (Ready s.waiting l.read look) ready
    each = all_ready s.waiting l.read look at s.live l.alive

    by : (b : Bool) → any_waits ready ≡ b → Passed (after_token [] (if b then inside look (those_waiting ready) else ready)) (if b then those_waiting ready ∷ s.waiting else s.waiting) (front ++ look.kind ∷ []) look.kind look.next
    by false e = record {
      before = l.before;
      read = l.read ++ look.kind ∷ [];
      front_is = ap (λ (x : List TokenKind). x ++ look.kind ∷ []) l.front_is ∙ append_assoc l.before l.read (look.kind ∷ []);
      around = l.around;
      starts = starts_more s.waiting l.read look.kind l.starts;
      gone = kept_token (Gone s.waiting (l.read ++ look.kind ∷ []) look.kind look.next) ready (read_all s.waiting l.read look ready each (none_waits ready e));
    }
    by true e =
        (let is = some_waits s.waiting l.read look ready each e in
        let those = those_waiting ready in
        record {
          before = l.before ++ l.read;
          read = kind.LeftBrace ∷ [];
          front_is = ap (λ (x : List TokenKind). x ++ look.kind ∷ []) l.front_is ∙ ap (λ (k : TokenKind). (l.before ++ l.read) ++ k ∷ []) is;
          around = around_brace l.before l.read those s.waiting l.around l.starts (waiting_all s.waiting l.read look ready each);
          starts = ([], refl);
          gone = kept_token (Gone (those ∷ s.waiting) (kind.LeftBrace ∷ []) look.kind look.next) (inside look those)
              (each_mapped (Gone (those ∷ s.waiting) (kind.LeftBrace ∷ []) look.kind look.next) after_read (inside look those)
              (subst (λ (k : TokenKind). Each (λ (t : Thread). Gone (those ∷ s.waiting) (kind.LeftBrace ∷ []) k look.next (after_read t)) (inside look those)) (sym is) (inside_all those s.waiting look is)));
        })

-- ---- a brace is closed

pub closing_not : is_closing kind.RightBrace ≡ false → ⊥
unfolding number_of
closing_not h = cc

-- what was read for a part is there, whatever comes after it
result_read : (waiting : List (List Thread)) (read : List TokenKind) (k n : TokenKind) (live : List Thread) (p : Part) (f : Finished) → is_file waiting ≡ false → k ≡ kind.RightBrace → Each (Gone waiting read k n) live → result_for (map finished live) p ≡ Some f
    → (c : List TokenKind) → Reads (p ∷ []) (read ++ c) c
unfolding result_for
result_read waiting read k n [] p f file close h e c = absurd (cc)
result_read waiting read k n (t ∷ ts) p f file close h e c = by (is_part t.goal p) refl e (λ g. result_read waiting read k n ts p f file close h.1 g c)
  where
    none_left : Left false kind.RightBrace (coming t) → coming t ≡ []
    none_left (inl x) = x.1
    none_left (inr x) = absurd (closing_not x.0)

    empty : coming t ≡ []
    empty = none_left (subst (λ (b : Bool). Left b kind.RightBrace (coming t)) file (subst (λ (j : TokenKind). Left (is_file waiting) j (coming t)) close h.0.left))

    story : GoesOn read t.goal (coming t) ⊎ ((is_colon n ≡ false) × ((qs : List Part) × (coming t ≡ part.Group group.SuffixTail ∷ qs)) × GoesOnPlain read t.goal (coming t)) → Reads (t.goal ∷ []) (read ++ c) c
    story (inl s) = s c c (subst (λ (l : List Part). Reads l c c) (sym empty) (nothing, derives_none c))
    story (inr s) = absurd (let wrong : [] ≡ part.Group group.SuffixTail ∷ s.1.0 = sym empty ∙ s.1.1 in cc)

    by : (b : Bool) → is_part t.goal p ≡ b → (if b then Some (finished t) else result_for (map finished ts) p) ≡ Some f → (result_for (map finished ts) p ≡ Some f → Reads (p ∷ []) (read ++ c) c) → Reads (p ∷ []) (read ++ c) c
    by true g e more = subst (λ (q : Part). Reads (q ∷ []) (read ++ c) c) (same_part t.goal p g) (story h.0.lively.story)
    by false g e more = more e

resumes : (waiting : List (List Thread)) (read inner : List TokenKind) (n : TokenKind) (w : Thread) (f : Finished) (h : Waits waiting read w) → ((more : List TokenKind) × (inner ≡ kind.LeftBrace ∷ more)) → ((c : List TokenKind) → Reads (h.p ∷ []) (inner ++ c) c)
    → Alive waiting (read ++ inner) n (with_choices f.choices (received f.height w))
resumes waiting read inner n w f h starts whole =
    let first = waits_front w h.p h.waits in
    let keep = received_keeps f.height w in
    let tail = parts_of_items (rest w.items) in
    let u = with_choices f.choices (received f.height w) in
    let now : coming u ≡ tail = ap parts_of_items keep.0 in
    let ended : Ended w.goal tail = λ k e. (and_parts (may_follow (first_or (quick_all tail) k) h.p) (ends_before k tail) (subst (λ (l : List Part). ends_before k l ≡ true) first.first (h.ended k e))).1 in
    let story : GoesOn (read ++ inner) w.goal tail = λ c end r.
    (let both = joined_read (h.p ∷ []) tail (inner ++ c) c end (whole c) r in
    let same : inner ++ c ≡ kind.LeftBrace ∷ (starts.0 ++ c) = ap (λ (l : List TokenKind). l ++ c) starts.1 in
    let done = h.story (starts.0 ++ c) end (subst (λ (l : List TokenKind). Reads (coming w) l end) same (subst (λ (l : List Part). Reads l (inner ++ c) end) (sym first.first) both)) in
    subst (λ (l : List TokenKind). Reads (w.goal ∷ []) l end) (ap (λ (l : List TokenKind). read ++ l) (sym same) ∙ sym (append_assoc read inner c)) done) in
    record {
      lively = subst (λ (g : Part). Lively (read ++ inner) n g (coming u)) (sym keep.1) (subst (λ (l : List Part). Lively (read ++ inner) n w.goal l) (sym now) (record { story = inl story; ended = ended }));
      tidies = subst (λ (l : List Part). tidy (is_file waiting) l ≡ true) (sym now) (tidy_apart (is_file waiting) h.p tail first.apart (subst (λ (l : List Part). tidy (is_file waiting) l ≡ true) first.first h.tidies)).0;
      wanted = subst (Wanted waiting) (sym keep.1) h.wanted;
    }

one_resumes : (those : List Thread) (waiting : List (List Thread)) (read inner : List TokenKind) (k n : TokenKind) (live : List Thread) (w : Thread) → k ≡ kind.RightBrace → Each (Gone (those ∷ waiting) inner k n) live → Starts (those ∷ waiting) inner → Waits waiting read w
    → Each (Alive waiting (read ++ inner) n) (goes_on_by (map finished live) w (waits_for w))
unfolding goes_on_by goes_on
one_resumes those waiting read inner k n live w close gone starts h =
    subst (λ (o : Option Part). Each (Alive waiting (read ++ inner) n) (goes_on_by (map finished live) w o)) (sym h.waits) (by (result_for (map finished live) h.p) refl)
  where
    by : (o : Option Finished) → result_for (map finished live) h.p ≡ o → Each (Alive waiting (read ++ inner) n) (goes_on w o)
    by None e = tt
    by (Some f) e = (resumes waiting read inner n w f h starts (result_read (those ∷ waiting) inner k n live h.p f refl close gone e), tt)

all_resume : (those : List Thread) (waiting : List (List Thread)) (read inner : List TokenKind) (k n : TokenKind) (live ws : List Thread) → k ≡ kind.RightBrace → Each (Gone (those ∷ waiting) inner k n) live → Starts (those ∷ waiting) inner → Each (Waits waiting read) ws
    → Each (Alive waiting (read ++ inner) n) (all_go_on (map finished live) ws)
unfolding all_go_on
all_resume those waiting read inner k n live [] close gone starts h = tt
all_resume those waiting read inner k n live (w ∷ ws) close gone starts h =
    each_joined (Alive waiting (read ++ inner) n) (goes_on_by (map finished live) w (waits_for w)) (all_go_on (map finished live) ws) (one_resumes those waiting read inner k n live w close gone starts h.0) (all_resume those waiting read inner k n live ws close gone starts h.1)

closed_by : (live : List Thread) (waiting : List (List Thread)) (before read : List TokenKind) (k n : TokenKind) → k ≡ kind.RightBrace → Around before waiting → Starts waiting read → Each (Gone waiting read k n) live
    → Lasts (resumed_top (map finished live) waiting) (rest waiting) (before ++ read) n
closed_by live [] before read k n close a starts gone = record { before = []; read = before ++ read; front_is = refl; around = around_none; starts = tt; alive = tt }
closed_by live (those ∷ waiting) before read k n close (around_brace front outer _ _ a s each) starts gone = record {
  before = front;
  read = outer ++ read;
  front_is = append_assoc front outer read;
  around = a;
  starts = starts_on waiting outer read s;
  alive = subst (λ (l : List Thread). Each (Alive waiting (outer ++ read) n) l) (sym (resumed_as (map finished live) [] those))
      (keep_each (Alive waiting (outer ++ read) n) [] (all_go_on (map finished live) those) tt (all_resume those waiting outer read k n live those close gone starts each));
}
  where
    starts_on : (waiting : List (List Thread)) (x y : List TokenKind) → Starts waiting x → Starts waiting (x ++ y)
    starts_on [] x y s = tt
    starts_on (ts ∷ more) x y s = (s.0 ++ y, ap (λ (l : List TokenKind). l ++ y) s.1)

leaves : (look : Look) (live : List Thread) (waiting : List (List Thread)) (front : List TokenKind) → Passed live waiting front look.kind look.next → Lasts (left look live waiting) (left_waiting look live waiting) front look.next
unfolding left left_waiting is_closed
leaves look live waiting front p = by (is_closed look live) refl
  where
    brace : is_closed look live ≡ true → look.kind ≡ kind.RightBrace
    brace e = same_kind look.kind kind.RightBrace (and_parts (is_kind look.kind kind.RightBrace) (has_read_all live) e).0

    by : (b : Bool) → is_closed look live ≡ b → Lasts (if b then resumed_top (map finished live) waiting else live) (if b then rest waiting else waiting) front look.next
    by false e = record { before = p.before; read = p.read; front_is = p.front_is; around = p.around; starts = p.starts; alive = each_kept (Gone waiting p.read look.kind look.next) (Alive waiting p.read look.next) live (gone_alive waiting p.read look.kind look.next) p.gone }
    by true e = subst (λ (l : List TokenKind). Lasts (resumed_top (map finished live) waiting) (rest waiting) l look.next) (sym p.front_is) (closed_by live waiting p.before p.read look.kind look.next (brace e) p.around p.starts p.gone)

-- ---- a token

-- the threads after a token, before one alone has its choices marked
pub lasts_live : (look : Look) (at : ℕ) (s : State) (front : List TokenKind) → Lasts s.live s.waiting front look.kind → Lasts (next_live look at s) (left_waiting look (read_live look at s) (read_waiting look at s)) (front ++ look.kind ∷ []) look.next
unfolding next_live
lasts_live look at s front l = leaves look (read_live look at s) (read_waiting look at s) (front ++ look.kind ∷ []) (passes look at s front l)

alone_each : (waiting : List (List Thread)) (read : List TokenKind) (n : TokenKind) (ts : List Thread) → Each (Alive waiting read n) ts → Each (Alive waiting read n) (alone ts)
alone_each waiting read n [] h = h
alone_each waiting read n (t ∷ []) h = (record { lively = h.0.lively; tidies = h.0.tidies; wanted = h.0.wanted }, tt)
alone_each waiting read n (t ∷ u ∷ ts) h = h

pub lasts_next : (look : Look) (at : ℕ) (s : State) (front : List TokenKind) → Lasts s.live s.waiting front look.kind → Lasts (next_state look at s).live (next_state look at s).waiting (front ++ look.kind ∷ []) look.next
unfolding next_state
lasts_next look at s front l =
    let x = lasts_live look at s front l in
    record { before = x.before; read = x.read; front_is = x.front_is; around = x.around; starts = x.starts; alive = alone_each (left_waiting look (read_live look at s) (read_waiting look at s)) x.read look.next (next_live look at s) x.alive }
