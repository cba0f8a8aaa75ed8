-- After a token the first pass has the thread of the path still, also where the token ends a brace.
use Rattle.std.proofs.Common.{◌≡◌, ℕ, ◌+◌, Bool, true, false, ◌&&◌, ◌||◌, ◌⊎◌, inl, inr, List, [], ◌∷◌, ◌++◌, map, length, Option, Some, None, refl, sym, ◌∙◌, ap, subst, arith, append_assoc, append-nil}
use Rattle.std.specs.Prelude.{if◌then◌else◌, nat_eq, not}
use Rattle.std.proofs.lemmas.Bool.{and_from}
use Rattle.zig_tree.specs.declared.token.TokenKind.{TokenKind}
use Rattle.zig_tree.specs.declared.token.TokenKind.TheVariants as kind
use Rattle.zig_tree.specs.declared.grammar.Rule.TheVariants as rule
use Rattle.zig_tree.specs.declared.grammar.Part.{Part}
use Rattle.zig_tree.specs.declared.grammar.Part.TheVariants as part
use Rattle.zig_tree.specs.Kinds.{is_kind, is_part, number_of}
use Rattle.zig_tree.specs.GrammarSentences.{Pieces, nothing, followed, Derives, derives_none}
use Rattle.zig_parse.specs.declared.choice.Look.{Look}
use Rattle.zig_parse.specs.declared.thread.Move.{Move}
use Rattle.zig_parse.specs.declared.thread.Item.{Item}
use Rattle.zig_parse.specs.declared.thread.Thread.{Thread}
use Rattle.zig_parse.specs.declared.survey.Finished.{Finished}
use Rattle.zig_parse.specs.Stack.{rest}
use Rattle.zig_parse.specs.Threads.{after_read, received, risen, with_choices}
use Rattle.zig_parse.specs.Moves.{waits_for}
use Rattle.zig_parse.specs.declared.thread.Move.TheVariants as move
use Rattle.zig_parse.specs.declared.survey.Verdict.TheVariants as verdict
use Rattle.zig_parse.specs.Moves.{covers_items, goes_as_far, move_from, next_move}
use Rattle.zig_parse.specs.Passes.{after_token, all_deep, finished, is_among, verdict_of, has_read_all, is_closed, own_height, result_for, resumed}
use Rattle.zig_parse.specs.Surveys.{left, left_waiting}
use Rattle.zig_parse.proofs.Steps.{covers_none}
use Rattle.zig_parse.proofs.Derived.{joined_derived}
use Rattle.zig_parse.proofs.Tables.{same_kind}
use Rattle.zig_parse.specs.Ways.{Fork}
use Rattle.zig_parse.proofs.Paths.{Path, Seen, Told, path_ends, path_closes, path_rule, path_group, path_reads, path_waits, look_of, parts_of_items}
use Rattle.zig_parse.proofs.Layers.{Spot}
use Rattle.zig_parse.proofs.SameParts.{same_part}
use Rattle.zig_parse.proofs.Tidy.{tidy, is_closing, closer, is_kind_same, tidy_apart}
use Rattle.zig_parse.proofs.Free.{own, path_own, read_own}
use Rattle.zig_parse.proofs.Moving.{coming, Each, each_at, each_joined, each_kept, read_keeps, received_keeps, waits_front}
use Rattle.zig_parse.proofs.Opening.{path_derives}
use Rattle.zig_parse.proofs.Settling.{Dead}
use Rattle.zig_parse.proofs.Keeping.{keep_all, keep_each, keeps_it, token_as, resumed_as, all_go_on, goes_on_by, goes_on, go_on_joined}
use Rattle.zig_parse.proofs.Living.{Around, at_root, in_brace, Good, Gone, tidy_shorter}
use Rattle.zig_parse.proofs.Tracking.{Tracked, AtToken}
use Rattle.zig_parse.proofs.Entering.{each_both, each_front, part_is}

-- ---- the token is read

-- after the token, where what has read it may have reached the end of its brace
pub record AfterToken (low : ℕ → Type 0) (top total at : ℕ) (k : TokenKind) (more : List TokenKind) (live : List Thread) (waiting : List (List Thread)) (ds : List ℕ) (forks : List Fork) : Type 0 where
  pub root : Bool
  pub goal : Part
  pub from : List TokenKind
  pub end : List TokenKind
  pub height : ℕ
  pub told : Told
  pub x : Thread
  pub before : List Thread
  pub after : List Thread
  pub cs : List ℕ
  pub inner : List Fork
  pub outer : List Fork
  pub live_is : live ≡ before ++ x ∷ after
  pub goal_is : x.goal ≡ goal
  pub seen : Seen told.spot (at + 1) more end x.frames x.items
  pub path : Path true low told false x (at + 1) more end height inner
  pub shallow : told.is ≡ true → low (at + 1) → x.deep ≡ false
  pub gone : Each (Gone root from k more) live
  pub dead : Each (Dead goal more end) before
  pub hears : (told.is ≡ true) ⊎ (low (at + 1) → ⊥)
  pub around : Around low top total told.spot waiting goal from end height root cs outer
  pub choices_are : ds ≡ x.choices ++ cs
  pub forks_are : forks ≡ inner ++ outer
  pub place : at + 1 + length more ≡ total
  pub kept : (all : List Thread) × (live ≡ keep_all [] all) × Each (Gone root from k more) all

map_joined : (f : Thread → Thread) (a b : List Thread) → map f (a ++ b) ≡ map f a ++ map f b
map_joined f [] b = refl
map_joined f (t ∷ a) b = ap (λ (l : List Thread). f t ∷ l) (map_joined f a b)

map_each : (P : Thread → Type 0) (f : Thread → Thread) (ts : List Thread) → Each (λ (t : Thread). P (f t)) ts → Each P (map f ts)
map_each P f [] h = tt
map_each P f (t ∷ ts) h = (h.0, map_each P f ts h.1)

read_choices : (t : Thread) → (after_read t).choices ≡ t.choices
unfolding after_read
read_choices t = ap (λ (u : Thread). u.choices) (read_own t.choices t)

pub after_path : (low : ℕ → Type 0) (top total at : ℕ) (k : TokenKind) (more : List TokenKind) (ready : List Thread) (waiting : List (List Thread)) (ds : List ℕ) (forks : List Fork)
    → AtToken low top total at k more ready waiting ds forks → AfterToken low top total at k more (after_token [] ready) waiting ds forks
after_path low top total at k more ready waiting ds forks t =
    let x = after_read t.x in
    let goal_is : x.goal ≡ t.goal = (read_keeps t.x).1 ∙ t.goal_is in
    let d = path_derives low t.told false x (at + 1) more t.end t.height t.inner t.path in
    let all_is : map after_read ready ≡ map after_read t.before ++ x ∷ map after_read t.after = ap (map after_read) t.ready_is ∙ map_joined after_read t.before (t.x ∷ t.after) in
    let all_gone : Each (Gone t.root t.from k more) (map after_read ready) = map_each (Gone t.root t.from k more) after_read ready t.gone in
    let whole : after_token [] ready ≡ keep_all [] (map after_read ready) = token_as [] ready in
    let keeps = keeps_it t.goal more t.end (map after_read t.before) (map after_read t.after) x d.0 goal_is d.1 (map_each (Dead t.goal more t.end) after_read t.before t.dead) in
    record {
      root = t.root;
      goal = t.goal;
      from = t.from;
      end = t.end;
      height = t.height;
      told = t.told;
      x = x;
      before = keeps.before;
      after = keeps.after;
      cs = t.cs;
      inner = t.inner;
      outer = t.outer;
      live_is = whole ∙ ap (keep_all []) all_is ∙ keeps.is;
      goal_is = goal_is;
      seen = t.seen;
      path = t.path;
      shallow = t.shallow;
      gone = subst (Each (Gone t.root t.from k more)) (sym whole) (keep_each (Gone t.root t.from k more) [] (map after_read ready) tt all_gone);
      dead = keeps.dead;
      hears = t.hears;
      around = t.around;
      choices_are = t.choices_are ∙ ap (λ (l : List ℕ). l ++ t.cs) (sym (read_choices t.x));
      forks_are = t.forks_are;
      place = t.place;
      kept = (map after_read ready, whole, all_gone);
    }

-- ---- a path at its end

stops : (look : Look) (n : ℕ) (is : List Item) (m : Move) → is ≡ [] → move_from look true n is ≡ m → m ≡ move.Stop
stops look n [] m e h = sym h
stops look n (i ∷ is) m e h = absurd (cc)

pub record Done (t : Thread) (tokens end : List TokenKind) (height : ℕ) (forks : List Fork) : Type 0 where
  pub ended : tokens ≡ end
  pub tall : height ≡ risen 0 t.frames
  pub no_forks : forks ≡ []

pub path_done : (low : ℕ → Type 0) (told : Told) (calm : Bool) (t : Thread) (at : ℕ) (tokens end : List TokenKind) (height : ℕ) (forks : List Fork) → t.items ≡ [] → Path true low told calm t at tokens end height forks → Done t tokens end height forks
unfolding next_move
path_done low told calm t at tokens end height forks e (path_ends _ _ _ _ _ _) = record { ended = refl; tall = refl; no_forks = refl }
path_done low told calm t at tokens end height forks e (path_closes _ _ _ _ _ _ _ _ g _) = absurd (let h : move.Close ≡ move.Stop = stops (look_of tokens) (length t.frames) t.items move.Close e g in cc)
path_done low told calm t at tokens end height forks e (path_rule _ _ _ _ _ _ _ _ r _ _ g _ _ _) = absurd (let h : move.Rule r ≡ move.Stop = stops (look_of tokens) (length t.frames) t.items (move.Rule r) e g in cc)
path_done low told calm t at tokens end height forks e (path_group _ _ _ _ _ _ _ _ r _ _ g _ _ _) = absurd (let h : move.Group r ≡ move.Stop = stops (look_of tokens) (length t.frames) t.items (move.Group r) e g in cc)
path_done low told calm t at tokens end height forks e (path_reads _ _ _ _ k more _ _ _ g _ _ _ _) = absurd (let h : move.Read ≡ move.Stop = stops (look_of (k ∷ more)) (length t.frames) t.items move.Read e g in cc)
path_done low told calm t at tokens end height forks e (path_waits _ _ _ _ more _ _ _ _ _ _ _ _ _ g _ _ _ _ _ _ _) = absurd (let h : move.Read ≡ move.Stop = stops (look_of (kind.LeftBrace ∷ more)) (length t.frames) t.items move.Read e g in cc)

no_parts : (is : List Item) → parts_of_items is ≡ [] → is ≡ []
no_parts [] e = refl
no_parts (i ∷ is) e = absurd (cc)

-- ---- what is left off

-- the last token is read
pub record Ended (top : ℕ) (k : TokenKind) (more : List TokenKind) (live : List Thread) (waiting : List (List Thread)) (ds : List ℕ) (forks : List Fork) : Type 0 where
  pub x : Thread
  pub live_is : live ≡ x ∷ []
  pub no_tokens : more ≡ []
  pub no_waiting : waiting ≡ []
  pub last : k ≡ kind.End
  pub tall : top ≡ risen 0 x.frames
  pub goal_is : x.goal ≡ part.Rule rule.Root
  pub no_forks : forks ≡ []
  pub choices_are : ds ≡ x.choices

pub record LeftOff (low : ℕ → Type 0) (top total at : ℕ) (k : TokenKind) (more : List TokenKind) (live : List Thread) (waiting : List (List Thread)) (ds : List ℕ) (forks : List Fork) : Type 0 where
  pub state : Tracked low top total (at + 1) more live waiting ds forks ⊎ Ended top k more live waiting ds forks
  pub some : (spared : Bool) → verdict_of spared live ≡ verdict.Unexpected → ⊥
  pub fine : (spared : Bool) → low (at + 1) → verdict_of spared live ≡ verdict.Fine

some_by : (t : Thread) (ts : List Thread) (b : Bool) → (if b then verdict.TooDeep else verdict.Fine) ≡ verdict.Unexpected → ⊥
some_by t ts true h = cc
some_by t ts false h = cc

verdict_some : (b a : List Thread) (x : Thread) (spared : Bool) → verdict_of spared (b ++ x ∷ a) ≡ verdict.Unexpected → ⊥
verdict_some [] a x spared h = some_by x a (all_deep (x ∷ a) && not spared) h
verdict_some (t ∷ b) a x spared h = some_by t (b ++ x ∷ a) (all_deep (t ∷ (b ++ x ∷ a)) && not spared) h

and_no : (x : Bool) → (x && false) ≡ false
and_no true = refl
and_no false = refl

deep_no : (b a : List Thread) (x : Thread) → x.deep ≡ false → all_deep (b ++ x ∷ a) ≡ false
unfolding all_deep
deep_no [] a x h = rw h refl
deep_no (t ∷ b) a x h = ap (λ (y : Bool). t.deep && y) (deep_no b a x h) ∙ and_no t.deep

verdict_fine : (b a : List Thread) (x : Thread) (spared : Bool) → x.deep ≡ false → verdict_of spared (b ++ x ∷ a) ≡ verdict.Fine
verdict_fine [] a x spared h = ap (λ (y : Bool). if y && not spared then verdict.TooDeep else verdict.Fine) (deep_no [] a x h)
verdict_fine (t ∷ b) a x spared h = ap (λ (y : Bool). if y && not spared then verdict.TooDeep else verdict.Fine) (deep_no (t ∷ b) a x h)

off_some : (live b a : List Thread) (x : Thread) → live ≡ b ++ x ∷ a → (spared : Bool) → verdict_of spared live ≡ verdict.Unexpected → ⊥
off_some live b a x e spared h = verdict_some b a x spared (ap (verdict_of spared) (sym e) ∙ h)

off_fine : (low : ℕ → Type 0) (n : ℕ) (told : Bool) (live b a : List Thread) (x : Thread) → live ≡ b ++ x ∷ a → (told ≡ true) ⊎ (low n → ⊥) → (told ≡ true → low n → x.deep ≡ false) → (spared : Bool) → low n → verdict_of spared live ≡ verdict.Fine
off_fine low n told live b a x e (inl t) f spared h = ap (verdict_of spared) e ∙ verdict_fine b a x spared (f t h)
off_fine low n told live b a x e (inr never) f spared h = absurd (never h)

-- ---- within a brace

closing_of : (root : Bool) (k : TokenKind) → k ≡ closer root → is_closing k ≡ true
unfolding number_of
closing_of true k e = ap is_closing e
closing_of false k e = ap is_closing e

both_ways : (b : Bool) → b ≡ true → b ≡ false → ⊥
both_ways b h k = let e : true ≡ false = sym h ∙ k in cc

gone_good : (root : Bool) (from : List TokenKind) (k : TokenKind) (more : List TokenKind) (y : Thread) → is_closing k ≡ false → Gone root from k more y → Good root from more y
gone_good root from k more y n g = record {
  sound = g.sound;
  tidies = elim g.left [
    | inl e ↦ absurd (both_ways (is_closing k) (closing_of root k e.0) n)
    | inr e ↦ e.1
  ];
  rooted = g.rooted;
}

gone_none : (root : Bool) (from : List TokenKind) (k : TokenKind) (more : List TokenKind) (y : Thread) → is_closing k ≡ true → Gone root from k more y → (k ≡ closer root) × (coming y ≡ [])
gone_none root from k more y n g = elim g.left [
  | inl e ↦ e
  | inr e ↦ absurd (both_ways (is_closing k) n e.0)
]

stay : (low : ℕ → Type 0) (top total at : ℕ) (k : TokenKind) (more : List TokenKind) (live : List Thread) (waiting : List (List Thread)) (ds : List ℕ) (forks : List Fork)
    → AfterToken low top total at k more live waiting ds forks → is_closing k ≡ false → LeftOff low top total at k more live waiting ds forks
stay low top total at k more live waiting ds forks t n =
    let gone_x : Gone t.root t.from k more t.x = each_at (Gone t.root t.from k more) t.before t.after t.x (subst (Each (Gone t.root t.from k more)) t.live_is t.gone) in
    let good_x = gone_good t.root t.from k more t.x n gone_x in
    let d = path_derives low t.told false t.x (at + 1) more t.end t.height t.inner t.path in
    let busy : coming t.x ≡ [] → ⊥ = (elim gone_x.left [
      | inl e ↦ absurd (both_ways (is_closing k) (closing_of t.root k e.0) n)
      | inr e ↦ e.2
    ]) in
    record {
      state = inl (record {
        root = t.root;
        goal = t.goal;
        from = t.from;
        end = t.end;
        height = t.height;
        told = t.told;
        x = t.x;
        before = t.before;
        after = t.after;
        cs = t.cs;
        inner = t.inner;
        outer = t.outer;
        live_is = t.live_is;
        goal_is = t.goal_is;
        seen = t.seen;
        path = t.path;
        shorter = tidy_shorter t.root (coming t.x) more t.end d.0 good_x.tidies busy d.1;
        good = each_kept (Gone t.root t.from k more) (Good t.root t.from more) live (λ y g. gone_good t.root t.from k more y n g) t.gone;
        dead = t.dead;
        hears = t.hears;
        around = t.around;
        choices_are = t.choices_are;
        forks_are = t.forks_are;
        place = t.place;
      });
      some = off_some live t.before t.after t.x t.live_is;
      fine = off_fine low (at + 1) t.told.is live t.before t.after t.x t.live_is t.hears t.shallow;
    }

-- ---- the end of the file

abbrev IsSpent : Thread → Type 0
IsSpent y = (y.goal ≡ part.Rule rule.Root) × (y.items ≡ [])

spent_same : (a b : Thread) → IsSpent a → IsSpent b → goes_as_far a b ≡ true
unfolding goes_as_far
spent_same a b h k = and_from (is_part a.goal b.goal) (covers_items a.items b.items) (subst (λ (p : Part). is_part a.goal p ≡ true) (h.0 ∙ sym k.0) (part_is a.goal)) (covers_none a.items b.items h.1 k.1)

kept_none : (kept : List Thread) (t : Thread) (b : Bool) → b ≡ true → (if b then kept else kept ++ t ∷ []) ≡ kept
kept_none kept t true h = refl
kept_none kept t false h = absurd (cc)

spent_among : (s t : Thread) → IsSpent s → IsSpent t → is_among (s ∷ []) t ≡ true
unfolding is_among
spent_among s t h k = ap (λ (b : Bool). b || false) (spent_same s t h k)

spent_kept : (s : Thread) (ts : List Thread) → IsSpent s → Each IsSpent ts → keep_all (s ∷ []) ts ≡ s ∷ []
unfolding keep_all
spent_kept s [] h k = refl
spent_kept s (t ∷ ts) h k = ap (λ (l : List Thread). keep_all l ts) (kept_none (s ∷ []) t (is_among (s ∷ []) t) (spent_among s t h k.0)) ∙ spent_kept s ts h k.1

-- threads that have nothing to come are one
spent_one : (all b a : List Thread) (x : Thread) → keep_all [] all ≡ b ++ x ∷ a → Each IsSpent all → (b ≡ []) × (a ≡ [])
unfolding keep_all is_among
spent_one [] [] a x e h = absurd (cc)
spent_one [] (t ∷ b) a x e h = absurd (cc)
spent_one (s ∷ ts) b a x e h = one_of s b a x (sym (spent_kept s ts h.0 h.1) ∙ e)
  where
    one_of : (s : Thread) (b a : List Thread) (x : Thread) → s ∷ [] ≡ b ++ x ∷ a → (b ≡ []) × (a ≡ [])
    one_of s [] [] x e = (refl, refl)
    one_of s [] (t ∷ a) x e = absurd (cc)
    one_of s (t ∷ []) a x e = absurd (cc)
    one_of s (t ∷ u ∷ b) a x e = absurd (cc)

record Outermost (top height : ℕ) (waiting : List (List Thread)) (end : List TokenKind) (cs : List ℕ) (outer : List Fork) : Type 0 where
  height_is : height ≡ top
  end_none : end ≡ []
  waiting_none : waiting ≡ []
  cs_none : cs ≡ []
  outer_none : outer ≡ []

outermost : (low : ℕ → Type 0) (top total : ℕ) (spot : Spot) (waiting : List (List Thread)) (goal : Part) (from end : List TokenKind) (height : ℕ) (root : Bool) (cs : List ℕ) (outer : List Fork) → root ≡ true → Around low top total spot waiting goal from end height root cs outer → Outermost top height waiting end cs outer
outermost low top total spot waiting goal from end height root cs outer e (at_root _ _ _) = record { height_is = refl; end_none = refl; waiting_none = refl; cs_none = refl; outer_none = refl }
outermost low top total spot waiting goal from end height root cs outer e (in_brace _ _ _ _ _ _ _ _ _ _ _ _ _ _ _ _ _ _ _ _ _ _ _ _ _ _ _ _ _ _ _ _ _) = absurd (cc)

root_of : (root : Bool) (k : TokenKind) → k ≡ closer root → is_kind k kind.RightBrace ≡ false → root ≡ true
root_of true k e n = refl
root_of false k e n = absurd (both_ways (is_kind k kind.RightBrace) (ap (λ (j : TokenKind). is_kind j kind.RightBrace) e ∙ is_kind_same kind.RightBrace) n)

finish : (low : ℕ → Type 0) (top total at : ℕ) (k : TokenKind) (more : List TokenKind) (live : List Thread) (waiting : List (List Thread)) (ds : List ℕ) (forks : List Fork)
    → AfterToken low top total at k more live waiting ds forks → is_closing k ≡ true → is_kind k kind.RightBrace ≡ false → LeftOff low top total at k more live waiting ds forks
finish low top total at k more live waiting ds forks t c n =
    let gone_x : Gone t.root t.from k more t.x = each_at (Gone t.root t.from k more) t.before t.after t.x (subst (Each (Gone t.root t.from k more)) t.live_is t.gone) in
    let none_x = gone_none t.root t.from k more t.x c gone_x in
    let root : t.root ≡ true = root_of t.root k none_x.0 n in
    let out = outermost low top total t.told.spot waiting t.goal t.from t.end t.height t.root t.cs t.outer root t.around in
    let done = path_done low t.told false t.x (at + 1) more t.end t.height t.inner (no_parts t.x.items none_x.1) t.path in
    let spent : Each IsSpent t.kept.0 = each_kept (Gone t.root t.from k more) IsSpent t.kept.0 (λ y g. (g.rooted root, no_parts y.items (gone_none t.root t.from k more y c g).1)) t.kept.2 in
    let one = spent_one t.kept.0 t.before t.after t.x (sym t.kept.1 ∙ t.live_is) spent in
    let live_one : live ≡ t.x ∷ [] = t.live_is ∙ ap (λ (l : List Thread). l ++ t.x ∷ t.after) one.0 ∙ ap (λ (l : List Thread). t.x ∷ l) one.1 in
    record {
      state = inr (record {
        x = t.x;
        live_is = live_one;
        no_tokens = done.ended ∙ out.end_none;
        no_waiting = out.waiting_none;
        last = none_x.0 ∙ ap closer root;
        tall = sym out.height_is ∙ done.tall;
        goal_is = gone_x.rooted root;
        no_forks = t.forks_are ∙ ap (λ (l : List Fork). l ++ t.outer) done.no_forks ∙ out.outer_none;
        choices_are = t.choices_are ∙ ap (λ (l : List ℕ). t.x.choices ++ l) out.cs_none ∙ append-nil t.x.choices;
      });
      some = off_some live t.before t.after t.x t.live_is;
      fine = off_fine low (at + 1) t.told.is live t.before t.after t.x t.live_is t.hears t.shallow;
    }

-- ---- the end of a brace

brace_closing : (k : TokenKind) → is_kind k kind.RightBrace ≡ true → is_closing k ≡ true
brace_closing k h = ap (λ (b : Bool). b || is_kind k kind.End) h

-- what a thread of the brace read, all of it, up to the token after it
abbrev IsRead : List TokenKind → List TokenKind → Thread → Type 0
IsRead from mid y = (q : Pieces) × Derives (y.goal ∷ []) from mid q

gone_read : (root : Bool) (from : List TokenKind) (k : TokenKind) (mid : List TokenKind) (y : Thread) → is_closing k ≡ true → Gone root from k mid y → IsRead from mid y
gone_read root from k mid y c g = g.sound mid nothing (subst (λ (l : List Part). Derives l mid mid nothing) (sym (gone_none root from k mid y c g).1) (derives_none mid))

-- an answer for a part is a thread's that read it
found_by : (from mid : List TokenKind) (q : Part) (f : Finished) (y : Thread) (ts : List Thread) (b : Bool) → is_part y.goal q ≡ b → IsRead from mid y → (if b then Some (finished y) else result_for (map finished ts) q) ≡ Some f
    → (result_for (map finished ts) q ≡ Some f → (p : Pieces) × Derives (q ∷ []) from mid p) → (p : Pieces) × Derives (q ∷ []) from mid p
found_by from mid q f y ts true e h k other = (h.0, subst (λ (x : Part). Derives (x ∷ []) from mid h.0) (same_part y.goal q e) h.1)
found_by from mid q f y ts false e h k other = other k

found_read : (from mid : List TokenKind) (q : Part) (f : Finished) (ts : List Thread) → Each (IsRead from mid) ts → result_for (map finished ts) q ≡ Some f → (p : Pieces) × Derives (q ∷ []) from mid p
unfolding result_for
found_read from mid q f [] h e = absurd (cc)
found_read from mid q f (y ∷ ts) h e = found_by from mid q f y ts (is_part y.goal q) refl h.0 e (λ k. found_read from mid q f ts h.1 k)

if_yes : {T : Type 0} (b : Bool) (x y : T) → b ≡ true → (if b then x else y) ≡ x
if_yes true x y h = refl
if_yes false x y h = absurd (cc)

if_no : {T : Type 0} (b : Bool) (x y : T) → b ≡ false → (if b then x else y) ≡ y
if_no true x y h = absurd (cc)
if_no false x y h = refl

no_part : (p q : Part) (b : Bool) → is_part p q ≡ b → (p ≡ q → ⊥) → is_part p q ≡ false
no_part p q true e never = absurd (never (same_part p q e))
no_part p q false e never = e

-- the first thread with the goal gives it
found_first : (b a : List Thread) (x : Thread) (p : Part) → Each (λ (y : Thread). y.goal ≡ p → ⊥) b → x.goal ≡ p → result_for (map finished (b ++ x ∷ a)) p ≡ Some (finished x)
unfolding result_for
found_first [] a x p h g = if_yes (is_part x.goal p) (Some (finished x)) (result_for (map finished a) p) (subst (λ (q : Part). is_part q p ≡ true) (sym g) (part_is p))
found_first (y ∷ b) a x p h g = if_no (is_part y.goal p) (Some (finished y)) (result_for (map finished (b ++ x ∷ a)) p) (no_part y.goal p (is_part y.goal p) refl h.0) ∙ found_first b a x p h.1 g

-- what goes on of a thread that waits
goes_each : (P : Thread → Type 0) (found : List Finished) (t : Thread) (o : Option Part) → ((q : Part) (f : Finished) → o ≡ Some q → result_for found q ≡ Some f → P (with_choices f.choices (received f.height t))) → Each P (goes_on_by found t o)
unfolding goes_on_by goes_on
goes_each P found t None h = tt
goes_each P found t (Some q) h = by (result_for found q) (h q)
  where
    by : (r : Option Finished) → ((f : Finished) → Some q ≡ Some q → r ≡ Some f → P (with_choices f.choices (received f.height t))) → Each P (goes_on t r)
    by None k = tt
    by (Some f) k = (k f refl refl, tt)

go_on_each : (P Q : Thread → Type 0) (found : List Finished) (ts : List Thread) → ((t : Thread) (q : Part) (f : Finished) → P t → waits_for t ≡ Some q → result_for found q ≡ Some f → Q (with_choices f.choices (received f.height t)))
    → Each P ts → Each Q (all_go_on found ts)
unfolding all_go_on
go_on_each P Q found [] f h = tt
go_on_each P Q found (t ∷ ts) f h = each_joined Q (goes_on_by found t (waits_for t)) (all_go_on found ts) (goes_each Q found t (waits_for t) (λ q r w e. f t q r h.0 w e)) (go_on_each P Q found ts f h.1)

-- the parts after the one that was waited for
on_coming : (cs : List ℕ) (height : ℕ) (t : Thread) → coming (with_choices cs (received height t)) ≡ parts_of_items (rest t.items)
on_coming cs height t = ap parts_of_items (received_keeps height t).0

on_derives : (from mid end : List TokenKind) (t : Thread) (q : Part) (cs : List ℕ) (height : ℕ) (inner p : Pieces) → waits_for t ≡ Some q → Derives (q ∷ []) from mid inner → Derives (coming (with_choices cs (received height t))) mid end p → Derives (coming t) from end (followed inner p)
on_derives from mid end t q cs height inner p w i d =
    let s = waits_front t q w in
    subst (λ (l : List Part). Derives l from end (followed inner p)) (sym s.first)
    (joined_derived (q ∷ []) (parts_of_items (rest t.items)) from mid end inner p i (subst (λ (l : List Part). Derives l mid end p) (on_coming cs height t) d))

on_good : (root : Bool) (begin from mid : List TokenKind) (ts : List Thread) (t : Thread) (q : Part) (f : Finished) → Each (IsRead from mid) ts → Good root begin from t → waits_for t ≡ Some q → result_for (map finished ts) q ≡ Some f
    → Good root begin mid (with_choices f.choices (received f.height t))
on_good root begin from mid ts t q f reads g w e =
    let s = waits_front t q w in
    let inner = found_read from mid q f ts reads e in
    let keep = received_keeps f.height t in
    let t2 = tidy_apart root q (parts_of_items (rest t.items)) s.apart (subst (λ (l : List Part). tidy root l ≡ true) s.first g.tidies) in
    record {
      sound = λ end p d. (let k = g.sound end (followed inner.0 p) (on_derives from mid end t q f.choices f.height inner.0 p w inner.1 d) in (k.0, subst (λ (x : Part). Derives (x ∷ []) begin end k.0) (sym keep.1) k.1));
      tidies = subst (λ (l : List Part). tidy root l ≡ true) (sym (on_coming f.choices f.height t)) t2.0;
      rooted = λ r. keep.1 ∙ g.rooted r;
    }

on_dead : (goal : Part) (from mid end : List TokenKind) (ts : List Thread) (t : Thread) (q : Part) (f : Finished) → Each (IsRead from mid) ts → Dead goal from end t → waits_for t ≡ Some q → result_for (map finished ts) q ≡ Some f
    → Dead goal mid end (with_choices f.choices (received f.height t))
on_dead goal from mid end ts t q f reads dead w e h p d =
    let inner = found_read from mid q f ts reads e in
    let keep = received_keeps f.height t in
    dead (sym keep.1 ∙ h) (followed inner.0 p) (on_derives from mid end t q f.choices f.height inner.0 p w inner.1 d)

spent_closed : (look : Look) (live : List Thread) → is_kind look.kind kind.RightBrace ≡ true → has_read_all live ≡ true → is_closed look live ≡ true
unfolding is_closed
spent_closed look live h k = ap (λ (b : Bool). b && has_read_all live) h ∙ k

empty_all : (b a : List Thread) (x : Thread) → Each (λ (y : Thread). y.items ≡ []) (b ++ x ∷ a) → has_read_all (b ++ x ∷ a) ≡ true
empty_all [] a x h = ap (λ (l : List Item). nat_eq (length l) 0) h.0
empty_all (t ∷ b) a x h = ap (λ (l : List Item). nat_eq (length l) 0) h.0

received_choices : (cs : List ℕ) (height : ℕ) (t : Thread) → with_choices cs (received height t) ≡ own (cs ++ t.choices) (received height t)
unfolding received
received_choices cs height t = refl

go_on_as : (found : List Finished) (w : Thread) (p : Part) (x : Thread) (o : Option Part) → o ≡ Some p → result_for found p ≡ Some (finished x) → goes_on_by found w o ≡ with_choices x.choices (received (own_height x.goal (risen 0 x.frames)) w) ∷ []
unfolding goes_on_by goes_on
go_on_as found w p x None e h = absurd (cc)
go_on_as found w p x (Some q) e h = let same : q ≡ p = cc in ap (λ (r : Part). goes_on w (result_for found r)) same ∙ ap (goes_on w) h

go_on_first : (found : List Finished) (w : Thread) (a : List Thread) (y : Thread) → goes_on_by found w (waits_for w) ≡ y ∷ [] → all_go_on found (w ∷ a) ≡ y ∷ all_go_on found a
unfolding all_go_on
go_on_first found w a y e = ap (λ (l : List Thread). l ++ all_go_on found a) e

-- the thread of the path goes on
record GoesOn (low : ℕ → Type 0) (top total at : ℕ) (k : TokenKind) (more : List TokenKind) (found : List Finished) (waiting : List (List Thread)) (ds : List ℕ) (forks : List Fork) : Type 0 where
  those : List Thread
  others : List (List Thread)
  waiting_is : waiting ≡ those ∷ others
  off : LeftOff low top total at k more (resumed found [] those) others ds forks

go_on : (low : ℕ → Type 0) (top total at : ℕ) (k : TokenKind) (more : List TokenKind) (live : List Thread) (ds : List ℕ) (x : Thread) (before after : List Thread) (inner : List Fork) (spot : Spot)
    → (waiting : List (List Thread)) (p : Part) (from mid : List TokenKind) (inner_height : ℕ) (root : Bool) (ocs : List ℕ) (oforks : List Fork)
    → Around low top total spot waiting p from mid inner_height root ocs oforks → root ≡ false
    → live ≡ before ++ x ∷ after → x.goal ≡ p → Each (IsRead from mid) live → Each (λ (y : Thread). y.goal ≡ p → ⊥) before → Done x more mid inner_height inner
    → at + 1 + length more ≡ total → ds ≡ x.choices ++ ocs → (forks : List Fork) → forks ≡ inner ++ oforks
    → GoesOn low top total at k more (map finished live) waiting ds forks
go_on low top total at k more live ds x before after inner spot waiting p from mid inner_height root ocs oforks (at_root _ _ _) r live_is goal_is reads firsts done place ds_is forks forks_is = absurd (cc)
go_on low top total at k more live ds x before after inner spot waiting p from mid inner_height root ocs oforks
    (in_brace those b a others w _ goal begin _ _ end w_told w_root w_at _ height begin_at base cs outer forks_after those_is w_waits w_goal dead good shallow awaits seen path w_place hears around) r live_is goal_is reads firsts done place ds_is forks forks_is =
    let found = map finished live in
    let h = own_height p inner_height in
    let y = with_choices x.choices (received h w) in
    let first : result_for found p ≡ Some (finished x) = ap (λ (l : List Thread). result_for (map finished l) p) live_is ∙ found_first before after x p firsts goal_is in
    let tall : own_height x.goal (risen 0 x.frames) ≡ h = ap (λ (q : Part). own_height q (risen 0 x.frames)) goal_is ∙ ap (own_height p) (sym done.tall) in
    let w_on : goes_on_by found w (waits_for w) ≡ y ∷ [] = go_on_as found w p x (waits_for w) w_waits first ∙ ap (λ (n : ℕ). with_choices x.choices (received n w) ∷ []) tall in
    let all_is : all_go_on found those ≡ all_go_on found b ++ y ∷ all_go_on found a = ap (all_go_on found) those_is ∙ go_on_joined found b (w ∷ a) ∙ ap (λ (l : List Thread). all_go_on found b ++ l) (go_on_first found w a y w_on) in
    let here : w_at ≡ at + 1 = (let e = ap length done.ended in omega (arith, w_place, place, e)) in
    let mid_is : mid ≡ more = sym done.ended in
    let y_path : Path true low w_told false y (at + 1) more end height outer =
    subst (λ (n : ℕ). Path true low w_told false y n more end height outer) here
    (subst (λ (l : List TokenKind). Path true low w_told false y w_at l end height outer) mid_is
    (subst (λ (u : Thread). Path true low w_told false u w_at mid end height outer) (sym (received_choices x.choices h w)) (path_own true low w_told false (received h w) w_at mid end height outer (x.choices ++ w.choices) path))) in
    let y_seen : Seen w_told.spot (at + 1) more end y.frames y.items =
    subst (λ (n : ℕ). Seen w_told.spot n more end y.frames y.items) here
    (subst (λ (l : List TokenKind). Seen w_told.spot w_at l end y.frames y.items) mid_is
    (subst (λ (u : Thread). Seen w_told.spot w_at mid end u.frames u.items) (sym (received_choices x.choices h w)) seen)) in
    let y_shallow : w_told.is ≡ true → low (at + 1) → y.deep ≡ false = (λ t l. shallow t (subst low (sym here) l)) in
    let y_hears : (w_told.is ≡ true) ⊎ (low (at + 1) → ⊥) = subst (λ (n : ℕ). (w_told.is ≡ true) ⊎ (low n → ⊥)) here hears in
    let y_goal : y.goal ≡ goal = (received_keeps h w).1 ∙ w_goal in
    let goods : Each (Good w_root begin mid) (all_go_on found those) = go_on_each (Good w_root begin from) (Good w_root begin mid) found those (λ t q f g v e. on_good w_root begin from mid live t q f reads g v e) good in
    let deads : Each (Dead goal mid end) (all_go_on found b) = go_on_each (Dead goal from end) (Dead goal mid end) found b (λ t q f g v e. on_dead goal from mid end live t q f reads g v e) dead in
    let d = path_derives low w_told false y (at + 1) more end height outer y_path in
    let keeps = keeps_it goal more end (all_go_on found b) (all_go_on found a) y d.0 y_goal d.1 (subst (λ (l : List TokenKind). Each (Dead goal l end) (all_go_on found b)) mid_is deads) in
    let whole : resumed found [] those ≡ keep_all [] (all_go_on found those) = resumed_as found [] those in
    let live_now = whole ∙ ap (keep_all []) all_is ∙ keeps.is in
    let w_good : Good w_root begin from w = each_at (Good w_root begin from) b a w (subst (Each (Good w_root begin from)) those_is good) in
    let s = waits_front w p w_waits in
    let t2 = tidy_apart w_root p (parts_of_items (rest w.items)) s.apart (subst (λ (l : List Part). tidy w_root l ≡ true) s.first w_good.tidies) in
    let y_coming = on_coming x.choices h w in
    record {
      those = those;
      others = others;
      waiting_is = refl;
      off = record {
        state = inl (record {
          root = w_root;
          goal = goal;
          from = begin;
          end = end;
          height = height;
          told = w_told;
          x = y;
          before = keeps.before;
          after = keeps.after;
          cs = cs;
          inner = outer;
          outer = forks_after;
          live_is = live_now;
          goal_is = y_goal;
          seen = y_seen;
          path = y_path;
          shorter = tidy_shorter w_root (coming y) more end d.0 (subst (λ (l : List Part). tidy w_root l ≡ true) (sym y_coming) t2.0) (λ e. t2.1 (sym y_coming ∙ e)) d.1;
          good = subst (Each (Good w_root begin more)) (sym whole) (keep_each (Good w_root begin more) [] (all_go_on found those) tt (subst (λ (l : List TokenKind). Each (Good w_root begin l) (all_go_on found those)) mid_is goods));
          dead = keeps.dead;
          hears = y_hears;
          around = around;
          choices_are = ds_is ∙ sym (append_assoc x.choices w.choices cs) ∙ ap (λ (u : Thread). u.choices ++ cs) (sym (received_choices x.choices h w));
          forks_are = forks_is ∙ ap (λ (l : List Fork). l ++ (outer ++ forks_after)) done.no_forks;
          place = place;
        });
        some = off_some (resumed found [] those) keeps.before keeps.after y live_now;
        fine = off_fine low (at + 1) w_told.is (resumed found [] those) keeps.before keeps.after y live_now y_hears y_shallow;
      };
    }

-- ---- both

brace_root : (root : Bool) (k : TokenKind) → k ≡ closer root → k ≡ kind.RightBrace → root ≡ false
brace_root true k e h = let x : kind.End ≡ kind.RightBrace = sym e ∙ h in absurd (cc)
brace_root false k e h = refl

in_place : (look : Look) (live : List Thread) (waiting : List (List Thread)) → is_kind look.kind kind.RightBrace ≡ false → (left look live waiting ≡ live) × (left_waiting look live waiting ≡ waiting)
unfolding left left_waiting is_closed
in_place look live waiting h = (rw h refl, rw h refl)

outwards : (look : Look) (live those : List Thread) (waiting others : List (List Thread)) → is_closed look live ≡ true → waiting ≡ those ∷ others → (left look live waiting ≡ resumed (map finished live) [] those) × (left_waiting look live waiting ≡ others)
unfolding left left_waiting
outwards look live those waiting others h e = (rw (h, e) refl, rw (h, e) refl)

leave_brace : (low : ℕ → Type 0) (top total at : ℕ) (k : TokenKind) (more : List TokenKind) (live : List Thread) (waiting : List (List Thread)) (ds : List ℕ) (forks : List Fork)
    → AfterToken low top total at k more live waiting ds forks → is_kind k kind.RightBrace ≡ true → LeftOff low top total at k more (left (look_of (k ∷ more)) live waiting) (left_waiting (look_of (k ∷ more)) live waiting) ds forks
leave_brace low top total at k more live waiting ds forks t h =
    let c = brace_closing k h in
    let look = look_of (k ∷ more) in
    let gone_live : Each (Gone t.root t.from k more) (t.before ++ t.x ∷ t.after) = subst (Each (Gone t.root t.from k more)) t.live_is t.gone in
    let none_x = gone_none t.root t.from k more t.x c (each_at (Gone t.root t.from k more) t.before t.after t.x gone_live) in
    let root = brace_root t.root k none_x.0 (same_kind k kind.RightBrace h) in
    let done = path_done low t.told false t.x (at + 1) more t.end t.height t.inner (no_parts t.x.items none_x.1) t.path in
    let none_all : Each (λ (y : Thread). y.items ≡ []) (t.before ++ t.x ∷ t.after) = each_kept (Gone t.root t.from k more) (λ (y : Thread). y.items ≡ []) (t.before ++ t.x ∷ t.after) (λ y g. no_parts y.items (gone_none t.root t.from k more y c g).1) gone_live in
    let closed = spent_closed look live h (ap has_read_all t.live_is ∙ empty_all t.before t.after t.x none_all) in
    let reads : Each (IsRead t.from t.end) live = each_kept (Gone t.root t.from k more) (IsRead t.from t.end) live (λ y g. subst (λ (l : List TokenKind). IsRead t.from l y) done.ended (gone_read t.root t.from k more y c g)) t.gone in
    let both = each_both (Dead t.goal more t.end) (λ (y : Thread). y.items ≡ []) t.before t.dead (each_front (λ (y : Thread). y.items ≡ []) t.before (t.x ∷ t.after) none_all) in
    let firsts : Each (λ (y : Thread). y.goal ≡ t.goal → ⊥) t.before = each_kept _ (λ (y : Thread). y.goal ≡ t.goal → ⊥) t.before
    (λ y g e. g.0 e nothing (subst (λ (l : List Part). Derives l more t.end nothing) (ap parts_of_items (sym g.1)) (subst (λ (l : List TokenKind). Derives [] more l nothing) done.ended (derives_none more)))) both in
    let on = go_on low top total at k more live ds t.x t.before t.after t.inner t.told.spot waiting t.goal t.from t.end t.height t.root t.cs t.outer t.around root t.live_is t.goal_is reads firsts done t.place t.choices_are forks t.forks_are in
    let same = outwards look live on.those waiting on.others closed on.waiting_is in
    subst (λ (l : List Thread). LeftOff low top total at k more l (left_waiting look live waiting) ds forks) (sym same.0)
    (subst (λ (l : List (List Thread)). LeftOff low top total at k more (resumed (map finished live) [] on.those) l ds forks) (sym same.1) on.off)

leave_not : (low : ℕ → Type 0) (top total at : ℕ) (k : TokenKind) (more : List TokenKind) (live : List Thread) (waiting : List (List Thread)) (ds : List ℕ) (forks : List Fork)
    → AfterToken low top total at k more live waiting ds forks → is_kind k kind.RightBrace ≡ false → (b : Bool) → is_closing k ≡ b → LeftOff low top total at k more live waiting ds forks
leave_not low top total at k more live waiting ds forks t h true e = finish low top total at k more live waiting ds forks t e h
leave_not low top total at k more live waiting ds forks t h false e = stay low top total at k more live waiting ds forks t e

leave_by : (low : ℕ → Type 0) (top total at : ℕ) (k : TokenKind) (more : List TokenKind) (live : List Thread) (waiting : List (List Thread)) (ds : List ℕ) (forks : List Fork)
    → AfterToken low top total at k more live waiting ds forks → (b : Bool) → is_kind k kind.RightBrace ≡ b → LeftOff low top total at k more (left (look_of (k ∷ more)) live waiting) (left_waiting (look_of (k ∷ more)) live waiting) ds forks
leave_by low top total at k more live waiting ds forks t true h = leave_brace low top total at k more live waiting ds forks t h
leave_by low top total at k more live waiting ds forks t false h =
    let look = look_of (k ∷ more) in
    let same = in_place look live waiting h in
    subst (λ (l : List Thread). LeftOff low top total at k more l (left_waiting look live waiting) ds forks) (sym same.0)
    (subst (λ (l : List (List Thread)). LeftOff low top total at k more live l ds forks) (sym same.1) (leave_not low top total at k more live waiting ds forks t h (is_closing k) refl))

pub leave_path : (low : ℕ → Type 0) (top total at : ℕ) (k : TokenKind) (more : List TokenKind) (live : List Thread) (waiting : List (List Thread)) (ds : List ℕ) (forks : List Fork)
    → AfterToken low top total at k more live waiting ds forks → LeftOff low top total at k more (left (look_of (k ∷ more)) live waiting) (left_waiting (look_of (k ∷ more)) live waiting) ds forks
leave_path low top total at k more live waiting ds forks t = leave_by low top total at k more live waiting ds forks t (is_kind k kind.RightBrace) refl
