-- At a token the thread of a path is among those that can read it, and those before it lead nowhere.
use Rattle.std.proofs.Common.{◌≡◌, ℕ, zero, suc, ◌+◌, ◌<◌, ◌≤◌, Bool, true, false, ◌||◌, ◌⊎◌, inl, inr, List, [], ◌∷◌, ◌++◌, length, Option, Some, None, refl, sym, ◌∙◌, ap, subst, arith, append_assoc, append-nil}
use Rattle.zig_tree.specs.declared.token.TokenKind.{TokenKind}
use Rattle.zig_tree.specs.declared.grammar.Rule.{Rule}
use Rattle.zig_tree.specs.declared.grammar.Part.{Part}
use Rattle.zig_tree.specs.Grammar.{Alternative, group_rows, rule_rows}
use Rattle.zig_tree.specs.GrammarSentences.{Pieces, open_at, Derives}
use Rattle.zig_parse.specs.declared.choice.Look.{Look}
use Rattle.zig_parse.specs.declared.thread.Thread.{Thread}
use Rattle.zig_parse.specs.declared.thread.Move.{Move}
use Rattle.zig_parse.specs.declared.thread.Move.TheVariants as move
use Rattle.zig_parse.specs.Stack.{rest}
use Rattle.zig_parse.specs.Threads.{closed, replaced}
use Rattle.zig_parse.specs.Moves.{moving, moving_by, next_move, readers, reading_by, settled_all, spread}
use Rattle.zig_parse.specs.Choices.{choices}
use Rattle.zig_parse.specs.Ways.{Fork, Taken, taken_sole, taken_first, taken_second, noted}
use Rattle.zig_parse.proofs.Picks.{choices_as, parts_in}
use Rattle.zig_parse.proofs.Costs.{total_work, moving_less, settled_one, settled_nothing}
use Rattle.zig_parse.proofs.Paths.{Told, Path, path_ends, path_closes, path_rule, path_group, path_reads, path_waits, is_cons, look_of, parts_of_items}
use Rattle.zig_parse.proofs.Free.{own, closed_own, rule_own, group_own, path_own}
use Rattle.zig_parse.proofs.Moving.{coming, Each, each_joined, each_kept, Comes, moving_come, settled_each, rule_coming, group_coming, rule_goal, group_goal, closed_keeps}

-- ---- threads settle one behind the other

total_sum : (a b : List Thread) → total_work (a ++ b) ≡ total_work a + total_work b
total_sum [] b = omega arith
total_sum (t ∷ a) b = omega (arith, total_sum a b)

joined_by : (n : ℕ) (look : Look) (at : ℕ) (a b : List Thread) → total_work a ≤ n → settled_all look at (a ++ b) ≡ settled_all look at a ++ settled_all look at b
joined_by n look at [] b h = ap (λ (l : List Thread). l ++ settled_all look at b) (sym (settled_nothing look at))
joined_by zero look at (t ∷ a) b h = absurd (omega arith)
joined_by (suc n) look at (t ∷ a) b h =
    let less : total_work (moving look at t ++ a) ≤ n = (let l = moving_less look at t in omega (arith, total_sum (moving look at t) a)) in
    settled_one look at t (a ++ b)
    ∙ ap (λ (l : List Thread). readers look t ++ settled_all look at l) (sym (append_assoc (moving look at t) a b))
    ∙ ap (λ (l : List Thread). readers look t ++ l) (joined_by n look at (moving look at t ++ a) b less)
    ∙ sym (append_assoc (readers look t) (settled_all look at (moving look at t ++ a)) (settled_all look at b))
    ∙ ap (λ (l : List Thread). l ++ settled_all look at b) (sym (settled_one look at t a))

pub settled_joined : (look : Look) (at : ℕ) (a b : List Thread) → settled_all look at (a ++ b) ≡ settled_all look at a ++ settled_all look at b
settled_joined look at a b = joined_by (total_work a) look at a b (omega arith)

reading_none : (t : Thread) (m : Move) → (m ≡ move.Read → ⊥) → reading_by t m ≡ []
reading_none t move.Read never = absurd (never refl)
reading_none t move.Stop never = refl
reading_none t move.Close never = refl
reading_none t (move.Rule _) never = refl
reading_none t (move.Group _) never = refl

settled_move : (look : Look) (at : ℕ) (t : Thread) (m : Move) → next_move look true t ≡ m → (m ≡ move.Read → ⊥) → settled_all look at (t ∷ []) ≡ settled_all look at (moving_by look at t m)
unfolding moving readers
settled_move look at t m h never =
    settled_one look at t []
    ∙ ap (λ (l : List Thread). l ++ settled_all look at (moving look at t ++ [])) (ap (reading_by t) h ∙ reading_none t m never)
    ∙ ap (settled_all look at) (append-nil (moving look at t) ∙ ap (moving_by look at t) h)

settled_read : (look : Look) (at : ℕ) (t : Thread) → next_move look true t ≡ move.Read → settled_all look at (t ∷ []) ≡ t ∷ []
unfolding moving readers
settled_read look at t h =
    settled_one look at t []
    ∙ ap (λ (m : Move). reading_by t m ++ settled_all look at (moving_by look at t m ++ [])) h
    ∙ ap (λ (l : List Thread). t ∷ l) (settled_nothing look at)

-- ---- threads that lead nowhere

-- what is to come derives no tokens up to the end of the brace
abbrev pub Lost : List TokenKind → List TokenKind → Thread → Type 0
Lost tokens end t = (p : Pieces) → Derives (coming t) tokens end p → ⊥

-- a thread with this goal leads nowhere
abbrev pub Dead : Part → List TokenKind → List TokenKind → Thread → Type 0
Dead goal tokens end t = t.goal ≡ goal → Lost tokens end t

come_dead : (goal : Part) (tokens end : List TokenKind) (t u : Thread) → Dead goal tokens end t → Comes tokens t.goal (coming t) u → Dead goal tokens end u
come_dead goal tokens end t u dead c e p d = let q = c.back end p d in dead (sym c.same_goal ∙ e) q.0 q.1

pub settled_dead : (goal : Part) (tokens end : List TokenKind) (at : ℕ) (ts : List Thread) → Each (Dead goal tokens end) ts → Each (Dead goal tokens end) (settled_all (look_of tokens) at ts)
unfolding settled_all
settled_dead goal tokens end at ts h =
    settled_each (Dead goal tokens end) (Dead goal tokens end) (look_of tokens) at
    (λ t d. each_kept (Comes tokens t.goal (coming t)) (Dead goal tokens end) (moving (look_of tokens) at t) (λ u c. come_dead goal tokens end t u d c) (moving_come tokens at t))
    (λ t d h. d) _ ts h

-- ---- the thread of a path

-- the choices with those of this token, which were made there
abbrev pub chosen_with : ℕ → List Bool → List ℕ → List ℕ
chosen_with at [] cs = cs
chosen_with at (true ∷ _) cs = at ∷ cs
chosen_with at (false ∷ _) cs = cs

pub record Settled (low : ℕ → Type 0) (told : Told) (calm : Bool) (t : Thread) (cs : List ℕ) (at : ℕ) (tokens end : List TokenKind) (height : ℕ) (forks : List Fork) : Type 0 where
  pub before : List Thread
  pub x : Thread
  pub after : List Thread
  pub news : List Bool
  pub later : List Fork
  pub calmer : Bool
  pub found : settled_all (look_of tokens) at (own cs t ∷ []) ≡ before ++ x ∷ after
  pub same_goal : x.goal ≡ t.goal
  pub own_choices : x.choices ≡ chosen_with at news cs
  pub few : (news ≡ []) ⊎ ((calm ≡ false) × ((b : Bool) × (news ≡ b ∷ [])))
  pub forks_are : forks ≡ noted tokens news ++ later
  pub dead : Each (Dead t.goal tokens end) before
  pub path : Path true low told calmer x at tokens end height later
  pub reads : next_move (look_of tokens) true x ≡ move.Read

or_false : (x : Bool) → (x || false) ≡ x
or_false true = refl
or_false false = refl

or_true : (x : Bool) → (x || true) ≡ true
or_true true = refl
or_true false = refl

few_same : (x : Bool) (news : List Bool) → (news ≡ []) ⊎ (((x || false) ≡ false) × ((b : Bool) × (news ≡ b ∷ []))) → (news ≡ []) ⊎ ((x ≡ false) × ((b : Bool) × (news ≡ b ∷ [])))
few_same x news (inl e) = inl e
few_same x news (inr e) = inr (sym (or_false x) ∙ e.0, e.1)

few_none : (x : Bool) (news : List Bool) → (news ≡ []) ⊎ (((x || true) ≡ false) × ((b : Bool) × (news ≡ b ∷ []))) → news ≡ []
few_none x news (inl e) = e
few_none x news (inr e) = let never : true ≡ false = sym (or_true x) ∙ e.0 in absurd (cc)

not_calm : (x b : Bool) → (x ≡ true → b ∷ [] ≡ []) → x ≡ false
not_calm false b f = refl
not_calm true b f = let e = f refl in absurd (cc)

spread_two : (look : Look) (at : ℕ) (r : Option Rule) (p q : List Part) (u : Thread) → settled_all look at (spread at r (p ∷ q ∷ []) u) ≡ settled_all look at (replaced r p u ∷ []) ++ settled_all look at (replaced r q (own (at ∷ u.choices) u) ∷ [])
unfolding spread
spread_two look at r p q u = settled_joined look at (replaced r p u ∷ []) (replaced r q (own (at ∷ u.choices) u) ∷ [])

spread_one : (look : Look) (at : ℕ) (r : Option Rule) (p : List Part) (u : Thread) → settled_all look at (spread at r (p ∷ []) u) ≡ settled_all look at (replaced r p u ∷ [])
unfolding spread
spread_one look at r p u = refl

settle_taken : (low : ℕ → Type 0) (told : Told) (calm : Bool) (t : Thread) (cs : List ℕ) (at : ℕ) (tokens end : List TokenKind) (height : ℕ) (later : List Fork) (r : Option Rule) (rows : List Alternative) (a : Alternative) (choices : List Bool)
    → (calm ≡ true → choices ≡ []) → Taken (parts_of_items (rest t.items)) tokens end rows a choices
    → settled_all (look_of tokens) at (own cs t ∷ []) ≡ settled_all (look_of tokens) at (spread at r (parts_in rows) (own cs t))
    → ((b : Alternative) (ds : List ℕ) → coming (replaced r b.parts (own ds t)) ≡ b.parts ++ parts_of_items (rest t.items))
    → ((ps : List Part) (ds : List ℕ) → replaced r ps (own ds t) ≡ own ds (replaced r ps t))
    → (replaced r a.parts t).goal ≡ t.goal
    → ((ds : List ℕ) → Settled low told (calm || is_cons choices) (replaced r a.parts t) ds at tokens end height later)
    → Settled low told calm t cs at tokens end height (noted tokens choices ++ later)
settle_taken low told calm t cs at tokens end height later r rows a choices c (taken_sole _) e f free same_goal go =
    let s = go cs in
    let look = look_of tokens in
    record {
      before = s.before;
      x = s.x;
      after = s.after;
      news = s.news;
      later = s.later;
      calmer = s.calmer;
      found = e ∙ spread_one look at r a.parts (own cs t) ∙ ap (λ (x : Thread). settled_all look at (x ∷ [])) (free a.parts cs) ∙ s.found;
      same_goal = s.same_goal ∙ same_goal;
      own_choices = s.own_choices;
      few = few_same calm s.news s.few;
      forks_are = s.forks_are;
      dead = subst (λ (g : Part). Each (Dead g tokens end) s.before) same_goal s.dead;
      path = s.path;
      reads = s.reads;
    }
settle_taken low told calm t cs at tokens end height later r rows a choices c (taken_first _ b) e f free same_goal go =
    let s = go cs in
    let look = look_of tokens in
    let none = few_none calm s.news s.few in
    let other = settled_all look at (replaced r b.parts (own (at ∷ cs) t) ∷ []) in
    record {
      before = s.before;
      x = s.x;
      after = s.after ++ other;
      news = false ∷ [];
      later = s.later;
      calmer = s.calmer;
      found = e ∙ spread_two look at r a.parts b.parts (own cs t) ∙ ap (λ (x : Thread). settled_all look at (x ∷ []) ++ other) (free a.parts cs) ∙ ap (λ (l : List Thread). l ++ other) s.found ∙ append_assoc s.before (s.x ∷ s.after) other;
      same_goal = s.same_goal ∙ same_goal;
      own_choices = s.own_choices ∙ ap (λ (l : List Bool). chosen_with at l cs) none;
      few = inr (not_calm calm false c, (false, refl));
      forks_are = ap (λ (l : List Fork). noted tokens (false ∷ []) ++ l) (s.forks_are ∙ ap (λ (l : List Bool). noted tokens l ++ s.later) none);
      dead = subst (λ (g : Part). Each (Dead g tokens end) s.before) same_goal s.dead;
      path = s.path;
      reads = s.reads;
    }
settle_taken low told calm t cs at tokens end height later r rows a choices c (taken_second _ b never) e f free same_goal go =
    let s = go (at ∷ cs) in
    let look = look_of tokens in
    let none = few_none calm s.news s.few in
    let first = settled_all look at (replaced r b.parts (own cs t) ∷ []) in
    let lost : Dead t.goal tokens end (replaced r b.parts (own cs t)) = (λ g p d. never p (subst (λ (l : List Part). Derives l tokens end p) (f b cs) d)) in
    record {
      before = first ++ s.before;
      x = s.x;
      after = s.after;
      news = true ∷ [];
      later = s.later;
      calmer = s.calmer;
      found = e ∙ spread_two look at r b.parts a.parts (own cs t) ∙ ap (λ (x : Thread). first ++ settled_all look at (x ∷ [])) (free a.parts (at ∷ cs)) ∙ ap (λ (l : List Thread). first ++ l) s.found ∙ sym (append_assoc first s.before (s.x ∷ s.after));
      same_goal = s.same_goal ∙ same_goal;
      own_choices = s.own_choices ∙ ap (λ (l : List Bool). chosen_with at l (at ∷ cs)) none;
      few = inr (not_calm calm true c, (true, refl));
      forks_are = ap (λ (l : List Fork). noted tokens (true ∷ []) ++ l) (s.forks_are ∙ ap (λ (l : List Bool). noted tokens l ++ s.later) none);
      dead = each_joined (Dead t.goal tokens end) first s.before (settled_dead t.goal tokens end at (replaced r b.parts (own cs t) ∷ []) (lost, tt)) (subst (λ (g : Part). Each (Dead g tokens end) s.before) same_goal s.dead);
      path = s.path;
      reads = s.reads;
    }

-- a thread that can read now
settle_now : (low : ℕ → Type 0) (told : Told) (calm : Bool) (t : Thread) (cs : List ℕ) (at : ℕ) (tokens end : List TokenKind) (height : ℕ) (forks : List Fork) → next_move (look_of tokens) true t ≡ move.Read
    → Path true low told calm t at tokens end height forks → Settled low told calm t cs at tokens end height forks
unfolding next_move
settle_now low told calm t cs at tokens end height forks h p = record {
  before = [];
  x = own cs t;
  after = [];
  news = [];
  later = forks;
  calmer = calm;
  found = settled_read (look_of tokens) at (own cs t) h;
  same_goal = refl;
  own_choices = refl;
  few = inl refl;
  forks_are = refl;
  dead = tt;
  path = path_own true low told calm t at tokens end height forks cs p;
  reads = h;
}

closed_settled : (low : ℕ → Type 0) (told : Told) (calm : Bool) (t : Thread) (cs : List ℕ) (at : ℕ) (tokens end : List TokenKind) (height : ℕ) (forks : List Fork)
    → next_move (look_of tokens) true t ≡ move.Close → Settled low told calm (closed t) cs at tokens end height forks → Settled low told calm t cs at tokens end height forks
unfolding next_move
closed_settled low told calm t cs at tokens end height forks h s =
    let look = look_of tokens in
    let same = (closed_keeps t).1 in
    record {
      before = s.before;
      x = s.x;
      after = s.after;
      news = s.news;
      later = s.later;
      calmer = s.calmer;
      found = settled_move look at (own cs t) move.Close h (λ e. cc) ∙ ap (λ (x : Thread). settled_all look at (x ∷ [])) (closed_own cs t) ∙ s.found;
      same_goal = s.same_goal ∙ same;
      own_choices = s.own_choices;
      few = s.few;
      forks_are = s.forks_are;
      dead = subst (λ (g : Part). Each (Dead g tokens end) s.before) same s.dead;
      path = s.path;
      reads = s.reads;
    }

pub settle_path : (low : ℕ → Type 0) (told : Told) (calm : Bool) (t : Thread) (at : ℕ) (tokens end : List TokenKind) (height : ℕ) (forks : List Fork) → length end < length tokens → Path true low told calm t at tokens end height forks
    → (cs : List ℕ) → Settled low told calm t cs at tokens end height forks
unfolding next_move
settle_path low told calm t at tokens end height forks l (path_ends _ _ _ _ _ e) cs = absurd (omega arith)
settle_path low told calm t at tokens end height forks l (path_closes _ _ _ _ _ _ _ _ h more) cs =
    closed_settled low told calm t cs at tokens end height forks h (settle_path low told calm (closed t) at tokens end height forks l more cs)
settle_path low told calm t at tokens end height forks l (path_rule _ _ _ _ _ _ _ later r a picks h c k more) cs =
    let look = look_of tokens in
    settle_taken low told calm t cs at tokens end height later (Some r) (open_at tokens (rule_rows r)) a picks c k
    (settled_move look at (own cs t) (move.Rule r) h (λ e. cc) ∙ ap (λ (l : List (List Part)). settled_all look at (spread at (Some r) l (own cs t))) (choices_as tokens (rule_rows r)))
    (λ b ds. rule_coming r b.parts (own ds t)) (λ ps ds. rule_own ds r ps t) (rule_goal r a.parts t)
    (λ ds. settle_path low told (calm || is_cons picks) (replaced (Some r) a.parts t) at tokens end height later l more ds)
settle_path low told calm t at tokens end height forks l (path_group _ _ _ _ _ _ _ later g a picks h c k more) cs =
    let look = look_of tokens in
    settle_taken low told calm t cs at tokens end height later None (open_at tokens (group_rows g)) a picks c k
    (settled_move look at (own cs t) (move.Group g) h (λ e. cc) ∙ ap (λ (l : List (List Part)). settled_all look at (spread at None l (own cs t))) (choices_as tokens (group_rows g)))
    (λ b ds. group_coming b.parts (own ds t)) (λ ps ds. group_own ds ps t) (group_goal a.parts t)
    (λ ds. settle_path low told (calm || is_cons picks) (replaced None a.parts t) at tokens end height later l more ds)
settle_path low told calm t at tokens end height forks l (path_reads _ _ _ _ k left _ _ _ h w f seen more) cs =
    settle_now low told calm t cs at (k ∷ left) end height forks h (path_reads told calm t at k left end height forks h w f seen more)
settle_path low told calm t at tokens end height forks l (path_waits _ _ _ _ left mid _ _ inner_height inner outer p base ap_true h w f awaits go g seen more) cs =
    settle_now low told calm t cs at tokens end height forks h (path_waits told calm t at left mid end height inner_height inner outer p base ap_true h w f awaits go g seen more)
