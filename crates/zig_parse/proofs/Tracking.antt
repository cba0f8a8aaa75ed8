-- The first pass has the thread of a path among its live ones: the state between two tokens, and at a token.
use Rattle.std.proofs.Common.{◌≡◌, ℕ, ◌+◌, ◌<◌, Bool, true, false, ◌⊎◌, inl, inr, List, [], ◌∷◌, ◌++◌, length, sym, ◌∙◌, ap, subst, append_assoc}
use Rattle.zig_tree.specs.declared.token.TokenKind.{TokenKind}
use Rattle.zig_tree.specs.declared.grammar.Part.{Part}
use Rattle.zig_parse.specs.declared.thread.Thread.{Thread}
use Rattle.zig_parse.specs.declared.thread.Move.TheVariants as move
use Rattle.zig_parse.specs.Threads.{after_read}
use Rattle.zig_parse.specs.Moves.{next_move, settled_all}
use Rattle.zig_parse.specs.Ways.{Fork, noted}
use Rattle.zig_parse.proofs.Paths.{Seen, Told, Path, look_of}
use Rattle.zig_parse.proofs.Moving.{Each, each_joined}
use Rattle.zig_parse.proofs.Settling.{Dead, chosen_with, settle_path, settled_dead, settled_joined}
use Rattle.zig_parse.proofs.Living.{Around, Good, Gone, Readable, settled_good}

-- between two tokens: the path's thread is live, and those before it lead nowhere
pub record Tracked (low : ℕ → Type 0) (top total at : ℕ) (tokens : List TokenKind) (live : List Thread) (waiting : List (List Thread)) (ds : List ℕ) (forks : List Fork) : Type 0 where
  pub root : Bool
  pub goal : Part
  pub from : List TokenKind
  pub end : List TokenKind
  pub height : ℕ
  pub told : Told
  pub x : Thread
  pub before : List Thread
  pub after : List Thread
  pub cs : List ℕ
  pub inner : List Fork
  pub outer : List Fork
  pub live_is : live ≡ before ++ x ∷ after
  pub goal_is : x.goal ≡ goal
  pub seen : Seen told.spot at tokens end x.frames x.items
  pub path : Path true low told false x at tokens end height inner
  pub shorter : length end < length tokens
  pub good : Each (Good root from tokens) live
  pub dead : Each (Dead goal tokens end) before
  pub hears : (told.is ≡ true) ⊎ (low at → ⊥)
  pub around : Around low top total told.spot waiting goal from end height root cs outer
  pub choices_are : ds ≡ x.choices ++ cs
  pub forks_are : forks ≡ inner ++ outer
  pub place : at + length tokens ≡ total

-- where each thread has a token in front
pub record AtToken (low : ℕ → Type 0) (top total at : ℕ) (k : TokenKind) (more : List TokenKind) (ready : List Thread) (waiting : List (List Thread)) (ds : List ℕ) (forks : List Fork) : Type 0 where
  pub root : Bool
  pub goal : Part
  pub from : List TokenKind
  pub end : List TokenKind
  pub height : ℕ
  pub told : Told
  pub x : Thread
  pub before : List Thread
  pub after : List Thread
  pub cs : List ℕ
  pub inner : List Fork
  pub outer : List Fork
  pub ready_is : ready ≡ before ++ x ∷ after
  pub goal_is : x.goal ≡ goal
  pub seen : Seen told.spot (at + 1) more end (after_read x).frames (after_read x).items
  pub path : Path true low told false (after_read x) (at + 1) more end height inner
  pub shallow : told.is ≡ true → low (at + 1) → (after_read x).deep ≡ false
  pub gone : Each (λ (y : Thread). Gone root from k more (after_read y)) ready
  pub dead : Each (λ (y : Thread). Dead goal more end (after_read y)) before
  pub hears : (told.is ≡ true) ⊎ (low (at + 1) → ⊥)
  pub around : Around low top total told.spot waiting goal from end height root cs outer
  pub choices_are : ds ≡ x.choices ++ cs
  pub forks_are : forks ≡ inner ++ outer
  pub place : at + 1 + length more ≡ total

-- after the moves, before it is known what stands in front
pub record Readied (low : ℕ → Type 0) (at : ℕ) (tokens : List TokenKind) (ready : List Thread) (root : Bool) (goal : Part) (from end : List TokenKind) (height : ℕ) (told : Told) (own_choices : List ℕ) (inner : List Fork) : Type 0 where
  pub before : List Thread
  pub x : Thread
  pub after : List Thread
  pub news : List Bool
  pub later : List Fork
  pub calmer : Bool
  pub ready_is : ready ≡ before ++ x ∷ after
  pub goal_is : x.goal ≡ goal
  pub path : Path true low told calmer x at tokens end height later
  pub reads : next_move (look_of tokens) true x ≡ move.Read
  pub good : Each (Readable root from tokens) ready
  pub dead : Each (Dead goal tokens end) before
  pub choices_are : x.choices ≡ chosen_with at news own_choices
  pub forks_are : inner ≡ noted tokens news ++ later
  pub few : (news ≡ []) ⊎ ((b : Bool) × (news ≡ b ∷ []))

few_any : (calm : Bool) (news : List Bool) → (news ≡ []) ⊎ ((calm ≡ false) × ((b : Bool) × (news ≡ b ∷ []))) → (news ≡ []) ⊎ ((b : Bool) × (news ≡ b ∷ []))
few_any calm news (inl e) = inl e
few_any calm news (inr e) = inr e.1

pub readied : (low : ℕ → Type 0) (top total at : ℕ) (tokens : List TokenKind) (live : List Thread) (waiting : List (List Thread)) (ds : List ℕ) (forks : List Fork) → (t : Tracked low top total at tokens live waiting ds forks)
    → Readied low at tokens (settled_all (look_of tokens) at live) t.root t.goal t.from t.end t.height t.told t.x.choices t.inner
readied low top total at tokens live waiting ds forks t =
    let look = look_of tokens in
    let s = settle_path low t.told false t.x at tokens t.end t.height t.inner t.shorter t.path t.x.choices in
    let front = settled_all look at t.before in
    let back = settled_all look at t.after in
    record {
      before = front ++ s.before;
      x = s.x;
      after = s.after ++ back;
      news = s.news;
      later = s.later;
      calmer = s.calmer;
      ready_is = ap (settled_all look at) t.live_is ∙ settled_joined look at t.before (t.x ∷ t.after)
          ∙ ap (λ (l : List Thread). front ++ l) (settled_joined look at (t.x ∷ []) t.after ∙ ap (λ (l : List Thread). l ++ back) s.found ∙ append_assoc s.before (s.x ∷ s.after) back)
          ∙ sym (append_assoc front s.before (s.x ∷ (s.after ++ back)));
      goal_is = s.same_goal ∙ t.goal_is;
      path = s.path;
      reads = s.reads;
      good = settled_good t.root t.from tokens at live t.good;
      dead = each_joined (Dead t.goal tokens t.end) front s.before (settled_dead t.goal tokens t.end at t.before t.dead) (subst (λ (g : Part). Each (Dead g tokens t.end) s.before) t.goal_is s.dead);
      choices_are = s.own_choices;
      forks_are = s.forks_are;
      few = few_any false s.news s.few;
    }
