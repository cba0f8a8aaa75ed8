-- From the state between two tokens to the threads that have the next token in front.
use Rattle.std.proofs.Common.{◌≡◌, ℕ, zero, suc, ◌+◌, ◌-◌, ◌<◌, ◌≤◌, Bool, true, false, ◌⊎◌, inl, inr, List, [], ◌∷◌, ◌++◌, length, Some, None, refl, sym, ◌∙◌, ap, subst, arith, append_assoc}
use Rattle.std.specs.Prelude.{if◌then◌else◌}
use Rattle.zig_tree.specs.declared.token.TokenKind.{TokenKind}
use Rattle.zig_tree.specs.declared.token.TokenKind.TheVariants as kind
use Rattle.zig_tree.specs.declared.grammar.Part.{Part}
use Rattle.zig_tree.specs.Kinds.{number_of}
use Rattle.zig_parse.specs.declared.thread.Thread.{Thread}
use Rattle.zig_parse.specs.declared.thread.Move.TheVariants as move
use Rattle.zig_parse.specs.Threads.{after_read, met_part, received}
use Rattle.zig_parse.specs.Moves.{next_move, settled_all, waits_for}
use Rattle.zig_parse.specs.Passes.{any_waits, begun, begun_at, begun_for, inside, least_from, own_height, those_waiting}
use Rattle.zig_parse.specs.Surveys.{entered, entered_waiting}
use Rattle.zig_parse.proofs.Derived.{no_longer}
use Rattle.zig_parse.specs.Ways.{Fork, noted}
use Rattle.zig_parse.proofs.Paths.{Awaits, Path, Seen, Told, within, path_ends, path_closes, path_rule, path_group, path_reads, path_waits, look_of}
use Rattle.zig_parse.proofs.Tidy.{tidy, tidy_no_brace}
use Rattle.zig_parse.proofs.Moving.{coming, Each, each_at, each_kept, met_part_keeps, read_keeps, reads_front, waits_front}
use Rattle.zig_parse.proofs.Opening.{Five, apart_five, opens, path_derives}
use Rattle.zig_parse.proofs.Settling.{Dead, chosen_with}
use Rattle.zig_parse.proofs.Living.{Around, in_brace, Good, Gone, Readable, read_gone, read_dead, begun_gone}
use Rattle.zig_parse.proofs.Tracking.{Tracked, AtToken, Readied, readied}
use Rattle.zig_parse.proofs.Entering.{each_front, each_both, waits_no, none_wait, one_waits, those_at, those_each, met_good, met_dead, met_waits, met_choices, least_in, it_wants, inside_each, inside_at, reads_on}
use Rattle.zig_tree.specs.declared.tree.TheConstants.{DEPTH_LIMIT}

-- what is said of depth at a token was said of the earlier ones
pub falls_far : (low : ℕ → Type 0) → ((n : ℕ) → low (n + 1) → low n) → (m n : ℕ) → low (m + n) → low m
falls_far low falls m zero h = subst low (omega arith) h
falls_far low falls m (suc n) h = falls_far low falls m n (falls (m + n) (subst low (omega arith) h))

pub falls_to : (low : ℕ → Type 0) → ((n : ℕ) → low (n + 1) → low n) → (m n : ℕ) → m ≤ n → low n → low m
falls_to low falls m n l h = falls_far low falls m (n - m) (subst low (omega arith) h)

pub hears_later : (low : ℕ → Type 0) → ((n : ℕ) → low (n + 1) → low n) → (told : Bool) (m n : ℕ) → m ≤ n → (told ≡ true) ⊎ (low m → ⊥) → (told ≡ true) ⊎ (low n → ⊥)
hears_later low falls told m n l (inl e) = inl e
hears_later low falls told m n l (inr never) = inr (λ h. never (falls_to low falls m n l h))

-- the threads at the token after so many choices, of those to come
pub record Entered (low : ℕ → Type 0) (top total at : ℕ) (k : TokenKind) (more : List TokenKind) (ready : List Thread) (waiting : List (List Thread)) (ds : List ℕ) (forks : List Fork) : Type 0 where
  pub news : List Bool
  pub later : List Fork
  pub few : (news ≡ []) ⊎ ((b : Bool) × (news ≡ b ∷ []))
  pub forks_were : forks ≡ noted (k ∷ more) news ++ later
  pub now : AtToken low top total at k more (entered (look_of (k ∷ more)) ready) (entered_waiting ready waiting) (chosen_with at news ds) later

chosen_front : (at : ℕ) (news : List Bool) (a b : List ℕ) → chosen_with at news (a ++ b) ≡ chosen_with at news a ++ b
chosen_front at [] a b = refl
chosen_front at (true ∷ news) a b = refl
chosen_front at (false ∷ news) a b = refl

entered_same : (k : TokenKind) (more : List TokenKind) (ready : List Thread) (waiting : List (List Thread)) → any_waits ready ≡ false → (entered (look_of (k ∷ more)) ready ≡ ready) × (entered_waiting ready waiting ≡ waiting)
unfolding entered entered_waiting
entered_same k more ready waiting h = (rw h refl, rw h refl)

entered_inside : (k : TokenKind) (more : List TokenKind) (ready : List Thread) (waiting : List (List Thread)) → any_waits ready ≡ true → (entered (look_of (k ∷ more)) ready ≡ inside (look_of (k ∷ more)) (those_waiting ready)) × (entered_waiting ready waiting ≡ those_waiting ready ∷ waiting)
unfolding entered entered_waiting
entered_inside k more ready waiting h = (rw h refl, rw h refl)

-- ---- no brace begins

enter_reads : (low : ℕ → Type 0) → ((n : ℕ) → low (n + 1) → low n) → (top total at : ℕ) (k : TokenKind) (more : List TokenKind) (live ready : List Thread) (waiting : List (List Thread)) (ds : List ℕ) (forks : List Fork)
    → (t : Tracked low top total at (k ∷ more) live waiting ds forks) → (r : Readied low at (k ∷ more) ready t.root t.goal t.from t.end t.height t.told t.x.choices t.inner) → waits_for r.x ≡ None → Entered low top total at k more ready waiting ds forks
enter_reads low falls top total at k more live ready waiting ds forks t r w =
    let tokens = k ∷ more in
    let look = look_of tokens in
    let good_x : Readable t.root t.from tokens r.x = each_at (Readable t.root t.from tokens) r.before r.after r.x (subst (Each (Readable t.root t.from tokens)) r.ready_is r.good) in
    let front = reads_front look r.x r.reads w in
    let no_brace : k ≡ kind.LeftBrace → ⊥ = tidy_no_brace t.root front.p _ k front.fits (subst (λ (l : List Part). tidy t.root l ≡ true) front.first good_x.0.tidies) in
    let none : Each (λ (y : Thread). waits_for y ≡ None) ready = each_kept (Readable t.root t.from tokens) (λ (y : Thread). waits_for y ≡ None) ready (λ y g. waits_no look y g.1 no_brace) r.good in
    let both = each_both (Readable t.root t.from tokens) (λ (y : Thread). waits_for y ≡ None) ready r.good none in
    let same = entered_same k more ready waiting (none_wait ready none) in
    let on = reads_on low t.told r.calmer r.x at k more t.end t.height r.later r.reads w r.path in
    let now : AtToken low top total at k more ready waiting (chosen_with at r.news ds) (r.later ++ t.outer) = record {
      root = t.root;
      goal = t.goal;
      from = t.from;
      end = t.end;
      height = t.height;
      told = t.told;
      x = r.x;
      before = r.before;
      after = r.after;
      cs = t.cs;
      inner = r.later;
      outer = t.outer;
      ready_is = r.ready_is;
      goal_is = r.goal_is;
      seen = on.seen;
      path = on.path;
      shallow = on.shallow;
      gone = each_kept _ (λ (y : Thread). Gone t.root t.from k more (after_read y)) ready (λ y g. read_gone t.root t.from k more y g.0 g.1) both;
      dead = each_kept _ (λ (y : Thread). Dead t.goal more t.end (after_read y)) r.before (λ y g. read_dead t.root t.from k more t.end t.goal y g.0.0 g.0.1 g.1)
          (each_both _ (Dead t.goal tokens t.end) r.before (each_front _ r.before (r.x ∷ r.after) (subst (Each _) r.ready_is both)) r.dead);
      hears = hears_later low falls t.told.is at (at + 1) (omega arith) t.hears;
      around = t.around;
      choices_are = ap (chosen_with at r.news) t.choices_are ∙ chosen_front at r.news t.x.choices t.cs ∙ ap (λ (l : List ℕ). l ++ t.cs) (sym r.choices_are);
      forks_are = refl;
      place = omega (arith, t.place);
    } in
    record {
      news = r.news;
      later = r.later ++ t.outer;
      few = r.few;
      forks_were = t.forks_are ∙ ap (λ (l : List Fork). l ++ t.outer) r.forks_are ∙ append_assoc (noted tokens r.news) r.later t.outer;
      now = subst (λ (l : List Thread). AtToken low top total at k more l (entered_waiting ready waiting) (chosen_with at r.news ds) (r.later ++ t.outer)) (sym same.0)
          (subst (λ (l : List (List Thread)). AtToken low top total at k more ready l (chosen_with at r.news ds) (r.later ++ t.outer)) (sym same.1) now);
    }

-- ---- a brace begins

-- what is heard of depth inside
record Hears (low : ℕ → Type 0) (at depth around_depth : ℕ) (told : Bool) : Type 0 where
  heard : Bool
  holds : heard ≡ true → (told ≡ true) × (depth ≤ around_depth)
  hears : (heard ≡ true) ⊎ (low (at + 1) → ⊥)

hear : (low : ℕ → Type 0) → ((n : ℕ) → low (n + 1) → low n) → (at depth around_depth : ℕ) (told deep : Bool) → (told ≡ true) ⊎ (low at → ⊥) → (told ≡ true → low (at + 1) → deep ≡ false) → depth ≤ (if deep then DEPTH_LIMIT else around_depth) → Hears low at depth around_depth told
hear low falls at depth around_depth told false (inl e) f l = record { heard = true; holds = λ h. (e, l); hears = inl refl }
hear low falls at depth around_depth told true (inl e) f l = record { heard = false; holds = λ h. absurd (cc); hears = inr (λ h. (let never : true ≡ false = f e h in cc)) }
hear low falls at depth around_depth told deep (inr never) f l = record { heard = false; holds = λ h. absurd (cc); hears = inr (λ h. never (falls at h)) }

begun_alone : (more : List TokenKind) (p : Part) (ts : List Thread) (d : ℕ) → least_from None p ts ≡ Some d → begun_for (look_of (kind.LeftBrace ∷ more)) ts p ≡ begun (look_of (kind.LeftBrace ∷ more)) p d ∷ []
begun_alone more p ts d h = ap (begun_at (look_of (kind.LeftBrace ∷ more)) p) h

-- a thread for another part has another goal
other_dead : (more end : List TokenKind) (q g : Part) (d : ℕ) → Five g → (g ≡ q → ⊥) → Dead q more end (after_read (begun (look_of (kind.LeftBrace ∷ more)) g d))
other_dead more end q g d five differs e p dd =
    let b = begun (look_of (kind.LeftBrace ∷ more)) g d in
    differs (sym ((read_keeps b).1 ∙ (opens (kind.LeftBrace ∷ more) g d five).own_goal) ∙ e)

enter_waits : (low : ℕ → Type 0) → ((n : ℕ) → low (n + 1) → low n) → (top total at : ℕ) (more : List TokenKind) (live ready : List Thread) (waiting : List (List Thread)) (ds : List ℕ) (forks : List Fork)
    → (t : Tracked low top total at (kind.LeftBrace ∷ more) live waiting ds forks) → (r : Readied low at (kind.LeftBrace ∷ more) ready t.root t.goal t.from t.end t.height t.told t.x.choices t.inner)
    → (mid : List TokenKind) (inner_height : ℕ) (inner outer : List Fork) (p : Part) (base : ℕ) → r.later ≡ inner ++ outer → waits_for r.x ≡ Some p → (t.told.is ≡ true → low (at + 1) → (met_part p r.x).deep ≡ false)
    → Awaits t.told.spot at mid t.end (met_part p r.x).frames (met_part p r.x).items p base
    → ((depth : ℕ) (heard : Bool) → (heard ≡ true → (t.told.is ≡ true) × (depth ≤ (met_part p r.x).depth)) → Path true low (within t.told heard at base) false (begun (look_of (kind.LeftBrace ∷ more)) p depth) at (kind.LeftBrace ∷ more) mid inner_height inner)
    → (t.told.is ≡ true → low (at + (length (kind.LeftBrace ∷ more) - length mid)) → (received (own_height p inner_height) (met_part p r.x)).deep ≡ false)
    → Seen t.told.spot (at + (length (kind.LeftBrace ∷ more) - length mid)) mid t.end (received (own_height p inner_height) (met_part p r.x)).frames (received (own_height p inner_height) (met_part p r.x)).items
    → Path true low t.told false (received (own_height p inner_height) (met_part p r.x)) (at + (length (kind.LeftBrace ∷ more) - length mid)) mid t.end t.height outer
    → Entered low top total at kind.LeftBrace more ready waiting ds forks
unfolding number_of
enter_waits low falls top total at more live ready waiting ds forks t r mid inner_height inner outer p base later_is w shallow awaits go then_shallow then_seen then_path =
    let tokens = kind.LeftBrace ∷ more in
    let look = look_of tokens in
    let y = met_part p r.x in
    let those = those_waiting ready in
    let five = apart_five p (waits_front r.x p w).apart in
    let any : any_waits ready ≡ true = ap any_waits r.ready_is ∙ one_waits r.before r.after r.x p w in
    let same = entered_inside kind.LeftBrace more ready waiting any in
    let those_is : those ≡ those_waiting r.before ++ y ∷ those_waiting r.after = ap those_waiting r.ready_is ∙ those_at r.before r.after r.x p w in
    let least = least_in None p (those_waiting r.before) (those_waiting r.after) y (it_wants y p (met_waits p p r.x w)) in
    let d = least.0 in
    let depth_is : least_from None p those ≡ Some d = ap (least_from None p) those_is ∙ least.1 in
    let b = begun look p d in
    let inside_is = inside_at (λ (q : Part) (u : Thread). Dead q more mid (after_read u)) look those p b five (begun_alone more p those d depth_is) (λ q g e f differs. other_dead more mid q g e f differs) in
    let h = hear low falls at d y.depth t.told.is y.deep t.hears shallow least.2 in
    let o = opens tokens p d five in
    let heard = within t.told h.heard at base in
    let inner_path = go d h.heard h.holds in
    let on = reads_on low heard false b at kind.LeftBrace more mid inner_height inner (o.reads refl) o.waits inner_path in
    let whole = path_derives low heard false b at tokens mid inner_height inner inner_path in
    let fits : length mid ≤ length tokens = no_longer (coming b) tokens mid whole.0 whole.1 in
    let then_at = at + (length tokens - length mid) in
    let place : then_at + length mid ≡ total = omega (arith, t.place, fits) in
    let choices_of_y : y.choices ≡ chosen_with at r.news t.x.choices = met_choices p r.x ∙ r.choices_are in
    let around : Around low top total heard.spot (those ∷ waiting) p tokens mid inner_height false (y.choices ++ t.cs) (outer ++ t.outer) =
    in_brace those (those_waiting r.before) (those_waiting r.after) waiting y p t.goal t.from tokens mid t.end t.told t.root then_at inner_height t.height at base t.cs outer t.outer
    those_is (met_waits p p r.x w) ((met_part_keeps p r.x).1 ∙ r.goal_is)
    (those_each (Dead t.goal tokens t.end) (Dead t.goal tokens t.end) r.before (λ u q k. met_dead t.goal tokens t.end u q k) r.dead)
    (those_each (Readable t.root t.from tokens) (Good t.root t.from tokens) ready (λ u q k. met_good t.root t.from tokens u q k.0) r.good)
    then_shallow awaits then_seen then_path place (hears_later low falls t.told.is at then_at (omega arith) t.hears) t.around in
    let now : AtToken low top total at kind.LeftBrace more (inside look those) (those ∷ waiting) (chosen_with at r.news ds) (inner ++ (outer ++ t.outer)) = record {
      root = false;
      goal = p;
      from = tokens;
      end = mid;
      height = inner_height;
      told = heard;
      x = b;
      before = inside_is.before;
      after = inside_is.after;
      cs = y.choices ++ t.cs;
      inner = inner;
      outer = outer ++ t.outer;
      ready_is = inside_is.is;
      goal_is = o.own_goal;
      seen = on.seen;
      path = on.path;
      shallow = on.shallow;
      gone = inside_each (λ (u : Thread). Gone false tokens kind.LeftBrace more (after_read u)) look those (λ g e f. begun_gone more g e f);
      dead = inside_is.others;
      hears = h.hears;
      around = around;
      choices_are = ap (chosen_with at r.news) t.choices_are ∙ chosen_front at r.news t.x.choices t.cs ∙ ap (λ (l : List ℕ). l ++ t.cs) (sym choices_of_y) ∙ ap (λ (l : List ℕ). l ++ (y.choices ++ t.cs)) (sym o.own_choices);
      forks_are = refl;
      place = omega (arith, t.place);
    } in
    record {
      news = r.news;
      later = inner ++ (outer ++ t.outer);
      few = r.few;
      forks_were = t.forks_are ∙ ap (λ (l : List Fork). l ++ t.outer) (r.forks_are ∙ ap (λ (l : List Fork). noted tokens r.news ++ l) later_is)
          ∙ append_assoc (noted tokens r.news) (inner ++ outer) t.outer ∙ ap (λ (l : List Fork). noted tokens r.news ++ l) (append_assoc inner outer t.outer);
      now = subst (λ (l : List Thread). AtToken low top total at kind.LeftBrace more l (entered_waiting ready waiting) (chosen_with at r.news ds) (inner ++ (outer ++ t.outer))) (sym same.0)
          (subst (λ (l : List (List Thread)). AtToken low top total at kind.LeftBrace more (inside look those) l (chosen_with at r.news ds) (inner ++ (outer ++ t.outer))) (sym same.1) now);
    }

-- ---- both

record WaitsOn (low : ℕ → Type 0) (told : Told) (t : Thread) (at : ℕ) (k : TokenKind) (more end : List TokenKind) (height : ℕ) (forks : List Fork) : Type 0 where
  p : Part
  base : ℕ
  mid : List TokenKind
  inner_height : ℕ
  inner : List Fork
  outer : List Fork
  brace : k ≡ kind.LeftBrace
  later_is : forks ≡ inner ++ outer
  waits : waits_for t ≡ Some p
  shallow : told.is ≡ true → low (at + 1) → (met_part p t).deep ≡ false
  awaits : Awaits told.spot at mid end (met_part p t).frames (met_part p t).items p base
  go : (depth : ℕ) (heard : Bool) → (heard ≡ true → (told.is ≡ true) × (depth ≤ (met_part p t).depth)) → Path true low (within told heard at base) false (begun (look_of (k ∷ more)) p depth) at (k ∷ more) mid inner_height inner
  then_shallow : told.is ≡ true → low (at + (length (k ∷ more) - length mid)) → (received (own_height p inner_height) (met_part p t)).deep ≡ false
  then_seen : Seen told.spot (at + (length (k ∷ more) - length mid)) mid end (received (own_height p inner_height) (met_part p t)).frames (received (own_height p inner_height) (met_part p t)).items
  then_path : Path true low told false (received (own_height p inner_height) (met_part p t)) (at + (length (k ∷ more) - length mid)) mid end height outer

waits_or : (low : ℕ → Type 0) (told : Told) (calm : Bool) (t : Thread) (at : ℕ) (k : TokenKind) (more end : List TokenKind) (height : ℕ) (forks : List Fork) → length end < length (k ∷ more) → next_move (look_of (k ∷ more)) true t ≡ move.Read
    → Path true low told calm t at (k ∷ more) end height forks → (waits_for t ≡ None) ⊎ WaitsOn low told t at k more end height forks
waits_or low told calm t at k more end height forks l h (path_ends _ _ _ _ _ e) = absurd (omega arith)
waits_or low told calm t at k more end height forks l h (path_closes _ _ _ _ _ _ _ _ g _) = absurd (let e : move.Read ≡ move.Close = sym h ∙ g in cc)
waits_or low told calm t at k more end height forks l h (path_rule _ _ _ _ _ _ _ _ r _ _ g _ _ _) = absurd (let e : move.Read ≡ move.Rule r = sym h ∙ g in cc)
waits_or low told calm t at k more end height forks l h (path_group _ _ _ _ _ _ _ _ r _ _ g _ _ _) = absurd (let e : move.Read ≡ move.Group r = sym h ∙ g in cc)
waits_or low told calm t at k more end height forks l h (path_reads _ _ _ _ _ _ _ _ _ g v f seen path) = inl v
waits_or low told calm t at k more end height forks l h (path_waits _ _ _ _ _ mid _ _ inner_height inner outer p base _ g v f awaits go s seen path) = inr (record {
  p = p;
  base = base;
  mid = mid;
  inner_height = inner_height;
  inner = inner;
  outer = outer;
  brace = refl;
  later_is = refl;
  waits = v;
  shallow = f;
  awaits = awaits;
  go = go;
  then_shallow = s;
  then_seen = seen;
  then_path = path;
})

enter_brace : (low : ℕ → Type 0) → ((n : ℕ) → low (n + 1) → low n) → (top total at : ℕ) (k : TokenKind) (more : List TokenKind) (live ready : List Thread) (waiting : List (List Thread)) (ds : List ℕ) (forks : List Fork) → k ≡ kind.LeftBrace
    → (t : Tracked low top total at (k ∷ more) live waiting ds forks) → (r : Readied low at (k ∷ more) ready t.root t.goal t.from t.end t.height t.told t.x.choices t.inner) → WaitsOn low t.told r.x at k more t.end t.height r.later
    → Entered low top total at k more ready waiting ds forks
enter_brace low falls top total at k more live ready waiting ds forks e =
    subst (λ (j : TokenKind). (t : Tracked low top total at (j ∷ more) live waiting ds forks) → (r : Readied low at (j ∷ more) ready t.root t.goal t.from t.end t.height t.told t.x.choices t.inner) → WaitsOn low t.told r.x at j more t.end t.height r.later
    → Entered low top total at j more ready waiting ds forks) (sym e)
    (λ t r on. enter_waits low falls top total at more live ready waiting ds forks t r on.mid on.inner_height on.inner on.outer on.p on.base on.later_is on.waits on.shallow on.awaits on.go on.then_shallow on.then_seen on.then_path)

pub enter_path : (low : ℕ → Type 0) → ((n : ℕ) → low (n + 1) → low n) → (top total at : ℕ) (k : TokenKind) (more : List TokenKind) (live : List Thread) (waiting : List (List Thread)) (ds : List ℕ) (forks : List Fork)
    → Tracked low top total at (k ∷ more) live waiting ds forks → Entered low top total at k more (settled_all (look_of (k ∷ more)) at live) waiting ds forks
enter_path low falls top total at k more live waiting ds forks t =
    let ready = settled_all (look_of (k ∷ more)) at live in
    let r = readied low top total at (k ∷ more) live waiting ds forks t in
    elim (waits_or low t.told r.calmer r.x at k more t.end t.height r.later t.shorter r.reads r.path) [
      | inl none ↦ enter_reads low falls top total at k more live ready waiting ds forks t r none
      | inr on ↦ enter_brace low falls top total at k more live ready waiting ds forks on.brace t r on
    ]
