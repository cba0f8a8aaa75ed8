-- What a thread of the first pass has to come, before and after its moves, and what that derives.
use Rattle.std.proofs.Common.{◌≡◌, ℕ, zero, suc, Bool, true, false, ◌&&◌, ◌||◌, inl, inr, List, [], ◌∷◌, ◌++◌, map, length, Option, Some, None, refl, sym, ◌∙◌, ap, subst}
use Rattle.std.specs.Prelude.{if◌then◌else◌, not, nat_lt}
use Rattle.zig_tree.specs.declared.token.TokenKind.{TokenKind}
use Rattle.zig_tree.specs.declared.token.TokenKind.TheVariants as kind
use Rattle.zig_tree.specs.declared.grammar.Rule.{Rule}
use Rattle.zig_tree.specs.declared.grammar.Group.{Group}
use Rattle.zig_tree.specs.declared.grammar.Part.{Part}
use Rattle.zig_tree.specs.declared.grammar.Part.TheVariants as part
use Rattle.zig_tree.specs.Kinds.{is_kind, has_kind}
use Rattle.zig_tree.specs.Grammar.{Alternative, group_rows, rule_rows}
use Rattle.zig_tree.specs.GrammarSentences.{Pieces, word, followed, made, open_at, Among, Derives, derives_token, derives_one_of, derives_group, derives_rule}
use Rattle.zig_parse.specs.declared.choice.Look.{Look}
use Rattle.zig_parse.specs.declared.thread.Frame.{Frame}
use Rattle.zig_parse.specs.declared.thread.Item.{Item}
use Rattle.zig_parse.specs.declared.thread.Thread.{Thread}
use Rattle.zig_parse.specs.declared.thread.Move.{Move}
use Rattle.zig_parse.specs.declared.thread.Move.TheVariants as move
use Rattle.zig_parse.specs.Stack.{rest}
use Rattle.zig_parse.specs.Threads.{after_read, closed, closed_from, hardened, has_braces, is_apart, is_braced, is_deep, is_never_alone, item, met, met_from, met_part, opened, passed, put, received, replaced, touched_from}
use Rattle.zig_parse.specs.Moves.{at_choice, apart_from, move_at, move_from, moving, moving_by, next_move, readers, reading, reading_by, settled, spread, waits_for}
use Rattle.zig_parse.proofs.Derived.{open_is_row, split_derived}
use Rattle.zig_parse.proofs.Tables.{same_kind}
use Rattle.zig_parse.proofs.Picks.{choices_as, parts_in}
use Rattle.zig_parse.proofs.Costs.{IsFront, rule_front, group_front_at, met_keeps}
use Rattle.zig_parse.proofs.Paths.{look_of, parts_of_items}
use Rattle.zig_parse.proofs.Tidy.{Fits, tidy, rule_tidy, group_tidy}

-- what a thread has to come
abbrev pub coming : Thread → List Part
coming t = parts_of_items t.items

-- each of some threads
abbrev pub Each : (Thread → Type 0) → List Thread → Type 0
Each P [] = Unit {0}
Each P (t ∷ ts) = P t × Each P ts

pub each_joined : (P : Thread → Type 0) (a b : List Thread) → Each P a → Each P b → Each P (a ++ b)
each_joined P [] b h k = k
each_joined P (t ∷ a) b h k = (h.0, each_joined P a b h.1 k)

pub each_kept : (P Q : Thread → Type 0) (ts : List Thread) → ((t : Thread) → P t → Q t) → Each P ts → Each Q ts
each_kept P Q [] f h = tt
each_kept P Q (t ∷ ts) f h = (f t h.0, each_kept P Q ts f h.1)

pub each_at : (P : Thread → Type 0) (a b : List Thread) (t : Thread) → Each P (a ++ t ∷ b) → P t
each_at P [] b t h = h.0
each_at P (s ∷ a) b t h = each_at P a b t h.1

-- ---- items after a change

put_parts : (level : ℕ) (ps : List Part) (is : List Item) → parts_of_items (map (item level) ps ++ is) ≡ ps ++ parts_of_items is
put_parts level [] is = refl
put_parts level (p ∷ ps) is = ap (λ (l : List Part). p ∷ l) (put_parts level ps is)

pub rule_coming : (r : Rule) (ps : List Part) (t : Thread) → coming (replaced (Some r) ps t) ≡ ps ++ parts_of_items (rest t.items)
unfolding replaced put opened met
rule_coming r ps t =
    let k = met_keeps r (passed t) t.frames in
    put_parts (suc (length (met_from r (passed t) t.frames).frames)) ps (met_from r (passed t) t.frames).items ∙ ap (λ (l : List Item). ps ++ parts_of_items l) k.0

pub group_coming : (ps : List Part) (t : Thread) → coming (replaced None ps t) ≡ ps ++ parts_of_items (rest t.items)
unfolding replaced put
group_coming ps t = put_parts (length t.frames) ps (rest t.items)

met_goal : (r : Rule) (t : Thread) (fs : List Frame) → (met_from r t fs).goal ≡ t.goal
unfolding hardened
met_goal r t [] = refl
met_goal r t (f ∷ fs) = by (not f.solid && (nat_lt 0 f.parts || is_never_alone r))
  where
    by : (b : Bool) → (if b then hardened f t else t).goal ≡ t.goal
    by true = refl
    by false = refl

pub rule_goal : (r : Rule) (ps : List Part) (t : Thread) → (replaced (Some r) ps t).goal ≡ t.goal
unfolding replaced put opened met
rule_goal r ps t = met_goal r (passed t) t.frames

pub group_goal : (ps : List Part) (t : Thread) → (replaced None ps t).goal ≡ t.goal
unfolding replaced put
group_goal ps t = refl

closed_by : (t : Thread) (fs : List Frame) → ((closed_from t fs).items ≡ t.items) × ((closed_from t fs).goal ≡ t.goal)
closed_by t [] = (refl, refl)
closed_by t (f ∷ fs) = (refl, refl)

pub closed_keeps : (t : Thread) → ((closed t).items ≡ t.items) × ((closed t).goal ≡ t.goal)
unfolding closed
closed_keeps t = closed_by t t.frames

pub met_part_keeps : (p : Part) (t : Thread) → ((met_part p t).items ≡ t.items) × ((met_part p t).goal ≡ t.goal)
unfolding met
met_part_keeps (part.Rule r) t = ((met_keeps r t t.frames).0, met_goal r t t.frames)
met_part_keeps (part.Group _) t = (refl, refl)
met_part_keeps (part.Token _) t = (refl, refl)
met_part_keeps (part.OneOf _) t = (refl, refl)

read_by : (t : Thread) (fs : List Frame) → ((touched_from t fs).items ≡ t.items) × ((touched_from t fs).goal ≡ t.goal)
unfolding hardened
read_by t [] = (refl, refl)
read_by t (f ∷ fs) = by f.solid
  where
    by : (b : Bool) → ((if b then record t { deep = t.deep || is_deep t.depth 0 } else hardened f t).items ≡ t.items) × ((if b then record t { deep = t.deep || is_deep t.depth 0 } else hardened f t).goal ≡ t.goal)
    by true = (refl, refl)
    by false = (refl, refl)

pub read_keeps : (t : Thread) → ((after_read t).items ≡ rest t.items) × ((after_read t).goal ≡ t.goal)
unfolding after_read
read_keeps t = read_by (passed t) t.frames

pub received_keeps : (height : ℕ) (t : Thread) → ((received height t).items ≡ rest t.items) × ((received height t).goal ≡ t.goal)
unfolding received
received_keeps height t = (refl, refl)

-- ---- the part in front

pub front_coming : (t : Thread) (n : ℕ) (p : Part) → IsFront n t.items p → coming t ≡ p ∷ parts_of_items (rest t.items)
front_coming t n p f = ap parts_of_items f.items ∙ ap (λ (q : Part). q ∷ parts_of_items f.is) f.part_is ∙ ap (λ (l : List Item). p ∷ parts_of_items (rest l)) (sym f.items)

at_level : (look : Look) (n : ℕ) (i : Item) (m : Move) (b : Bool) → nat_lt i.level n ≡ b → (if b then move.Close else move_at look true i.part) ≡ m → (m ≡ move.Close → ⊥) → move_at look true i.part ≡ m
at_level look n i m true e h never = absurd (never (sym h))
at_level look n i m false e h never = h

front_move : (look : Look) (t : Thread) (p : Part) (m : Move) → (f : IsFront (length t.frames) t.items p) → next_move look true t ≡ m → (m ≡ move.Close → ⊥) → move_at look true p ≡ m
unfolding next_move
front_move look t p m f h never =
    let e : move_from look true (length t.frames) (f.i ∷ f.is) ≡ m = ap (move_from look true (length t.frames)) (sym f.items) ∙ h in
    ap (move_at look true) (sym f.part_is) ∙ at_level look (length t.frames) f.i m (nat_lt f.i.level (length t.frames)) refl e never

reading_rule : (b : Bool) (r : Rule) → reading b ≡ move.Rule r → ⊥
reading_rule true r h = cc
reading_rule false r h = cc

reading_group : (b : Bool) (g : Group) → reading b ≡ move.Group g → ⊥
reading_group true g h = cc
reading_group false g h = cc

rule_not_apart : (look : Look) (r : Rule) (b : Bool) → is_braced r ≡ b → (if b then reading (is_kind look.kind kind.LeftBrace) else move.Rule r) ≡ move.Rule r → is_braced r ≡ false
rule_not_apart look r true e h = absurd (reading_rule (is_kind look.kind kind.LeftBrace) r h)
rule_not_apart look r false e h = e

group_not_apart : (look : Look) (g : Group) (b : Bool) → has_braces g ≡ b → (if b then reading (is_kind look.kind kind.LeftBrace) else move.Group g) ≡ move.Group g → has_braces g ≡ false
group_not_apart look g true e h = absurd (reading_group (is_kind look.kind kind.LeftBrace) g h)
group_not_apart look g false e h = e

-- a thread that replaces a rule has it in front, and it is in no braces
pub rule_in_front : (look : Look) (t : Thread) (r : Rule) → next_move look true t ≡ move.Rule r → (coming t ≡ part.Rule r ∷ parts_of_items (rest t.items)) × (is_braced r ≡ false)
unfolding next_move
rule_in_front look t r h =
    let f = rule_front look true (length t.frames) t.items r h in
    (front_coming t (length t.frames) (part.Rule r) f, rule_not_apart look r (is_braced r) refl (front_move look t (part.Rule r) (move.Rule r) f h (λ e. cc)))

pub group_in_front : (look : Look) (t : Thread) (g : Group) → next_move look true t ≡ move.Group g → (coming t ≡ part.Group g ∷ parts_of_items (rest t.items)) × (has_braces g ≡ false)
unfolding next_move
group_in_front look t g h =
    let f = group_front_at look true (length t.frames) t.items g h in
    (front_coming t (length t.frames) (part.Group g) f, group_not_apart look g (has_braces g) refl (front_move look t (part.Group g) (move.Group g) f h (λ e. cc)))

-- ---- a move loses no way to derive the tokens

-- a thread comes from one with this goal and these parts to come: what its own parts derive, those do
pub record Comes (tokens : List TokenKind) (goal : Part) (ps : List Part) (u : Thread) : Type 0 where
  pub same_goal : u.goal ≡ goal
  pub back : (end : List TokenKind) (p : Pieces) → Derives (coming u) tokens end p → (q : Pieces) × Derives ps tokens end q
  pub tidies : (root : Bool) → tidy root ps ≡ true → tidy root (coming u) ≡ true

pub rule_comes : (tokens : List TokenKind) (t : Thread) (r : Rule) (a : Alternative) → next_move (look_of tokens) true t ≡ move.Rule r → Among a (open_at tokens (rule_rows r)) → Comes tokens t.goal (coming t) (replaced (Some r) a.parts t)
rule_comes tokens t r a h m =
    let f = rule_in_front (look_of tokens) t r h in
    let qs = parts_of_items (rest t.items) in
    record {
      same_goal = rule_goal r a.parts t;
      back = λ end p d. (let s = split_derived a.parts qs tokens end p (subst (λ (l : List Part). Derives l tokens end p) (rule_coming r a.parts t) d) in
          (followed (made r s.1) s.2, subst (λ (l : List Part). Derives l tokens end (followed (made r s.1) s.2)) (sym f.0) (derives_rule r a qs tokens s.0 end s.1 s.2 m s.4 s.5)));
      tidies = λ root k. subst (λ (l : List Part). tidy root l ≡ true) (sym (rule_coming r a.parts t)) (rule_tidy root r a qs f.1 (open_is_row tokens a (rule_rows r) m) (subst (λ (l : List Part). tidy root l ≡ true) f.0 k));
    }

pub group_comes : (tokens : List TokenKind) (t : Thread) (g : Group) (a : Alternative) → next_move (look_of tokens) true t ≡ move.Group g → Among a (open_at tokens (group_rows g)) → Comes tokens t.goal (coming t) (replaced None a.parts t)
group_comes tokens t g a h m =
    let f = group_in_front (look_of tokens) t g h in
    let qs = parts_of_items (rest t.items) in
    record {
      same_goal = group_goal a.parts t;
      back = λ end p d. (let s = split_derived a.parts qs tokens end p (subst (λ (l : List Part). Derives l tokens end p) (group_coming a.parts t) d) in
          (followed s.1 s.2, subst (λ (l : List Part). Derives l tokens end (followed s.1 s.2)) (sym f.0) (derives_group g a qs tokens s.0 end s.1 s.2 m s.4 s.5)));
      tidies = λ root k. subst (λ (l : List Part). tidy root l ≡ true) (sym (group_coming a.parts t)) (group_tidy root g a qs f.1 (open_is_row tokens a (group_rows g) m) (subst (λ (l : List Part). tidy root l ≡ true) f.0 k));
    }

closed_comes : (tokens : List TokenKind) (t : Thread) → Comes tokens t.goal (coming t) (closed t)
closed_comes tokens t =
    let k = closed_keeps t in
    record {
      same_goal = k.1;
      back = λ end p d. (p, subst (λ (l : List Item). Derives (parts_of_items l) tokens end p) k.0 d);
      tidies = λ root e. subst (λ (l : List Item). tidy root (parts_of_items l) ≡ true) (sym k.0) e;
    }

-- a choice of the thread's own changes nothing
pub chosen_move : (look : Look) (at : ℕ) (t : Thread) (m : Move) → next_move look true t ≡ m → next_move look true (at_choice at t) ≡ m
unfolding next_move
chosen_move look at t m h = h

pub spread_each : (P : Thread → Type 0) (at : ℕ) (r : Option Rule) (rows : List Alternative) (t : Thread)
    → ((a : Alternative) → Among a rows → P (replaced r a.parts t) × P (replaced r a.parts (at_choice at t))) → Each P (spread at r (parts_in rows) t)
unfolding spread
spread_each P at r [] t f = tt
spread_each P at r (a ∷ []) t f = ((f a (inl refl)).0, tt)
spread_each P at r (a ∷ b ∷ more) t f = ((f a (inl refl)).0, ((f b (inr (inl refl))).1, tt))

moving_by_come : (tokens : List TokenKind) (at : ℕ) (t : Thread) (m : Move) → next_move (look_of tokens) true t ≡ m → Each (Comes tokens t.goal (coming t)) (moving_by (look_of tokens) at t m)
moving_by_come tokens at t move.Stop h = tt
moving_by_come tokens at t move.Read h = tt
moving_by_come tokens at t move.Close h = (closed_comes tokens t, tt)
moving_by_come tokens at t (move.Rule r) h =
    subst (λ (l : List (List Part)). Each (Comes tokens t.goal (coming t)) (spread at (Some r) l t)) (sym (choices_as tokens (rule_rows r)))
    (spread_each (Comes tokens t.goal (coming t)) at (Some r) (open_at tokens (rule_rows r)) t (λ a m. (rule_comes tokens t r a h m, rule_comes tokens (at_choice at t) r a (chosen_move (look_of tokens) at t (move.Rule r) h) m)))
moving_by_come tokens at t (move.Group g) h =
    subst (λ (l : List (List Part)). Each (Comes tokens t.goal (coming t)) (spread at None l t)) (sym (choices_as tokens (group_rows g)))
    (spread_each (Comes tokens t.goal (coming t)) at None (open_at tokens (group_rows g)) t (λ a m. (group_comes tokens t g a h m, group_comes tokens (at_choice at t) g a (chosen_move (look_of tokens) at t (move.Group g) h) m)))

pub moving_come : (tokens : List TokenKind) (at : ℕ) (t : Thread) → Each (Comes tokens t.goal (coming t)) (moving (look_of tokens) at t)
unfolding moving
moving_come tokens at t = moving_by_come tokens at t (next_move (look_of tokens) true t) refl

-- ---- up to the token

readers_by : (P Q : Thread → Type 0) (look : Look) (t : Thread) (m : Move) → next_move look true t ≡ m → P t → (P t → next_move look true t ≡ move.Read → Q t) → Each Q (reading_by t m)
readers_by P Q look t move.Stop h p f = tt
readers_by P Q look t move.Read h p f = (f p h, tt)
readers_by P Q look t move.Close h p f = tt
readers_by P Q look t (move.Rule _) h p f = tt
readers_by P Q look t (move.Group _) h p f = tt

-- what each move keeps, and holds of those that can read
pub settled_each : (P Q : Thread → Type 0) (look : Look) (at : ℕ) → ((t : Thread) → P t → Each P (moving look at t)) → ((t : Thread) → P t → next_move look true t ≡ move.Read → Q t)
    → (n : ℕ) (ts : List Thread) → Each P ts → Each Q (settled n look at ts)
unfolding settled readers
settled_each P Q look at f g zero ts h = tt
settled_each P Q look at f g (suc n) [] h = tt
settled_each P Q look at f g (suc n) (t ∷ ts) h =
    each_joined Q (readers look t) (settled n look at (moving look at t ++ ts)) (readers_by P Q look t (next_move look true t) refl h.0 (g t))
    (settled_each P Q look at f g n (moving look at t ++ ts) (each_joined P (moving look at t) ts (f t h.0) h.1))

-- ---- a thread that can read the token

-- a token is in front, which it reads
pub record Reading (k : TokenKind) (t : Thread) : Type 0 where
  pub p : Part
  pub first : coming t ≡ p ∷ parts_of_items (rest t.items)
  pub fits : Fits p k

-- or a part in braces, which others read
pub record Waiting (p : Part) (t : Thread) : Type 0 where
  pub first : coming t ≡ p ∷ parts_of_items (rest t.items)
  pub apart : is_apart p ≡ true

reading_is : (b : Bool) → reading b ≡ move.Read → b ≡ true
reading_is true h = refl
reading_is false h = absurd (cc)

fits_rule : (look : Look) (r : Rule) (b : Bool) → b ≡ false → (if b then reading (is_kind look.kind kind.LeftBrace) else move.Rule r) ≡ move.Read → ⊥
fits_rule look r true e h = cc
fits_rule look r false e h = cc

fits_group : (look : Look) (g : Group) (b : Bool) → b ≡ false → (if b then reading (is_kind look.kind kind.LeftBrace) else move.Group g) ≡ move.Read → ⊥
fits_group look g true e h = cc
fits_group look g false e h = cc

fits_by : (look : Look) (p : Part) → move_at look true p ≡ move.Read → is_apart p ≡ false → Fits p look.kind
fits_by look (part.Token j) h a = reading_is (is_kind j look.kind) h
fits_by look (part.OneOf c) h a = reading_is (has_kind c look.kind) h
fits_by look (part.Rule r) h a = fits_rule look r (is_braced r) a h
fits_by look (part.Group g) h a = fits_group look g (has_braces g) a h

brace_by : (look : Look) (p : Part) → move_at look true p ≡ move.Read → is_apart p ≡ true → is_kind look.kind kind.LeftBrace ≡ true
brace_by look (part.Token j) h a = absurd (cc)
brace_by look (part.OneOf c) h a = absurd (cc)
brace_by look (part.Rule r) h a = by (is_braced r) a h
  where
    by : (b : Bool) → b ≡ true → (if b then reading (is_kind look.kind kind.LeftBrace) else move.Rule r) ≡ move.Read → is_kind look.kind kind.LeftBrace ≡ true
    by true e h = reading_is (is_kind look.kind kind.LeftBrace) h
    by false e h = absurd (cc)
brace_by look (part.Group g) h a = by (has_braces g) a h
  where
    by : (b : Bool) → b ≡ true → (if b then reading (is_kind look.kind kind.LeftBrace) else move.Group g) ≡ move.Read → is_kind look.kind kind.LeftBrace ≡ true
    by true e h = reading_is (is_kind look.kind kind.LeftBrace) h
    by false e h = absurd (cc)

apart_if : (p : Part) (b : Bool) → is_apart p ≡ b → (if b then Some p else None) ≡ None → is_apart p ≡ false
apart_if p true e h = absurd (cc)
apart_if p false e h = e

apart_some : (p q : Part) (b : Bool) → is_apart p ≡ b → (if b then Some p else None) ≡ Some q → (p ≡ q) × (is_apart p ≡ true)
apart_some p q true e h = (cc, e)
apart_some p q false e h = absurd (cc)

read_items : (look : Look) (n : ℕ) (is : List Item) → move_from look true n is ≡ move.Read → apart_from is ≡ None → (p : Part) × (parts_of_items is ≡ p ∷ parts_of_items (rest is)) × Fits p look.kind
read_items look n [] h w = absurd (cc)
read_items look n (i ∷ is) h w = (i.part, refl, fits_by look i.part (at_level look n i move.Read (nat_lt i.level n) refl h (λ e. cc)) (apart_if i.part (is_apart i.part) refl w))

pub reads_front : (look : Look) (t : Thread) → next_move look true t ≡ move.Read → waits_for t ≡ None → Reading look.kind t
unfolding next_move waits_for
reads_front look t h w = let s = read_items look (length t.frames) t.items h w in record { p = s.0; first = s.1; fits = s.2 }

wait_items : (is : List Item) (p : Part) → apart_from is ≡ Some p → (parts_of_items is ≡ p ∷ parts_of_items (rest is)) × (is_apart p ≡ true)
wait_items [] p w = absurd (cc)
wait_items (i ∷ is) p w = let s = apart_some i.part p (is_apart i.part) refl w in (ap (λ (q : Part). q ∷ parts_of_items is) s.0, ap is_apart (sym s.0) ∙ s.1)

pub waits_front : (t : Thread) (p : Part) → waits_for t ≡ Some p → Waiting p t
unfolding waits_for
waits_front t p w = let s = wait_items t.items p w in record { first = s.0; apart = s.1 }

brace_items : (look : Look) (n : ℕ) (is : List Item) (p : Part) → move_from look true n is ≡ move.Read → apart_from is ≡ Some p → is_kind look.kind kind.LeftBrace ≡ true
brace_items look n [] p h w = absurd (cc)
brace_items look n (i ∷ is) p h w = brace_by look i.part (at_level look n i move.Read (nat_lt i.level n) refl h (λ e. cc)) (apart_some i.part p (is_apart i.part) refl w).1

-- a thread waits at a brace alone
pub waits_brace : (look : Look) (t : Thread) (p : Part) → next_move look true t ≡ move.Read → waits_for t ≡ Some p → is_kind look.kind kind.LeftBrace ≡ true
unfolding next_move waits_for
waits_brace look t p h w = brace_items look (length t.frames) t.items p h w

-- the token, and what comes after it, is derived
pub fits_derives : (p : Part) (qs : List Part) (k : TokenKind) (more end : List TokenKind) (later : Pieces) → Fits p k → Derives qs more end later → Derives (p ∷ qs) (k ∷ more) end (word k later)
fits_derives (part.Token j) qs k more end later f d = subst (λ (x : TokenKind). Derives (part.Token x ∷ qs) (k ∷ more) end (word k later)) (sym (same_kind j k f)) (derives_token k qs more end later d)
fits_derives (part.OneOf c) qs k more end later f d = derives_one_of c k qs more end later f d
fits_derives (part.Rule r) qs k more end later f d = absurd f
fits_derives (part.Group g) qs k more end later f d = absurd f
