-- How many moves a thread has before it reads a token: each rule and group has a cost, and an alternative
-- of it costs less.
use Rattle.std.proofs.Common.{◌≡◌, ℕ, zero, suc, ◌+◌, ◌-◌, ◌*◌, ◌<◌, ◌≤◌, Bool, true, false, ◌&&◌, ◌||◌, ◌⊎◌, inl, inr, List, [], ◌∷◌, ◌++◌, map, length, Option, Some, None, refl, sym, ◌∙◌, ap, subst, arith, append_assoc, append-nil}
use Rattle.std.specs.Prelude.{if◌then◌else◌, nat_lt, nat_le, not, min}
use Rattle.std.proofs.lemmas.Bool.{and_parts, ltb-true, leb-true, ltb-false}
use Rattle.zig_tree.specs.declared.token.Token.{Token}
use Rattle.zig_tree.specs.declared.token.TokenKind.{TokenKind}
use Rattle.zig_tree.specs.declared.token.TokenKind.TheVariants.{LeftBrace}
use Rattle.zig_tree.specs.declared.grammar.Rule.{Rule}
use Rattle.zig_tree.specs.declared.grammar.Group.{Group}
use Rattle.zig_tree.specs.declared.grammar.When.{When}
use Rattle.zig_tree.specs.declared.grammar.When.TheVariants as when
use Rattle.zig_tree.specs.declared.grammar.Part.{Part}
use Rattle.zig_tree.specs.declared.grammar.Part.TheVariants as part
use Rattle.zig_tree.specs.Kinds.{has_kind, is_kind}
use Rattle.zig_tree.specs.Grammar.{Alternative, holds, group_rows, rule_rows}
use Rattle.zig_tree.specs.GrammarSentences.{next_kind, second_kind, first_that_holds, with_shared, open_at, Among}
use Rattle.zig_parse.specs.declared.choice.Look.{Look}
use Rattle.zig_parse.specs.declared.thread.Frame.{Frame}
use Rattle.zig_parse.specs.declared.thread.Item.{Item}
use Rattle.zig_parse.specs.declared.thread.Thread.{Thread}
use Rattle.zig_parse.specs.declared.thread.Move.{Move}
use Rattle.zig_parse.specs.declared.thread.Move.TheVariants as move
use Rattle.zig_parse.specs.Choices.{choices}
use Rattle.zig_parse.specs.Stack.{rest, with_first}
use Rattle.zig_parse.specs.Threads.{closed, closed_from, gained, hardened, has_braces, is_braced, is_never_alone, item, met, met_from, opened, part_height, passed, put, replaced}
use Rattle.zig_parse.specs.Moves.{at_choice, move_at, move_from, moving, moving_by, moves_for, moves_for_all, next_move, readers, reading, settled, settled_all, spread}
use Rattle.zig_parse.specs.Growth.{Grown, Ready, known, known_by, moved, moved_by, picked, ready, ready_by, shut, shut_from, stuck_at, swapped}
use Rattle.zig_parse.proofs.Derived.{each_row, open_is_row}
use Rattle.zig_parse.proofs.Tokens.{ready_known}
use Rattle.zig_parse.proofs.Picks.{parts_in, choices_as, picked_open}
use Rattle.zig_parse.proofs.CostTables.{cost_of_rule, cost_of_group, cost_of, may_be_empty, may_be_nothing, front_cost, has_some, row_fits, pair_fits, pairs_fit, rows_fit, rule_costs, group_costs, rule_cost_small, group_cost_small}

-- ---- the alternatives that are taken fit

data Fits (bound : ℕ) (empty : Bool) : List Alternative → Type 0 where
  fits_none : Fits bound empty []
  fits_one : (a : Alternative) → row_fits bound empty a ≡ true → Fits bound empty (a ∷ [])
  fits_two : (a b : Alternative) → pair_fits bound a b ≡ true → Fits bound empty (a ∷ b ∷ [])

first_fits : (bound : ℕ) (empty : Bool) (tokens : List TokenKind) (a : Alternative) (more : List Alternative) → row_fits bound empty a ≡ true → each_row (pair_fits bound a) more ≡ true → Fits bound empty (a ∷ first_that_holds tokens more)
first_fits bound empty tokens a [] h e = fits_one a h
first_fits bound empty tokens a (b ∷ more) h e =
    let s = and_parts (pair_fits bound a b) (each_row (pair_fits bound a) more) e in
    by (holds (next_kind tokens) (second_kind tokens) b.at) (fits_two a b s.0) (first_fits bound empty tokens a more h s.1)
  where
    by : (t : Bool) → Fits bound empty (a ∷ b ∷ []) → Fits bound empty (a ∷ first_that_holds tokens more) → Fits bound empty (a ∷ (if t then b ∷ [] else first_that_holds tokens more))
    by true x y = x
    by false x y = y

shared_fits : (bound : ℕ) (empty : Bool) (tokens : List TokenKind) (a : Alternative) (w : When) (more : List Alternative) → row_fits bound empty a ≡ true → pairs_fit bound a w more ≡ true → Fits bound empty (with_shared tokens a w more)
shared_fits bound empty tokens a (when.Both _) more h e = first_fits bound empty tokens a more h e
shared_fits bound empty tokens a when.Always more h e = fits_one a h
shared_fits bound empty tokens a (when.Is _) more h e = fits_one a h
shared_fits bound empty tokens a (when.In _) more h e = fits_one a h
shared_fits bound empty tokens a when.Label more h e = fits_one a h

open_fits : (bound : ℕ) (empty : Bool) (tokens : List TokenKind) (rows : List Alternative) → rows_fit bound empty rows ≡ true → Fits bound empty (open_at tokens rows)
open_fits bound empty tokens [] h = fits_none
open_fits bound empty tokens (a ∷ more) h =
    let s = and_parts (row_fits bound empty a) (pairs_fit bound a a.at more && rows_fit bound empty more) h in
    let t = and_parts (pairs_fit bound a a.at more) (rows_fit bound empty more) s.1 in
    by (holds (next_kind tokens) (second_kind tokens) a.at) (shared_fits bound empty tokens a a.at more s.0 t.0) (open_fits bound empty tokens more t.1)
  where
    by : (t : Bool) → Fits bound empty (with_shared tokens a a.at more) → Fits bound empty (open_at tokens more) → Fits bound empty (if t then with_shared tokens a a.at more else open_at tokens more)
    by true x y = x
    by false x y = y

-- ---- the work of a thread

-- how many moves at most, with so many open nodes and these things to come
abbrev pub work : ℕ → List Item → ℕ
work open_nodes [] = 0
work open_nodes (i ∷ is) = (open_nodes - i.level) + cost_of i.part + (if may_be_nothing i.part then work (min open_nodes i.level) is else 0)

abbrev pub work_of : Thread → ℕ
work_of t = work (length t.frames) t.items

abbrev pub total_work : List Thread → ℕ
total_work [] = 0
total_work (t ∷ ts) = suc (work_of t) + total_work ts

-- parts that are put in front
row_by : (b h : Bool) (n c f w x : ℕ) → x ≡ f + (if h then 0 else w) → (n - n) + c + (if b then x else 0) ≡ c + (if b then f else 0) + (if not b || h then 0 else w)
row_by true h n c f w x e = omega arith
row_by false h n c f w x e = omega arith

row_work : (n : ℕ) (ps : List Part) (is : List Item) → work n (map (item n) ps ++ is) ≡ front_cost ps + (if has_some ps then 0 else work n is)
row_work n [] is = omega arith
row_work n (p ∷ ps) is =
    let same : min n n ≡ n = omega arith in
    row_by (may_be_nothing p) (has_some ps) n (cost_of p) (front_cost ps) (work n is) (work (min n n) (map (item n) ps ++ is)) (ap (λ (k : ℕ). work k (map (item n) ps ++ is)) same ∙ row_work n ps is)

cost_small : (p : Part) → cost_of p < 30
cost_small (part.Token _) = omega arith
cost_small (part.OneOf _) = omega arith
cost_small (part.Rule r) = ltb-true (cost_of_rule r) 30 (rule_cost_small r)
cost_small (part.Group g) = ltb-true (cost_of_group g) 30 (group_cost_small g)

bound_by : (b : Bool) (n level c w len : ℕ) → c < 30 → w ≤ min n level + 30 * len → (n - level) + c + (if b then w else 0) ≤ n + 30 * suc len
bound_by true n level c w len h e = omega arith
bound_by false n level c w len h e = omega arith

work_bound : (n : ℕ) (is : List Item) → work n is ≤ n + 30 * length is
work_bound n [] = omega arith
work_bound n (i ∷ is) = bound_by (may_be_nothing i.part) n i.level (cost_of i.part) (work (min n i.level) is) (length is) (cost_small i.part) (work_bound (min n i.level) is)

pub enough_work : (ts : List Thread) → total_work ts ≤ moves_for_all ts
enough_work [] = omega arith
enough_work (t ∷ ts) = let h = enough_work ts in let b = work_bound (length t.frames) t.items in omega arith

-- ---- a move leaves less

reading_never : (b : Bool) (m : Move) → reading b ≡ m → (m ≡ move.Read) ⊎ (m ≡ move.Stop)
reading_never true m e = inl (sym e)
reading_never false m e = inr (sym e)

not_close : (m : Move) → (m ≡ move.Read) ⊎ (m ≡ move.Stop) → m ≡ move.Close → ⊥
not_close m (inl e) h = let x : move.Read ≡ move.Close = sym e ∙ h in cc
not_close m (inr e) h = let x : move.Stop ≡ move.Close = sym e ∙ h in cc

pub part_not_close : (look : Look) (apart : Bool) (p : Part) → move_at look apart p ≡ move.Close → ⊥
part_not_close look apart (part.Token k) h = not_close _ (reading_never (is_kind k look.kind) _ refl) h
part_not_close look apart (part.OneOf c) h = not_close _ (reading_never (has_kind c look.kind) _ refl) h
part_not_close look apart (part.Rule r) h = by (apart && is_braced r) h
  where
    by : (b : Bool) → (if b then reading (is_kind look.kind LeftBrace) else move.Rule r) ≡ move.Close → ⊥
    by true e = not_close _ (reading_never (is_kind look.kind LeftBrace) _ refl) e
    by false e = cc
part_not_close look apart (part.Group g) h = by (apart && has_braces g) h
  where
    by : (b : Bool) → (if b then reading (is_kind look.kind LeftBrace) else move.Group g) ≡ move.Close → ⊥
    by true e = not_close _ (reading_never (is_kind look.kind LeftBrace) _ refl) e
    by false e = cc

close_by : (look : Look) (apart : Bool) (n : ℕ) (i : Item) (is : List Item) (b : Bool) → nat_lt i.level n ≡ b → (if b then move.Close else move_at look apart i.part) ≡ move.Close → suc (work (n - 1) (i ∷ is)) ≤ work n (i ∷ is)
close_by look apart n i is true e h =
    let below = ltb-true i.level n e in
    let same : min (n - 1) i.level ≡ min n i.level = omega arith in
    let w = ap (λ (k : ℕ). if may_be_nothing i.part then work k is else 0) same in
    omega (arith, w)
close_by look apart n i is false e h = absurd (part_not_close look apart i.part h)

close_items : (look : Look) (apart : Bool) (n : ℕ) (is : List Item) → move_from look apart n is ≡ move.Close → suc (work (n - 1) is) ≤ work n is
close_items look apart n [] h = absurd (cc)
close_items look apart n (i ∷ is) h = close_by look apart n i is (nat_lt i.level n) refl h

gained_length : (h : ℕ) (fs : List Frame) → length (gained h fs) ≡ length fs
gained_length h [] = refl
gained_length h (f ∷ fs) = refl

closed_work : (t : Thread) (fs : List Frame) → work (length (closed_from t fs).frames) (closed_from t fs).items ≡ work (length (closed_from t fs).frames) t.items
closed_work t [] = refl
closed_work t (f ∷ fs) = refl

closed_length : (t : Thread) (fs : List Frame) → t.frames ≡ fs → length (closed_from t fs).frames ≡ length fs - 1
closed_length t [] e = omega (arith, ap (λ (l : List Frame). length l) e)
closed_length t (f ∷ fs) e = omega (arith, gained_length (part_height f) fs)

pub close_less : (look : Look) (apart : Bool) (t : Thread) → next_move look apart t ≡ move.Close → suc (work_of (closed t)) ≤ work_of t
unfolding next_move closed
close_less look apart t h =
    let l = closed_length t t.frames refl in
    let w : work_of (closed t) ≡ work (length t.frames - 1) t.items = closed_work t t.frames ∙ ap (λ (n : ℕ). work n t.items) l in
    omega (arith, w, close_items look apart (length t.frames) t.items h)

-- the part in front of a thread that is replaced
pub record IsFront (n : ℕ) (l : List Item) (p : Part) : Type 0 where
  pub i : Item
  pub is : List Item
  pub items : l ≡ i ∷ is
  pub part_is : i.part ≡ p
  pub level : n ≤ i.level

rule_at : (look : Look) (apart : Bool) (p : Part) (r : Rule) → move_at look apart p ≡ move.Rule r → p ≡ part.Rule r
rule_at look apart (part.Token k) r h = absurd (by (is_kind k look.kind) h)
  where
    by : (b : Bool) → reading b ≡ move.Rule r → ⊥
    by true e = cc
    by false e = cc
rule_at look apart (part.OneOf c) r h = absurd (by (has_kind c look.kind) h)
  where
    by : (b : Bool) → reading b ≡ move.Rule r → ⊥
    by true e = cc
    by false e = cc
rule_at look apart (part.Rule q) r h = by (apart && is_braced q) h
  where
    read : (b : Bool) → reading b ≡ move.Rule r → ⊥
    read true e = cc
    read false e = cc

    by : (b : Bool) → (if b then reading (is_kind look.kind LeftBrace) else move.Rule q) ≡ move.Rule r → part.Rule q ≡ part.Rule r
    by true e = absurd (read (is_kind look.kind LeftBrace) e)
    by false e = (let same : q ≡ r = cc in ap part.Rule same)
rule_at look apart (part.Group g) r h = absurd (by (apart && has_braces g) h)
  where
    read : (b : Bool) → reading b ≡ move.Rule r → ⊥
    read true e = cc
    read false e = cc

    by : (b : Bool) → (if b then reading (is_kind look.kind LeftBrace) else move.Group g) ≡ move.Rule r → ⊥
    by true e = read (is_kind look.kind LeftBrace) e
    by false e = cc

group_at : (look : Look) (apart : Bool) (p : Part) (g : Group) → move_at look apart p ≡ move.Group g → p ≡ part.Group g
group_at look apart (part.Token k) g h = absurd (by (is_kind k look.kind) h)
  where
    by : (b : Bool) → reading b ≡ move.Group g → ⊥
    by true e = cc
    by false e = cc
group_at look apart (part.OneOf c) g h = absurd (by (has_kind c look.kind) h)
  where
    by : (b : Bool) → reading b ≡ move.Group g → ⊥
    by true e = cc
    by false e = cc
group_at look apart (part.Rule q) g h = absurd (by (apart && is_braced q) h)
  where
    read : (b : Bool) → reading b ≡ move.Group g → ⊥
    read true e = cc
    read false e = cc

    by : (b : Bool) → (if b then reading (is_kind look.kind LeftBrace) else move.Rule q) ≡ move.Group g → ⊥
    by true e = read (is_kind look.kind LeftBrace) e
    by false e = cc
group_at look apart (part.Group q) g h = by (apart && has_braces q) h
  where
    read : (b : Bool) → reading b ≡ move.Group g → ⊥
    read true e = cc
    read false e = cc

    by : (b : Bool) → (if b then reading (is_kind look.kind LeftBrace) else move.Group q) ≡ move.Group g → part.Group q ≡ part.Group g
    by true e = absurd (read (is_kind look.kind LeftBrace) e)
    by false e = (let same : q ≡ g = cc in ap part.Group same)

front_by : (look : Look) (apart : Bool) (n : ℕ) (i : Item) (is : List Item) (m : Move) (p : Part) (b : Bool) → nat_lt i.level n ≡ b → (if b then move.Close else move_at look apart i.part) ≡ m → (m ≡ move.Close → ⊥) → (move_at look apart i.part ≡ m → i.part ≡ p) → IsFront n (i ∷ is) p
front_by look apart n i is m p true e h never f = absurd (never (sym h))
front_by look apart n i is m p false e h never f = record { i = i; is = is; items = refl; part_is = f h; level = ltb-false i.level n e }

pub rule_front : (look : Look) (apart : Bool) (n : ℕ) (is : List Item) (r : Rule) → move_from look apart n is ≡ move.Rule r → IsFront n is (part.Rule r)
rule_front look apart n [] r h = absurd (cc)
rule_front look apart n (i ∷ is) r h = front_by look apart n i is (move.Rule r) (part.Rule r) (nat_lt i.level n) refl h (λ e. cc) (rule_at look apart i.part r)

pub group_front_at : (look : Look) (apart : Bool) (n : ℕ) (is : List Item) (g : Group) → move_from look apart n is ≡ move.Group g → IsFront n is (part.Group g)
group_front_at look apart n [] g h = absurd (cc)
group_front_at look apart n (i ∷ is) g h = front_by look apart n i is (move.Group g) (part.Group g) (nat_lt i.level n) refl h (λ e. cc) (group_at look apart i.part g)

-- what a thread has before, and after its first part is replaced
front_work : (n : ℕ) (is : List Item) (p : Part) (f : IsFront n is p) → work n is ≡ cost_of p + (if may_be_nothing p then work n f.is else 0)
front_work n is p f =
    let none : n - f.i.level ≡ 0 = (let l = f.level in omega arith) in
    let same : min n f.i.level ≡ n = (let l = f.level in omega arith) in
    let whole : work n is ≡ (n - f.i.level) + cost_of f.i.part + (if may_be_nothing f.i.part then work (min n f.i.level) f.is else 0) = ap (work n) f.items in
    let known : (n - f.i.level) + cost_of f.i.part + (if may_be_nothing f.i.part then work (min n f.i.level) f.is else 0) ≡ 0 + cost_of p + (if may_be_nothing p then work n f.is else 0) =
    ap (λ (k : ℕ). k + cost_of f.i.part + (if may_be_nothing f.i.part then work (min n f.i.level) f.is else 0)) none ∙ ap (λ (k : ℕ). 0 + cost_of f.i.part + (if may_be_nothing f.i.part then work k f.is else 0)) same
    ∙ ap (λ (q : Part). 0 + cost_of q + (if may_be_nothing q then work n f.is else 0)) f.part_is in
    omega (arith, whole, known)

first_length : (f : Frame) (fs : List Frame) → length (with_first f fs) ≡ length fs
first_length f [] = refl
first_length f (g ∷ fs) = refl

pub met_keeps : (r : Rule) (t : Thread) (fs : List Frame) → ((met_from r t fs).items ≡ t.items) × (length (met_from r t fs).frames ≡ length t.frames)
unfolding hardened
met_keeps r t [] = (refl, refl)
met_keeps r t (f ∷ fs) = by (not f.solid && (nat_lt 0 f.parts || is_never_alone r))
  where
    by : (b : Bool) → ((if b then hardened f t else t).items ≡ t.items) × (length (if b then hardened f t else t).frames ≡ length t.frames)
    by true = (refl, first_length (record f { solid = true }) t.frames)
    by false = (refl, refl)

rule_work : (r : Rule) (ps : List Part) (t : Thread) (n : ℕ) (f : IsFront n t.items (part.Rule r)) → n ≡ length t.frames → has_some ps ≡ true → work_of (replaced (Some r) ps t) ≡ front_cost ps
unfolding replaced put opened met
rule_work r ps t n f e h =
    let k = met_keeps r (passed t) t.frames in
    let row = row_work (suc (length (met_from r (passed t) t.frames).frames)) ps (met_from r (passed t) t.frames).items in
    let none : (if has_some ps then 0 else work (suc (length (met_from r (passed t) t.frames).frames)) (met_from r (passed t) t.frames).items) ≡ 0 = rw h refl in
    omega (arith, row, none)

group_work : (g : Group) (ps : List Part) (t : Thread) (f : IsFront (length t.frames) t.items (part.Group g)) → work_of (replaced None ps t) ≡ front_cost ps + (if has_some ps then 0 else work (length t.frames) f.is)
unfolding replaced put
group_work g ps t f = row_work (length t.frames) ps (rest t.items) ∙ ap (λ (l : List Item). front_cost ps + (if has_some ps then 0 else work (length t.frames) (rest l))) f.items

rule_whole : (r : Rule) (t : Thread) → IsFront (length t.frames) t.items (part.Rule r) → work_of t ≡ cost_of_rule r
rule_whole r t f = omega (arith, front_work (length t.frames) t.items (part.Rule r) f)

less_by : (some empty : Bool) (front bound rest_work now : ℕ) → front < bound → (some || empty) ≡ true → now ≡ front + (if some then 0 else rest_work) → suc now ≤ bound + (if empty then rest_work else 0)
less_by true empty front bound rest_work now l h e = omega arith
less_by false true front bound rest_work now l h e = omega arith
less_by false false front bound rest_work now l h e = absurd (cc)

or_true : (x : Bool) → (x || false) ≡ true → x ≡ true
or_true true h = refl
or_true false h = absurd (cc)

only_front : (some : Bool) (front rest_work : ℕ) → some ≡ true → front + (if some then 0 else rest_work) ≡ front
only_front true front rest_work h = omega arith
only_front false front rest_work h = absurd (cc)

-- ---- the threads after a move

spread_less : (bound : ℕ) (empty : Bool) (at : ℕ) (o : Option Rule) (l : List Alternative) (t : Thread) → Fits bound empty l → bound ≤ work_of t
    → ((ps : List Part) → has_some ps ≡ true → (work_of (replaced o ps t) ≡ front_cost ps) × (work_of (replaced o ps (at_choice at t)) ≡ front_cost ps))
    → ((ps : List Part) → front_cost ps < bound → (has_some ps || empty) ≡ true → suc (work_of (replaced o ps t)) ≤ work_of t) → total_work (spread at o (parts_in l) t) ≤ work_of t
unfolding spread
spread_less bound empty at o l t fits_none w f g = omega arith
spread_less bound empty at o l t (fits_one a h) w f g =
    let s = and_parts (nat_lt (front_cost a.parts) bound) (has_some a.parts || empty) h in
    let m = g a.parts (ltb-true (front_cost a.parts) bound s.0) s.1 in
    omega arith
spread_less bound empty at o l t (fits_two a b h) w f g =
    let s = and_parts (nat_le (front_cost a.parts + front_cost b.parts + 2) bound) (has_some a.parts && has_some b.parts) h in
    let u = and_parts (has_some a.parts) (has_some b.parts) s.1 in
    let l = leb-true (front_cost a.parts + front_cost b.parts + 2) bound s.0 in
    let x = (f a.parts u.0).0 in
    let y = (f b.parts u.1).1 in
    omega (arith, x, y)

choices_at : (look : Look) (rows : List Alternative) → choices look rows ≡ parts_in (open_at (look.kind ∷ look.next ∷ []) rows)
choices_at look rows = choices_as (look.kind ∷ look.next ∷ []) rows

moving_by_less : (look : Look) (at : ℕ) (t : Thread) (m : Move) → next_move look true t ≡ m → total_work (moving_by look at t m) ≤ work_of t
unfolding next_move
moving_by_less look at t move.Stop h = omega arith
moving_by_less look at t move.Read h = omega arith
moving_by_less look at t move.Close h = let l = close_less look true t h in omega arith
moving_by_less look at t (move.Rule r) h =
    let f = rule_front look true (length t.frames) t.items r h in
    let rows = open_at (look.kind ∷ look.next ∷ []) (rule_rows r) in
    let whole = rule_whole r t f in
    subst (λ (l : List (List Part)). total_work (spread at (Some r) l t) ≤ work_of t) (sym (choices_at look (rule_rows r)))
    (spread_less (cost_of_rule r) false at (Some r) rows t (open_fits (cost_of_rule r) false (look.kind ∷ look.next ∷ []) (rule_rows r) (rule_costs r)) (omega arith)
    (λ ps some. (rule_work r ps t (length t.frames) f refl some, rule_work r ps (at_choice at t) (length t.frames) f refl some))
    (λ ps l some. (let w = rule_work r ps t (length t.frames) f refl (or_true (has_some ps) some) in omega arith)))
moving_by_less look at t (move.Group g) h =
    let f = group_front_at look true (length t.frames) t.items g h in
    let rows = open_at (look.kind ∷ look.next ∷ []) (group_rows g) in
    let whole = front_work (length t.frames) t.items (part.Group g) f in
    subst (λ (l : List (List Part)). total_work (spread at None l t) ≤ work_of t) (sym (choices_at look (group_rows g)))
    (spread_less (cost_of_group g) (may_be_empty g) at None rows t (open_fits (cost_of_group g) (may_be_empty g) (look.kind ∷ look.next ∷ []) (group_rows g) (group_costs g)) (omega (arith, whole))
    (λ ps some. (group_work g ps t f ∙ only_front (has_some ps) (front_cost ps) (work (length t.frames) f.is) some, group_work g ps (at_choice at t) f ∙ only_front (has_some ps) (front_cost ps) (work (length t.frames) f.is) some))
    (λ ps l some. (let w = less_by (has_some ps) (may_be_empty g) (front_cost ps) (cost_of_group g) (work (length t.frames) f.is) (work_of (replaced None ps t)) l some (group_work g ps t f) in omega (arith, whole))))

pub moving_less : (look : Look) (at : ℕ) (t : Thread) → total_work (moving look at t) ≤ work_of t
unfolding moving
moving_less look at t = moving_by_less look at t (next_move look true t) refl

-- ---- all threads

total_joined : (a b : List Thread) → total_work (a ++ b) ≡ total_work a + total_work b
total_joined [] b = omega arith
total_joined (t ∷ a) b = omega (arith, total_joined a b)

-- more moves give the same threads
pub settled_enough : (n m : ℕ) (look : Look) (at : ℕ) (ts : List Thread) → total_work ts ≤ n → total_work ts ≤ m → settled n look at ts ≡ settled m look at ts
unfolding settled
settled_enough zero zero look at ts h k = refl
settled_enough zero (suc m) look at [] h k = refl
settled_enough zero (suc m) look at (t ∷ ts) h k = absurd (omega arith)
settled_enough (suc n) zero look at [] h k = refl
settled_enough (suc n) zero look at (t ∷ ts) h k = absurd (omega arith)
settled_enough (suc n) (suc m) look at [] h k = refl
settled_enough (suc n) (suc m) look at (t ∷ ts) h k =
    let l = moving_less look at t in
    let j = total_joined (moving look at t) ts in
    ap (λ (x : List Thread). readers look t ++ x) (settled_enough n m look at (moving look at t ++ ts) (omega arith) (omega arith))

pub more_moves : (n : ℕ) (look : Look) (at : ℕ) (ts : List Thread) → moves_for_all ts ≤ n → settled n look at ts ≡ settled_all look at ts
unfolding settled_all
more_moves n look at ts h = let w = enough_work ts in settled_enough n (moves_for_all ts) look at ts (omega arith) w

pub settled_one : (look : Look) (at : ℕ) (t : Thread) (ts : List Thread) → settled_all look at (t ∷ ts) ≡ readers look t ++ settled_all look at (moving look at t ++ ts)
unfolding settled_all settled
settled_one look at t ts =
    let l = moving_less look at t in
    let j = total_joined (moving look at t) ts in
    let some = enough_work (t ∷ ts) in
    let less : moves_for_all (t ∷ ts) ≡ suc (moves_for_all (t ∷ ts) - 1) = omega arith in
    ap (λ (n : ℕ). settled n look at (t ∷ ts)) less ∙ ap (λ (x : List Thread). readers look t ++ x) (settled_enough (moves_for_all (t ∷ ts) - 1) (moves_for_all (moving look at t ++ ts)) look at (moving look at t ++ ts) (omega arith) (enough_work (moving look at t ++ ts)))

pub settled_nothing : (look : Look) (at : ℕ) → settled_all look at [] ≡ []
unfolding settled_all settled
settled_nothing look at = refl

-- what is ready and what is still to come give the same after a move
pub settled_next : (look : Look) (at : ℕ) (ready more old new left whole : List Thread) (t : Thread) → old ≡ t ∷ left → new ≡ moving look at t ++ left → more ≡ ready ++ readers look t → ready ++ settled_all look at old ≡ whole → more ++ settled_all look at new ≡ whole
settled_next look at ready more old new left whole t eo en em h =
    ap (λ (l : List Thread). l ++ settled_all look at new) em ∙ ap (λ (l : List Thread). (ready ++ readers look t) ++ settled_all look at l) en ∙ append_assoc ready (readers look t) (settled_all look at (moving look at t ++ left))
    ∙ ap (λ (l : List Thread). ready ++ l) (sym (settled_one look at t left)) ∙ ap (λ (l : List Thread). ready ++ settled_all look at l) (sym eo) ∙ h

pub settled_end : (look : Look) (at : ℕ) (ready old whole : List Thread) → old ≡ [] → ready ++ settled_all look at old ≡ whole → ready ≡ whole
settled_end look at ready old whole e h = sym (append-nil ready) ∙ ap (λ (l : List Thread). ready ++ l) (sym (settled_nothing look at)) ∙ ap (λ (l : List Thread). ready ++ settled_all look at l) (sym e) ∙ h

pub settled_less : (look : Look) (at : ℕ) (old new left : List Thread) (t : Thread) → old ≡ t ∷ left → new ≡ moving look at t ++ left → total_work new < total_work old
settled_less look at old new left t eo en =
    let l = moving_less look at t in
    let j = total_joined (moving look at t) left in
    omega (arith, ap total_work eo, ap total_work en)

-- ---- the one thread of the second pass

rows_member : (bound : ℕ) (empty : Bool) (a : Alternative) (rows : List Alternative) → rows_fit bound empty rows ≡ true → Among a rows → row_fits bound empty a ≡ true
rows_member bound empty a [] h m = elim m [ ]
rows_member bound empty a (b ∷ more) h (inl e) = subst (λ (x : Alternative). row_fits bound empty x ≡ true) (sym e) (and_parts (row_fits bound empty b) (pairs_fit bound b b.at more && rows_fit bound empty more) h).0
rows_member bound empty a (b ∷ more) h (inr m) =
    rows_member bound empty a more (and_parts (pairs_fit bound b b.at more) (rows_fit bound empty more) (and_parts (row_fits bound empty b) (pairs_fit bound b b.at more && rows_fit bound empty more) h).1).1 m

-- an alternative of a rule costs less than the rule and is not empty
pub rule_row_fits : (tokens : List TokenKind) (r : Rule) (a : Alternative) → Among a (open_at tokens (rule_rows r)) → (front_cost a.parts < cost_of_rule r) × (has_some a.parts ≡ true)
rule_row_fits tokens r a m =
    let s = and_parts (nat_lt (front_cost a.parts) (cost_of_rule r)) (has_some a.parts || false) (rows_member (cost_of_rule r) false a (rule_rows r) (rule_costs r) (open_is_row tokens a (rule_rows r) m)) in
    (ltb-true (front_cost a.parts) (cost_of_rule r) s.0, or_true (has_some a.parts) s.1)

pub group_row_fits : (tokens : List TokenKind) (g : Group) (a : Alternative) → Among a (open_at tokens (group_rows g)) → (front_cost a.parts < cost_of_group g) × ((has_some a.parts || may_be_empty g) ≡ true)
group_row_fits tokens g a m =
    let s = and_parts (nat_lt (front_cost a.parts) (cost_of_group g)) (has_some a.parts || may_be_empty g) (rows_member (cost_of_group g) (may_be_empty g) a (group_rows g) (group_costs g) (open_is_row tokens a (group_rows g) m)) in
    (ltb-true (front_cost a.parts) (cost_of_group g) s.0, s.1)

joined_by : (b h : Bool) (c f x y : ℕ) → x ≡ f + (if h then 0 else y) → c + (if b then x else 0) ≡ c + (if b then f else 0) + (if not b || h then 0 else y)
joined_by true h c f x y e = omega arith
joined_by false h c f x y e = omega arith

front_joined : (ps qs : List Part) → front_cost (ps ++ qs) ≡ front_cost ps + (if has_some ps then 0 else front_cost qs)
front_joined [] qs = omega arith
front_joined (p ∷ ps) qs = joined_by (may_be_nothing p) (has_some ps) (cost_of p) (front_cost ps) (front_cost (ps ++ qs)) (front_cost qs) (front_joined ps qs)

-- parts with an alternative in place of a group cost less
pub group_front : (tokens : List TokenKind) (g : Group) (a : Alternative) (qs : List Part) → Among a (open_at tokens (group_rows g)) → front_cost (a.parts ++ qs) ≤ front_cost (part.Group g ∷ qs)
group_front tokens g a qs m =
    let f = group_row_fits tokens g a m in
    let l = less_by (has_some a.parts) (may_be_empty g) (front_cost a.parts) (cost_of_group g) (front_cost qs) (front_cost (a.parts ++ qs)) f.0 f.1 (front_joined a.parts qs) in
    omega arith

shut_work : (tokens : List Token) (g : Grown) (fs : List Frame) → work_of (shut_from tokens g fs).thread ≡ work_of (closed g.thread)
shut_work tokens g [] = refl
shut_work tokens g (f ∷ fs) = refl

swapped_rule : (look : Look) (second : Bool) (g : Grown) (r : Rule) (o : Option (List Part)) → next_move look false g.thread ≡ move.Rule r → picked second (choices look (rule_rows r)) ≡ o → stuck_at o ≡ None → suc (work_of (swapped (Some r) o g).thread) ≤ work_of g.thread
unfolding next_move
swapped_rule look second g r None h e k = absurd (cc)
swapped_rule look second g r (Some ps) h e k =
    let f = rule_front look false (length g.thread.frames) g.thread.items r h in
    let p = picked_open (look.kind ∷ look.next ∷ []) second (rule_rows r) ps e in
    let fits = rule_row_fits (look.kind ∷ look.next ∷ []) r p.0 p.1 in
    let w = rule_work r p.0.parts g.thread (length g.thread.frames) f refl fits.1 in
    subst (λ (x : List Part). suc (work_of (replaced (Some r) x g.thread)) ≤ work_of g.thread) p.2 (omega (arith, w, rule_whole r g.thread f, fits.0))

swapped_group : (look : Look) (second : Bool) (g : Grown) (k : Group) (o : Option (List Part)) → next_move look false g.thread ≡ move.Group k → picked second (choices look (group_rows k)) ≡ o → stuck_at o ≡ None → suc (work_of (swapped None o g).thread) ≤ work_of g.thread
unfolding next_move
swapped_group look second g k None h e s = absurd (cc)
swapped_group look second g k (Some ps) h e s =
    let f = group_front_at look false (length g.thread.frames) g.thread.items k h in
    let p = picked_open (look.kind ∷ look.next ∷ []) second (group_rows k) ps e in
    let fits = group_row_fits (look.kind ∷ look.next ∷ []) k p.0 p.1 in
    let l = less_by (has_some p.0.parts) (may_be_empty k) (front_cost p.0.parts) (cost_of_group k) (work (length g.thread.frames) f.is) (work_of (replaced None p.0.parts g.thread)) fits.0 fits.1 (group_work k p.0.parts g.thread f) in
    subst (λ (x : List Part). suc (work_of (replaced None x g.thread)) ≤ work_of g.thread) p.2 (omega (arith, l, front_work (length g.thread.frames) g.thread.items (part.Group k) f))

moved_by_less : (tokens : List Token) (look : Look) (second : Bool) (g : Grown) (m : Move) → next_move look false g.thread ≡ m → known_by look second m ≡ None → suc (work_of (moved_by tokens look second g m).thread) ≤ work_of g.thread
unfolding shut
moved_by_less tokens look second g move.Stop h k = absurd (cc)
moved_by_less tokens look second g move.Read h k = absurd (cc)
moved_by_less tokens look second g move.Close h k = omega (arith, shut_work tokens g g.thread.frames, close_less look false g.thread h)
moved_by_less tokens look second g (move.Rule r) h k = swapped_rule look second g r (picked second (choices look (rule_rows r))) h refl k
moved_by_less tokens look second g (move.Group j) h k = swapped_group look second g j (picked second (choices look (group_rows j))) h refl k

moved_less : (tokens : List Token) (look : Look) (second : Bool) (g : Grown) → known look second g ≡ None → suc (work_of (moved tokens look second g).thread) ≤ work_of g.thread
unfolding moved known
moved_less tokens look second g k = moved_by_less tokens look second g (next_move look false g.thread) refl k

ready_same : (o : Option Bool) (g : Grown) (x y : Ready) → (o ≡ None → x ≡ y) → ready_by o g x ≡ ready_by o g y
ready_same None g x y f = f refl
ready_same (Some b) g x y f = refl

-- more moves change nothing
ready_enough : (n m : ℕ) (tokens : List Token) (look : Look) (second : Bool) (g : Grown) → work_of g.thread < n → work_of g.thread < m → ready n tokens look second g ≡ ready m tokens look second g
unfolding ready
ready_enough zero m tokens look second g h k = absurd (omega arith)
ready_enough (suc n) zero tokens look second g h k = absurd (omega arith)
ready_enough (suc n) (suc m) tokens look second g h k =
    ready_same (known look second g) (moved tokens look second g) (ready n tokens look second (moved tokens look second g)) (ready m tokens look second (moved tokens look second g))
    (λ e. (let l = moved_less tokens look second g e in ready_enough n m tokens look second (moved tokens look second g) (omega arith) (omega arith)))

enough_for : (t : Thread) → work_of t < moves_for t
enough_for t = let b = work_bound (length t.frames) t.items in omega arith

ready_none : (n : ℕ) (tokens : List Token) (look : Look) (second : Bool) (g : Grown) → known look second g ≡ None → ready (suc n) tokens look second g ≡ ready n tokens look second (moved tokens look second g)
unfolding ready
ready_none n tokens look second g e = ap (λ (o : Option Bool). ready_by o (moved tokens look second g) (ready n tokens look second (moved tokens look second g))) e

-- after a move that tells nothing
pub ready_next : (tokens : List Token) (look : Look) (second : Bool) (g next : Grown) (whole : Ready) → next ≡ moved tokens look second g → None ≡ known look second g → ready (moves_for g.thread) tokens look second g ≡ whole
    → ready (moves_for next.thread) tokens look second next ≡ whole
ready_next tokens look second g next whole e k h =
    let less = moved_less tokens look second g (sym k) in
    let some = enough_for g.thread in
    let one : moves_for g.thread ≡ suc (moves_for g.thread - 1) = omega arith in
    let step : ready (moves_for g.thread) tokens look second g ≡ ready (moves_for g.thread - 1) tokens look second (moved tokens look second g) =
    ap (λ (n : ℕ). ready n tokens look second g) one ∙ ready_none (moves_for g.thread - 1) tokens look second g (sym k) in
    ap (λ (x : Grown). ready (moves_for x.thread) tokens look second x) e
    ∙ ready_enough (moves_for (moved tokens look second g).thread) (moves_for g.thread - 1) tokens look second (moved tokens look second g) (enough_for (moved tokens look second g).thread) (omega arith) ∙ sym step ∙ h

pub ready_less : (tokens : List Token) (look : Look) (second : Bool) (g next : Grown) → next ≡ moved tokens look second g → None ≡ known look second g → work_of next.thread < work_of g.thread
ready_less tokens look second g next e k = let l = moved_less tokens look second g (sym k) in omega (arith, ap (λ (x : Grown). work_of x.thread) e)

-- after one that tells
pub ready_told : (tokens : List Token) (look : Look) (second b : Bool) (g next : Grown) (whole : Ready) → next ≡ moved tokens look second g → Some b ≡ known look second g → ready (moves_for g.thread) tokens look second g ≡ whole → (b ≡ whole.fits) × (next ≡ whole.grown)
ready_told tokens look second b g next whole e k h =
    let is = ready_known (moves_for g.thread) tokens look second b g (omega arith) (sym k) in
    let same : record { fits = b; grown = moved tokens look second g } ≡ whole = sym is ∙ h in
    (ap (λ (r : Ready). r.fits) same, e ∙ ap (λ (r : Ready). r.grown) same)
