-- One step down a list, for what is defined by recursion on it.
use Rattle.std.proofs.Common.{◌≡◌, ℕ, zero, suc, ◌+◌, ◌-◌, ◌<◌, ◌≤◌, ◌≢◌, Bool, true, false, ◌&&◌, List, [], ◌∷◌, map, length, reverse, drop, get_or, refl, sym, ◌∙◌, ap, subst, arith, add-one, drop-cons, take, length-drop, take_all}
use Rattle.zig_tree.specs.declared.grammar.Part.{Part}
use Rattle.zig_tree.specs.declared.grammar.Production.{Production}
use Rattle.zig_tree.specs.Grammar.{holds}
use Rattle.zig_tree.specs.Kinds.{is_part}
use Rattle.zig_tree.specs.Productions.{alternative}
use Rattle.zig_parse.specs.declared.choice.Look.{Look}
use Rattle.zig_parse.specs.declared.thread.Item.{Item}
use Rattle.zig_parse.specs.Choices.{matching}
use Rattle.zig_parse.specs.Stack.{rest}
use Rattle.zig_parse.specs.Moves.{covers, covers_items, same_parts}
use Rattle.zig_parse.specs.Threads.{item}

-- an alternative that may be taken is the first of those from it on
pub matching_here : (look : Look) (ps : List Production) (i : ℕ) (d : Production) → i < length ps → holds look.kind look.next (get_or ps i d).when ≡ true
    → matching look (map alternative (drop i ps)) ≡ map alternative (drop i ps)
unfolding matching
matching_here look [] i d h e = absurd (omega arith)
matching_here look (p ∷ ps) zero d h e = rw e refl
matching_here look (p ∷ ps) (suc i) d h e = matching_here look ps i d (omega arith) e

-- one that may not is passed over
matching_after : (look : Look) (ps : List Production) (i : ℕ) (d : Production) → i < length ps → holds look.kind look.next (get_or ps i d).when ≡ false
    → matching look (map alternative (drop i ps)) ≡ matching look (map alternative (drop (suc i) ps))
unfolding matching
matching_after look [] i d h e = absurd (omega arith)
matching_after look (p ∷ ps) zero d h e = rw e refl
matching_after look (p ∷ ps) (suc i) d h e = matching_after look ps i d (omega arith) e

pub matching_next : (look : Look) (ps : List Production) (i : ℕ) (d : Production) → i < length ps → holds look.kind look.next (get_or ps i d).when ≡ false
    → matching look (map alternative (drop i ps)) ≡ matching look (map alternative (drop (i + 1) ps))
matching_next look ps i d h e = rw add-one (matching_after look ps i d h e)

-- after the last one there is none
pub matching_none : (look : Look) (ps : List Production) → matching look (map alternative (drop (length ps) ps)) ≡ []
unfolding matching
matching_none look [] = refl
matching_none look (p ∷ ps) = matching_none look ps

-- lists of different lengths have not the same parts
pub same_length : (a b : List Item) → length a ≢ length b → same_parts a b ≡ false
unfolding same_parts
same_length [] [] h = absurd (h refl)
same_length [] (y ∷ b) h = refl
same_length (x ∷ a) [] h = refl
same_length (x ∷ a) (y ∷ b) h = elim (is_part x.part y.part) as (λ v. v && same_parts a b ≡ false) [ true ↦ same_length a b (λ e. h (ap suc e)) | false ↦ refl ]

same_after : (a b : List Item) (i : ℕ) (d e : Item) → i < length a → i < length b → is_part (get_or a i d).part (get_or b i e).part ≡ true
    → same_parts (drop i a) (drop i b) ≡ same_parts (drop (suc i) a) (drop (suc i) b)
unfolding same_parts
same_after [] b i d e h k s = absurd (omega arith)
same_after (x ∷ a) [] i d e h k s = absurd (omega arith)
same_after (x ∷ a) (y ∷ b) zero d e h k s = rw s refl
same_after (x ∷ a) (y ∷ b) (suc i) d e h k s = same_after a b i d e (omega arith) (omega arith) s

pub same_next : (a b : List Item) (i : ℕ) (d e : Item) → i < length a → i < length b → is_part (get_or a i d).part (get_or b i e).part ≡ true
    → same_parts (drop i a) (drop i b) ≡ same_parts (drop (i + 1) a) (drop (i + 1) b)
same_next a b i d e h k s = rw add-one (same_after a b i d e h k s)

pub same_stop : (a b : List Item) (i : ℕ) (d e : Item) → i < length a → i < length b → is_part (get_or a i d).part (get_or b i e).part ≡ false
    → same_parts (drop i a) (drop i b) ≡ false
unfolding same_parts
same_stop [] b i d e h k s = absurd (omega arith)
same_stop (x ∷ a) [] i d e h k s = absurd (omega arith)
same_stop (x ∷ a) (y ∷ b) zero d e h k s = rw s refl
same_stop (x ∷ a) (y ∷ b) (suc i) d e h k s = same_stop a b i d e (omega arith) (omega arith) s

pub same_end : (a b : List Item) → length a ≡ length b → same_parts (drop (length a) a) (drop (length a) b) ≡ true
unfolding same_parts
same_end [] [] h = refl
same_end [] (y ∷ b) h = absurd (omega arith)
same_end (x ∷ a) [] h = absurd (omega arith)
same_end (x ∷ a) (y ∷ b) h = same_end a b (omega arith)

-- two lists that have a first thing each are compared by it, and below it
covers_here : (a b : List Item) (x y : Item) → a ≡ x ∷ rest a → b ≡ y ∷ rest b → covers_items a b ≡ (covers x.part y.part && same_parts (reverse (rest a)) (reverse (rest b)))
unfolding covers_items
covers_here [] b x y e h = absurd (cc)
covers_here (i ∷ is) [] x y e h = absurd (cc)
covers_here (i ∷ is) (j ∷ js) x y e h =
    let first : i ≡ x = cc in
    let other : j ≡ y = cc in
    ap (λ (z : Item). covers z.part j.part && same_parts (reverse is) (reverse js)) first ∙ ap (λ (z : Item). covers x.part z.part && same_parts (reverse is) (reverse js)) other

pub covers_below : (a b : List Item) (x y : Item) → a ≡ x ∷ rest a → b ≡ y ∷ rest b → covers x.part y.part ≡ true → covers_items a b ≡ same_parts (reverse (rest a)) (reverse (rest b))
covers_below a b x y e h k = covers_here a b x y e h ∙ ap (λ (v : Bool). v && same_parts (reverse (rest a)) (reverse (rest b))) k

pub covers_not : (a b : List Item) (x y : Item) → a ≡ x ∷ rest a → b ≡ y ∷ rest b → covers x.part y.part ≡ false → covers_items a b ≡ false
covers_not a b x y e h k = covers_here a b x y e h ∙ ap (λ (v : Bool). v && same_parts (reverse (rest a)) (reverse (rest b))) k

pub covers_none : (a b : List Item) → a ≡ [] → b ≡ [] → covers_items a b ≡ true
unfolding covers_items
covers_none a b e h = rw (e, h) refl

-- a list that ends before the other
pub covers_longer : (a b : List Item) (x : Item) → a ≡ x ∷ rest a → b ≡ [] → covers_items a b ≡ false
unfolding covers_items
covers_longer [] b x e h = absurd (cc)
covers_longer (i ∷ is) [] x e h = refl
covers_longer (i ∷ is) (j ∷ js) x e h = absurd (cc)

pub covers_shorter : (a b : List Item) (y : Item) → a ≡ [] → b ≡ y ∷ rest b → covers_items a b ≡ false
unfolding covers_items
covers_shorter [] [] y e h = absurd (cc)
covers_shorter [] (j ∷ js) y e h = refl
covers_shorter (i ∷ is) b y e h = absurd (cc)

-- one more part from the back
put_at : (level j : ℕ) (ps : List Part) (d : Part) → j < length ps
    → map (item level) (drop j ps) ≡ item level (get_or ps j d) ∷ map (item level) (drop (suc j) ps)
put_at level j ps d h = ap (map (item level)) (drop-cons ps j d h)

pub put_step : (level k : ℕ) (ps : List Part) (d : Part) → 0 < k → k ≤ length ps
    → map (item level) (drop (k - 1) ps) ≡ item level (get_or ps (k - 1) d) ∷ map (item level) (drop k ps)
put_step level k ps d h e =
    let same : suc (k - 1) ≡ k = omega arith in
    let low : k - 1 < length ps = omega arith in
    subst (λ (n : ℕ). map (item level) (drop (k - 1) ps) ≡ item level (get_or ps (k - 1) d) ∷ map (item level) (drop n ps)) same (put_at level (k - 1) ps d low)

pub ruleset matching_steps = (matching_here, matching_next, matching_none)

pub ruleset item_steps = (same_length, same_next, same_stop, same_end)

pub ruleset cover_steps = (covers_none, covers_longer, covers_shorter)

pub matching_end : (look : Look) (ps : List Production) (i : ℕ) → i ≡ length ps → matching look (map alternative (drop i ps)) ≡ []
matching_end look ps i e = rw e (matching_none look ps)

pub same_done : (a b : List Item) (i : ℕ) → i ≡ length a → length a ≡ length b → same_parts (drop i a) (drop i b) ≡ true
same_done a b i e h = rw e (same_end a b h)

-- what is left of a list, all of it
pub left_whole : {T : Type 0} (i : ℕ) (xs : List T) → take (length xs - i) (drop i xs) ≡ drop i xs
left_whole i xs = let e : length xs - i ≡ length (drop i xs) = sym (length-drop i xs) in take_all (length xs - i) (drop i xs) (omega (arith, e))
