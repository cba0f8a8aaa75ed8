-- One step down a slice, for what the first pass asks of each thread.
use Rattle.std.proofs.Common.{◌≡◌, ℕ, ◌+◌, ◌<◌, Bool, true, false, List, [], ◌∷◌, length, drop, get_or, refl, sym, ◌∙◌, ap, add-one, drop-cons, Option, Some, None}
use Rattle.std.specs.Prelude.{is_some, if◌then◌else◌}
use Rattle.zig_tree.specs.declared.grammar.Part.{Part}
use Rattle.zig_tree.specs.Kinds.{is_part}
use Rattle.zig_parse.specs.declared.thread.Thread.{Thread}
use Rattle.zig_parse.specs.declared.survey.Finished.{Finished}
use Rattle.zig_parse.specs.Moves.{goes_as_far, waits_for}
use Rattle.zig_parse.specs.Passes.{any_waits, least_from, least_with, depth_for, wants, is_among, result_for, all_deep}

pub drop_step : {T : Type 0} (xs : List T) (i : ℕ) (d : T) → i < length xs → drop i xs ≡ get_or xs i d ∷ drop (i + 1) xs
drop_step xs i d h = rw add-one (drop-cons xs i d h)

pub drop_end : {T : Type 0} (xs : List T) → drop (length xs) xs ≡ []
drop_end [] = refl
drop_end (x ∷ xs) = drop_end xs

-- the slice from an element on begins with that element
pub drop_item : {T : Type 0} (xs : List T) (i : ℕ) (x : T) → i < length xs → x ≡ get_or xs i x → drop i xs ≡ x ∷ drop (i + 1) xs
drop_item xs i x h e = drop_step xs i x h ∙ ap (λ y. y ∷ drop (i + 1) xs) (sym e)

pub any_here : (ts : List Thread) (i : ℕ) (x : Thread) → i < length ts → x ≡ get_or ts i x → is_some (waits_for x) ≡ true → any_waits (drop i ts) ≡ true
unfolding any_waits
any_here ts i x h e b = rw (drop_item ts i x h e, b) refl

pub any_next : (ts : List Thread) (i : ℕ) (x : Thread) → i < length ts → x ≡ get_or ts i x → is_some (waits_for x) ≡ false → any_waits (drop i ts) ≡ any_waits (drop (i + 1) ts)
unfolding any_waits
any_next ts i x h e b = rw (drop_item ts i x h e, b) refl

pub any_end : (ts : List Thread) (i : ℕ) → i ≡ length ts → any_waits (drop i ts) ≡ false
unfolding any_waits
any_end ts i e = rw (e, drop_end ts) refl

least_cons : (least : Option ℕ) (goal : Part) (x : Thread) (ts : List Thread)
    → least_from least goal (x ∷ ts) ≡ least_from (if wants x goal then Some (least_with (depth_for x) least) else least) goal ts
unfolding least_from
least_cons least goal x ts = refl

chosen_if : {T : Type 0} (b : Bool) (x y : T) → b ≡ true → (if b then x else y) ≡ x
chosen_if b x y e = rw e refl

chosen_else : {T : Type 0} (b : Bool) (x y : T) → b ≡ false → (if b then x else y) ≡ y
chosen_else b x y e = rw e refl

pub least_more : (least now : Option ℕ) (goal : Part) (ts : List Thread) (i : ℕ) (x : Thread) → i < length ts → x ≡ get_or ts i x → wants x goal ≡ true
    → now ≡ Some (least_with (depth_for x) least) → least_from least goal (drop i ts) ≡ least_from now goal (drop (i + 1) ts)
least_more least now goal ts i x h e b s =
    ap (least_from least goal) (drop_item ts i x h e)
    ∙ least_cons least goal x (drop (i + 1) ts)
    ∙ ap (λ (o : Option ℕ). least_from o goal (drop (i + 1) ts)) (chosen_if (wants x goal) (Some (least_with (depth_for x) least)) least b ∙ sym s)

pub least_next : (least now : Option ℕ) (goal : Part) (ts : List Thread) (i : ℕ) (x : Thread) → i < length ts → x ≡ get_or ts i x → wants x goal ≡ false
    → now ≡ least → least_from least goal (drop i ts) ≡ least_from now goal (drop (i + 1) ts)
least_next least now goal ts i x h e b s =
    ap (least_from least goal) (drop_item ts i x h e)
    ∙ least_cons least goal x (drop (i + 1) ts)
    ∙ ap (λ (o : Option ℕ). least_from o goal (drop (i + 1) ts)) (chosen_else (wants x goal) (Some (least_with (depth_for x) least)) least b ∙ sym s)

pub least_end : (least : Option ℕ) (goal : Part) (ts : List Thread) (i : ℕ) → i ≡ length ts → least_from least goal (drop i ts) ≡ least
unfolding least_from
least_end least goal ts i e = rw (e, drop_end ts) refl

pub among_here : (ts : List Thread) (t : Thread) (i : ℕ) (x : Thread) → i < length ts → x ≡ get_or ts i x → goes_as_far x t ≡ true → is_among (drop i ts) t ≡ true
unfolding is_among
among_here ts t i x h e b = rw (drop_item ts i x h e, b) refl

pub among_next : (ts : List Thread) (t : Thread) (i : ℕ) (x : Thread) → i < length ts → x ≡ get_or ts i x → goes_as_far x t ≡ false
    → is_among (drop i ts) t ≡ is_among (drop (i + 1) ts) t
unfolding is_among
among_next ts t i x h e b = rw (drop_item ts i x h e, b) refl

pub among_end : (ts : List Thread) (t : Thread) (i : ℕ) → i ≡ length ts → is_among (drop i ts) t ≡ false
unfolding is_among
among_end ts t i e = rw (e, drop_end ts) refl

pub result_here : (fs : List Finished) (goal : Part) (i : ℕ) (x : Finished) → i < length fs → x ≡ get_or fs i x → is_part x.goal goal ≡ true
    → result_for (drop i fs) goal ≡ Some x
unfolding result_for
result_here fs goal i x h e b = rw (drop_item fs i x h e, b) refl

pub result_next : (fs : List Finished) (goal : Part) (i : ℕ) (x : Finished) → i < length fs → x ≡ get_or fs i x → is_part x.goal goal ≡ false
    → result_for (drop i fs) goal ≡ result_for (drop (i + 1) fs) goal
unfolding result_for
result_next fs goal i x h e b = rw (drop_item fs i x h e, b) refl

pub result_end : (fs : List Finished) (goal : Part) (i : ℕ) → i ≡ length fs → result_for (drop i fs) goal ≡ None
unfolding result_for
result_end fs goal i e = rw (e, drop_end fs) refl

pub deep_stop : (ts : List Thread) (i : ℕ) (x : Thread) → i < length ts → x ≡ get_or ts i x → x.deep ≡ false → all_deep (drop i ts) ≡ false
unfolding all_deep
deep_stop ts i x h e b = rw (drop_item ts i x h e, b) refl

pub deep_next : (ts : List Thread) (i : ℕ) (x : Thread) → i < length ts → x ≡ get_or ts i x → x.deep ≡ true → all_deep (drop i ts) ≡ all_deep (drop (i + 1) ts)
unfolding all_deep
deep_next ts i x h e b = rw (drop_item ts i x h e, b) refl

pub deep_end : (ts : List Thread) (i : ℕ) → i ≡ length ts → all_deep (drop i ts) ≡ true
unfolding all_deep
deep_end ts i e = rw (e, drop_end ts) refl

pub ruleset slice_steps = (any_end, least_end, among_end, result_end, deep_end)
