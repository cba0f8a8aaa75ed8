-- Windows of a list, and what a write to it does to them.
use Rattle.std.proofs.Common.{◌≡◌, ◌⊎◌, ⊎_elim, ℕ, suc, ◌+◌, ◌-◌, ◌<◌, ◌≤◌, List, [], ◌∷◌, ◌++◌, length, get_or, set, take, drop, replicate, sym, ap, ◌∙◌, subst, arith, length-drop}
use Rattle.std.proofs.lemmas.List.{get_or-take, get_or-drop, drop-set-lt, drop-set-add, take-set-le, drop-drop, take-take, drop-take, take-replicate, drop-replicate, length-take-le, take_more_set}
use Rattle.std.proofs.Math.Seq.{take-set-lt}
use Rattle.pool_words.specs.Layout.{window}

pub window_length : (ws : List ℕ) (from n : ℕ) → from + n ≤ length ws → length (window ws from n) ≡ n
unfolding window
window_length ws from n h = length-take-le n (drop from ws) (omega (arith, length-drop from ws))

pub window_index : (ws : List ℕ) (from n j : ℕ) → j < n → get_or (window ws from n) j 0 ≡ get_or ws (from + j) 0
unfolding window
window_index ws from n j h = get_or-take n (drop from ws) j 0 h ∙ get_or-drop from ws j 0

before : (ws : List ℕ) (from n i x : ℕ) → i < from → window (set ws i x) from n ≡ window ws from n
unfolding window
before ws from n i x h = ap (take n) (drop-set-lt from ws i x h)

behind : (ws : List ℕ) (from n j x : ℕ) → n ≤ j → window (set ws (from + j) x) from n ≡ window ws from n
unfolding window
behind ws from n j x h = ap (take n) (drop-set-add from ws j x) ∙ take-set-le n (drop from ws) j x h

pub window_behind : (ws : List ℕ) (from n i x : ℕ) → from + n ≤ i → window (set ws i x) from n ≡ window ws from n
window_behind ws from n i x h =
    let e : from + (i - from) ≡ i = omega arith in
    subst (λ m. window (set ws m x) from n ≡ window ws from n) e (behind ws from n (i - from) x (omega arith))

pub window_out : (ws : List ℕ) (from n i x : ℕ) → (i < from) ⊎ (from + n ≤ i) → window (set ws i x) from n ≡ window ws from n
window_out ws from n i x h = ⊎_elim (λ l. before ws from n i x l) (λ g. window_behind ws from n i x g) h

pub window_in : (ws : List ℕ) (from n j x : ℕ) → j < n → window (set ws (from + j) x) from n ≡ set (window ws from n) j x
unfolding window
window_in ws from n j x h = ap (take n) (drop-set-add from ws j x) ∙ take-set-lt n (drop from ws) j x h

pub window_at : (ws : List ℕ) (from n i j x : ℕ) → i ≡ from + j → j < n → window (set ws i x) from n ≡ set (window ws from n) j x
window_at ws from n i j x e h = subst (λ m. window (set ws m x) from n ≡ set (window ws from n) j x) (sym e) (window_in ws from n j x h)

-- a window in a window
pub window_within : (ws : List ℕ) (from n a m : ℕ) → a + m ≤ n → window (window ws from n) a m ≡ window ws (from + a) m
unfolding window
window_within ws from n a m h =
    let e : a + (n - a) ≡ n = omega arith in
    let f : drop a (take n (drop from ws)) ≡ take (n - a) (drop a (drop from ws)) = subst (λ k. drop a (take k (drop from ws)) ≡ take (n - a) (drop a (drop from ws))) e (drop-take a (n - a) (drop from ws)) in
    ap (take m) f ∙ take-take m (n - a) (drop a (drop from ws)) (omega arith) ∙ ap (take m) (drop-drop a from ws)

-- equal windows have equal parts
pub window_part : (ws ws' : List ℕ) (from n i m : ℕ) → window ws from n ≡ window ws' from n → from ≤ i → i + m ≤ from + n → window ws i m ≡ window ws' i m
window_part ws ws' from n i m e low high =
    let d : from + (i - from) ≡ i = omega arith in
    let p : (us : List ℕ) → window us i m ≡ window (window us from n) (i - from) m = λ us. subst (λ k. window us k m ≡ window (window us from n) (i - from) m) d (sym (window_within us from n (i - from) m (omega arith))) in
    p ws ∙ ap (λ us. window us (i - from) m) e ∙ sym (p ws')

pub index_part : (ws ws' : List ℕ) (from n i : ℕ) → window ws from n ≡ window ws' from n → from ≤ i → i < from + n → get_or ws i 0 ≡ get_or ws' i 0
index_part ws ws' from n i e low high =
    let d : from + (i - from) ≡ i = omega arith in
    let p : (us : List ℕ) → get_or us i 0 ≡ get_or (window us from n) (i - from) 0 = λ us. subst (λ k. get_or us k 0 ≡ get_or (window us from n) (i - from) 0) d (sym (window_index us from n (i - from) (omega arith))) in
    p ws ∙ ap (λ us. get_or us (i - from) 0) e ∙ sym (p ws')

pub window_replicate : (n from m x : ℕ) → from + m ≤ n → window (replicate n x) from m ≡ replicate m x
unfolding window
window_replicate n from m x h = ap (take m) (drop-replicate from n x) ∙ take-replicate m (n - from) x (omega arith)

-- a window one longer, whose last word was written
pub window_more : (ws : List ℕ) (from n i x : ℕ) → i ≡ from + n → i < length ws → window (set ws i x) from (n + 1) ≡ window ws from n ++ x ∷ []
unfolding window
window_more ws from n i x e h =
    let d : drop from (set ws i x) ≡ set (drop from ws) n x = ap (λ k. drop from (set ws k x)) e ∙ drop-set-add from ws n x in
    let l : n < length (drop from ws) = omega (arith, length-drop from ws) in
    ap (take (n + 1)) d ∙ take_more_set (drop from ws) n x l

-- two rows at one place are one
heads_equal : (us : List ℕ) (n m : ℕ) (a b : List ℕ) → take (suc n) us ≡ n ∷ a → take (suc m) us ≡ m ∷ b → n ≡ m
heads_equal [] n m a b e f = cc
heads_equal (u ∷ us) n m a b e f = cc

pub one_row : (ws : List ℕ) (i : ℕ) (a b : List ℕ) → window ws i (suc (length a)) ≡ length a ∷ a → window ws i (suc (length b)) ≡ length b ∷ b → a ≡ b
unfolding window
one_row ws i a b e f =
    let n : length a ≡ length b = heads_equal (drop i ws) (length a) (length b) a b e f in
    let g : length a ∷ a ≡ length b ∷ b = sym e ∙ ap (λ k. take (suc k) (drop i ws)) n ∙ f in
    cc
