-- Words in which a shard is as it is in others.
use Rattle.std.proofs.Common.{◌≡◌, ⊎_elim, ℕ, ◌+◌, ◌-◌, ◌<◌, ◌≤◌, List, ◌++◌, length, take, drop, ap, ◌∙◌, subst, arith, length-append, length-drop}
use Rattle.std.proofs.lemmas.Bool.{cases_order}
use Rattle.std.proofs.lemmas.List.{take_all, take-append-le, drop-append-le, drop-drop, length-take-le}
use lib.Seq.{drop-append-add}
use Rattle.pool_words.specs.declared.view.Layout.{Layout}
use Rattle.pool_words.specs.Layout.{window, base, IsLayout}
use Rattle.pool_words.specs.Views.{patched}
use Rattle.pool_words.proofs.Windows.{window_length, window_within}
use Rattle.pool_words.proofs.Places.{base_in, base_apart}

-- words that are taken from others, from a place on
abbrev spliced : List ℕ → List ℕ → ℕ → ℕ → List ℕ
spliced ws us from n = take from ws ++ (window us from n ++ drop (from + n) ws)

module _ (ws us : List ℕ) (from n : ℕ) (low : from + n ≤ length ws) (fits : from + n ≤ length us) where
  front : length (take from ws) ≡ from
  front = length-take-le from ws (omega arith)

  middle : length (window us from n) ≡ n
  middle = window_length us from n fits

  spliced_long : length (spliced ws us from n) ≡ length ws
  spliced_long =
      let a = length-append (take from ws) (window us from n ++ drop (from + n) ws) in
      let b = length-append (window us from n) (drop (from + n) ws) in
      let c = length-drop (from + n) ws in
      let d = front in
      let e = middle in
      omega arith

  -- what stands so far behind the front
  behind_front : (j : ℕ) → drop (from + j) (spliced ws us from n) ≡ drop j (window us from n ++ drop (from + n) ws)
  behind_front j = subst (λ k. drop (k + j) (spliced ws us from n) ≡ drop j (window us from n ++ drop (from + n) ws)) front (drop-append-add (take from ws) (window us from n ++ drop (from + n) ws) j)

  spliced_here : window (spliced ws us from n) from n ≡ window us from n
  unfolding window
  spliced_here =
      let z : from + 0 ≡ from = omega arith in
      let e : drop from (spliced ws us from n) ≡ window us from n ++ drop (from + n) ws = subst (λ k. drop k (spliced ws us from n) ≡ window us from n ++ drop (from + n) ws) z (behind_front 0) in
      ap (take n) e ∙ (take-append-le n (window us from n) (drop (from + n) ws) (let m = middle in omega arith) ∙ take_all n (window us from n) (let m = middle in omega arith))

  spliced_before : (i m : ℕ) → i + m ≤ from → window (spliced ws us from n) i m ≡ window ws i m
  unfolding window
  spliced_before i m h =
      let f = front in
      let a : drop i (spliced ws us from n) ≡ drop i (take from ws) ++ (window us from n ++ drop (from + n) ws) = drop-append-le i (take from ws) (window us from n ++ drop (from + n) ws) (omega arith) in
      let l = length-drop i (take from ws) in
      let z : 0 + i ≡ i = omega arith in
      ap (take m) a ∙ (take-append-le m (drop i (take from ws)) (window us from n ++ drop (from + n) ws) (omega arith) ∙ subst (λ k. take m (drop i (take from ws)) ≡ take m (drop k ws)) z (window_within ws 0 from i m h))

  spliced_behind : (i m : ℕ) → from + n ≤ i → window (spliced ws us from n) i m ≡ window ws i m
  unfolding window
  spliced_behind i m h =
      let j : ℕ = i - (from + n) in
      let at : from + (n + j) ≡ i = omega arith in
      let at' : from + n + j ≡ i = omega arith in
      let a : drop i (spliced ws us from n) ≡ drop (n + j) (window us from n ++ drop (from + n) ws) = subst (λ k. drop k (spliced ws us from n) ≡ drop (n + j) (window us from n ++ drop (from + n) ws)) at (behind_front (n + j)) in
      let b : drop (n + j) (window us from n ++ drop (from + n) ws) ≡ drop j (drop (from + n) ws) = subst (λ k. drop (k + j) (window us from n ++ drop (from + n) ws) ≡ drop j (drop (from + n) ws)) middle (drop-append-add (window us from n) (drop (from + n) ws) j) in
      let c : drop j (drop (from + n) ws) ≡ drop i ws = drop-drop j (from + n) ws ∙ ap (λ k. drop k ws) at' in
      ap (take m) (a ∙ (b ∙ c))

module _ (z : Layout) (ws us : List ℕ) (s : ℕ) (h : IsLayout z) (long : length ws ≡ z.words) (other : length us ≡ z.words) (in_range : s < z.shards) where
  within : (xs : List ℕ) → length xs ≡ z.words → base z s + z.size ≤ length xs
  within xs e = let b = base_in z s h in_range in omega arith

  pub patched_long : length (patched z ws us s) ≡ z.words
  patched_long = spliced_long ws us (base z s) z.size (within ws long) (within us other) ∙ long

  pub patched_here : window (patched z ws us s) (base z s) z.size ≡ window us (base z s) z.size
  patched_here = spliced_here ws us (base z s) z.size (within ws long) (within us other)

  pub patched_else : (t : ℕ) → (t ≡ s → ⊥) → window (patched z ws us s) (base z t) z.size ≡ window ws (base z t) z.size
  patched_else t ne = ⊎_elim (λ e. absurd (ne e))
      (λ o. ⊎_elim (λ l. spliced_before ws us (base z s) z.size (within ws long) (within us other) (base z t) z.size (base_apart z t s l))
      (λ g. spliced_behind ws us (base z s) z.size (within ws long) (within us other) (base z t) z.size (base_apart z s t g)) o) (cases_order t s)
