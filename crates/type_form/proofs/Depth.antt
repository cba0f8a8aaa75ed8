-- Following keys deeper only adds answers, and settles at the depth that `denoted` reads.
use Rattle.std.proofs.Common.{◌≡◌, ℕ, zero, suc, ◌+◌, ◌<◌, ◌≤◌, ◌==◌, ◌⊎◌, inl, inr, Bool, true, false, if◌then◌else◌, List, [], ◌∷◌, length, Option, Some, None, IsSome, is_some, option_and_then, refl, sym, ap, ◌∙◌, subst, arith, eqb-true}
use Rattle.std.proofs.lemmas.Bool.{cases_lt}
use Rattle.type_form.specs.declared.index.Index.{Index}
use Rattle.type_form.specs.declared.key.Key.{Key}
use Rattle.type_form.specs.Known.{Known, words_at, key_at, Keeps}
use Rattle.type_form.specs.Words.{key_of}
use Rattle.type_form.specs.Denote.{Node, Reading, node_of, reading, denoted}
use Rattle.type_form.proofs.Options.{Lower, lower_refl, lower_both, then_lower, then_tells, some_lower}
use Rattle.type_form.proofs.KeyKinds.{Below, node_of-lower}

-- one step deeper
step_lower : (r s : Reading) (k : Known) → Below r s → Below (λ i. option_and_then (node_of r) (key_at k i)) (λ i. option_and_then (node_of s) (key_at k i))
step_lower r s k h i = then_lower (node_of r) (node_of s) (key_at k i) (key_at k i) (lower_refl _) (λ key. node_of-lower r s h key)

deeper : (n : ℕ) (k : Known) → Below (reading n k) (reading (suc n) k)
deeper zero k = λ i x e. cc
deeper (suc n) k = step_lower _ _ k (deeper n k)

-- how many pairs are read
count : Reading → Known → ℕ
count r [] = 0
count r (p ∷ ps) = (if is_some (r p.0) then 1 else 0) + count r ps

count-bound : (r : Reading) (ps : Known) → count r ps ≤ length ps
unfolding count
count-bound r [] = omega arith
count-bound r (p ∷ ps) =
    let here : (if is_some (r p.0) then 1 else 0) ≤ 1 = elim (is_some (r p.0)) as (λ b. (if b then 1 else 0) ≤ 1) [ true ↦ omega arith | false ↦ omega arith ] in
    omega (arith, count-bound r ps)

one_le : (a b : Bool) → (a ≡ true → b ≡ true) → (if a then 1 else 0) ≤ (if b then 1 else 0)
one_le true true h = omega arith
one_le true false h = let e = h refl in cc
one_le false true h = omega arith
one_le false false h = omega arith

one_same : (a b : Bool) → (if b then 1 else 0) ≤ (if a then 1 else 0) → b ≡ true → a ≡ true
one_same true b h e = refl
one_same false true h e = absurd (omega (arith, h))
one_same false false h e = e

count_le : (r s : Reading) → Below r s → (ps : Known) → count r ps ≤ count s ps
unfolding count
count_le r s h [] = omega arith
count_le r s h (p ∷ ps) = omega (arith, count_le r s h ps, one_le (is_some (r p.0)) (is_some (s p.0)) (some_lower _ _ (h p.0)))

-- where no more pairs are read, what is read at a pair's index is what was read
abbrev Same : Reading → Reading → Known → Type 0
Same r s [] = Unit {0}
Same r s (p ∷ ps) = Lower (s p.0) (r p.0) × Same r s ps

lower_back : {A : Type 0} (o p : Option A) → Lower o p → (is_some p ≡ true → is_some o ≡ true) → Lower p o
lower_back None p h g x e = let f = g (ap is_some e) in cc
lower_back (Some y) p h g x e = let f = h y refl in cc

same_count : (r s : Reading) → Below r s → (ps : Known) → count s ps ≤ count r ps → Same r s ps
unfolding count
same_count r s h [] e = tt
same_count r s h (p ∷ ps) e =
    let first = one_le (is_some (r p.0)) (is_some (s p.0)) (some_lower _ _ (h p.0)) in
    let rest = count_le r s h ps in
    (lower_back _ _ (h p.0) (one_same (is_some (r p.0)) (is_some (s p.0)) (omega (arith, first, rest, e))), same_count r s h ps (omega (arith, first, rest, e)))

at_index : (m n : Index) → (m.0 == n.0) ≡ true → m ≡ n
at_index m n e = ap (λ (x : ℕ). let i : Index = record { 0 = x } in i) (eqb-true m.0 n.0 e)

same_at : (r s : Reading) (ps : Known) → Same r s ps → (i : Index) (ws : List ℕ) → words_at ps i ≡ Some ws → Lower (s i) (r i)
same_at r s [] h i ws e = cc
same_at r s (p ∷ ps) h i ws e = by_test ((p.0).0 == i.0) refl (same_at r s ps h.1 i ws)
  where
    by_test : (b : Bool) → ((p.0).0 == i.0) ≡ b → (words_at ps i ≡ Some ws → Lower (s i) (r i)) → Lower (s i) (r i)
    by_test true t g = subst (λ j. Lower (s j) (r j)) (at_index p.0 i t) h.0
    by_test false t g = g (sym (ap (λ b. if b then Some p.1 else words_at ps i) t) ∙ e)

-- a reading that one step does not change
Settled : ℕ → Known → Type 0
Settled n k = Below (reading (suc n) k) (reading n k)

key_words : (k : Known) (i : Index) (key : Key) → key_at k i ≡ Some key → (ws : List ℕ) × (words_at k i ≡ Some ws)
unfolding key_at
key_words k i key e = let t = then_tells key_of (words_at k i) key e in (t.0, t.1)

settled_same : (n : ℕ) (k : Known) → count (reading (suc n) k) k ≤ count (reading n k) k → Settled n k
unfolding Settled
settled_same n k e i x h =
    let keyed = then_tells (node_of (reading n k)) (key_at k i) x h in
    let worded = key_words k i keyed.0 keyed.1 in
    same_at _ _ k (same_count _ _ (deeper n k) k e) i worded.0 worded.1 x h

settled_on : (n : ℕ) (k : Known) → Settled n k → Settled (suc n) k
unfolding Settled
settled_on n k h = step_lower _ _ k h

settles : (n : ℕ) (k : Known) → Settled n k ⊎ (n ≤ count (reading n k) k)
settles zero k = inr (omega arith)
settles (suc n) k = further (settles n k) (cases_lt (count (reading n k) k) (count (reading (suc n) k) k))
  where
    further : Settled n k ⊎ (n ≤ count (reading n k) k) → (count (reading n k) k < count (reading (suc n) k) k) ⊎ (count (reading (suc n) k) k ≤ count (reading n k) k) → Settled (suc n) k ⊎ (suc n ≤ count (reading (suc n) k) k)
    further (inl s) o = inl (settled_on n k s)
    further (inr c) (inr e) = inl (settled_on n k (settled_same n k e))
    further (inr c) (inl l) = inr (omega (arith, c, l))

settled_end : (k : Known) → Settled (length k + 1) k
settled_end k = elim (settles (length k + 1) k) [ inl s ↦ s | inr c ↦ absurd (omega (arith, c, count-bound (reading (length k + 1) k) k)) ]

deeper_at : (n m : ℕ) (k : Known) → n ≡ m → Below (reading n k) (reading (suc m) k)
deeper_at n m k e = subst (λ x. Below (reading n k) (reading (suc x) k)) e (deeper n k)

-- what an index denotes is its key with what the parts denote
pub denoted-is : (k : Known) (i : Index) → denoted k i ≡ option_and_then (node_of (denoted k)) (key_at k i)
unfolding denoted Settled
denoted-is k i = lower_both _ _ (deeper (length k + 1) k i) (settled_end k i)

-- what is read at any depth is denoted
pub reaches : (n : ℕ) (k : Known) → Below (reading n k) (denoted k)
reaches zero k = λ i x e. cc
reaches (suc n) k = λ i x e. denoted-is k i ∙ step_lower _ _ k (reaches n k) i x e

pub key_at-keeps : (k l : Known) → Keeps k l → (i : Index) → Lower (key_at k i) (key_at l i)
unfolding key_at
key_at-keeps k l h i = then_lower _ _ _ _ (h.words i) (λ ws. lower_refl _)

grows_to : (n : ℕ) (k l : Known) → Keeps k l → Below (reading n k) (denoted l)
grows_to zero k l h = λ i x e. cc
grows_to (suc n) k l h = λ i x e. denoted-is l i ∙ then_lower (node_of (reading n k)) (node_of (denoted l)) (key_at k i) (key_at l i) (key_at-keeps k l h i) (λ key. node_of-lower _ _ (grows_to n k l h) key) x e

-- what is denoted stays, where every pair is kept
pub denoted-grows : (k l : Known) → Keeps k l → Below (denoted k) (denoted l)
denoted-grows k l h = let f : (n : ℕ) → Below (reading n k) (denoted l) = λ n. grows_to n k l h in unfold denoted in f (length k + 1)
