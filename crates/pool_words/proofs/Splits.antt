-- A split of a seat keeps the rule.
use Rattle.std.proofs.Common.{◌≡◌, ◌≢◌, ◌⊎◌, inl, inr, ⊎_elim, ℕ, zero, suc, ◌<◌, List, [], ◌∷◌, ◌++◌, length, set, refl, sym, ap, ◌∙◌, subst, arith}
use Rattle.std.proofs.lemmas.Bool.{cases_eq}
use Rattle.std.proofs.lemmas.List.{length-set}
use mathlib.Core.Option.{some, some-injective, some-ne-none}
use lib.ListN.{get_elem?}
use Rattle.atomic_table.specs.Table.{Splits}
use Rattle.atomic_table.proofs.Lists.{at_set, set_else, at_longer, at_last}
use Rattle.pool_words.specs.declared.view.Layout.{Layout}
use Rattle.pool_words.specs.declared.view.View.{View}
use Rattle.pool_words.specs.Layout.{Row}
use Rattle.pool_words.specs.Rule.{In, IsPool, Earlier, Same, Extends}
use Rattle.pool_words.specs.Views.{IsLive, Seats, Falls, Knows, IsShared, Holds, reader, with_others, with_first, others_of, first_of}
use Rattle.pool_words.proofs.Turns.{set_there}

-- an element of a list one longer is an old one, or the last
snoc_at : {A : Type 0} (l : List A) (a b : A) (j : ℕ) → get_elem? (l ++ a ∷ []) j ≡ some b → (get_elem? l j ≡ some b) ⊎ ((j ≡ length l) × (a ≡ b))
snoc_at [] a b zero e = inr (refl, some-injective a b e)
snoc_at [] a b (suc j) e = absurd (some-ne-none b (sym e))
snoc_at (x ∷ xs) a b zero e = inl e
snoc_at (x ∷ xs) a b (suc j) e = ⊎_elim (λ i. inl i) (λ i. inr (ap suc i.0, i.1)) (snoc_at xs a b j e)

-- a view after the split: one that was there, the left one, or the right one
abbrev Kind : Seats → ℕ → View → View → ℕ → View → Type 0
Kind views id l r j u = ((j ≢ id) × (get_elem? views j ≡ some u)) ⊎ (((j ≡ id) × (l ≡ u)) ⊎ ((j ≡ length views) × (r ≡ u)))

kind : (views : Seats) (id : ℕ) (l r : View) (j : ℕ) (u : View) → get_elem? (set views id l ++ r ∷ []) j ≡ some u → Kind views id l r j u
kind views id l r j u e = ⊎_elim (λ a. ⊎_elim (λ t. inr (inl (t.0, t.1))) (λ t. inl (t.0, t.1)) (at_set views id j l u a)) (λ b. inr (inr (b.0 ∙ length-set views id l, b.1))) (snoc_at (set views id l) r u j e)

-- two views share out what one could write
pub record Shares (v l r : View) : Type 0 where
  pub left_pool : (l.layout ≡ v.layout) × (l.words ≡ v.words) × (l.log ≡ v.log) × (l.told ≡ v.told)
  pub right_pool : (r.layout ≡ v.layout) × (r.words ≡ v.words) × (r.log ≡ v.log) × (r.told ≡ v.told)
  pub left_in : (s : ℕ) → In s l.writes → In s v.writes
  pub right_in : (s : ℕ) → In s r.writes → In s v.writes
  pub apart : (s : ℕ) → In s l.writes → In s r.writes → ⊥
  pub whole : (s : ℕ) → In s v.writes → In s l.writes ⊎ In s r.writes
  pub left_falls : Falls l.writes
  pub right_falls : Falls r.writes

module _ (z : Layout) (views : Seats) (id : ℕ) (v l r : View) (h : IsShared z views) (at : get_elem? views id ≡ some v) (sh : Shares v l r) where
  in_range : (j : ℕ) (u : View) (s : ℕ) → Kind views id l r j u → In s u.writes → s < z.shards
  in_range j u s k i = ⊎_elim (λ a. h.in_range j u s a.1 i)
      (λ b. ⊎_elim (λ c. h.in_range id v s at (sh.left_in s (subst (λ (y : View). In s y.writes) (sym c.1) i))) (λ c. h.in_range id v s at (sh.right_in s (subst (λ (y : View). In s y.writes) (sym c.1) i))) b) k

  -- an old view and one of the two do not write one shard
  old_new : (j : ℕ) (u : View) (s : ℕ) → j ≢ id → get_elem? views j ≡ some u → In s u.writes → In s v.writes → ⊥
  old_new j u s ne g i o = ne (h.alone j id u v s g at i o)

  alone : (j j' : ℕ) (u u' : View) (s : ℕ) → Kind views id l r j u → Kind views id l r j' u' → In s u.writes → In s u'.writes → j ≡ j'
  alone j j' u u' s k k' i i' = ⊎_elim
      (λ a. ⊎_elim (λ a'. h.alone j j' u u' s a.1 a'.1 i i')
      (λ b'. ⊎_elim (λ c'. absurd (old_new j u s a.0 a.1 i (sh.left_in s (subst (λ (y : View). In s y.writes) (sym c'.1) i')))) (λ c'. absurd (old_new j u s a.0 a.1 i (sh.right_in s (subst (λ (y : View). In s y.writes) (sym c'.1) i')))) b') k')
      (λ b. ⊎_elim
      (λ c. let il = subst (λ (y : View). In s y.writes) (sym c.1) i in
      ⊎_elim (λ a'. absurd (old_new j' u' s a'.0 a'.1 i' (sh.left_in s il)))
      (λ b'. ⊎_elim (λ c'. c.0 ∙ sym c'.0) (λ c'. absurd (sh.apart s il (subst (λ (y : View). In s y.writes) (sym c'.1) i'))) b') k')
      (λ c. let ir = subst (λ (y : View). In s y.writes) (sym c.1) i in
      ⊎_elim (λ a'. absurd (old_new j' u' s a'.0 a'.1 i' (sh.right_in s ir)))
      (λ b'. ⊎_elim (λ c'. absurd (sh.apart s (subst (λ (y : View). In s y.writes) (sym c'.1) i') ir)) (λ c'. c.0 ∙ sym c'.0) b') k')
      b)
      k

  owned : (s : ℕ) (j : ℕ) (u : View) → get_elem? views j ≡ some u → In s u.writes → (k : ℕ) × (x : View) × (get_elem? (set views id l ++ r ∷ []) k ≡ some x) × In s x.writes
  owned s j u g i = ⊎_elim
      (λ e.
      let f : v ≡ u = some-injective v u (sym at ∙ subst (λ n. get_elem? views n ≡ some u) e g) in
      let o : In s v.writes = subst (λ (y : View). In s y.writes) (sym f) i in
      ⊎_elim (λ a. (id, l, at_longer (set views id l) (r ∷ []) id l (set_there views id l v at), a))
      (λ b. (length views, r, at_last (set views id l) r (length views) (length-set views id l), b)) (sh.whole s o))
      (λ ne. (j, u, at_longer (set views id l) (r ∷ []) j u (set_else views id j l ne ∙ g), i))
      (cases_eq j id)

  falls : (j : ℕ) (u : View) → Kind views id l r j u → Falls u.writes
  falls j u k = ⊎_elim (λ a. h.falling j u a.1) (λ b. ⊎_elim (λ c. subst (λ (y : View). Falls y.writes) c.1 sh.left_falls) (λ c. subst (λ (y : View). Falls y.writes) c.1 sh.right_falls) b) k

  IsShared-split : IsShared z (set views id l ++ r ∷ [])
  IsShared-split = record {
    falling = λ j u g. falls j u (kind views id l r j u g);
    in_range = λ j u s g i. in_range j u s (kind views id l r j u g) i;
    alone = λ j j' u u' s g g' i i'. alone j j' u u' s (kind views id l r j u g) (kind views id l r j' u' g') i i';
    owned = λ s lt. let o = h.owned s lt in owned s o.0 o.1 o.2 o.3;
  }

-- what a view knows, one with the same pool and fewer shards knows
knows_less : (z : Layout) (ws : List ℕ) (log : List Row) (v w : View) → Knows z ws log v → (w.layout ≡ v.layout) × (w.words ≡ v.words) × (w.log ≡ v.log) × (w.told ≡ v.told) → ((s : ℕ) → In s w.writes → In s v.writes) → Knows z ws log w
knows_less z ws log v w k e less = record {
  layout = e.0 ∙ k.layout;
  pool = subst (λ us. IsPool z us w.log) (sym e.1) (subst (λ (l : List Row). IsPool z v.words l) (sym e.2) k.pool);
  earlier = subst (λ us. Earlier z us w.log ws log) (sym e.1) (subst (λ (l : List Row). Earlier z v.words l ws log) (sym e.2) k.earlier);
  owns = λ s i. subst (λ us. Same z s us w.log ws log) (sym e.1) (subst (λ (l : List Row). Same z s v.words l ws log) (sym e.2) (k.owns s (less s i)));
  told = subst (λ (l : List Row). Extends l log) (sym e.3) k.told;
}

pub splits : {S : Type 0} (z : Layout) (id : ℕ) (v l r : View) → IsLive v → (Falls v.writes → Shares v l r) → Splits {S = S} (Holds z) id v l r
splits z id v l r live shares st h at =
    let k = h.known id v at live in
    let sh = shares (h.shared.falling id v at) in
    record {
      log = h.log;
      laid = h.laid;
      pool = h.pool;
      known = λ j u g lu. ⊎_elim (λ a. h.known j u a.1 lu)
          (λ b. ⊎_elim (λ c. subst (Knows z st.words h.log) c.1 (knows_less z st.words h.log v l k sh.left_pool sh.left_in)) (λ c. subst (Knows z st.words h.log) c.1 (knows_less z st.words h.log v r k sh.right_pool sh.right_in)) b) (kind st.views id l r j u g);
      shared = IsShared-split z st.views id v l r h.shared at sh;
    }

-- a copy that writes nothing
pub Shares-reader : (v : View) → Falls v.writes → Shares v v (reader v)
Shares-reader v f = record {
  left_pool = (refl, refl, refl, refl);
  right_pool = (refl, refl, refl, refl);
  left_in = λ s i. i;
  right_in = λ s i. absurd i;
  apart = λ s i j. j;
  whole = λ s i. inl i;
  left_falls = f;
  right_falls = tt;
}

first_in : (xs : List ℕ) (s : ℕ) → In s (first_of xs) → In s xs
first_in [] s i = i
first_in (x ∷ xs) s i = ⊎_elim (λ e. inl e) (λ a. absurd a) i

others_in : (xs : List ℕ) (s : ℕ) → In s (others_of xs) → In s xs
others_in [] s i = i
others_in (x ∷ xs) s i = inr i

parted : (xs : List ℕ) (s : ℕ) → Falls xs → In s (others_of xs) → In s (first_of xs) → ⊥
parted [] s f i j = i
parted (x ∷ xs) s f i j = ⊎_elim (λ e. let l = f.0 s i in absurd (omega arith)) (λ a. a) j

both_parts : (xs : List ℕ) (s : ℕ) → In s xs → In s (others_of xs) ⊎ In s (first_of xs)
both_parts [] s i = absurd i
both_parts (x ∷ xs) s i = ⊎_elim (λ e. inr (inl e)) (λ j. inl j) i

others_fall : (xs : List ℕ) → Falls xs → Falls (others_of xs)
others_fall [] f = f
others_fall (x ∷ xs) f = f.1

first_falls : (xs : List ℕ) → Falls (first_of xs)
first_falls [] = tt
first_falls (x ∷ xs) = (λ t i. absurd i, tt)

-- the first shard's part goes to the new seat
pub Shares-first : (v : View) → Falls v.writes → Shares v (with_others v) (with_first v)
Shares-first v f = record {
  left_pool = (refl, refl, refl, refl);
  right_pool = (refl, refl, refl, refl);
  left_in = λ s i. others_in v.writes s i;
  right_in = λ s i. first_in v.writes s i;
  apart = λ s i j. parted v.writes s f i j;
  whole = λ s i. both_parts v.writes s i;
  left_falls = others_fall v.writes f;
  right_falls = first_falls v.writes;
}
