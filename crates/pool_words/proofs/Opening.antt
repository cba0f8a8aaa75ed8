-- The rule of a pool in which nothing was published.
use Rattle.std.proofs.Common.{◌≡◌, inl, inr, ⊎_elim, ℕ, zero, suc, ◌+◌, ◌<◌, ◌≤◌, List, [], ◌∷◌, replicate, refl, sym, ◌∙◌, subst, arith}
use Rattle.std.proofs.lemmas.Bool.{cases_lt}
use Rattle.std.proofs.lemmas.List.{get_or-replicate, length-replicate}
use mathlib.Core.Option.{some, some-injective, some-ne-none}
use lib.ListN.{get_elem?}
use Rattle.atomic_table.specs.Table.{opening}
use Rattle.pool_words.specs.declared.view.Layout.{Layout}
use Rattle.pool_words.specs.declared.view.View.{View}
use Rattle.pool_words.specs.Layout.{width, level_at, base, start, rows_of, head, level, IsLayout}
use Rattle.pool_words.specs.Rule.{In, HasRows, Laid, IsShard, IsPool}
use Rattle.pool_words.specs.Views.{below, Falls, first_view, Knows, Holds}
use Rattle.pool_words.proofs.Windows.{window_replicate}
use Rattle.pool_words.proofs.Members.{Extends-refl, used-nil}
use Rattle.pool_words.proofs.Places.{level_ends, start_low, start_pos, base_in}
use Rattle.pool_words.proofs.Levels.{HasRows-none}
use Rattle.pool_words.proofs.Falling.{below_in, Falls-below}
use Rattle.pool_words.proofs.Orders.{Earlier-refl, Same-refl}

pub no_rows : (z : Layout) (s : ℕ) → rows_of z s [] ≡ []
unfolding rows_of
no_rows z s = refl

IsShard-empty : (z : Layout) (h : ℕ) (levels : ℕ → List ℕ) → IsLayout z → h ≡ 0 → ((k : ℕ) → k ≤ z.top → levels k ≡ replicate (width k) 0) → IsShard z h levels []
IsShard-empty z h levels l e same = record {
  held = λ k. 0;
  head_in = omega arith;
  grown = λ k p. absurd (omega arith);
  has = λ k le. subst (λ slots. HasRows slots k []) (sym (same k le)) (HasRows-none k);
  halves = λ k le. omega arith;
  rising = λ k m le lh. omega arith;
  live = refl;
  next = omega arith;
  later = λ k m. refl;
  fits = let a = start_low z l in let u = used-nil in omega arith;
}

pub IsPool-empty : (z : Layout) → IsLayout z → IsPool z (replicate z.words 0) []
IsPool-empty z l = record {
  long = length-replicate z.words 0;
  shard = λ s lt.
      let b = base_in z s l lt in
      let a = start_low z l in
      let q = start_pos z in
      subst (IsShard z (head z (replicate z.words 0) s) (level z (replicate z.words 0) s)) (sym (no_rows z s))
      (IsShard-empty z (head z (replicate z.words 0) s) (level z (replicate z.words 0) s) l (get_or-replicate z.words (base z s) 0 0 (omega arith))
      (λ k le. let e = level_ends z k le in window_replicate z.words (base z s + level_at k) (width k) 0 (omega arith)));
  row = λ r h. absurd h;
  placed = λ s lt. subst (Laid (base z s + start z)) (sym (no_rows z s)) tt;
  once = λ i j key h. absurd h;
}

pub in_below : (n s : ℕ) → s < n → In s (below n)
in_below zero s h = absurd (omega arith)
in_below (suc n) s h = ⊎_elim (λ l. inr (in_below n s l)) (λ g. inl (omega arith)) (cases_lt s n)

only : {A : Type 0} (a b : A) (id : ℕ) → get_elem? (a ∷ []) id ≡ some b → (id ≡ 0) × (a ≡ b)
only a b zero e = (refl, some-injective a b e)
only a b (suc id) e = absurd (some-ne-none b (sym e))

first_knows : (z : Layout) → IsLayout z → Knows z (replicate z.words 0) [] (first_view z)
first_knows z l = record {
  layout = refl;
  pool = IsPool-empty z l;
  earlier = Earlier-refl z (replicate z.words 0) [] (IsPool-empty z l);
  owns = λ s i. Same-refl z s (replicate z.words 0) [];
  told = Extends-refl [];
}

pub opens : {S : Type 0} (z : Layout) (ws : List ℕ) (homes : List S) → IsLayout z → ws ≡ replicate z.words 0 → Holds z (opening ws homes (first_view z))
opens {S} z ws homes l e = subst (λ us. Holds z (opening us homes (first_view z))) (sym e) (record {
  log = [];
  laid = l;
  pool = IsPool-empty z l;
  known = λ id v g live. subst (Knows z (replicate z.words 0) []) (only (first_view z) v id g).1 (first_knows z l);
  shared = record {
    falling = λ id v g. subst (λ (u : View). Falls u.writes) (only (first_view z) v id g).1 (Falls-below z.shards);
    in_range = λ id v s g i. below_in z.shards s (subst (λ (u : View). In s u.writes) (sym (only (first_view z) v id g).1) i);
    alone = λ id id' v v' s g g' i i'. (only (first_view z) v id g).0 ∙ sym (only (first_view z) v' id' g').0;
    owned = λ s lt. (0, first_view z, refl, in_below z.shards s lt);
  };
})
