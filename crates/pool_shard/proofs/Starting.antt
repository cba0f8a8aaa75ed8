-- Rows in which nothing was published.
use Rattle.std.proofs.Common.{◌≡◌, ℕ, zero, suc, ◌<◌, List, [], length, take, replicate, slice_index, refl, sym, ap, ◌∙◌, subst, arith}
use Rattle.std.proofs.lemmas.List.{get_or-replicate, length-replicate}
use Rattle.atomic_table.specs.Seated.{TableId}
use Rattle.atomic_table.specs.Table.{Me}
use Rattle.atomic_table.specs.declared.shared.Seat.{Seat}
use Rattle.pool_words.specs.declared.view.Layout.{Layout}
use Rattle.pool_words.specs.declared.view.View.{View}
use Rattle.pool_words.specs.Layout.{Row, used, rows_of, head, level, IsLayout}
use Rattle.pool_words.specs.Rule.{In, HasRows, IsPool}
use Rattle.pool_words.specs.Views.{first_view}
use Rattle.pool_words.proofs.Members.{used-nil}
use Rattle.pool_words.proofs.Opening.{no_rows, IsPool-empty, in_below}
use Rattle.pool_shard.specs.Looks.{IsReadyShard, IsPart, IsRows}

take_none : (n : ℕ) (rows : List Row) → rows ≡ [] → take n rows ≡ []
take_none zero rows e = refl
take_none (suc n) rows e = ap (take (suc n)) e

ready : (z : Layout) (s : ℕ) → IsLayout z → s < z.shards → IsReadyShard z (replicate z.words 0) s
ready z s l lt below =
    let b = (IsPool-empty z l).shard s lt in
    let k : ℕ = suc (head z (replicate z.words 0) s) in
    subst (HasRows (level z (replicate z.words 0) s (suc (head z (replicate z.words 0) s))) (suc (head z (replicate z.words 0) s))) (take_none (b.held (suc (head z (replicate z.words 0) s))) (rows_of z s []) (no_rows z s)) (b.has (suc (head z (replicate z.words 0) s)) (omega arith))

first_part : (z : Layout) (s : ℕ) → IsLayout z → s < z.shards → IsPart z (first_view z) s 0 0
first_part z s l lt = record { counted = ap length (sym (no_rows z s)); summed = sym used-nil ∙ ap used (sym (no_rows z s)); ready = ready z s l lt }

pub IsRows-open : {S : Type 0} (z : Layout) (t : TableId) (q : Seat S View) (counts sums : List ℕ) → IsLayout z → q.table_id ≡ t → t.words ≡ z.words → q.me ≡ (first_view z, []) → counts ≡ replicate z.shards 0 → sums ≡ replicate z.shards 0 → IsRows z t q counts sums
IsRows-open {S} z t q counts sums l of wide e f g = record {
  seat = record {
    of = of;
    wide = wide;
    layout = ap (λ (m : Me S View). m.0.layout) e;
    laid = l;
    pool = subst (λ (m : Me S View). IsPool z m.0.words m.0.log) (sym e) (IsPool-empty z l);
  };
  slots = ap (λ (m : Me S View). m.1) e;
  many_counts = ap length f ∙ length-replicate z.shards 0;
  many_sums = ap length g ∙ length-replicate z.shards 0;
  all = ap (λ (m : Me S View). m.0.writes) e;
  owns = λ s lt. subst (λ (m : Me S View). In s m.0.writes) (sym e) (in_below z.shards s lt);
  parts = λ s lt.
      let a : slice_index counts s ≡ 0 = ap (λ xs. slice_index xs s) f ∙ get_or-replicate z.shards s 0 0 lt in
      let b : slice_index sums s ≡ 0 = ap (λ xs. slice_index xs s) g ∙ get_or-replicate z.shards s 0 0 lt in
      subst (λ n. IsPart z q.me.0 s n (slice_index sums s)) (sym a) (subst (λ n. IsPart z q.me.0 s 0 n) (sym b) (subst (λ (m : Me S View). IsPart z m.0 s 0 0) (sym e) (first_part z s l lt)));
}
