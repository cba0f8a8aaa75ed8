use Rattle.std.proofs.Common.{◌≡◌, ℕ, ◌+◌, ◌<◌, List, [], ◌∷◌, ◌++◌, length, get_or, set, slice_index, sym, ap, ◌∙◌, subst, arith}
use Rattle.std.proofs.lemmas.List.{get_or_read}
use Rattle.pool_words.specs.declared.view.Layout.{Layout}
use Rattle.pool_words.specs.declared.view.View.{View}
use Rattle.pool_words.specs.Layout.{Row, shard_of, rows_of, IsLayout}
use Rattle.pool_words.specs.Rule.{In}
use Rattle.pool_words.proofs.Members.{In-last, rows_of-In}
use Rattle.pool_words.proofs.Places.{shard_in}
use Rattle.pool_shard.specs.Looks.{IsPart, IsRows}
use Rattle.pool_shard.specs.Pairs.{Rows}
use Rattle.pool_shard.proofs.Counting.{few_rows, IsRows-adds}
use Rattle.pool_shard.proofs.Filling.{Touches-refl}
use Rattle.pool_shard.proofs.Logs.{log_adds}
use Rattle.pool_shard.proofs.rows.PoolRows.add.Goals as goal

-- the layout that the clauses name is the rows' own
same_layout : (p q : Rows) (z : Layout) → p ≡ q → p.view.layout ≡ z → q.view.layout ≡ z
same_layout p q z e f = ap (λ (r : Rows). r.view.layout) (sym e) ∙ f

shard_here : (p q : Rows) (z : Layout) (s : ℕ) (key : List ℕ) → p ≡ q → p.view.layout ≡ z → IsLayout z → s ≡ shard_of q.view.layout key → s < z.shards
shard_here p q z s key e f l g =
    let h : s ≡ shard_of z key = subst (λ y. s ≡ shard_of y key) (same_layout p q z e f) g in
    subst (λ t. t < z.shards) (sym h) (shard_in z key l)

pub index-count-requires : goal.index-count-requires
index-count-requires c =
    let p = c.self.inside in
    let i = c.self.invariant in
    let l = shard_here (record { id = p.seat.table_id; view = p.seat.me.0 }) c.args.self.now p.layout c.args.shard c.args.key.now c.self.view_is i.seat.layout i.seat.laid c.requires.hash.1 in
    let m = i.many_counts in
    omega (arith, p.counts.ok.0)

pub index-taken-requires : goal.index-taken-requires
index-taken-requires c =
    let p = c.self.inside in
    let i = c.self.invariant in
    let l = shard_here (record { id = p.seat.table_id; view = p.seat.me.0 }) c.args.self.now p.layout c.args.shard c.args.key.now c.self.view_is i.seat.layout i.seat.laid c.requires.hash.1 in
    let m = i.many_sums in
    omega (arith, p.sums.ok.0)

-- what was read is the shard's part
part_read : (z : Layout) (v : View) (s n m : ℕ) (counts sums : List ℕ) → length counts ≡ z.shards → length sums ≡ z.shards → s < z.shards → IsPart z v s (slice_index counts s) (slice_index sums s) → n ≡ get_or counts s n → m ≡ get_or sums s m → IsPart z v s n m
part_read z v s n m counts sums a b l p e f =
    let x : n ≡ slice_index counts s = get_or_read counts s n (omega arith) e 0 in
    let y : m ≡ slice_index sums s = get_or_read sums s m (omega arith) f 0 in
    subst (λ k. IsPart z v s k m) (sym x) (subst (λ k. IsPart z v s (slice_index counts s) k) (sym y) p)

pub add_key-requires-clause-ours : goal.add_key-requires-clause-ours
add_key-requires-clause-ours c =
    let p = c.self.inside in
    let i = c.self.invariant in
    let l = shard_here (record { id = p.seat.table_id; view = p.seat.me.0 }) c.args.self.now p.layout c.args.shard c.args.key.now c.self.view_is i.seat.layout i.seat.laid c.requires.hash.1 in
    (i.owns c.args.shard l, l)

pub add_key-requires-clause-part : goal.add_key-requires-clause-part
add_key-requires-clause-part c =
    let p = c.self.inside in
    let i = c.self.invariant in
    let l = shard_here (record { id = p.seat.table_id; view = p.seat.me.0 }) c.args.self.now p.layout c.args.shard c.args.key.now c.self.view_is i.seat.layout i.seat.laid c.requires.hash.1 in
    part_read p.layout p.seat.me.0 c.args.shard c.index-count.result.now c.index-taken.result.now p.counts.items p.sums.items i.many_counts i.many_sums l (i.parts c.args.shard l) c.index-count.ensures c.index-taken.ensures

pub add_key-requires-clause-new : goal.add_key-requires-clause-new
add_key-requires-clause-new c j m = c.requires.new j (subst (λ (r : Rows). In (j, c.args.key.now) r.view.log) c.self.view_is m)

pub overflow_add-count : goal.overflow_add-count
overflow_add-count c = let f = few_rows c.self.inside.layout c.index-count.result.now c.self.invariant.seat.laid c.in-Ok.ensures.fits.0 in record { fits = omega arith }

pub index_mut-requires : goal.index_mut-requires
index_mut-requires c =
    let p = c.self.inside in
    let i = c.self.invariant in
    let l = shard_here (record { id = p.seat.table_id; view = p.seat.me.0 }) c.args.self.now p.layout c.args.shard c.args.key.now c.self.view_is i.seat.layout i.seat.laid c.requires.hash.1 in
    let m = i.many_counts in
    omega (arith, p.counts.ok.0)

pub index_mut-requires-2 : goal.index_mut-requires-2
index_mut-requires-2 c =
    let p = c.self.inside in
    let i = c.self.invariant in
    let l = shard_here (record { id = p.seat.table_id; view = p.seat.me.0 }) c.args.self.now p.layout c.args.shard c.args.key.now c.self.view_is i.seat.layout i.seat.laid c.requires.hash.1 in
    let m = i.many_sums in
    omega (arith, p.sums.ok.0)

pub invariant_of-self : goal.invariant_of-self
invariant_of-self c =
    let p = c.self.inside in
    subst (λ q. IsRows p.layout p.words.shared.table_id q p.counts.items p.sums.items) (sym c.in-Err.ensures.same) c.self.invariant

pub invariant_of-self-2 : goal.invariant_of-self-2
invariant_of-self-2 c =
    let p = c.self.inside in
    let i = c.self.invariant in
    let s = c.args.shard in
    let r : Row = (c.in-Ok.place, c.args.key.now) in
    let l = shard_here (record { id = p.seat.table_id; view = p.seat.me.0 }) c.args.self.now p.layout s c.args.key.now c.self.view_is i.seat.layout i.seat.laid c.requires.hash.1 in
    let x : c.index-count.result.now ≡ slice_index p.counts.items s = get_or_read p.counts.items s c.index-count.result.now (let m = i.many_counts in omega arith) c.index-count.ensures 0 in
    let y : c.index-taken.result.now ≡ slice_index p.sums.items s = get_or_read p.sums.items s c.index-taken.result.now (let m = i.many_sums in omega arith) c.index-taken.ensures 0 in
    let h = IsRows-adds p.layout p.words.shared.table_id p.seat c.add_key.new.seat p.seat.me.0 p.counts.items p.sums.items s r i c.add_key.ensures.seat l (Touches-refl p.layout s p.seat.me.0 i.seat.layout i.seat.pool) c.in-Ok.ensures.adds c.add_key.ensures.slots in
    subst (λ n. IsRows p.layout p.words.shared.table_id c.add_key.new.seat (set p.counts.items s (n + 1)) (set p.sums.items s (c.index-taken.result.now + length c.args.key.now + 1))) (sym x)
    (subst (λ n. IsRows p.layout p.words.shared.table_id c.add_key.new.seat (set p.counts.items s (slice_index p.counts.items s + 1)) (set p.sums.items s (n + length c.args.key.now + 1))) (sym y) h)

pub returns-clause-place : goal.returns-clause-place
returns-clause-place c =
    let w = c.self.inside.seat.me.0 in
    let x = c.add_key.new.seat.me.0 in
    let r : Row = (c.in-Ok.place, c.args.key.now) in
    (rows_of-In w.layout c.args.shard r x.log (subst (In r) (sym c.in-Ok.ensures.adds.added) (In-last r (rows_of w.layout c.args.shard w.log)))).0

pub returns-clause-added : goal.returns-clause-added
returns-clause-added c =
    let p = c.self.inside in
    let i = c.self.invariant in
    let s = c.args.shard in
    let r : Row = (c.in-Ok.place, c.args.key.now) in
    let l = shard_here (record { id = p.seat.table_id; view = p.seat.me.0 }) c.args.self.now p.layout s c.args.key.now c.self.view_is i.seat.layout i.seat.laid c.requires.hash.1 in
    log_adds p.layout p.seat.me.0 p.seat.me.0 c.add_key.new.seat.me.0 s r i.seat.layout i.seat.laid i.owns l (Touches-refl p.layout s p.seat.me.0 i.seat.layout i.seat.pool) c.in-Ok.ensures.adds ∙ ap (λ (q : Rows). q.view.log ++ r ∷ []) c.self.view_is
