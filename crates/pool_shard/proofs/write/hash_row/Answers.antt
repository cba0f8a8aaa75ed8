use Rattle.std.proofs.Common.{◌≡◌, ℕ, ◌+◌, ◌*◌, ◌/◌, ◌%◌, ◌^◌, ◌<◌, ◌≤◌, List, length, drop, slice_index, bit_xor, sym, ap, ◌∙◌, arith}
use Rattle.std.proofs.lemmas.List.{at_drop_more, at_drop_all}
use Rattle.pool_words.specs.Layout.{hash_of, hash_from}
use Rattle.pool_words.proofs.Members.{In-extends}
use Rattle.pool_shard.proofs.Keeping.{Keeps-trans}
use Rattle.pool_shard.proofs.Readings.{place_in, row_facts, word_read}
use Rattle.pool_shard.proofs.write.hash_row.Goals as goal

pub look-count-requires-clause-inside : goal.look-count-requires-clause-inside
look-count-requires-clause-inside c =
    let q = c.requires.seat in
    let s = c.args.seat.now.me.0 in
    let r = c.requires.row in
    let p = place_in c.args.layout.now s.words s.log (c.args.place, r.0) q.laid q.pool r.1 in
    omega arith

pub overflow_add-place-in-loop-i : goal.overflow_add-place-in-loop-i
overflow_add-place-in-loop-i c =
    let v = c.look-count.new.seat.me.0 in
    let u = c.args.seat.now.me.0 in
    let q = c.look-count.ensures.seat in
    let f = row_facts c.args.layout.now v.words v.log u.log c.args.place c.look-count.result c.requires.row.0 q.laid q.pool (λ r i. In-extends r u.log v.log c.look-count.ensures.keeps.later.grows i) c.requires.row.1 c.look-count.ensures.found in
    let m = q.laid.small in
    record { fits = omega arith }

pub look-word-requires-clause-inside : goal.look-word-requires-clause-inside
look-word-requires-clause-inside c =
    let v = c.look-count.new.seat.me.0 in
    let u = c.args.seat.now.me.0 in
    let q = c.look-count.ensures.seat in
    let f = row_facts c.args.layout.now v.words v.log u.log c.args.place c.look-count.result c.requires.row.0 q.laid q.pool (λ r i. In-extends r u.log v.log c.look-count.ensures.keeps.later.grows i) c.requires.row.1 c.look-count.ensures.found in
    omega arith

one_more : (h w : ℕ) (ws : List ℕ) (i : ℕ) → i < length ws → w ≡ slice_index ws i → hash_from (bit_xor h w * 0x0000_0100_0000_01b3 % 2 ^ 64) (drop (i + 1) ws) ≡ hash_from h (drop i ws)
unfolding hash_from
one_more h w ws i l e = ap (λ x. hash_from (bit_xor h x * 0x0000_0100_0000_01b3 % 2 ^ 64) (drop (i + 1) ws)) e ∙ sym (at_drop_more (hash_from h) ws i 0 l)

pub loop-i-preserved : goal.loop-i-preserved
loop-i-preserved c =
    let v = c.look-count.new.seat.me.0 in
    let u = c.args.seat.now.me.0 in
    let w = c.look-word.new.seat.me.0 in
    let q = c.look-count.ensures.seat in
    let k = Keeps-trans u c.loop-i.seat.me.0 w c.loop-i.invariant.keeps c.look-word.ensures.keeps in
    record {
      seat = c.look-word.ensures.seat;
      keeps = k;
      slots = c.look-word.ensures.slots ∙ c.loop-i.invariant.slots;
      so_far = λ ws i.
          let f = row_facts c.args.layout.now v.words v.log u.log c.args.place c.look-count.result ws q.laid q.pool (λ r i. In-extends r u.log v.log c.look-count.ensures.keeps.later.grows i) i c.look-count.ensures.found in
          let a : c.look-word.result ≡ slice_index ws c.loop-i.i = c.look-word.ensures.found ∙ word_read c.args.layout.now w.words w.log (c.args.place, ws) c.loop-i.i c.look-word.ensures.seat.pool (In-extends (c.args.place, ws) u.log w.log k.later.grows i) (omega arith) in
          one_more c.loop-i.hash c.look-word.result ws c.loop-i.i (omega arith) a ∙ c.loop-i.invariant.so_far ws i;
    }

whole : (h : ℕ) (ws : List ℕ) (i : ℕ) → length ws ≤ i → hash_from h (drop i ws) ≡ hash_from 0xcbf2_9ce4_8422_2325 ws → bit_xor h (h / 2 ^ 32) ≡ hash_of ws
unfolding hash_from hash_of
whole h ws i l e = ap (λ x. bit_xor x (x / 2 ^ 32)) (sym (at_drop_all (hash_from h) ws i l) ∙ e)

pub returns-clause-row : goal.returns-clause-row
returns-clause-row c ws i =
    let v = c.look-count.new.seat.me.0 in
    let u = c.args.seat.now.me.0 in
    let q = c.look-count.ensures.seat in
    let f = row_facts c.args.layout.now v.words v.log u.log c.args.place c.look-count.result ws q.laid q.pool (λ r i. In-extends r u.log v.log c.look-count.ensures.keeps.later.grows i) i c.look-count.ensures.found in
    (whole c.loop-i.hash ws c.loop-i.i (omega arith) (c.loop-i.invariant.so_far ws i), f.0)
