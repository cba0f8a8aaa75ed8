use Rattle.std.proofs.Common.{◌≡◌, ◌∷◌, [], ◌++◌, length, take, slice_index, sym, ap, ◌∙◌, arith, length-take, take_all}
use Rattle.std.proofs.lemmas.List.{take_more}
use Rattle.pool_words.proofs.Members.{In-extends}
use Rattle.pool_shard.proofs.Keeping.{Keeps-trans}
use Rattle.pool_shard.proofs.Readings.{place_in, row_facts, word_read}
use Rattle.pool_shard.proofs.find.read_row.Goals as goal

pub look-count-requires-clause-inside : goal.look-count-requires-clause-inside
look-count-requires-clause-inside c =
    let q = c.requires.seat in
    let s = c.args.seat.now.me.0 in
    let r = c.requires.row in
    let p = place_in c.args.layout.now s.words s.log (c.args.place, r.0) q.laid q.pool r.1 in
    omega arith

pub overflow_add-place-in-loop-i : goal.overflow_add-place-in-loop-i
overflow_add-place-in-loop-i c =
    let v = c.look-count.new.seat.me.0 in
    let u = c.args.seat.now.me.0 in
    let q = c.look-count.ensures.seat in
    let f = row_facts c.args.layout.now v.words v.log u.log c.args.place c.look-count.result c.requires.row.0 q.laid q.pool (λ r i. In-extends r u.log v.log c.look-count.ensures.keeps.later.grows i) c.requires.row.1 c.look-count.ensures.found in
    let m = q.laid.small in
    record { fits = omega arith }

pub look-requires-clause-inside : goal.look-requires-clause-inside
look-requires-clause-inside c =
    let v = c.look-count.new.seat.me.0 in
    let u = c.args.seat.now.me.0 in
    let q = c.look-count.ensures.seat in
    let f = row_facts c.args.layout.now v.words v.log u.log c.args.place c.look-count.result c.requires.row.0 q.laid q.pool (λ r i. In-extends r u.log v.log c.look-count.ensures.keeps.later.grows i) c.requires.row.1 c.look-count.ensures.found in
    omega arith

pub push-requires : goal.push-requires
push-requires c =
    let v = c.look-count.new.seat.me.0 in
    let u = c.args.seat.now.me.0 in
    let q = c.look-count.ensures.seat in
    let f = row_facts c.args.layout.now v.words v.log u.log c.args.place c.look-count.result c.requires.row.0 q.laid q.pool (λ r i. In-extends r u.log v.log c.look-count.ensures.keeps.later.grows i) c.requires.row.1 c.look-count.ensures.found in
    let e : length c.loop-i.into ≡ length (take c.loop-i.i c.requires.row.0) = ap length (c.loop-i.invariant.so_far c.requires.row.0 c.requires.row.1) in
    let t = length-take c.loop-i.i c.requires.row.0 in
    omega arith

pub loop-i-preserved : goal.loop-i-preserved
loop-i-preserved c =
    let v = c.look-count.new.seat.me.0 in
    let u = c.args.seat.now.me.0 in
    let w = c.look.new.seat.me.0 in
    let q = c.look-count.ensures.seat in
    let k = Keeps-trans u c.loop-i.seat.me.0 w c.loop-i.invariant.keeps c.look.ensures.keeps in
    record {
      seat = c.look.ensures.seat;
      keeps = k;
      slots = c.look.ensures.slots ∙ c.loop-i.invariant.slots;
      so_far = λ ws i.
          let f = row_facts c.args.layout.now v.words v.log u.log c.args.place c.look-count.result ws q.laid q.pool (λ r i. In-extends r u.log v.log c.look-count.ensures.keeps.later.grows i) i c.look-count.ensures.found in
          let a : c.look.result ≡ slice_index ws c.loop-i.i = c.look.ensures.found ∙ word_read c.args.layout.now w.words w.log (c.args.place, ws) c.loop-i.i c.look.ensures.seat.pool (In-extends (c.args.place, ws) u.log w.log k.later.grows i) (omega arith) in
          c.push.ensures ∙ ap (λ us. us ++ c.look.result ∷ []) (c.loop-i.invariant.so_far ws i) ∙ ap (λ x. take c.loop-i.i ws ++ x ∷ []) a ∙ sym (take_more ws c.loop-i.i 0 (omega arith));
    }

pub returns-clause-key : goal.returns-clause-key
returns-clause-key c ws i =
    let v = c.look-count.new.seat.me.0 in
    let u = c.args.seat.now.me.0 in
    let q = c.look-count.ensures.seat in
    let f = row_facts c.args.layout.now v.words v.log u.log c.args.place c.look-count.result ws q.laid q.pool (λ r i. In-extends r u.log v.log c.look-count.ensures.keeps.later.grows i) i c.look-count.ensures.found in
    c.loop-i.invariant.so_far ws i ∙ take_all c.loop-i.i ws (omega arith)
