use Rattle.std.proofs.Common.{◌≡◌, ⊎_elim, ℕ, List, length, slice_index, sym, ap, ◌∙◌, subst, arith}
use Rattle.std.proofs.lemmas.Bool.{cases_lt}
use Rattle.pool_words.proofs.Members.{In-extends}
use Rattle.pool_shard.proofs.Keeping.{Keeps-trans}
use Rattle.pool_shard.proofs.Readings.{place_in, count_read, word_read, same_keys}
use Rattle.pool_shard.proofs.look.row_is.Goals as goal

pub look-count-requires-clause-inside : goal.look-count-requires-clause-inside
look-count-requires-clause-inside c =
    let q = c.requires.seat in
    let s = c.args.seat.now.me.0 in
    let r = c.requires.row in
    let p = place_in c.args.layout.now s.words s.log (c.args.place, r.0) q.laid q.pool r.1 in
    omega arith

-- the count that was read is that of the row's key
counted : (n : ℕ) (ws key : List ℕ) → n ≡ length ws → ws ≡ key → n ≡ length key
counted n ws key e f = e ∙ ap length f

pub returns-then-count-key-clause-answer : goal.returns-then-count-key-clause-answer
returns-then-count-key-clause-answer c ws i e =
    let q = c.look-count.ensures.seat in
    let s = c.look-count.new.seat.me.0 in
    let j = In-extends (c.args.place, ws) c.args.seat.now.me.0.log s.log c.look-count.ensures.keeps.later.grows i in
    let a = counted c.look-count.result ws c.args.key.now (c.look-count.ensures.found ∙ count_read c.args.layout.now s.words s.log (c.args.place, ws) q.pool j) e in
    absurd (omega arith)

pub loop-i-init : goal.loop-i-init
loop-i-init c = record {
  seat = c.look-count.ensures.seat;
  keeps = c.look-count.ensures.keeps;
  slots = c.look-count.ensures.slots;
  same = λ ws i k l. absurd (omega arith);
}

pub look-word-requires-clause-inside : goal.look-word-requires-clause-inside
look-word-requires-clause-inside c =
    let q = c.look-count.ensures.seat in
    let s = c.look-count.new.seat.me.0 in
    let r = c.requires.row in
    let j = In-extends (c.args.place, r.0) c.args.seat.now.me.0.log s.log c.look-count.ensures.keeps.later.grows r.1 in
    let a = c.look-count.ensures.found ∙ count_read c.args.layout.now s.words s.log (c.args.place, r.0) q.pool j in
    let p = place_in c.args.layout.now s.words s.log (c.args.place, r.0) q.laid q.pool j in
    omega arith

pub returns-then-word-key-clause-keeps : goal.returns-then-word-key-clause-keeps
returns-then-word-key-clause-keeps c = Keeps-trans c.args.seat.now.me.0 c.loop-i.seat.me.0 c.look-word.new.seat.me.0 c.loop-i.invariant.keeps c.look-word.ensures.keeps

pub returns-then-word-key-clause-answer : goal.returns-then-word-key-clause-answer
returns-then-word-key-clause-answer c ws i e =
    let q = c.look-word.ensures.seat in
    let s = c.look-word.new.seat.me.0 in
    let k = Keeps-trans c.args.seat.now.me.0 c.loop-i.seat.me.0 s c.loop-i.invariant.keeps c.look-word.ensures.keeps in
    let j = In-extends (c.args.place, ws) c.args.seat.now.me.0.log s.log k.later.grows i in
    let l : length ws ≡ length c.args.key.now = ap length e in
    let a = c.look-word.ensures.found ∙ word_read c.args.layout.now s.words s.log (c.args.place, ws) c.loop-i.i q.pool j (omega arith) ∙ ap (λ us. slice_index us c.loop-i.i) e in
    absurd (omega arith)

pub loop-i-preserved : goal.loop-i-preserved
loop-i-preserved c =
    let q = c.look-word.ensures.seat in
    let s = c.look-word.new.seat.me.0 in
    let k = Keeps-trans c.args.seat.now.me.0 c.loop-i.seat.me.0 s c.loop-i.invariant.keeps c.look-word.ensures.keeps in
    let t = c.look-count.new.seat.me.0 in
    record {
      seat = q;
      keeps = k;
      slots = c.look-word.ensures.slots ∙ c.loop-i.invariant.slots;
      same = λ ws i m l. ⊎_elim (λ b. c.loop-i.invariant.same ws i m b)
          (λ g.
          let e : m ≡ c.loop-i.i = omega arith in
          let j = In-extends (c.args.place, ws) c.args.seat.now.me.0.log s.log k.later.grows i in
          let j' = In-extends (c.args.place, ws) c.args.seat.now.me.0.log t.log c.look-count.ensures.keeps.later.grows i in
          let n = c.look-count.ensures.found ∙ count_read c.args.layout.now t.words t.log (c.args.place, ws) c.look-count.ensures.seat.pool j' in
          let a = c.look-word.ensures.found ∙ word_read c.args.layout.now s.words s.log (c.args.place, ws) c.loop-i.i q.pool j (omega arith) in
          subst (λ x. slice_index ws x ≡ slice_index c.args.key.now x) (sym e) (sym a ∙ c.if-word-key.false))
          (cases_lt m c.loop-i.i);
    }

pub returns-clause-keeps : goal.returns-clause-keeps
returns-clause-keeps c = c.loop-i.invariant.keeps

pub returns-clause-answer : goal.returns-clause-answer
returns-clause-answer c ws i =
    let t = c.look-count.new.seat.me.0 in
    let j = In-extends (c.args.place, ws) c.args.seat.now.me.0.log t.log c.look-count.ensures.keeps.later.grows i in
    let n = c.look-count.ensures.found ∙ count_read c.args.layout.now t.words t.log (c.args.place, ws) c.look-count.ensures.seat.pool j in
    same_keys ws c.args.key.now (omega arith) (λ k l. c.loop-i.invariant.same ws i k (omega arith))
