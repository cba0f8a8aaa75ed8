use Rattle.std.proofs.Common.{◌≡◌, ⊎_elim, ℕ, ◌+◌, ◌-◌, ◌<◌, ◌≤◌, List, slice_index, refl, sym, ap, ◌∙◌, subst, arith}
use Rattle.std.proofs.lemmas.Bool.{cases_lt, MatchBool-at_true, MatchBool-at_false}
use Rattle.pool_words.specs.declared.view.Layout.{Layout}
use Rattle.pool_words.specs.declared.view.View.{View}
use Rattle.pool_words.specs.Layout.{spot, level_at, shard_of, base, head, level, IsLayout}
use Rattle.pool_words.specs.Rule.{In, IsPool, Earlier}
use Rattle.pool_words.proofs.Members.{In-extends}
use Rattle.pool_words.proofs.Places.{shard_in, spot_in}
use Rattle.pool_shard.specs.Looks.{Keeps, IsPassed}
use Rattle.pool_shard.proofs.Keeping.{Keeps-refl, Keeps-trans}
use Rattle.pool_shard.proofs.Readings.{slot_row, slot_read, not_full, passed_later, passed_taken, absent}
use Rattle.pool_shard.proofs.probe.probe.Goals as goal

in_levels : (z : Layout) (v : View) (at s : ℕ) → IsPool z v.words v.log → s < z.shards → head z v.words s ≡ at → at ≤ z.top
in_levels z v at s p l e = let t = (p.shard s l).head_in in omega arith

pub slots_of-slots-requires-clause-level : goal.slots_of-slots-requires-clause-level
slots_of-slots-requires-clause-level c =
    let z = c.args.layout.now in
    let q = c.requires.seat in
    in_levels z c.args.seat.now.me.0 c.args.at (shard_of z c.args.key.now) q.pool (shard_in z c.args.key.now q.laid) c.requires.head

pub slot_of-slot-requires-clause-level : goal.slot_of-slot-requires-clause-level
slot_of-slot-requires-clause-level c =
    let z = c.args.layout.now in
    let q = c.requires.seat in
    in_levels z c.args.seat.now.me.0 c.args.at (shard_of z c.args.key.now) q.pool (shard_in z c.args.key.now q.laid) c.requires.head

pub loop-far-init : goal.loop-far-init
loop-far-init c =
    let q = c.requires.seat in
    let v = c.args.seat.now.me.0 in
    record {
      seat = q;
      keeps = Keeps-refl v (subst (λ (y : Layout). IsPool y v.words v.log) (sym q.layout) q.pool);
      slots = refl;
      passed = λ d l. absurd (omega arith);
    }

-- what was passed before two more looks
module _ (z : Layout) (u v w : View) (at : ℕ) (key : List ℕ) (far : ℕ) (h : IsLayout z) (lu : u.layout ≡ z) (lv : v.layout ≡ z) (hd : head z u.words (shard_of z key) ≡ at) (a : Keeps u v) (b : Keeps v w)
    (passed : (d : ℕ) → d < far → IsPassed (level z v.words (shard_of z key) at) at key v.log d) where
  still_passed : (d : ℕ) → d < far → IsPassed (level z w.words (shard_of z key) at) at key w.log d
  still_passed d l =
      let e = subst (λ y. Earlier y u.words u.log v.words v.log) lu a.later in
      let f = subst (λ y. Earlier y v.words v.log w.words w.log) lv b.later in
      let g = e.heads (shard_of z key) (shard_in z key h) in
      passed_later z v.words v.log w.words w.log (shard_of z key) at key d (shard_in z key h) f (omega arith) (passed d l)

pub returns-then-value-eq0-clause-keeps : goal.returns-then-value-eq0-clause-keeps
returns-then-value-eq0-clause-keeps c = Keeps-trans c.args.seat.now.me.0 c.loop-far.seat.me.0 c.look-value.new.seat.me.0 c.loop-far.invariant.keeps c.look-value.ensures.keeps

-- the word that was read is the slot's
read : (z : Layout) (v : View) (at far slot value : ℕ) (key : List ℕ) → IsLayout z → IsPool z v.words v.log → at ≤ z.top → slot ≡ base z (shard_of z key) + (level_at at + spot key at far) → value ≡ slice_index v.words slot
    → slice_index (level z v.words (shard_of z key) at) (spot key at far) ≡ value
read z v at far slot value key h p le e f = slot_read z v.words v.log (shard_of z key) at h p (shard_in z key h) le key far ∙ sym (f ∙ ap (slice_index v.words) e)

pub returns-then-value-eq0-clause-absent : goal.returns-then-value-eq0-clause-absent
returns-then-value-eq0-clause-absent c =
    let z = c.args.layout.now in
    let key = c.args.key.now in
    let q = c.requires.seat in
    let u = c.args.seat.now.me.0 in
    let v = c.loop-far.seat.me.0 in
    let w = c.look-value.new.seat.me.0 in
    let n = c.look-value.ensures.seat in
    let k = Keeps-trans u v w c.loop-far.invariant.keeps c.look-value.ensures.keeps in
    let later = subst (λ y. Earlier y u.words u.log w.words w.log) q.layout k.later in
    let le = in_levels z u c.args.at (shard_of z key) q.pool (shard_in z key q.laid) c.requires.head in
    let g = later.heads (shard_of z key) (shard_in z key q.laid) in
    let hd = c.requires.head in
    absent z w.words w.log u.log (shard_of z key) c.args.at key c.loop-far.far n.pool
    (still_passed z u v w c.args.at key c.loop-far.far q.laid q.layout c.loop-far.invariant.seat.layout hd c.loop-far.invariant.keeps c.look-value.ensures.keeps c.loop-far.invariant.passed)
    (read z w c.args.at c.loop-far.far c.slot_of-slot.result c.look-value.result key q.laid n.pool le (c.slot_of-slot.ensures.slot key c.requires.hash) c.look-value.ensures.found ∙ c.if-value-eq0.true)
    (λ r i. In-extends r u.log w.log later.grows i)
    (λ r i e. later.reached (shard_of z key) c.args.at r (shard_in z key q.laid) (omega arith) (omega arith) i (ap (shard_of z) e))

pub returns-then-value-eq0-clause-free : goal.returns-then-value-eq0-clause-free
returns-then-value-eq0-clause-free c =
    let z = c.args.layout.now in
    let key = c.args.key.now in
    let q = c.requires.seat in
    let u = c.args.seat.now.me.0 in
    let v = c.loop-far.seat.me.0 in
    let w = c.look-value.new.seat.me.0 in
    let n = c.look-value.ensures.seat in
    let le = in_levels z u c.args.at (shard_of z key) q.pool (shard_in z key q.laid) c.requires.head in
    record {
      within = let t = c.loop-far-test.true in let e = c.slots_of-slots.ensures in omega arith;
      free = read z w c.args.at c.loop-far.far c.slot_of-slot.result c.look-value.result key q.laid n.pool le (c.slot_of-slot.ensures.slot key c.requires.hash) c.look-value.ensures.found ∙ c.if-value-eq0.true;
      run = λ d l. passed_taken (level z w.words (shard_of z key) c.args.at) c.args.at key w.log d (still_passed z u v w c.args.at key c.loop-far.far q.laid q.layout c.loop-far.invariant.seat.layout c.requires.head c.loop-far.invariant.keeps c.look-value.ensures.keeps c.loop-far.invariant.passed d l);
    }

-- a word that is not 0 is a row's place plus 1
row_there : (z : Layout) (w : View) (at far slot value : ℕ) (key : List ℕ) → IsLayout z → IsPool z w.words w.log → at ≤ z.top → slot ≡ base z (shard_of z key) + (level_at at + spot key at far) → value ≡ slice_index w.words slot → (value ≡ 0 → ⊥)
    → (ws : List ℕ) × In (value - 1, ws) w.log
row_there z w at far slot value key h p le e f n =
    let r = read z w at far slot value key h p le e f in
    let g = slot_row z w.words w.log (shard_of z key) at h p (shard_in z key h) le (spot key at far) (spot_in key at far) (λ o. n (sym r ∙ o)) in
    let i : g.0.0 ≡ value - 1 = let x = g.2 in omega arith in
    (g.0.1, subst (λ m. In (m, g.0.1) w.log) i g.1)

pub row_is-requires-clause-row : goal.row_is-requires-clause-row
row_is-requires-clause-row c =
    let z = c.args.layout.now in
    let q = c.requires.seat in
    let w = c.look-value.new.seat.me.0 in
    let le = in_levels z c.args.seat.now.me.0 c.args.at (shard_of z c.args.key.now) q.pool (shard_in z c.args.key.now q.laid) c.requires.head in
    row_there z w c.args.at c.loop-far.far c.slot_of-slot.result c.look-value.result c.args.key.now q.laid c.look-value.ensures.seat.pool le (c.slot_of-slot.ensures.slot c.args.key.now c.requires.hash) c.look-value.ensures.found (λ e. c.if-value-eq0.false e)

pub returns-then-row_is-clause-keeps : goal.returns-then-row_is-clause-keeps
returns-then-row_is-clause-keeps c =
    Keeps-trans c.args.seat.now.me.0 c.look-value.new.seat.me.0 c.row_is.new.seat.me.0 (Keeps-trans c.args.seat.now.me.0 c.loop-far.seat.me.0 c.look-value.new.seat.me.0 c.loop-far.invariant.keeps c.look-value.ensures.keeps) c.row_is.ensures.keeps

pub returns-then-row_is-clause-found : goal.returns-then-row_is-clause-found
returns-then-row_is-clause-found c =
    let z = c.args.layout.now in
    let q = c.requires.seat in
    let w = c.look-value.new.seat.me.0 in
    let le = in_levels z c.args.seat.now.me.0 c.args.at (shard_of z c.args.key.now) q.pool (shard_in z c.args.key.now q.laid) c.requires.head in
    let r = row_there z w c.args.at c.loop-far.far c.slot_of-slot.result c.look-value.result c.args.key.now q.laid c.look-value.ensures.seat.pool le (c.slot_of-slot.ensures.slot c.args.key.now c.requires.hash) c.look-value.ensures.found (λ e. c.if-value-eq0.false e) in
    let same : r.0 ≡ c.args.key.now = MatchBool-at_true (r.0 ≡ c.args.key.now) (r.0 ≡ c.args.key.now → ⊥) c.if-row_is.true (c.row_is.ensures.answer r.0 r.1) in
    In-extends (c.look-value.result - 1, c.args.key.now) w.log c.row_is.new.seat.me.0.log c.row_is.ensures.keeps.later.grows (subst (λ ws. In (c.look-value.result - 1, ws) w.log) same r.1)

pub loop-far-preserved : goal.loop-far-preserved
loop-far-preserved c =
    let z = c.args.layout.now in
    let key = c.args.key.now in
    let q = c.requires.seat in
    let u = c.args.seat.now.me.0 in
    let v = c.loop-far.seat.me.0 in
    let w = c.look-value.new.seat.me.0 in
    let x = c.row_is.new.seat.me.0 in
    let n = c.look-value.ensures.seat in
    let le = in_levels z u c.args.at (shard_of z key) q.pool (shard_in z key q.laid) c.requires.head in
    let r = row_there z w c.args.at c.loop-far.far c.slot_of-slot.result c.look-value.result key q.laid n.pool le (c.slot_of-slot.ensures.slot key c.requires.hash) c.look-value.ensures.found (λ e. c.if-value-eq0.false e) in
    let differs : r.0 ≡ key → ⊥ = MatchBool-at_false (r.0 ≡ key) (r.0 ≡ key → ⊥) c.if-row_is.false (c.row_is.ensures.answer r.0 r.1) in
    let uw = Keeps-trans u v w c.loop-far.invariant.keeps c.look-value.ensures.keeps in
    let ux = Keeps-trans u w x uw c.row_is.ensures.keeps in
    let here : IsPassed (level z w.words (shard_of z key) c.args.at) c.args.at key w.log c.loop-far.far = record {
      row = (c.look-value.result - 1, r.0);
      there = r.1;
      here = read z w c.args.at c.loop-far.far c.slot_of-slot.result c.look-value.result key q.laid n.pool le (c.slot_of-slot.ensures.slot key c.requires.hash) c.look-value.ensures.found ∙ (let e = c.if-value-eq0.false in omega arith);
      differs = differs;
    } in
    let before = still_passed z u v w c.args.at key c.loop-far.far q.laid q.layout c.loop-far.invariant.seat.layout c.requires.head c.loop-far.invariant.keeps c.look-value.ensures.keeps c.loop-far.invariant.passed in
    let now : (d : ℕ) → d < c.loop-far.far + 1 → IsPassed (level z w.words (shard_of z key) c.args.at) c.args.at key w.log d =
    λ d l. ⊎_elim (λ b. before d b) (λ g. let e : c.loop-far.far ≡ d = omega arith in subst (λ m. IsPassed (level z w.words (shard_of z key) c.args.at) c.args.at key w.log m) e here) (cases_lt d c.loop-far.far) in
    record {
      seat = c.row_is.ensures.seat;
      keeps = ux;
      slots = c.row_is.ensures.slots ∙ c.look-value.ensures.slots ∙ c.loop-far.invariant.slots;
      passed = still_passed z u w x c.args.at key (c.loop-far.far + 1) q.laid q.layout n.layout c.requires.head uw c.row_is.ensures.keeps now;
    }

pub unreachable-requires : goal.unreachable-requires
unreachable-requires c =
    let z = c.args.layout.now in
    let key = c.args.key.now in
    let q = c.requires.seat in
    let v = c.loop-far.seat.me.0 in
    let n = c.loop-far.invariant.seat in
    let le = in_levels z c.args.seat.now.me.0 c.args.at (shard_of z key) q.pool (shard_in z key q.laid) c.requires.head in
    not_full z v.words v.log (shard_of z key) c.args.at q.laid n.pool (shard_in z key q.laid) le key
    (λ d l. passed_taken (level z v.words (shard_of z key) c.args.at) c.args.at key v.log d (c.loop-far.invariant.passed d (let t = c.loop-far-test.false in let e = c.slots_of-slots.ensures in omega arith)))
