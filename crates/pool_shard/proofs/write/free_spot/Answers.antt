use Rattle.std.proofs.Common.{◌≡◌, ◌≢◌, ⊎_elim, ℕ, ◌≤◌, slice_index, refl, sym, ◌∙◌, subst, arith}
use Rattle.std.proofs.lemmas.Bool.{cases_lt}
use Rattle.pool_words.specs.declared.view.Layout.{Layout}
use Rattle.pool_words.specs.declared.view.View.{View}
use Rattle.pool_words.specs.Layout.{spot, shard_of, level}
use Rattle.pool_words.specs.Rule.{In, IsPool}
use Rattle.pool_words.proofs.Places.{shard_in}
use Rattle.pool_shard.specs.Looks.{Keeps}
use Rattle.pool_shard.proofs.Keeping.{Keeps-refl, Keeps-trans}
use Rattle.pool_shard.proofs.Readings.{spot_read, not_full}
use Rattle.pool_shard.proofs.write.free_spot.Goals as goal

pub loop-far-init : goal.loop-far-init
loop-far-init c =
    let q = c.requires.seat in
    let v = c.args.seat.now.me.0 in
    record {
      seat = q;
      keeps = Keeps-refl v (subst (λ (y : Layout). IsPool y v.words v.log) (sym q.layout) q.pool);
      slots = refl;
      run = λ key e d l. absurd (omega arith);
    }

-- a level of a shard of one's own stays
own_level : (z : Layout) (u v w : View) (s at : ℕ) → u.layout ≡ z → v.layout ≡ z → Keeps u v → Keeps v w → In s u.writes → at ≤ z.top → level z w.words s at ≡ level z v.words s at
own_level z u v w s at lu lv a b i le = subst (λ y. level y w.words s at ≡ level y v.words s at) lv (b.levels s at (subst (In s) (sym a.writes) i) (subst (λ (y : Layout). at ≤ y.top) (sym lv) le))

pub returns-then-look-eq0-clause-keeps : goal.returns-then-look-eq0-clause-keeps
returns-then-look-eq0-clause-keeps c = Keeps-trans c.args.seat.now.me.0 c.loop-far.seat.me.0 c.look.new.seat.me.0 c.loop-far.invariant.keeps c.look.ensures.keeps

pub returns-then-look-eq0-clause-spot : goal.returns-then-look-eq0-clause-spot
returns-then-look-eq0-clause-spot c key e =
    let z = c.args.layout.now in
    let q = c.requires.seat in
    let u = c.args.seat.now.me.0 in
    let v = c.loop-far.seat.me.0 in
    let w = c.look.new.seat.me.0 in
    let same = own_level z u v w (shard_of z key) c.args.at q.layout c.loop-far.invariant.seat.layout c.loop-far.invariant.keeps c.look.ensures.keeps (c.requires.ours key e) c.requires.level in
    record {
      within = let t = c.loop-far-test.true in let f = c.slots_of-far-end.ensures in omega arith;
      free = spot_read z w c.args.at c.loop-far.far c.slot_of-slot.result c.look.result key q.laid c.look.ensures.seat.pool c.requires.level (c.slot_of-slot.ensures.slot key e) c.look.ensures.found ∙ c.if-look-eq0.true;
      run = λ d l. subst (λ slots. slice_index slots (spot key c.args.at d) ≢ 0) (sym same) (c.loop-far.invariant.run key e d l);
    }

pub loop-far-preserved : goal.loop-far-preserved
loop-far-preserved c =
    let z = c.args.layout.now in
    let q = c.requires.seat in
    let u = c.args.seat.now.me.0 in
    let v = c.loop-far.seat.me.0 in
    let w = c.look.new.seat.me.0 in
    record {
      seat = c.look.ensures.seat;
      keeps = Keeps-trans u v w c.loop-far.invariant.keeps c.look.ensures.keeps;
      slots = c.look.ensures.slots ∙ c.loop-far.invariant.slots;
      run = λ key e d l.
          let same = own_level z u v w (shard_of z key) c.args.at q.layout c.loop-far.invariant.seat.layout c.loop-far.invariant.keeps c.look.ensures.keeps (c.requires.ours key e) c.requires.level in
          ⊎_elim (λ b. subst (λ slots. slice_index slots (spot key c.args.at d) ≢ 0) (sym same) (c.loop-far.invariant.run key e d b))
          (λ g o.
          let f : c.loop-far.far ≡ d = omega arith in
          let r = spot_read z w c.args.at c.loop-far.far c.slot_of-slot.result c.look.result key q.laid c.look.ensures.seat.pool c.requires.level (c.slot_of-slot.ensures.slot key e) c.look.ensures.found in
          c.if-look-eq0.false (sym r ∙ subst (λ m. slice_index (level z w.words (shard_of z key) c.args.at) (spot key c.args.at m) ≡ 0) (sym f) o))
          (cases_lt d c.loop-far.far);
    }

pub unreachable-requires : goal.unreachable-requires
unreachable-requires c =
    let z = c.args.layout.now in
    let q = c.requires.seat in
    let v = c.loop-far.seat.me.0 in
    let key = c.requires.key.0 in
    not_full z v.words v.log (shard_of z key) c.args.at q.laid c.loop-far.invariant.seat.pool (shard_in z key q.laid) c.requires.level key
    (λ d l. c.loop-far.invariant.run key c.requires.key.1 d (let t = c.loop-far-test.false in let e = c.slots_of-far-end.ensures in omega arith))
