use Rattle.std.proofs.Common.{◌≡◌, ℕ, suc, ◌+◌, ◌<◌, ◌^◌, length, set, sym, ap, ◌∙◌, subst, arith}
use Rattle.pool_words.specs.declared.view.Layout.{Layout}
use Rattle.pool_words.specs.declared.view.View.{View}
use Rattle.pool_words.specs.Layout.{Row, shard_of, IsLayout}
use Rattle.pool_words.specs.Rule.{In, IsPool}
use Rattle.pool_words.specs.Views.{IsNext, Moves}
use Rattle.pool_words.proofs.Places.{level_low}
use Rattle.pool_shard.specs.Looks.{IsNextRow}
use Rattle.pool_shard.proofs.Keeping.{Keeps-trans}
use Rattle.pool_shard.proofs.Readings.{place_in}
use Rattle.pool_shard.proofs.Filling.{same_shard, next_in, IsNext-of, Fills-store, filled_store, Fills-keeps, Fills-trans}
use Rattle.pool_shard.proofs.write.fill_next.Goals as goal

-- the next row, at its place, in the log
at_place : (z : Layout) (u : View) (s at n place : ℕ) (r : Row) → IsNextRow z u s at n r → r.0 ≡ place → In (place, r.1) u.log
at_place z u s at n place r f e = subst (λ m. In (m, r.1) u.log) e (next_in z u s at n r f).0

pub hash_row-hash-requires-clause-row : goal.hash_row-hash-requires-clause-row
hash_row-hash-requires-clause-row c =
    let x = c.requires.next in
    (x.1.1, at_place c.args.layout.now c.args.seat.now.me.0 c.args.shard c.args.at x.0 c.args.place x.1 x.2 x.3)

pub overflow_add-at : goal.overflow_add-at
overflow_add-at c = let q = c.requires.seat in let t = c.requires.live.1 in let l = level_low c.args.layout.now c.args.at q.laid (omega arith) in record { fits = omega arith }

pub overflow_add-at-2 : goal.overflow_add-at-2
overflow_add-at-2 c = let q = c.requires.seat in let t = c.requires.live.1 in let l = level_low c.args.layout.now c.args.at q.laid (omega arith) in record { fits = omega arith }

pub free_spot-far-requires-clause-key : goal.free_spot-far-requires-clause-key
free_spot-far-requires-clause-key c =
    let x = c.requires.next in
    (x.1.1, (c.hash_row-hash.ensures.row x.1.1 (at_place c.args.layout.now c.args.seat.now.me.0 c.args.shard c.args.at x.0 c.args.place x.1 x.2 x.3)).0)

pub free_spot-far-requires-clause-ours : goal.free_spot-far-requires-clause-ours
free_spot-far-requires-clause-ours c key e =
    let z = c.args.layout.now in
    let x = c.requires.next in
    let h = (c.hash_row-hash.ensures.row x.1.1 (at_place z c.args.seat.now.me.0 c.args.shard c.args.at x.0 c.args.place x.1 x.2 x.3)).0 in
    let s : shard_of z key ≡ c.args.shard = same_shard z key x.1.1 (sym e ∙ h) ∙ (next_in z c.args.seat.now.me.0 c.args.shard c.args.at x.0 x.1 x.2).1 in
    subst (λ t. In t c.hash_row-hash.new.seat.me.0.writes) (sym s) (subst (In c.args.shard) (sym c.hash_row-hash.ensures.keeps.writes) c.requires.ours.0)

pub slot_of-slot-requires-clause-far : goal.slot_of-slot-requires-clause-far
slot_of-slot-requires-clause-far c =
    let x = c.requires.next in
    let h = (c.hash_row-hash.ensures.row x.1.1 (at_place c.args.layout.now c.args.seat.now.me.0 c.args.shard c.args.at x.0 c.args.place x.1 x.2 x.3)).0 in
    (c.free_spot-far.ensures.spot x.1.1 h).within

in_words : (z : Layout) (u : View) (s at n place : ℕ) (r : Row) → IsLayout z → IsPool z u.words u.log → IsNextRow z u s at n r → r.0 ≡ place → place + length r.1 < 2 ^ 60
in_words z u s at n place r l p f e = let a = place_in z u.words u.log (place, r.1) l p (at_place z u s at n place r f e) in let m = l.small in omega arith

pub overflow_add-place : goal.overflow_add-place
overflow_add-place c =
    let q = c.requires.seat in
    let x = c.requires.next in
    let a = in_words c.args.layout.now c.args.seat.now.me.0 c.args.shard c.args.at x.0 c.args.place x.1 q.laid q.pool x.2 x.3 in
    record { fits = omega arith }

pub overflow_add-result : goal.overflow_add-result
overflow_add-result c =
    let q = c.requires.seat in
    let x = c.requires.next in
    let h = (c.hash_row-hash.ensures.row x.1.1 (at_place c.args.layout.now c.args.seat.now.me.0 c.args.shard c.args.at x.0 c.args.place x.1 x.2 x.3)).1 in
    let a = in_words c.args.layout.now c.args.seat.now.me.0 c.args.shard c.args.at x.0 c.args.place x.1 q.laid q.pool x.2 x.3 in
    record { fits = omega arith }

pub overflow_add-result-2 : goal.overflow_add-result-2
overflow_add-result-2 c =
    let q = c.requires.seat in
    let x = c.requires.next in
    let h = (c.hash_row-hash.ensures.row x.1.1 (at_place c.args.layout.now c.args.seat.now.me.0 c.args.shard c.args.at x.0 c.args.place x.1 x.2 x.3)).1 in
    let a = in_words c.args.layout.now c.args.seat.now.me.0 c.args.shard c.args.at x.0 c.args.place x.1 q.laid q.pool x.2 x.3 in
    record { fits = omega arith }

pub fill-requires-clause-next : goal.fill-requires-clause-next
fill-requires-clause-next c =
    let z = c.args.layout.now in
    let q = c.requires.seat in
    let x = c.requires.next in
    let u = c.args.seat.now.me.0 in
    let w = c.free_spot-far.new.seat.me.0 in
    let k = Keeps-trans u c.hash_row-hash.new.seat.me.0 w c.hash_row-hash.ensures.keeps c.free_spot-far.ensures.keeps in
    let h = (c.hash_row-hash.ensures.row x.1.1 (at_place z u c.args.shard c.args.at x.0 c.args.place x.1 x.2 x.3)).0 in
    record {
      shard = c.args.shard;
      ours = subst (In c.args.shard) (sym k.writes) c.requires.ours.0;
      head_is = c.args.at;
      done = x.0;
      row = x.1;
      next = subst (λ (y : Layout). IsNext y w.words w.log c.args.shard c.args.at x.0 c.slot_of-slot.result x.1) (sym c.free_spot-far.ensures.seat.layout)
          (IsNext-of z u w c.args.shard c.args.at x.0 c.free_spot-far.result c.slot_of-slot.result x.1 q.layout k c.requires.ours.0 c.requires.live.0 c.requires.live.1 x.2 (c.free_spot-far.ensures.spot x.1.1 h) (c.slot_of-slot.ensures.slot x.1.1 h));
      is = ap (λ m. m + 1) (sym x.3);
    }

pub returns-clause-fills : goal.returns-clause-fills
returns-clause-fills c =
    let z = c.args.layout.now in
    let q = c.requires.seat in
    let x = c.requires.next in
    let u = c.args.seat.now.me.0 in
    let w = c.free_spot-far.new.seat.me.0 in
    let y = c.fill.new.seat.me.0 in
    let k = Keeps-trans u c.hash_row-hash.new.seat.me.0 w c.hash_row-hash.ensures.keeps c.free_spot-far.ensures.keeps in
    let h = (c.hash_row-hash.ensures.row x.1.1 (at_place z u c.args.shard c.args.at x.0 c.args.place x.1 x.2 x.3)).0 in
    let f = IsNext-of z u w c.args.shard c.args.at x.0 c.free_spot-far.result c.slot_of-slot.result x.1 q.layout k c.requires.ours.0 c.requires.live.0 c.requires.live.1 x.2 (c.free_spot-far.ensures.spot x.1.1 h) (c.slot_of-slot.ensures.slot x.1.1 h) in
    let ours = subst (In c.args.shard) (sym k.writes) c.requires.ours.0 in
    let m : Moves w (set w.words c.slot_of-slot.result (x.1.0 + 1)) w.log y = subst (λ n. Moves w (set w.words c.slot_of-slot.result (n + 1)) w.log y) (sym x.3) c.fill.ensures.stored in
    Fills-trans c.args.shard (suc c.args.at) u w y (Fills-keeps c.args.shard (suc c.args.at) u w c.requires.ours.0 k)
    (Fills-store z w y c.args.shard c.args.at x.0 c.slot_of-slot.result x.1 q.laid c.free_spot-far.ensures.seat.pool c.requires.ours.1 f c.free_spot-far.ensures.seat.layout ours m)

pub returns-clause-filled : goal.returns-clause-filled
returns-clause-filled c n r g e =
    let z = c.args.layout.now in
    let q = c.requires.seat in
    let u = c.args.seat.now.me.0 in
    let w = c.free_spot-far.new.seat.me.0 in
    let y = c.fill.new.seat.me.0 in
    let k = Keeps-trans u c.hash_row-hash.new.seat.me.0 w c.hash_row-hash.ensures.keeps c.free_spot-far.ensures.keeps in
    let h = (c.hash_row-hash.ensures.row r.1 (at_place z u c.args.shard c.args.at n c.args.place r g e)).0 in
    let f = IsNext-of z u w c.args.shard c.args.at n c.free_spot-far.result c.slot_of-slot.result r q.layout k c.requires.ours.0 c.requires.live.0 c.requires.live.1 g (c.free_spot-far.ensures.spot r.1 h) (c.slot_of-slot.ensures.slot r.1 h) in
    let ours = subst (In c.args.shard) (sym k.writes) c.requires.ours.0 in
    let m : Moves w (set w.words c.slot_of-slot.result (r.0 + 1)) w.log y = subst (λ x. Moves w (set w.words c.slot_of-slot.result (x + 1)) w.log y) (sym e) c.fill.ensures.stored in
    filled_store z w y c.args.shard c.args.at n c.slot_of-slot.result r q.laid c.free_spot-far.ensures.seat.pool c.requires.ours.1 f c.free_spot-far.ensures.seat.layout ours m

pub returns-clause-place : goal.returns-clause-place
returns-clause-place c n r g e =
    let h = (c.hash_row-hash.ensures.row r.1 (at_place c.args.layout.now c.args.seat.now.me.0 c.args.shard c.args.at n c.args.place r g e)).1 in
    omega arith
