use Rattle.std.proofs.Common.{◌≡◌, ℕ, suc, ◌+◌, false, slice_index, refl, sym, ap, ◌∙◌, subst, arith}
use Rattle.std.proofs.lemmas.List.{length-set}
use Rattle.std.specs.Vec.{with_item}
use Rattle.type_form.specs.Words.{index_of}
use Rattle.pool_words.proofs.Members.{In-last}
use Rattle.pool_shard.specs.Pairs.{known}
use Rattle.pool_seat.specs.Moves.{Pairs, IsMoved, HasMoved}
use Rattle.pool_seat.specs.Order.{olds}
use Rattle.pool_seat.specs.Movers.{HasTree}
use Rattle.pool_seat.proofs.Moving.{denoted_words, Keeps-refl, SameRows-refl, goes_push, HasMoved-notes, IsMover-note}
use Rattle.pool_seat.proofs.Ordering.{added_there, added_new, moved_old, old_moved, olds_push, trees_note}
use Rattle.pool_seat.proofs.mover.Mover.note.Goals as goal

pub find-requires : goal.find-requires
find-requires c =
    let s = c.requires.row.means in
    record {
      mover = c.requires.mover;
      inside = c.requires.mover.inside (index_of c.args.i) (denoted_words (known c.args.self.now.from) (index_of c.args.i) s.node s.before);
    }

pub index_mut-requires : goal.index_mut-requires
index_mut-requires c = let s = c.requires.row.means in let h = c.requires.mover.inside (index_of c.args.i) (denoted_words (known c.args.self.now.from) (index_of c.args.i) s.node s.before) in omega (arith, c.args.self.now.table.ok.0)

pub overflow_add-j : goal.overflow_add-j
overflow_add-j c = let s = c.requires.row.means in let w = c.words-words.ensures.inside (index_of c.args.j) (denoted_words (known c.args.self.now.to) (index_of c.args.j) s.node s.after) in record { fits = omega arith }

pub returns-clause-moved : goal.returns-clause-moved
returns-clause-moved c = subst (λ l. IsMoved l c.args.i c.args.j) (sym c.in-Ok.ensures.items) (In-last (index_of c.args.i, index_of c.args.j) c.args.self.now.moved.items)

pub returns-in_default-push-clause-mover : goal.returns-in_default-push-clause-mover
returns-in_default-push-clause-mover c =
    let m = c.args.self.now in
    let h = c.requires.mover in
    record {
      has = subst (HasMoved (known m.from) m.live.now m.to) (sym c.in_default-push.ensures.items) h.has;
      placed = h.placed;
      inside = h.inside;
      listed = λ i j t. subst (λ l. IsMoved l i j) (sym c.in_default-push.ensures.items) (h.listed i j t);
      entered = λ i j t. h.entered i j (subst (λ l. IsMoved l i.0 j.0) c.in_default-push.ensures.items t);
      trees = subst (λ (u : Pairs). (i j : ℕ) → IsMoved u i j → HasTree (known m.from) m.to u false i) (sym c.in_default-push.ensures.items) h.trees;
    }

pub returns-clause-mover : goal.returns-clause-mover
returns-clause-mover c =
    let m = c.args.self.now in
    let r = c.requires.row in
    let s = r.means in
    let h = c.requires.mover.inside (index_of c.args.i) (denoted_words (known m.from) (index_of c.args.i) s.node s.before) in
    IsMover-note m (record { alloc = m.alloc; live = m.live; from = m.from; to = m.to; table = with_item m.table c.args.i (c.args.j + 1); moved = c.push.new.self }) c.args.i c.args.j c.requires.mover
    (HasMoved-notes (known m.from) m.live.now m.to m.moved.items c.args.i c.args.j c.requires.mover.has c.requires.reached s r.row.key r.row.there r.row.new) c.in_default.ensures.none h (trees_note (known m.from) m.to m.moved.items c.args.i c.args.j c.requires.mover.trees c.requires.parts r.row) refl refl refl refl c.in-Ok.ensures.items

pub returns-clause-later : goal.returns-clause-later
returns-clause-later c =
    let m = c.args.self.now in
    record {
      from = SameRows-refl m.from;
      live = refl;
      layout = refl;
      keeps = Keeps-refl (known m.to);
      long = length-set m.table.items c.args.i (c.args.j + 1);
      moved = λ a b t. subst (λ l. IsMoved l a b) (sym c.in-Ok.ensures.items) (goes_push m.moved.items c.args.i c.args.j a b t);
    }

not_entered : (x j : ℕ) → x ≡ 0 → x ≡ suc j → ⊥
not_entered x j e f = absurd (omega (arith, e, f))

pub returns-clause-adds : goal.returns-clause-adds
returns-clause-adds c =
    let m = c.args.self.now in
    ap olds c.in-Ok.ensures.items
    ∙ (olds_push m.moved.items c.args.i c.args.j
    ∙ sym (added_new (olds m.moved.items) c.args.i (λ h. let g = old_moved m.moved.items c.args.i h in not_entered (slice_index m.table.items c.args.i) g.0 c.in_default.ensures.none (c.requires.mover.entered (index_of c.args.i) (index_of g.0) g.1))))

pub returns-in-Some-clause-adds : goal.returns-in-Some-clause-adds
returns-in-Some-clause-adds c = sym (added_there (olds c.args.self.now.moved.items) c.args.i (moved_old c.args.self.now.moved.items c.args.i c.in-Some.known c.in-Some.ensures.some))
