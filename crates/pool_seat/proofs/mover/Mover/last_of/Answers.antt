use Rattle.std.proofs.Common.{◌≡◌, ℕ, ◌<◌, List, ◌∷◌, length, slice_index, IsSome, Some, sym, ap, ◌∙◌, subst, arith}
use Rattle.type_form.specs.Known.{Known, words_at}
use Rattle.type_form.specs.Words.{index_of}
use Rattle.type_form.specs.Denote.{denoted}
use Rattle.pool_shard.specs.Pairs.{known}
use Rattle.pool_seat.specs.Movers.{IsChain, height}
use Rattle.pool_seat.proofs.Moving.{denoted_words, Later-trans, Later-known, SameNew-trans}
use Rattle.pool_seat.proofs.Depths.{some_of}
use Rattle.pool_seat.proofs.RowMoves.{row_starts, list_starts, rest_less, chain_push}
use Rattle.pool_seat.proofs.mover.Mover.last_of.Goals as goal

-- the row that was read, which is a list with a rest
rest_read : (k : Known) (at : ℕ) (ws read : List ℕ) → IsSome (denoted k (index_of at)) → words_at k (index_of at) ≡ Some ws → read ≡ ws → slice_index read 0 ≡ 37 → (x : ℕ) × (us : List ℕ) × (read ≡ 37 ∷ x ∷ us) × (words_at k (index_of at) ≡ Some (37 ∷ x ∷ us))
rest_read k at ws read some w e first = let m = list_starts k at ws some w (ap (λ (us : List ℕ). slice_index us 0) (sym e) ∙ first) in (m.0, m.1, e ∙ m.2, w ∙ ap Some m.2)

pub read-requires-clause-known : goal.read-requires-clause-known
read-requires-clause-known c =
    let v = c.loop-words.invariant in
    let s = some_of (denoted (known c.args.self.now.from) (index_of c.loop-words.at)) v.there in
    subst (λ (k : Known). IsSome (words_at k (index_of c.loop-words.at))) (sym (Later-known c.args.self.now c.loop-words.self v.later)) (denoted_words (known c.args.self.now.from) (index_of c.loop-words.at) s.0 s.1)

pub bounds-words-0 : goal.bounds-words-0
bounds-words-0 c =
    let v = c.loop-words.invariant in
    let w = subst (λ (k : Known). words_at k (index_of c.loop-words.at) ≡ Some c.read.new.into) (Later-known c.args.self.now c.loop-words.self v.later) c.read.ensures.words in
    let e = row_starts (known c.args.self.now.from) c.loop-words.at c.read.new.into v.there w in
    subst (λ (ws : List ℕ). 0 < length ws) (sym (c.as_slice-words.ensures.value ∙ e)) (omega arith)

pub returns-then-words-ne37-clause-later : goal.returns-then-words-ne37-clause-later
returns-then-words-ne37-clause-later c = Later-trans c.args.self.now c.loop-words.self c.read.new.self c.loop-words.invariant.later c.read.ensures.later

pub returns-in_default-clause-later : goal.returns-in_default-clause-later
returns-in_default-clause-later c = Later-trans c.args.self.now c.loop-words.self c.read.new.self c.loop-words.invariant.later c.read.ensures.later

pub bounds-words-1 : goal.bounds-words-1
bounds-words-1 c =
    let v = c.loop-words.invariant in
    let w = subst (λ (k : Known). words_at k (index_of c.loop-words.at) ≡ Some c.read.new.into) (Later-known c.args.self.now c.loop-words.self v.later) c.read.ensures.words in
    let m = rest_read (known c.args.self.now.from) c.loop-words.at c.read.new.into c.as_slice-words.result.now v.there w c.as_slice-words.ensures.value c.if-words-ne37.false in
    subst (λ (ws : List ℕ). 1 < length ws) (sym m.2) (omega arith)

pub loop-words-smaller : goal.loop-words-smaller
loop-words-smaller c =
    let v = c.loop-words.invariant in
    let k = known c.args.self.now.from in
    let w = subst (λ (k : Known). words_at k (index_of c.loop-words.at) ≡ Some c.read.new.into) (Later-known c.args.self.now c.loop-words.self v.later) c.read.ensures.words in
    let m = rest_read k c.loop-words.at c.read.new.into c.as_slice-words.result.now v.there w c.as_slice-words.ensures.value c.if-words-ne37.false in
    let l = rest_less k c.loop-words.at m.0 m.1 v.there m.3 in
    subst (λ (ws : List ℕ). height k (slice_index ws 1) < height k c.loop-words.at) (sym m.2) l.1

pub loop-words-preserved : goal.loop-words-preserved
loop-words-preserved c =
    let v = c.loop-words.invariant in
    let k = known c.args.self.now.from in
    let w = subst (λ (k : Known). words_at k (index_of c.loop-words.at) ≡ Some c.read.new.into) (Later-known c.args.self.now c.loop-words.self v.later) c.read.ensures.words in
    let m = rest_read k c.loop-words.at c.read.new.into c.as_slice-words.result.now v.there w c.as_slice-words.ensures.value c.if-words-ne37.false in
    let l = rest_less k c.loop-words.at m.0 m.1 v.there m.3 in
    record {
      mover = c.read.ensures.mover;
      later = Later-trans c.args.self.now c.loop-words.self c.read.new.self v.later c.read.ensures.later;
      same = SameNew-trans c.args.self.now c.loop-words.self c.read.new.self v.same c.read.ensures.same;
      there = subst (λ (ws : List ℕ). IsSome (denoted k (index_of (slice_index ws 1)))) (sym m.2) l.0;
      chain = subst (λ (ws : List ℕ). IsChain k c.args.i c.push.new.self.items (slice_index ws 1)) (sym m.2) (subst (λ (cs : List ℕ). IsChain k c.args.i cs m.0) (sym c.in-Ok.ensures.items) (chain_push k c.args.i c.loop-words.chunks.items c.loop-words.at m.0 m.1 v.chain m.3));
    }

pub returns-then-words-ne37-clause-same : goal.returns-then-words-ne37-clause-same
returns-then-words-ne37-clause-same c = SameNew-trans c.args.self.now c.loop-words.self c.read.new.self c.loop-words.invariant.same c.read.ensures.same

pub returns-in_default-clause-same : goal.returns-in_default-clause-same
returns-in_default-clause-same c = SameNew-trans c.args.self.now c.loop-words.self c.read.new.self c.loop-words.invariant.same c.read.ensures.same
