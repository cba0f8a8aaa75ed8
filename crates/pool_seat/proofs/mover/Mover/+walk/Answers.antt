use Rattle.std.proofs.Common.{◌≡◌, ⊎_elim, ℕ, suc, ◌+◌, ◌-◌, ◌*◌, ◌<◌, ◌≤◌, List, [], ◌∷◌, ◌++◌, length, slice_index, drop, Some, Option, Result, Ok, Err, IfOk, IfErr, OnOk, OnErr, true, false, sym, ap, ◌∙◌, subst, arith, rules, length-append}
use Rattle.std.proofs.lemmas.Bool.{cases_lt}
use Rattle.type_form.specs.Known.{words_at}
use Rattle.type_form.specs.Words.{index_of}
use Rattle.type_form.specs.Denote.{denoted}
use Rattle.pool_shard.specs.Pairs.{known}
use Rattle.type_form.specs.Roles.{role_at}
use Rattle.pool_seat.specs.Reach.{Reached}
use Rattle.pool_seat.specs.Moves.{Becomes, IsNewKey}
use Rattle.pool_seat.specs.Order.{added, olds, places, IsNewRow}
use Rattle.pool_seat.specs.Movers.{Needs, WordBecomes, WordNeeds, WordReached, HasRow, IsChain, work, word_work, HasTree, HasParts, WordMoved, MovesFront, MovesRow, MovesKey, IsStopInTree, IsStopInWord, IsStopInKey, IsStopAtKey}
use Rattle.pool_seat.proofs.Moving.{denoted_words, Later-trans, Later-known, new_key_later}
use Rattle.pool_seat.proofs.Depths.{some_of}
use Rattle.pool_seat.proofs.RowMoves.{needs_some, row_starts, row_fits, chain_needs, chain_pop, chain_reached, word_reached}
use Rattle.pool_seat.proofs.RowResults.{WordBecomes-later, row_means, push_before, push_last, word_behind, key_done}
use Rattle.pool_seat.proofs.Fronts.{moves_none, no_front, more_front, front_stop, own_stop, of_rest, of_no_rest, key_tree, key_stop, tree_there, row_parts, parts_key, index_key, row_moved}
use Rattle.pool_seat.proofs.mover.Mover.+walk.Goals as goal

same_rest : (o : Option (List ℕ)) (a b : ℕ) (us ws : List ℕ) → o ≡ Some (37 ∷ a ∷ us) → o ≡ Some (37 ∷ b ∷ ws) → a ≡ b
same_rest o a b us ws e f = cc

pub chunk-returns-else-of_parts-clause-later : goal.chunk-returns-else-of_parts-clause-later
chunk-returns-else-of_parts-clause-later t c = Later-trans c.args.self.now c.row.new.self c.note.new.self c.row.ensures.later c.note.ensures.later

pub row-read-requires-clause-known : goal.row-read-requires-clause-known
row-read-requires-clause-known t c =
    let s = some_of (denoted (known c.args.self.now.from) (index_of c.args.i)) (needs_some (known c.args.self.now.from) c.args.of_parts c.args.i c.requires.needs) in
    denoted_words (known c.args.self.now.from) (index_of c.args.i) s.0 s.1

pub row-bounds-words-0 : goal.row-bounds-words-0
row-bounds-words-0 t c =
    let e = row_starts (known c.args.self.now.from) c.args.i c.read.new.into (needs_some (known c.args.self.now.from) c.args.of_parts c.args.i c.requires.needs) c.read.ensures.words in
    subst (λ (ws : List ℕ). 0 < length ws) (sym (c.as_slice-words.ensures.value ∙ e)) (omega arith)

pub row-word-requires : goal.row-word-requires
row-word-requires t c =
    let m = c.args.self.now in
    let v = c.loop-at.invariant in
    let k = known m.from in
    let e = Later-known m c.loop-at.self v.later in
    let ws : List ℕ = c.as_slice-words.result.now in
    let word : ℕ = slice_index ws c.loop-at.at in
    let a = c.loop-at.auto.at in
    let w : words_at k (index_of c.args.i) ≡ Some ws = c.read.ensures.words ∙ ap Some (sym c.as_slice-words.ensures.value) in
    let starts = row_starts k c.args.i ws (needs_some k c.args.of_parts c.args.i c.requires.needs) w in
    let some : length ws ≡ suc (length (drop 1 ws)) = ap length starts in
    let l = c.loop-at-test.true in
    let f = row_fits k c.args.of_parts c.args.i (slice_index ws 0) (drop 1 ws) (c.loop-at.at - 1) c.requires.needs (w ∙ ap Some starts) (omega arith) in
    let behind = word_behind ws c.loop-at.at (omega arith) in
    let needs : WordNeeds k c.role_of.result word = subst (λ r. WordNeeds k r word) (sym c.role_of.ensures) (subst (WordNeeds k (role_at (slice_index ws 0) c.args.of_parts (c.loop-at.at - 1))) behind f.needs) in
    let found : WordReached k m.live.now (role_at (slice_index ws 0) c.args.of_parts (c.loop-at.at - 1)) (slice_index (drop 1 ws) (c.loop-at.at - 1)) = word_reached k m.live.now c.args.of_parts c.args.i (slice_index ws 0) (drop 1 ws) (c.loop-at.at - 1) c.requires.reached (w ∙ ap Some starts) (omega arith) in
    let found' : WordReached k m.live.now c.role_of.result word = subst (λ r. WordReached k m.live.now r word) (sym c.role_of.ensures) (subst (WordReached k m.live.now (role_at (slice_index ws 0) c.args.of_parts (c.loop-at.at - 1))) behind found) in
    let reached : WordReached (known c.loop-at.self.from) c.loop-at.self.live.now c.role_of.result word = subst (λ x. WordReached x c.loop-at.self.live.now c.role_of.result word) (sym e) (subst (λ y. WordReached k y.now c.role_of.result word) (sym v.later.live) found') in
    let less : word_work k c.role_of.result word ≤ 4 * work k c.args.of_parts c.args.i = subst (λ r. word_work k r word ≤ 4 * work k c.args.of_parts c.args.i) (sym c.role_of.ensures) (subst (λ n. word_work k (role_at (slice_index ws 0) c.args.of_parts (c.loop-at.at - 1)) n ≤ 4 * work k c.args.of_parts c.args.i) behind f.less) in
    let below : word_work k c.role_of.result word < t = subst (λ n. word_work k c.role_of.result word < n) c.decreases (omega arith) in
    (subst (λ x. word_work x c.role_of.result word < t) (sym e) below, (v.mover, (subst (λ x. WordNeeds x c.role_of.result word) (sym e) needs, reached)))

pub row-returns-in_err-new-clause-later : goal.row-returns-in_err-new-clause-later
row-returns-in_err-new-clause-later t c = Later-trans c.args.self.now c.loop-at.self c.word.new.self c.loop-at.invariant.later c.word.ensures.later

pub row-returns-clause-later : goal.row-returns-clause-later
row-returns-clause-later t c = Later-trans c.args.self.now c.loop-at.self c.intern.new.self c.loop-at.invariant.later c.intern.ensures.later

pub visit-last_of-requires-clause-known : goal.visit-last_of-requires-clause-known
visit-last_of-requires-clause-known t c = needs_some (known c.args.self.now.from) c.args.of_parts c.args.i c.requires.needs

pub visit-chunk-requires : goal.visit-chunk-requires
visit-chunk-requires t c =
    let k = known c.args.self.now.from in
    let e = Later-known c.args.self.now c.last_of.new.self c.last_of.ensures.later in
    let g = chain_needs k c.args.of_parts c.args.i c.last_of.new.chunks.items c.in_ok-last.last c.in_ok-last.ensures.chain c.requires.needs in
    let l = g.1 in
    let reached : Reached (known c.last_of.new.self.from) c.last_of.new.self.live.now c.args.of_parts c.in_ok-last.last = subst (λ x. Reached x c.last_of.new.self.live.now c.args.of_parts c.in_ok-last.last) (sym e) (subst (λ y. Reached k y.now c.args.of_parts c.in_ok-last.last) (sym c.last_of.ensures.later.live)
    (chain_reached k c.args.self.now.live.now c.args.of_parts c.args.i c.last_of.new.chunks.items c.in_ok-last.last c.in_ok-last.ensures.chain c.requires.reached)) in
    let below : 4 * work k c.args.of_parts c.in_ok-last.last + 2 < t = subst (λ n. 4 * work k c.args.of_parts c.in_ok-last.last + 2 < n) c.decreases (omega arith) in
    (subst (λ x. 4 * work x c.args.of_parts c.in_ok-last.last + 2 < t) (sym e) below, (c.last_of.ensures.mover, (subst (λ x. Needs x c.args.of_parts c.in_ok-last.last) (sym e) g.0, (reached, λ x ns w. absurd (c.in_ok-last.ensures.last x ns (subst (λ y. words_at y (index_of c.in_ok-last.last) ≡ Some (37 ∷ x ∷ ns)) e w))))))

pub visit-returns-in_err-new-clause-later : goal.visit-returns-in_err-new-clause-later
visit-returns-in_err-new-clause-later t c = Later-trans c.args.self.now c.last_of.new.self c.chunk.new.self c.last_of.ensures.later c.chunk.ensures.later

pub visit-loop-chunk-init : goal.visit-loop-chunk-init
visit-loop-chunk-init t c = record {
  mover = c.chunk.ensures.mover;
  later = Later-trans c.args.self.now c.last_of.new.self c.chunk.new.self c.last_of.ensures.later c.chunk.ensures.later;
  end = c.in_ok-last.last;
  chain = c.in_ok-last.ensures.chain;
  done = c.in_ok-new.ensures.moved;
  moves = key_tree (known c.args.self.now.from) c.args.of_parts c.in_ok-last.last [] c.args.self.now c.last_of.new.self c.chunk.new.self c.chunk.ensures.later (of_no_rest (known c.args.self.now.from) c.args.of_parts c.in_ok-last.last c.in_ok-last.ensures.last)
      (moves_none (known c.args.self.now.from) c.args.self.now c.last_of.new.self c.last_of.ensures.same)
      (subst (λ x. MovesKey x c.args.of_parts c.in_ok-last.last c.last_of.new.self c.chunk.new.self) (Later-known c.args.self.now c.last_of.new.self c.last_of.ensures.later) c.in_ok-new.ensures.moves);
}

pub visit-returns-in_err-new-2-clause-later : goal.visit-returns-in_err-new-2-clause-later
visit-returns-in_err-new-2-clause-later t c = Later-trans c.args.self.now c.loop-chunk.self c.chunk-in-Some.new.self c.loop-chunk.invariant.later c.chunk-in-Some.ensures.later

pub visit-chunk-requires-in-Some : goal.visit-chunk-requires-in-Some
visit-chunk-requires-in-Some t c =
    let v = c.loop-chunk.invariant in
    let k = known c.args.self.now.from in
    let e = Later-known c.args.self.now c.loop-chunk.self v.later in
    let p = chain_pop k c.args.i c.pop.new.self.items c.in-Some.chunk v.end (subst (λ (cs : List ℕ). IsChain k c.args.i cs v.end) c.in-Some.ensures.items v.chain) in
    let g = chain_needs k c.args.of_parts c.args.i c.pop.new.self.items c.in-Some.chunk p.0 c.requires.needs in
    let l = g.1 in
    let reached : Reached (known c.loop-chunk.self.from) c.loop-chunk.self.live.now c.args.of_parts c.in-Some.chunk = subst (λ x. Reached x c.loop-chunk.self.live.now c.args.of_parts c.in-Some.chunk) (sym e) (subst (λ y. Reached k y.now c.args.of_parts c.in-Some.chunk) (sym v.later.live)
    (chain_reached k c.args.self.now.live.now c.args.of_parts c.args.i c.pop.new.self.items c.in-Some.chunk p.0 c.requires.reached)) in
    let below : 4 * work k c.args.of_parts c.in-Some.chunk + 2 < t = subst (λ n. 4 * work k c.args.of_parts c.in-Some.chunk + 2 < n) c.decreases (omega arith) in
    let rest : (x : ℕ) (ns : List ℕ) → words_at (known c.loop-chunk.self.from) (index_of c.in-Some.chunk) ≡ Some (37 ∷ x ∷ ns) → Becomes (known c.loop-chunk.self.from) (known c.loop-chunk.self.to) c.loop-chunk.self.moved.items c.args.of_parts x c.loop-chunk.new =
    λ x ns w. subst (λ n. Becomes (known c.loop-chunk.self.from) (known c.loop-chunk.self.to) c.loop-chunk.self.moved.items c.args.of_parts n c.loop-chunk.new) (same_rest (words_at k (index_of c.in-Some.chunk)) v.end x p.1 ns p.2 (subst (λ y. words_at y (index_of c.in-Some.chunk) ≡ Some (37 ∷ x ∷ ns)) e w)) v.done in
    (subst (λ x. 4 * work x c.args.of_parts c.in-Some.chunk + 2 < t) (sym e) below, (v.mover, (subst (λ x. Needs x c.args.of_parts c.in-Some.chunk) (sym e) g.0, (reached, rest))))

pub visit-loop-chunk-preserved : goal.visit-loop-chunk-preserved
visit-loop-chunk-preserved t c =
    let v = c.loop-chunk.invariant in
    let p = chain_pop (known c.args.self.now.from) c.args.i c.pop.new.self.items c.in-Some.chunk v.end (subst (λ (cs : List ℕ). IsChain (known c.args.self.now.from) c.args.i cs v.end) c.in-Some.ensures.items v.chain) in
    record {
      mover = c.chunk-in-Some.ensures.mover;
      later = Later-trans c.args.self.now c.loop-chunk.self c.chunk-in-Some.new.self v.later c.chunk-in-Some.ensures.later;
      end = c.in-Some.chunk;
      chain = p.0;
      done = c.in_ok-new-2.ensures.moved;
      moves = key_tree (known c.args.self.now.from) c.args.of_parts c.in-Some.chunk v.moves.listing c.args.self.now c.loop-chunk.self c.chunk-in-Some.new.self c.chunk-in-Some.ensures.later (of_rest (known c.args.self.now.from) c.args.of_parts c.in-Some.chunk v.end p.1 v.moves.listing p.2 v.moves.listed) v.moves.moves
          (subst (λ x. MovesKey x c.args.of_parts c.in-Some.chunk c.loop-chunk.self c.chunk-in-Some.new.self) (Later-known c.args.self.now c.loop-chunk.self v.later) c.in_ok-new-2.ensures.moves);
    }

pub word-find-requires : goal.word-find-requires
word-find-requires t c =
    let n = subst (λ r. WordNeeds (known c.args.self.now.from) r c.args.word) c.in-Part.is c.requires.needs in
    let s = some_of (denoted (known c.args.self.now.from) (index_of c.args.word)) n in
    record { mover = c.requires.mover; inside = c.requires.mover.inside (index_of c.args.word) (denoted_words (known c.args.self.now.from) (index_of c.args.word) s.0 s.1) }

pub row-loop-at-init : goal.row-loop-at-init
row-loop-at-init t c = record {
  mover = c.read.ensures.mover;
  later = c.read.ensures.later;
  as_long = search rules;
  first = search rules;
  built = λ q lo hi. absurd (omega (arith, lo, hi));
  moves = no_front (known c.args.self.now.from) c.args.of_parts (slice_index c.as_slice-words.result.now 0) (drop 1 c.as_slice-words.result.now) c.args.self.now c.read.new.self c.read.ensures.same;
}

pub row-loop-at-preserved : goal.row-loop-at-preserved
row-loop-at-preserved t c =
    let m = c.args.self.now in
    let v = c.loop-at.invariant in
    let n = c.word.new.self in
    let at : ℕ = c.loop-at.at in
    let ws : List ℕ = c.as_slice-words.result.now in
    let k = known m.from in
    let kind : ℕ = slice_index ws 0 in
    let lo = c.loop-at.auto.at in
    let w : words_at k (index_of c.args.i) ≡ Some ws = c.read.ensures.words ∙ ap Some (sym c.as_slice-words.ensures.value) in
    let some : length ws ≡ suc (length (drop 1 ws)) = ap length (row_starts k c.args.i ws (needs_some k c.args.of_parts c.args.i c.requires.needs) w) in
    let inside : at - 1 < length (drop 1 ws) = let l = c.loop-at-test.true in omega (arith, some) in
    let behind = word_behind ws at (omega arith) in
    let word : WordMoved k (role_at kind c.args.of_parts (at - 1)) (slice_index (drop 1 ws) (at - 1)) c.loop-at.self n =
    subst (λ x. WordMoved k (role_at kind c.args.of_parts (at - 1)) x c.loop-at.self n) (sym behind) (subst (λ r. WordMoved k r (slice_index ws at) c.loop-at.self n) c.role_of.ensures
    (subst (λ x. WordMoved x c.role_of.result (slice_index ws at) c.loop-at.self n) (Later-known m c.loop-at.self v.later) c.in_ok-new.ensures.moves)) in
    let more = more_front k c.args.of_parts kind (drop 1 ws) (at - 1) m c.loop-at.self n c.word.ensures.later v.moves word in
    let next : suc (at - 1) ≡ at + 1 - 1 = omega arith in
    let into : List ℕ = c.push-in-loop-at.new.self in
    let old : List ℕ = c.loop-at.into in
    let a = c.loop-at.auto.at in
    let long = v.as_long in
    let pushed : into ≡ old ++ c.in_ok-new.new ∷ [] = c.push-in-loop-at.ensures in
    let here : WordBecomes n (role_at (slice_index ws 0) c.args.of_parts (at - 1)) c.args.rest (slice_index ws at) c.in_ok-new.new = subst (λ r. WordBecomes n r c.args.rest (slice_index ws at) c.in_ok-new.new) c.role_of.ensures c.in_ok-new.ensures.moved in
    record {
      mover = c.word.ensures.mover;
      later = Later-trans m c.loop-at.self n v.later c.word.ensures.later;
      as_long = ap length pushed ∙ (length-append old (c.in_ok-new.new ∷ []) ∙ ap (λ x. x + 1) long);
      first = ap (λ (xs : List ℕ). slice_index xs 0) pushed ∙ (push_before old c.in_ok-new.new 0 (omega (arith, long)) ∙ v.first);
      built = λ q lo hi. subst (λ (xs : List ℕ). WordBecomes n (role_at (slice_index ws 0) c.args.of_parts (q - 1)) c.args.rest (slice_index ws q) (slice_index xs q)) (sym pushed)
          (⊎_elim
          (λ l. subst (WordBecomes n (role_at (slice_index ws 0) c.args.of_parts (q - 1)) c.args.rest (slice_index ws q)) (sym (push_before old c.in_ok-new.new q (omega (arith, long, l)))) (WordBecomes-later c.loop-at.self n (role_at (slice_index ws 0) c.args.of_parts (q - 1)) c.args.rest (slice_index ws q) (slice_index old q) c.word.ensures.later (v.built q lo l)))
          (λ g. let e : at ≡ q = omega (arith, g, hi) in
          subst (λ x. WordBecomes n (role_at (slice_index ws 0) c.args.of_parts (x - 1)) c.args.rest (slice_index ws x) (slice_index (old ++ c.in_ok-new.new ∷ []) x)) e
          (subst (WordBecomes n (role_at (slice_index ws 0) c.args.of_parts (at - 1)) c.args.rest (slice_index ws at)) (sym (push_last old c.in_ok-new.new at long)) here))
          (cases_lt q at));
      moves = subst (λ x. MovesFront k c.args.of_parts kind (drop 1 ws) x m n) next more;
    }

if_ok : {X E : Type 0} (r : Result X E) (P Q : X → Type 0) → ((x : X) → P x → Q x) → IfOk r P → IfOk r Q
if_ok (Ok x) P Q f h = f x h
if_ok (Err e) P Q f h = h

-- the new key of the row, once its words are done
pub row-intern-requires-clause-new : goal.row-intern-requires-clause-new
row-intern-requires-clause-new t c =
    let m = c.args.self.now in
    let v = c.loop-at.invariant in
    let n = c.loop-at.self in
    let ws : List ℕ = c.as_slice-words.result.now in
    let a = c.loop-at.auto.at in
    let k = known m.from in
    let w : words_at k (index_of c.args.i) ≡ Some ws = c.read.ensures.words ∙ ap Some (sym c.as_slice-words.ensures.value) in
    let some : length ws ≡ suc (length (drop 1 ws)) = ap length (row_starts k c.args.i ws (needs_some k c.args.of_parts c.args.i c.requires.needs) w) in
    let end = c.loop-at.auto.at-end (omega (arith, some)) in
    let f = c.loop-at-test.false in
    let same : c.loop-at.at ≡ length ws = omega arith in
    let key = key_done m n c.args.of_parts c.args.i c.args.rest ws c.loop-at.into v.later c.requires.needs w c.requires.rest (v.as_long ∙ same) v.first (λ q lo hi. v.built q lo (omega (arith, same, hi))) in (
      c.args.of_parts,
      c.args.i,
      subst (λ x. Reached x n.live.now c.args.of_parts c.args.i) (sym (Later-known m n v.later)) (subst (λ y. Reached k y.now c.args.of_parts c.args.i) (sym v.later.live) c.requires.reached),
      subst (IsNewKey (known n.from) (known n.to) n.moved.items c.args.of_parts c.args.i) (sym c.as_slice.ensures.value) key,
    )

pub row-returns-clause-moved : goal.row-returns-clause-moved
row-returns-clause-moved t c =
    let m = c.args.self.now in
    let v = c.loop-at.invariant in
    let n = c.loop-at.self in
    let o = c.intern.new.self in
    let k = known m.from in
    let later = Later-trans m n o v.later c.intern.ensures.later in
    let ws : List ℕ = c.as_slice-words.result.now in
    let a = c.loop-at.auto.at in
    let w : words_at k (index_of c.args.i) ≡ Some ws = c.read.ensures.words ∙ ap Some (sym c.as_slice-words.ensures.value) in
    let some : length ws ≡ suc (length (drop 1 ws)) = ap length (row_starts k c.args.i ws (needs_some k c.args.of_parts c.args.i c.requires.needs) w) in
    let end = c.loop-at.auto.at-end (omega (arith, some)) in
    let f = c.loop-at-test.false in
    let same : c.loop-at.at ≡ length ws = omega arith in
    let done = key_done m n c.args.of_parts c.args.i c.args.rest ws c.loop-at.into v.later c.requires.needs w c.requires.rest (v.as_long ∙ same) v.first (λ q lo hi. v.built q lo (omega (arith, same, hi))) in
    let new : IsNewKey (known n.from) (known n.to) n.moved.items c.args.of_parts c.args.i c.as_slice.result.now = subst (IsNewKey (known n.from) (known n.to) n.moved.items c.args.of_parts c.args.i) (sym c.as_slice.ensures.value) done in
    let e = Later-known n o c.intern.ensures.later in
    let key : IsNewKey (known o.from) (known o.to) o.moved.items c.args.of_parts c.args.i c.as_slice.result.now = subst (λ x. IsNewKey x (known o.to) o.moved.items c.args.of_parts c.args.i c.as_slice.result.now) (sym e)
    (new_key_later (known n.from) (known n.to) (known o.to) n.moved.items o.moved.items c.args.of_parts c.args.i c.as_slice.result.now c.intern.ensures.later.keeps c.intern.ensures.later.moved new) in
    let needs : Needs (known o.from) c.args.of_parts c.args.i = subst (λ x. Needs x c.args.of_parts c.args.i) (sym (Later-known m o later)) c.requires.needs in
    if_ok c.intern.result (λ j. words_at (known o.to) (index_of j) ≡ Some c.as_slice.result.now) (HasRow o c.args.of_parts c.args.i)
    (λ j h. record { row = record { key = c.as_slice.result.now; there = h; new = key }; means = row_means o c.args.of_parts c.args.i j c.as_slice.result.now c.intern.ensures.mover needs key h })
    c.intern.ensures.place

-- the words that were done at the end of the loop are all
all_done : (at : ℕ) (ws : List ℕ) → 0 < at → length ws ≡ suc (length (drop 1 ws)) → at ≡ length ws → at - 1 ≡ length (drop 1 ws)
all_done at ws a some e = omega (arith, some, e)

pub row-returns-clause-moves : goal.row-returns-clause-moves
row-returns-clause-moves t c =
    let m = c.args.self.now in
    let v = c.loop-at.invariant in
    let l = c.loop-at.self in
    let o = c.intern.new.self in
    let k = known m.from in
    let ws : List ℕ = c.as_slice-words.result.now in
    let kind : ℕ = slice_index ws 0 in
    let a = c.loop-at.auto.at in
    let w : words_at k (index_of c.args.i) ≡ Some ws = c.read.ensures.words ∙ ap Some (sym c.as_slice-words.ensures.value) in
    let starts = row_starts k c.args.i ws (needs_some k c.args.of_parts c.args.i c.requires.needs) w in
    let some : length ws ≡ suc (length (drop 1 ws)) = ap length starts in
    let end = c.loop-at.auto.at-end (omega (arith, some)) in
    let f = c.loop-at-test.false in
    let all : c.loop-at.at - 1 ≡ length (drop 1 ws) = omega (arith, some) in
    let done = subst (λ n. MovesFront k c.args.of_parts kind (drop 1 ws) n m l) all v.moves in
    if_ok c.intern.result (λ j. places o.to ≡ added (places l.to) j) (MovesRow k c.args.of_parts c.args.i m o)
    (λ j e. row_moved k c.args.of_parts c.args.i kind (drop 1 ws) m l o j c.intern.ensures.later (w ∙ ap Some starts) done c.intern.ensures.same e)
    c.intern.ensures.row

both_err : {X E : Type 0} (r : Result X E) (P Q : E → Type 0) (R : Type 0) → (R → (e : E) → P e → Q e) → OnErr r R → IfErr r P → IfErr r Q
both_err (Ok x) P Q R f g h = h
both_err (Err e) P Q R f g h = f g e h

pub row-returns-clause-stop : goal.row-returns-clause-stop
row-returns-clause-stop t c =
    let m = c.args.self.now in
    let v = c.loop-at.invariant in
    let l = c.loop-at.self in
    let o = c.intern.new.self in
    let k = known m.from in
    let ws : List ℕ = c.as_slice-words.result.now in
    let kind : ℕ = slice_index ws 0 in
    let a = c.loop-at.auto.at in
    let w : words_at k (index_of c.args.i) ≡ Some ws = c.read.ensures.words ∙ ap Some (sym c.as_slice-words.ensures.value) in
    let starts = row_starts k c.args.i ws (needs_some k c.args.of_parts c.args.i c.requires.needs) w in
    let some : length ws ≡ suc (length (drop 1 ws)) = ap length starts in
    let end = c.loop-at.auto.at-end (omega (arith, some)) in
    let f = c.loop-at-test.false in
    let all : c.loop-at.at - 1 ≡ length (drop 1 ws) = omega (arith, some) in
    let same : c.loop-at.at ≡ length ws = omega arith in
    let done = subst (λ n. MovesFront k c.args.of_parts kind (drop 1 ws) n m l) all v.moves in
    let key = key_done m l c.args.of_parts c.args.i c.args.rest ws c.loop-at.into v.later c.requires.needs w c.requires.rest (v.as_long ∙ same) v.first (λ q lo hi. v.built q lo (omega (arith, same, hi))) in
    let new : IsNewKey k (known l.to) l.moved.items c.args.of_parts c.args.i c.as_slice.result.now = subst (IsNewKey k (known l.to) l.moved.items c.args.of_parts c.args.i) (sym c.as_slice.ensures.value) (subst (λ x. IsNewKey x (known l.to) l.moved.items c.args.of_parts c.args.i c.loop-at.into) (Later-known m l v.later) key) in
    let later = c.intern.ensures.later in
    both_err c.intern.result (IsStopAtKey o c.as_slice.result.now) (IsStopInKey k c.args.of_parts c.args.i m o) (places o.to ≡ places l.to)
    (λ e s h. own_stop k c.args.of_parts c.args.i kind (drop 1 ws) m l o c.as_slice.result.now s later (w ∙ ap Some starts) done c.intern.ensures.same e
    (new_key_later k (known l.to) (known o.to) l.moved.items o.moved.items c.args.of_parts c.args.i c.as_slice.result.now later.keeps later.moved new) h)
    c.intern.ensures.rows c.intern.ensures.stop

pub row-returns-in_err-new-clause-stop : goal.row-returns-in_err-new-clause-stop
row-returns-in_err-new-clause-stop t c =
    let m = c.args.self.now in
    let v = c.loop-at.invariant in
    let l = c.loop-at.self in
    let n = c.word.new.self in
    let at : ℕ = c.loop-at.at in
    let k = known m.from in
    let ws : List ℕ = c.as_slice-words.result.now in
    let kind : ℕ = slice_index ws 0 in
    let lo = c.loop-at.auto.at in
    let w : words_at k (index_of c.args.i) ≡ Some ws = c.read.ensures.words ∙ ap Some (sym c.as_slice-words.ensures.value) in
    let starts = row_starts k c.args.i ws (needs_some k c.args.of_parts c.args.i c.requires.needs) w in
    let some : length ws ≡ suc (length (drop 1 ws)) = ap length starts in
    let inside : at - 1 < length (drop 1 ws) = let y = c.loop-at-test.true in omega (arith, some) in
    let behind = word_behind ws at (omega arith) in
    let e = c.in_err-new.field-0.0 in
    let word : IsStopInWord k (role_at kind c.args.of_parts (at - 1)) (slice_index (drop 1 ws) (at - 1)) l n e =
    subst (λ x. IsStopInWord k (role_at kind c.args.of_parts (at - 1)) x l n e) (sym behind) (subst (λ r. IsStopInWord k r (slice_index ws at) l n e) c.role_of.ensures
    (subst (λ x. IsStopInWord x c.role_of.result (slice_index ws at) l n e) (Later-known m l v.later) c.in_err-new.ensures.stop)) in
    let stop : IsStopInKey k c.args.of_parts c.args.i m n e = front_stop k c.args.of_parts c.args.i kind (drop 1 ws) (at - 1) m l n e c.word.ensures.later (w ∙ ap Some starts) inside v.moves word in
    search rules

pub chunk-note-requires-clause-parts : goal.chunk-note-requires-clause-parts
chunk-note-requires-clause-parts t c =
    let m = c.args.self.now in
    let n = c.row.new.self in
    let k = known m.from in
    let later = c.row.ensures.later in
    let row = subst (λ b. MovesRow k b c.args.i m n c.in_ok-new.new) c.if-of_parts.false c.in_ok-new.ensures.moves in
    let tree : (x : ℕ) (us : List ℕ) → words_at k (index_of c.args.i) ≡ Some (37 ∷ x ∷ us) → HasTree k n.to n.moved.items false x = λ x us w.
    subst (λ y. HasTree y n.to n.moved.items false x) (Later-known m n later) (c.row.ensures.mover.trees x c.args.rest (later.moved x c.args.rest (subst (λ b. Becomes k (known m.to) m.moved.items b x c.args.rest) c.if-of_parts.false (c.requires.rest x us w)))) in
    subst (λ x. HasParts x n.to n.moved.items false c.args.i) (sym (Later-known m n later)) (row_parts k false c.args.i m n c.in_ok-new.new row tree)

pub chunk-returns-then-of_parts-clause-moves : goal.chunk-returns-then-of_parts-clause-moves
chunk-returns-then-of_parts-clause-moves t c =
    let m = c.args.self.now in
    let n = c.row.new.self in
    let k = known m.from in
    let is = c.if-of_parts.true in
    let j = c.in_ok-new.new in
    let row = subst (λ b. MovesRow k b c.args.i m n j) is c.in_ok-new.ensures.moves in
    let new : IsNewRow k (known n.to) n.moved.items (true, c.args.i) j = subst (λ x. IsNewRow x (known n.to) n.moved.items (true, c.args.i) j) (Later-known m n c.row.ensures.later) (subst (λ b. IsNewRow (known n.from) (known n.to) n.moved.items (b, c.args.i) j) is c.in_ok-new.ensures.moved.row) in
    subst (λ b. MovesKey k b c.args.i m n) (sym is) (parts_key k c.args.i m n j row new)

on_ok : {X E : Type 0} (r : Result X E) (P Q : Type 0) → (P → Q) → OnOk r P → OnOk r Q
on_ok (Ok x) P Q f h = f h
on_ok (Err e) P Q f h = h

pub chunk-returns-else-of_parts-clause-moves : goal.chunk-returns-else-of_parts-clause-moves
chunk-returns-else-of_parts-clause-moves t c =
    let m = c.args.self.now in
    let n = c.row.new.self in
    let o = c.note.new.self in
    let k = known m.from in
    let is = c.if-of_parts.false in
    let j = c.in_ok-new.new in
    let row = subst (λ b. MovesRow k b c.args.i m n j) is c.in_ok-new.ensures.moves in
    let new : IsNewRow k (known n.to) n.moved.items (false, c.args.i) j = subst (λ x. IsNewRow x (known n.to) n.moved.items (false, c.args.i) j) (Later-known m n c.row.ensures.later) (subst (λ b. IsNewRow (known n.from) (known n.to) n.moved.items (b, c.args.i) j) is c.in_ok-new.ensures.moved.row) in
    on_ok c.note.result (olds o.moved.items ≡ added (olds n.moved.items) c.args.i) (MovesKey k c.args.of_parts c.args.i m o)
    (λ h. subst (λ b. MovesKey k b c.args.i m o) (sym is) (index_key k c.args.i m n o j c.note.ensures.later c.note.ensures.to h row new))
    c.note.ensures.adds

pub word-returns-in-Some-clause-moves : goal.word-returns-in-Some-clause-moves
word-returns-in-Some-clause-moves t c =
    let m = c.args.self.now in
    subst (λ r. WordMoved (known m.from) r c.args.word m m) (sym c.in-Part.is) (tree_there (known m.from) false c.args.word m (c.requires.mover.trees c.args.word c.in-Some.new c.in-Some.ensures.some))

pub visit-returns-in_err-new-clause-stop : goal.visit-returns-in_err-new-clause-stop
visit-returns-in_err-new-clause-stop t c =
    let m = c.args.self.now in
    let l = c.last_of.new.self in
    let n = c.chunk.new.self in
    let k = known m.from in
    let e = c.in_err-new.field-0.0 in
    let key : IsStopInKey k c.args.of_parts c.in_ok-last.last l n e = subst (λ x. IsStopInKey x c.args.of_parts c.in_ok-last.last l n e) (Later-known m l c.last_of.ensures.later) c.in_err-new.ensures.stop in
    let stop : IsStopInTree k c.args.of_parts c.args.i m n e = key_stop k c.args.of_parts c.args.i c.last_of.new.chunks.items c.in_ok-last.last [] m l n e c.chunk.ensures.later c.in_ok-last.ensures.chain
    (of_no_rest k c.args.of_parts c.in_ok-last.last c.in_ok-last.ensures.last) (moves_none k m l c.last_of.ensures.same) key in
    search rules

pub visit-returns-in_err-new-2-clause-stop : goal.visit-returns-in_err-new-2-clause-stop
visit-returns-in_err-new-2-clause-stop t c =
    let m = c.args.self.now in
    let v = c.loop-chunk.invariant in
    let l = c.loop-chunk.self in
    let n = c.chunk-in-Some.new.self in
    let k = known m.from in
    let p = chain_pop k c.args.i c.pop.new.self.items c.in-Some.chunk v.end (subst (λ (cs : List ℕ). IsChain k c.args.i cs v.end) c.in-Some.ensures.items v.chain) in
    let e = c.in_err-new-2.field-0.0 in
    let key : IsStopInKey k c.args.of_parts c.in-Some.chunk l n e = subst (λ x. IsStopInKey x c.args.of_parts c.in-Some.chunk l n e) (Later-known m l v.later) c.in_err-new-2.ensures.stop in
    let stop : IsStopInTree k c.args.of_parts c.args.i m n e = key_stop k c.args.of_parts c.args.i c.pop.new.self.items c.in-Some.chunk v.moves.listing m l n e c.chunk-in-Some.ensures.later p.0
    (of_rest k c.args.of_parts c.in-Some.chunk v.end p.1 v.moves.listing p.2 v.moves.listed) v.moves.moves key in
    search rules
