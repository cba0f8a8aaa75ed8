-- What the new row of a key denotes.
use Rattle.std.proofs.Common.{◌≡◌, ⊎_elim, ℕ, zero, suc, ◌-◌, ◌<◌, ◌≤◌, Bool, true, false, if◌then◌else◌, List, [], ◌∷◌, ◌++◌, length, slice_index, drop, Some, option_and_then, refl, sym, ap, ap₂, ◌∙◌, subst, arith}
use Rattle.type_form.specs.declared.key.Key.TheVariants as key
use Rattle.type_form.specs.Known.{Known, words_at}
use Rattle.type_form.specs.Words.{index_of, words_of}
use Rattle.type_form.specs.Denote.{denoted, node_of, list_in}
use Rattle.type_form.specs.Means.{list_at}
use Rattle.type_form.proofs.Depth.{denoted-is}
use Rattle.type_form.proofs.MeansLemmas.{list_part, list_whole, HasKey-words, DenotesList-of}
use Rattle.pool_shard.specs.Pairs.{known}
use Rattle.type_form.specs.declared.roles.Role.{Role}
use Rattle.type_form.specs.declared.roles.Role.TheVariants as role
use Rattle.pool_seat.specs.declared.mover.Mover.{Mover}
use Rattle.type_form.specs.Roles.{role_at}
use Rattle.pool_seat.specs.Moves.{IsSame, Pairs, IsMoved, AreMoved, IsListMoved, Becomes, WordMoves, IsNewKey}
use Rattle.pool_seat.specs.Movers.{Needs, WordBecomes, RowMeans, Later, IsMover}
use Rattle.type_form.specs.Parts.{kind_of, rest_of, AllTurn, Turns, Made}
use Rattle.type_form.proofs.PartLemmas.{after_first, rest_role, parts_turn}
use Rattle.pool_seat.proofs.Depths.{at_depth, some_of, one_some}
use Rattle.pool_seat.proofs.RowMoves.{IsEnd, IsMore, deep_key, heads, tails, needs_some, row_starts}
use Rattle.pool_seat.proofs.Moving.{Later-known, list_later, becomes_later}

pub WordBecomes-later : (m n : Mover) (r : Role) (rest w v : ℕ) → Later m n → WordBecomes m r rest w v → WordBecomes n r rest w v
WordBecomes-later m n role.Number rest w v a h = h
WordBecomes-later m n role.Part rest w v a h = a.moved w v h
WordBecomes-later m n role.List rest w v a h = subst (λ k. IsListMoved k (known n.to) n.moved.items w v) (sym (Later-known m n a)) (list_later (known m.from) (known m.to) (known n.to) m.moved.items n.moved.items w v a.keeps a.moved h)
WordBecomes-later m n role.Rest rest w v a h = h

-- what a list denotes
pub end_list : (l : Known) (j : ℕ) (vs : List ℕ) → length vs ≤ 60 → words_at l (index_of j) ≡ Some (36 ∷ vs) → list_in (denoted l) (index_of j) ≡ Some vs
end_list l j vs few w = let d = DenotesList-of l (index_of j) (key.End vs) vs (HasKey-words l (index_of j) (key.End vs) few w) (few, refl) in list_whole l (index_of j) d.known ∙ ap Some d.is

pub more_list : (l : Known) (j rest : ℕ) (vs qs : List ℕ) → length vs ≡ 60 → 0 < length qs → list_in (denoted l) (index_of rest) ≡ Some qs → words_at l (index_of j) ≡ Some (37 ∷ rest ∷ vs) → list_in (denoted l) (index_of j) ≡ Some (vs ++ qs)
more_list l j rest vs qs full some e w =
    let p = list_part l (index_of rest) qs e in
    let q : 0 < length (list_at l (index_of rest)) = subst (λ (xs : List ℕ). 0 < length xs) p.1 some in
    let d = DenotesList-of l (index_of j) (key.More vs (index_of rest)) (vs ++ list_at l (index_of rest)) (HasKey-words l (index_of j) (key.More vs (index_of rest)) (omega (arith, full)) w) (p.0, full, q, refl) in
    list_whole l (index_of j) d.known ∙ ap Some (d.is ∙ ap (λ (xs : List ℕ). vs ++ xs) (sym p.1))

-- from one list of pairs to another, by moves that keep what is denoted
module _ (k l : Known) (moved : Pairs) (same : (i j : ℕ) → IsMoved moved i j → IsSame k l i j) where
  all_turn : (ns ms : List ℕ) → AreMoved moved ns ms → AllTurn (denoted k) (denoted l) ns ms
  all_turn [] [] a = tt
  all_turn [] (v ∷ vs) a = absurd a
  all_turn (n ∷ ns) [] a = absurd a
  all_turn (n ∷ ns) (v ∷ vs) a = let s = same n v a.0 in ((s.node, s.before, s.after), all_turn ns vs a.1)

  turns : (r : Role) (w v : ℕ) → WordMoves k l moved false r w v → Turns (denoted k) (denoted l) r w v
  turns role.Number w v h = h
  turns role.Part w v h = let s = same w v h in (s.node, s.before, s.after)
  turns role.List w v h = (h.parts, h.new_parts, h.before, h.after, all_turn h.parts h.new_parts h.are)
  turns role.Rest w v h = let s = same w v h in (s.node, s.before, s.after)

  -- the new row denotes the same
  row_same : (i j : ℕ) (new : List ℕ) → Needs k false i → IsNewKey k l moved false i new → words_at l (index_of j) ≡ Some new → IsSame k l i j
  row_same i j new needs y place =
      let s = some_of (denoted k (index_of i)) needs in
      let a = at_depth k i s.0 s.1 in
      let z = a.1 in
      let all : words_of z.key ≡ y.kind ∷ y.old_words = one_some (words_of z.key) (y.kind ∷ y.old_words) (words_at k (index_of i)) z.words y.before in
      let len : length y.new_words ≡ length (rest_of z.key) = subst (λ (us : List ℕ). length y.new_words ≡ length (drop 1 us)) (sym all) y.as_long in
      let h : (p : ℕ) → p < length (rest_of z.key) → WordMoves k l moved false (role_at (kind_of z.key) false p) (slice_index (rest_of z.key) p) (slice_index y.new_words p) = subst (λ (us : List ℕ). (p : ℕ) → p < length (drop 1 us) → WordMoves k l moved false (role_at (slice_index us 0) false p) (slice_index (drop 1 us) p) (slice_index y.new_words p)) (sym all) y.words in
      let made : Made (denoted l) (kind_of z.key ∷ y.new_words) s.0 = parts_turn (denoted k) (denoted l) z.key s.0 y.new_words z.fit z.denotes len
      (λ p u. turns (role_at (kind_of z.key) false p) (slice_index (rest_of z.key) p) (slice_index y.new_words p) (h p (omega (arith, len, u)))) in
      let first : kind_of z.key ≡ y.kind = ap (λ (us : List ℕ). slice_index us 0) all in
      let w : words_at l (index_of j) ≡ Some (words_of made.0) = place ∙ ap Some (y.after ∙ sym (made.1 ∙ ap (λ (n : ℕ). n ∷ y.new_words) first)) in
      let q = HasKey-words l (index_of j) made.0 made.2 w in
      record { node = s.0; before = s.1; after = denoted-is l (index_of j) ∙ (ap (option_and_then (node_of (denoted l))) q.is ∙ made.3) }

  are_moved : (ns vs : List ℕ) → length vs ≡ length ns → ((p : ℕ) → p < length ns → IsMoved moved (slice_index ns p) (slice_index vs p)) → AreMoved moved ns vs
  are_moved [] [] len h = tt
  are_moved [] (v ∷ vs) len h = absurd (omega (arith, len))
  are_moved (n ∷ ns) [] len h = absurd (omega (arith, len))
  are_moved (n ∷ ns) (v ∷ vs) len h = (h 0 (omega arith), are_moved ns vs (omega (arith, len)) (λ p q. h (suc p) (omega (arith, q))))

  are_append : (us vs ms qs : List ℕ) → AreMoved moved us vs → AreMoved moved ms qs → AreMoved moved (us ++ ms) (vs ++ qs)
  are_append [] [] ms qs a b = b
  are_append [] (v ∷ vs) ms qs a b = absurd a
  are_append (u ∷ us) [] ms qs a b = absurd a
  are_append (u ∷ us) (v ∷ vs) ms qs a b = (a.0, are_append us vs ms qs a.1 b)

  are_length : (ns vs : List ℕ) → AreMoved moved ns vs → length vs ≡ length ns
  are_length [] [] h = refl
  are_length [] (v ∷ vs) h = absurd h
  are_length (n ∷ ns) [] h = absurd h
  are_length (n ∷ ns) (v ∷ vs) h = ap suc (are_length ns vs h.1)

  -- the new row of a list of parts lists what these were moved to
  row_listed : (i j : ℕ) (new : List ℕ) → Needs k true i → IsNewKey k l moved true i new → words_at l (index_of j) ≡ Some new → IsListMoved k l moved i j
  unfolding role_at
  row_listed i j new (ns, is, all) y place = ⊎_elim short long (deep_key k i ns is)
    where
      short : IsEnd k i ns → IsListMoved k l moved i j
      short e =
          let a : y.kind ≡ 36 = heads y.kind 36 y.old_words ns (words_at k (index_of i)) y.before e.words in
          let b : y.old_words ≡ ns = tails y.kind 36 y.old_words ns (words_at k (index_of i)) y.before e.words in
          let len : length y.new_words ≡ length ns = y.as_long ∙ ap length b in
          let s = e.short in
          let h : (p : ℕ) → p < length ns → WordMoves k l moved true (role_at 36 true p) (slice_index ns p) (slice_index y.new_words p) = subst (λ n. (p : ℕ) → p < length ns → WordMoves k l moved true (role_at n true p) (slice_index ns p) (slice_index y.new_words p)) a
          (subst (λ (us : List ℕ). (p : ℕ) → p < length us → WordMoves k l moved true (role_at y.kind true p) (slice_index us p) (slice_index y.new_words p)) b y.words) in
          record {
            parts = ns;
            before = is;
            new_parts = y.new_words;
            after = end_list l j y.new_words (omega (arith, len)) (place ∙ ap Some (y.after ∙ ap (λ (n : ℕ). n ∷ y.new_words) a));
            are = are_moved ns y.new_words len h;
          }

      with_rest : (e : IsMore k i ns) (us : List ℕ) → length us ≡ length (e.rest ∷ e.front) → ((p : ℕ) → p < length (e.rest ∷ e.front) → WordMoves k l moved true (role_at 37 true p) (slice_index (e.rest ∷ e.front) p) (slice_index us p)) → words_at l (index_of j) ≡ Some (37 ∷ us) → IsListMoved k l moved i j
      with_rest e [] n g w = absurd (omega (arith, n))
      with_rest e (v ∷ us) n g w =
          let t : IsListMoved k l moved e.rest v = g 0 (omega arith) in
          let n' : length us ≡ length e.front = omega (arith, n) in
          let front = are_moved e.front us n' (λ p q. subst (λ b. WordMoves k l moved true (if b then role.Rest else role.Part) (slice_index e.front p) (slice_index us p)) (after_first p) (g (suc p) (omega (arith, q)))) in
          let back : t.parts ≡ e.back = one_some t.parts e.back (list_in (denoted k) (index_of e.rest)) t.before e.behind in
          let others = subst (λ (xs : List ℕ). AreMoved moved xs t.new_parts) back t.are in
          let long = are_length e.back t.new_parts others in
          let some = e.some in
          record {
            parts = ns;
            before = is;
            new_parts = us ++ t.new_parts;
            after = more_list l j v us t.new_parts (n' ∙ e.full) (omega (arith, long)) t.after w;
            are = subst (λ (xs : List ℕ). AreMoved moved xs (us ++ t.new_parts)) (sym e.whole) (are_append e.front us e.back t.new_parts front others);
          }

      long : IsMore k i ns → IsListMoved k l moved i j
      long e =
          let a : y.kind ≡ 37 = heads y.kind 37 y.old_words (e.rest ∷ e.front) (words_at k (index_of i)) y.before e.words in
          let b : y.old_words ≡ e.rest ∷ e.front = tails y.kind 37 y.old_words (e.rest ∷ e.front) (words_at k (index_of i)) y.before e.words in
          with_rest e y.new_words (y.as_long ∙ ap length b)
          (subst (λ n. (p : ℕ) → p < length (e.rest ∷ e.front) → WordMoves k l moved true (role_at n true p) (slice_index (e.rest ∷ e.front) p) (slice_index y.new_words p)) a (subst (λ (us : List ℕ). (p : ℕ) → p < length us → WordMoves k l moved true (role_at y.kind true p) (slice_index us p) (slice_index y.new_words p)) b y.words))
          (place ∙ ap Some (y.after ∙ ap (λ (n : ℕ). n ∷ y.new_words) a))

-- both at once
pub row_means : (m : Mover) (b : Bool) (i j : ℕ) (new : List ℕ) → IsMover m → Needs (known m.from) b i → IsNewKey (known m.from) (known m.to) m.moved.items b i new → words_at (known m.to) (index_of j) ≡ Some new → RowMeans m b i j
row_means m false i j new h needs y place = row_same (known m.from) (known m.to) m.moved.items h.has.same i j new needs y place
row_means m true i j new h needs y place = row_listed (known m.from) (known m.to) m.moved.items h.has.same i j new needs y place

pub push_before : (xs : List ℕ) (v q : ℕ) → q < length xs → slice_index (xs ++ v ∷ []) q ≡ slice_index xs q
push_before [] v q l = absurd (omega (arith, l))
push_before (x ∷ xs) v zero l = refl
push_before (x ∷ xs) v (suc q) l = push_before xs v q (omega (arith, l))

pub push_last : (xs : List ℕ) (v n : ℕ) → length xs ≡ n → slice_index (xs ++ v ∷ []) n ≡ v
push_last [] v zero e = refl
push_last [] v (suc n) e = absurd (omega (arith, e))
push_last (x ∷ xs) v zero e = absurd (omega (arith, e))
push_last (x ∷ xs) v (suc n) e = push_last xs v n (omega (arith, e))

pub word_behind : (xs : List ℕ) (at : ℕ) → 0 < at → slice_index (drop 1 xs) (at - 1) ≡ slice_index xs at
word_behind [] at l = refl
word_behind (x ∷ xs) zero l = absurd (omega (arith, l))
word_behind (x ∷ xs) (suc q) l = let e : suc q - 1 ≡ q = omega arith in ap (slice_index xs) e

pub starts : (xs : List ℕ) → 0 < length xs → xs ≡ slice_index xs 0 ∷ drop 1 xs
starts [] l = absurd (omega (arith, l))
starts (x ∷ xs) l = refl

-- what a word became, where a rest became what it was to
word_moves : (m : Mover) (b : Bool) (r : Role) (rest w v : ℕ) → (r ≡ role.Rest → Becomes (known m.from) (known m.to) m.moved.items b w rest) → WordBecomes m r rest w v → WordMoves (known m.from) (known m.to) m.moved.items b r w v
word_moves m b role.Number rest w v g h = h
word_moves m b role.Part rest w v g h = h
word_moves m b role.List rest w v g h = h
word_moves m b role.Rest rest w v g h = subst (Becomes (known m.from) (known m.to) m.moved.items b w) (sym h) (g refl)

-- the new key, where each word became what it is to
pub key_done : (m n : Mover) (b : Bool) (i rest : ℕ) (words into : List ℕ) → Later m n → Needs (known m.from) b i → words_at (known m.from) (index_of i) ≡ Some words → ((x : ℕ) (us : List ℕ) → words_at (known m.from) (index_of i) ≡ Some (37 ∷ x ∷ us) → Becomes (known m.from) (known m.to) m.moved.items b x rest) → length into ≡ length words → slice_index into 0 ≡ slice_index words 0
    → ((q : ℕ) → 0 < q → q < length words → WordBecomes n (role_at (slice_index words 0) b (q - 1)) rest (slice_index words q) (slice_index into q)) → IsNewKey (known n.from) (known n.to) n.moved.items b i into
key_done m n b i rest words into later needs w behind long first built =
    let k = Later-known m n later in
    let kind : ℕ = slice_index words 0 in
    let ws : List ℕ = drop 1 words in
    let vs : List ℕ = drop 1 into in
    let a : words ≡ kind ∷ ws = row_starts (known m.from) i words (needs_some (known m.from) b i needs) w in
    let some : length words ≡ suc (length ws) = ap length a in
    let c : into ≡ kind ∷ vs = starts into (omega (arith, long, some)) ∙ ap (λ (x : ℕ). x ∷ vs) first in
    let more : length into ≡ suc (length vs) = ap length c in
    record {
      kind = kind;
      old_words = ws;
      new_words = vs;
      before = subst (λ x. words_at x (index_of i) ≡ Some (kind ∷ ws)) (sym k) (w ∙ ap Some a);
      after = c;
      as_long = omega (arith, long, some, more);
      words = λ p l.
          let e : suc p - 1 ≡ p = omega arith in
          let h : WordBecomes n (role_at kind b p) rest (slice_index ws p) (slice_index vs p) = subst (λ q. WordBecomes n (role_at kind b q) rest (slice_index ws p) (slice_index vs p)) e
          (subst (λ x. WordBecomes n (role_at kind b (suc p - 1)) rest x (slice_index vs p)) (ap (λ (xs : List ℕ). slice_index xs (suc p)) a)
          (subst (λ x. WordBecomes n (role_at kind b (suc p - 1)) rest (slice_index words (suc p)) x) (ap (λ (xs : List ℕ). slice_index xs (suc p)) c) (built (suc p) (omega arith) (omega (arith, l, some))))) in
          word_moves n b (role_at kind b p) rest (slice_index ws p) (slice_index vs p) (λ r. rest_is p l r) h;
    }
  where
    rest_is : (p : ℕ) → p < length (drop 1 words) → role_at (slice_index words 0) b p ≡ role.Rest → Becomes (known n.from) (known n.to) n.moved.items b (slice_index (drop 1 words) p) rest
    rest_is p l r =
        let q = rest_role (slice_index words 0) b p r in
        let ws : List ℕ = drop 1 words in
        let a : words ≡ slice_index words 0 ∷ ws = row_starts (known m.from) i words (needs_some (known m.from) b i needs) w in
        let z : p ≡ 0 = q.1 in
        let c : ws ≡ slice_index ws 0 ∷ drop 1 ws = starts ws (omega (arith, l, z)) in
        let d : words ≡ 37 ∷ slice_index ws 0 ∷ drop 1 ws = a ∙ ap₂ (λ (x : ℕ) (xs : List ℕ). x ∷ xs) q.0 c in
        subst (λ x. Becomes (known n.from) (known n.to) n.moved.items b (slice_index ws x) rest) (sym z)
        (subst (λ x. Becomes x (known n.to) n.moved.items b (slice_index ws 0) rest) (sym (Later-known m n later)) (becomes_later (known m.from) (known m.to) (known n.to) m.moved.items n.moved.items b (slice_index ws 0) rest later.keeps later.moved (behind (slice_index ws 0) (drop 1 ws) (w ∙ ap Some d))))
