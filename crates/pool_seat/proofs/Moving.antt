-- What is moved stays so, step by step.
use Rattle.std.proofs.Common.{◌≡◌, inl, inr, ⊎_elim, ◌⊎◌, ℕ, suc, ◌+◌, ◌<◌, Bool, true, false, List, [], ◌∷◌, ◌++◌, length, set, slice_index, Some, IsSome, is_some, refl, sym, ap, ◌∙◌, subst, arith, get_or-set_same, get_or-set_other, add-one}
use Rattle.std.proofs.lemmas.Bool.{cases_eq}
use Rattle.std.proofs.lemmas.List.{length-set}
use Rattle.type_form.specs.declared.index.Index.{Index}
use Rattle.type_form.specs.Known.{Known, words_at, key_at, Keeps, IsInjective}
use Rattle.type_form.specs.Words.{index_of, key_of}
use Rattle.type_form.specs.Denote.{Node, denoted, node_of}
use Rattle.type_form.proofs.Depth.{denoted-is, denoted-grows}
use Rattle.type_form.proofs.KeyKinds.{list_in-lower}
use Rattle.type_form.proofs.Options.{then_tells}
use Rattle.pool_words.specs.Layout.{Row}
use Rattle.pool_words.specs.Rule.{In}
use Rattle.pool_words.proofs.Members.{In-left, In-last, In-push}
use Rattle.pool_shard.specs.Pairs.{Rows, known, known_of, HasNot, AddsAtMost, ArePlaced}
use Rattle.type_form.specs.declared.roles.Role.{Role}
use Rattle.type_form.specs.declared.roles.Role.TheVariants as role
use Rattle.pool_seat.specs.declared.mover.Mover.{Mover}
use Rattle.pool_seat.specs.Reach.{Reached}
use Rattle.type_form.specs.Roles.{role_at}
use Rattle.pool_seat.specs.Moves.{IsSame, Pairs, IsMoved, AreMoved, IsListMoved, Becomes, WordMoves, IsNewKey, AreApart, HasMoved, SameRows}
use Rattle.pool_seat.specs.Movers.{Later, SameNew, HasTree, IsMover}

-- what denotes something has words
pub denoted_words : (k : Known) (i : Index) (n : Node) → denoted k i ≡ Some n → IsSome (words_at k i)
unfolding key_at
denoted_words k i n e =
    let t = then_tells (node_of (denoted k)) (key_at k i) n (sym (denoted-is k i) ∙ e) in
    let w = then_tells key_of (words_at k i) t.0 t.1 in
    ap is_some w.1

pub Keeps-refl : (k : Known) → Keeps k k
Keeps-refl k = record { words = λ i ws e. e }

pub IsSame-keeps : (k l m : Known) (i j : ℕ) → Keeps l m → IsSame k l i j → IsSame k m i j
IsSame-keeps k l m i j h s = record { node = s.node; before = s.before; after = denoted-grows l m h (index_of j) s.node s.after }

pub SameRows-refl : (p : Rows) → SameRows p p
SameRows-refl p = record { id = refl; layout = refl; log = refl }

pub Later-refl : (m : Mover) → Later m m
Later-refl m = record { from = SameRows-refl m.from; live = refl; layout = refl; keeps = Keeps-refl (known m.to); long = refl; moved = λ i j h. h }

pub Later-trans : (l m n : Mover) → Later l m → Later m n → Later l n
Later-trans l m n a b = record {
  from = record { id = b.from.id ∙ a.from.id; layout = b.from.layout ∙ a.from.layout; log = b.from.log ∙ a.from.log };
  live = b.live ∙ a.live;
  layout = b.layout ∙ a.layout;
  keeps = record { words = λ i ws e. b.keeps.words i ws (a.keeps.words i ws e) };
  long = b.long ∙ a.long;
  moved = λ i j h. b.moved i j (a.moved i j h);
}

pub SameNew-trans : (l m n : Mover) → SameNew l m → SameNew m n → SameNew l n
SameNew-trans l m n a b = record { to = b.to ∙ a.to; moved = b.moved ∙ a.moved }

pub Later-known : (m n : Mover) → Later m n → known n.from ≡ known m.from
Later-known m n a = ap known_of a.from.log

-- all that was moved is moved
abbrev pub Goes : Pairs → Pairs → Type 0
Goes t u = (i j : ℕ) → IsMoved t i j → IsMoved u i j

are_later : (t u : Pairs) → Goes t u → (ns ms : List ℕ) → AreMoved t ns ms → AreMoved u ns ms
are_later t u f [] [] h = tt
are_later t u f [] (m ∷ ms) h = absurd h
are_later t u f (n ∷ ns) [] h = absurd h
are_later t u f (n ∷ ns) (m ∷ ms) h = (f n m h.0, are_later t u f ns ms h.1)

pub list_later : (k l m : Known) (t u : Pairs) (i j : ℕ) → Keeps l m → Goes t u → IsListMoved k l t i j → IsListMoved k m u i j
list_later k l m t u i j h f s = record {
  parts = s.parts;
  before = s.before;
  new_parts = s.new_parts;
  after = list_in-lower (denoted l) (denoted m) (denoted-grows l m h) (index_of j) s.new_parts s.after;
  are = are_later t u f s.parts s.new_parts s.are;
}

pub becomes_later : (k l m : Known) (t u : Pairs) (b : Bool) (i j : ℕ) → Keeps l m → Goes t u → Becomes k l t b i j → Becomes k m u b i j
becomes_later k l m t u false i j h f s = f i j s
becomes_later k l m t u true i j h f s = list_later k l m t u i j h f s

word_later : (k l m : Known) (t u : Pairs) (b : Bool) (r : Role) (w v : ℕ) → Keeps l m → Goes t u → WordMoves k l t b r w v → WordMoves k m u b r w v
word_later k l m t u b role.Number w v h f s = s
word_later k l m t u b role.Part w v h f s = f w v s
word_later k l m t u b role.List w v h f s = list_later k l m t u w v h f s
word_later k l m t u b role.Rest w v h f s = becomes_later k l m t u b w v h f s

pub new_key_later : (k l m : Known) (t u : Pairs) (b : Bool) (i : ℕ) (key : List ℕ) → Keeps l m → Goes t u → IsNewKey k l t b i key → IsNewKey k m u b i key
new_key_later k l m t u b i key h f s = record {
  kind = s.kind;
  old_words = s.old_words;
  new_words = s.new_words;
  before = s.before;
  after = s.after;
  as_long = s.as_long;
  words = λ p q. word_later k l m t u b (role_at s.kind b p) (slice_index s.old_words p) (slice_index s.new_words p) h f (s.words p q);
}

-- a row is an old one, or the new one
pub row_cases : (r x : Row) (log after : List Row) → AddsAtMost log x after → In r after → In r log ⊎ (r ≡ x)
row_cases r x log after a i = ⊎_elim (λ e. inl (subst (In r) e i)) (λ e. In-push r x log (subst (In r) e.0 i)) a

apart_push : (log : List Row) (r : Row) → AreApart log → HasNot log r.1 → AreApart (log ++ r ∷ [])
apart_push [] r a none = (λ i h. absurd h, tt)
apart_push (q ∷ log) r a none = (
  λ i h. ⊎_elim (a.0 i) (λ e. none q.0 (inl (subst (λ (key : List ℕ). (q.0, key) ≡ q) (ap (λ (x : Row). x.1) e) refl))) (In-push (i, q.1) r log h),
  apart_push log r a.1 (λ i h. none i (inr h)),
)

pub apart_adds : (r : Row) (log after : List Row) → AddsAtMost log r after → AreApart log → AreApart after
apart_adds r log after a h = ⊎_elim (λ e. subst AreApart (sym e) h) (λ e. subst AreApart (sym e.0) (apart_push log r h e.1)) a

-- with keys that are needed added to the new pool
pub HasMoved-adds : (k : Known) (live : List Index) (p q : Rows) (t : Pairs) → HasMoved k live p t → Keeps (known p) (known q) → IsInjective (known q) → AreApart q.view.log → ((r : Row) → In r q.view.log → In r p.view.log ⊎ ((b : Bool) × (i : ℕ) × Reached k live b i × IsNewKey k (known p) t b i r.1)) → HasMoved k live q t
HasMoved-adds k live p q t h keeps once apart new = record {
  same = λ i j s. IsSame-keeps k (known p) (known q) i j keeps (h.same i j s);
  reached = h.reached;
  keys = λ i j s. let y = h.keys i j s in (y.0, keeps.words (index_of j) y.0 y.1, new_key_later k (known p) (known q) t t false i y.0 keeps (λ a b x. x) y.2);
  rows = λ r i. ⊎_elim (λ o. let y = h.rows r o in (y.0, y.1, y.2, new_key_later k (known p) (known q) t t y.0 y.1 r.1 keeps (λ a b x. x) y.3)) (λ y. (y.0, y.1, y.2, new_key_later k (known p) (known q) t t y.0 y.1 r.1 keeps (λ a b x. x) y.3)) (new r i);
  apart = apart;
  injective = once;
}

first_same : (p q : Index × Index) → p ≡ q → (p.0).0 ≡ (q.0).0
first_same p q e = ap (λ (x : Index × Index). (x.0).0) e

second_same : (p q : Index × Index) → p ≡ q → (p.1).0 ≡ (q.1).0
second_same p q e = ap (λ (x : Index × Index). (x.1).0) e

pub goes_push : (t : Pairs) (i j : ℕ) → Goes t (t ++ (index_of i, index_of j) ∷ [])
goes_push t i j a b s = In-left (index_of a, index_of b) t ((index_of i, index_of j) ∷ []) s

pub moved_cases : (t : Pairs) (i j a b : ℕ) → IsMoved (t ++ (index_of i, index_of j) ∷ []) a b → IsMoved t a b ⊎ ((a ≡ i) × (b ≡ j))
moved_cases t i j a b s = ⊎_elim (λ o. inl o) (λ e. inr (first_same (index_of a, index_of b) (index_of i, index_of j) e, second_same (index_of a, index_of b) (index_of i, index_of j) e)) (In-push (index_of a, index_of b) (index_of i, index_of j) t s)

-- with one index more moved
pub HasMoved-notes : (k : Known) (live : List Index) (p : Rows) (t : Pairs) (i j : ℕ) → HasMoved k live p t → Reached k live false i → IsSame k (known p) i j → (key : List ℕ) → words_at (known p) (index_of j) ≡ Some key → IsNewKey k (known p) t false i key → HasMoved k live p (t ++ (index_of i, index_of j) ∷ [])
HasMoved-notes k live p t i j h reached same key there new =
    let u : Pairs = t ++ (index_of i, index_of j) ∷ [] in
    let more = goes_push t i j in
    record {
      same = λ a b s. ⊎_elim (h.same a b) (λ q. subst (λ x. IsSame k (known p) x b) (sym q.0) (subst (IsSame k (known p) i) (sym q.1) same)) (moved_cases t i j a b s);
      reached = λ a b s. ⊎_elim (h.reached a b) (λ q. subst (Reached k live false) (sym q.0) reached) (moved_cases t i j a b s);
      keys = λ a b s. ⊎_elim
          (λ o. let y = h.keys a b o in (y.0, y.1, new_key_later k (known p) (known p) t u false a y.0 (Keeps-refl (known p)) more y.2))
          (λ q. (key, subst (λ x. words_at (known p) (index_of x) ≡ Some key) (sym q.1) there, subst (λ x. IsNewKey k (known p) u false x key) (sym q.0) (new_key_later k (known p) (known p) t u false i key (Keeps-refl (known p)) more new)))
          (moved_cases t i j a b s);
      rows = λ r o. let y = h.rows r o in (y.0, y.1, y.2, new_key_later k (known p) (known p) t u y.0 y.1 r.1 (Keeps-refl (known p)) more y.3);
      apart = h.apart;
      injective = h.injective;
    }

one_more : (a b : ℕ) → suc a ≡ suc b → a ≡ b
one_more a b e = omega arith

entered_now : (table : List ℕ) (i j : ℕ) → i < length table → slice_index (set table i (j + 1)) i ≡ suc j
entered_now table i j l = get_or-set_same table i (j + 1) 0 l ∙ add-one j

entered_else : (table : List ℕ) (i j a b : ℕ) → slice_index table i ≡ 0 → slice_index table a ≡ suc b → slice_index (set table i (j + 1)) a ≡ suc b
entered_else table i j a b free h = get_or-set_other table i a (j + 1) 0 (λ e. let c : suc b ≡ 0 = sym h ∙ (ap (slice_index table) e ∙ free) in absurd (omega (arith, c))) ∙ h

entered_before : (table : List ℕ) (i j a b : ℕ) → i < length table → slice_index (set table i (j + 1)) a ≡ suc b → ((a ≡ i) × (b ≡ j)) ⊎ (slice_index table a ≡ suc b)
entered_before table i j a b l h = ⊎_elim (λ e. inl (e, one_more b j (sym h ∙ (ap (slice_index (set table i (j + 1))) e ∙ entered_now table i j l)))) (λ ne. inr (sym (get_or-set_other table i a (j + 1) 0 ne) ∙ h)) (cases_eq a i)

-- the mover notes a move
pub IsMover-note : (m n : Mover) (i j : ℕ) → IsMover m → HasMoved (known m.from) m.live.now m.to (m.moved.items ++ (index_of i, index_of j) ∷ []) → slice_index m.table.items i ≡ 0 → i < length m.table.items → ((a b : ℕ) → IsMoved (m.moved.items ++ (index_of i, index_of j) ∷ []) a b → HasTree (known m.from) m.to (m.moved.items ++ (index_of i, index_of j) ∷ []) false a) → n.from ≡ m.from → n.live ≡ m.live → n.to ≡ m.to → n.table.items ≡ set m.table.items i (j + 1) → n.moved.items ≡ m.moved.items ++ (index_of i, index_of j) ∷ [] → IsMover n
IsMover-note m n i j h has free l trees e v f g k = record {
  has = subst (λ (p : Rows). HasMoved (known p) n.live.now n.to n.moved.items) (sym e) (subst (λ x. HasMoved (known m.from) x.now n.to n.moved.items) (sym v) (subst (λ (p : Rows). HasMoved (known m.from) m.live.now p n.moved.items) (sym f) (subst (HasMoved (known m.from) m.live.now m.to) (sym k) has)));
  placed = subst (λ (p : Rows). ArePlaced p.view.layout p.view.log) (sym f) h.placed;
  inside = λ a t. subst (λ (ns : List ℕ). a.0 < length ns) (sym g) (subst (λ n. a.0 < n) (sym (length-set m.table.items i (j + 1))) (h.inside a (subst (λ (p : Rows). IsSome (words_at (known p) a)) e t)));
  listed = λ a b t. subst (In (index_of a, index_of b)) (sym k) (⊎_elim
      (λ q. subst (λ x. IsMoved (m.moved.items ++ (index_of i, index_of j) ∷ []) x b) (sym q.0) (subst (IsMoved (m.moved.items ++ (index_of i, index_of j) ∷ []) i) (sym q.1) (In-last (index_of i, index_of j) m.moved.items)))
      (λ o. goes_push m.moved.items i j a b (h.listed a b o))
      (entered_before m.table.items i j a b l (subst (λ (ns : List ℕ). slice_index ns a ≡ suc b) g t)));
  entered = λ a b t. subst (λ (ns : List ℕ). slice_index ns a.0 ≡ suc b.0) (sym g) (⊎_elim
      (λ o. entered_else m.table.items i j a.0 b.0 free (h.entered a b o))
      (λ q. subst (λ x. slice_index (set m.table.items i (j + 1)) x ≡ suc b.0) (sym q.0) (subst (λ y. slice_index (set m.table.items i (j + 1)) i ≡ suc y) (sym q.1) (entered_now m.table.items i j l)))
      (moved_cases m.moved.items i j a.0 b.0 (subst (In (a, b)) k t)));
  trees = λ a b t. subst (λ (p : Rows). HasTree (known p) n.to n.moved.items false a) (sym e) (subst (λ (p : Rows). HasTree (known m.from) p n.moved.items false a) (sym f) (subst (λ (u : Pairs). HasTree (known m.from) m.to u false a) (sym k) (trees a b (subst (In (index_of a, index_of b)) k t))));
}
