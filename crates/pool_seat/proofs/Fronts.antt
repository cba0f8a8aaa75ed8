-- The trees of the words of a key, one behind the other: whole, and up to one source.
use Rattle.std.proofs.Common.{◌≡◌, inl, inr, ⊎_elim, ◌⊎◌, ℕ, zero, suc, ◌<◌, ◌≤◌, ◌==◌, Bool, true, false, if◌then◌else◌, List, [], ◌∷◌, ◌++◌, length, slice_index, drop, Option, Some, refl, sym, ap, ap₂, ◌∙◌, subst, arith}
use Rattle.std.proofs.lemmas.Bool.{cases_lt, cases_eq, eq-eqb, ne_eqb}
use Rattle.std.proofs.lemmas.List.{append-nil, append_assoc}
use Rattle.type_form.specs.declared.index.Index.{Index}
use Rattle.type_form.specs.declared.roles.Role.{Role}
use Rattle.type_form.specs.declared.roles.Role.TheVariants as role
use Rattle.type_form.specs.Known.{Known, words_at}
use Rattle.type_form.specs.Words.{index_of}
use Rattle.type_form.specs.Roles.{role_at}
use Rattle.type_form.specs.Reach.{IsIndex}
use Rattle.type_form.proofs.PartLemmas.{rest_role}
use Rattle.pool_shard.specs.Pairs.{known}
use Rattle.pool_seat.specs.declared.mover.Mover.{Mover}
use Rattle.pool_seat.specs.declared.mover.Stop.{Stop}
use Rattle.pool_seat.specs.declared.mover.Stop.TheVariants.{Full, OutOfMemory}
use Rattle.pool_seat.specs.Moves.{Pairs, IsNewKey}
use Rattle.pool_seat.specs.Order.{Source, joined, Listed, Whole, AllListed, ListedUpTo, Own, Inside, AllListedUpTo, added, olds, places, IsNewRow, Adds}
use Rattle.pool_seat.specs.Movers.{IsChain, Later, SameNew, HasAll, HasTree, HasParts, Moves, MovesTree, WordMoved, IsInner, Front, MovesFront, InKey, MovesRow, MovesKey, MovesAll, StopsAt, StopsInTree, IsStopInTree, IsStopInWord, InKeyUpTo, StopsInKey, IsStopInKey, IsStopInAll, IsStopAtKey}
use Rattle.pool_seat.proofs.RowResults.{starts}
use Rattle.pool_seat.proofs.Ordering.{new_row_later, new_rows_later, has_none, has_append, row_has, adds_none, adds_then, adds_later, has_adds, adds_row, parts_pairs, index_pairs}

-- ---- the lists of the places, joined

joined_same : (f g : ℕ → List Source) (n : ℕ) → ((p : ℕ) → p < n → f p ≡ g p) → joined f n ≡ joined g n
joined_same f g zero h = refl
joined_same f g (suc n) h = ap₂ (λ (a b : List Source). a ++ b) (joined_same f g n (λ p l. h p (omega (arith, l)))) (h n (omega arith))

joined_shift : (f : ℕ → List Source) (n : ℕ) → joined f (suc n) ≡ f 0 ++ joined (λ p. f (suc p)) n
joined_shift f zero = sym (append-nil (f 0))
joined_shift f (suc n) = ap (λ (xs : List Source). xs ++ f (suc n)) (joined_shift f n) ∙ append_assoc (f 0) (joined (λ p. f (suc p)) n) (f (suc n))

-- others at the first place
abbrev put_first : List Source → (ℕ → List Source) → ℕ → List Source
put_first first parts zero = first
put_first first parts (suc p) = parts (suc p)

joined_first : (first : List Source) (parts : ℕ → List Source) (n : ℕ) → parts 0 ≡ [] → joined (put_first first parts) (suc n) ≡ first ++ joined parts (suc n)
joined_first first parts n e =
    let tail : List Source = joined (λ p. parts (suc p)) n in
    let a : joined parts (suc n) ≡ tail = joined_shift parts n ∙ ap (λ (xs : List Source). xs ++ tail) e in
    joined_shift (put_first first parts) n ∙ ap (λ (xs : List Source). first ++ xs) (sym a)

-- ---- words that are indices

index_inner : (b : Bool) (r : Role) (c : Bool) → IsIndex b r c → IsInner r c ⊎ (r ≡ role.Rest)
index_inner b role.Number c x = absurd x
index_inner b role.Part c x = inl x
index_inner b role.List c x = inl x
index_inner b role.Rest c x = inr refl

inner_index : (b : Bool) (r : Role) (c : Bool) → IsInner r c → IsIndex b r c
inner_index b role.Number c x = absurd x
inner_index b role.Part c x = x
inner_index b role.List c x = x
inner_index b role.Rest c x = absurd x

-- a key that is a list with a rest, or not
rest_cases : (kind : ℕ) (ws : List ℕ) → ((x : ℕ) × (us : List ℕ) × (kind ≡ 37) × (ws ≡ x ∷ us)) ⊎ ((x : ℕ) (us : List ℕ) → kind ∷ ws ≡ 37 ∷ x ∷ us → ⊥)
rest_cases kind [] = inr (λ x us e. short kind x us e)
  where
    short : (kind x : ℕ) (us : List ℕ) → kind ∷ [] ≡ 37 ∷ x ∷ us → ⊥
    short kind x us e = cc
rest_cases kind (x ∷ us) = ⊎_elim (λ e. inl (x, us, e, refl)) (λ ne. inr (λ y vs e. ne (ap (λ (ws : List ℕ). slice_index ws 0) e))) (cases_eq kind 37)

no_rest : (kind : ℕ) (ws : List ℕ) (b : Bool) (p : ℕ) → ((x : ℕ) (us : List ℕ) → kind ∷ ws ≡ 37 ∷ x ∷ us → ⊥) → p < length ws → role_at kind b p ≡ role.Rest → ⊥
no_rest kind ws b p f l e =
    let q = rest_role kind b p e in
    let z : p ≡ 0 = q.1 in
    f (slice_index ws 0) (drop 1 ws) (ap₂ (λ (x : ℕ) (xs : List ℕ). x ∷ xs) q.0 (starts ws (omega (arith, l, z))))

-- ---- the trees of the first words, with that of the rest

record All (k : Known) (b : Bool) (kind : ℕ) (ws : List ℕ) (n : ℕ) (sources : List Source) : Type 0 where
  parts : ℕ → List Source
  each : (p : ℕ) (c : Bool) → p < n → IsIndex b (role_at kind b p) c → Listed k c (slice_index ws p) (parts p)
  none : (p : ℕ) → p < n → role_at kind b p ≡ role.Number → parts p ≡ []
  whole : sources ≡ joined parts n

without_rest : (k : Known) (b : Bool) (kind : ℕ) (ws : List ℕ) (n : ℕ) (sources : List Source) → ((x : ℕ) (us : List ℕ) → kind ∷ ws ≡ 37 ∷ x ∷ us → ⊥) → n ≤ length ws → Front k b kind ws n sources → All k b kind ws n sources
without_rest k b kind ws n sources f le h = record {
  parts = h.parts;
  each = λ p c l x. ⊎_elim (h.each p c l) (λ r. absurd (no_rest kind ws b p f (omega (arith, l, le)) r)) (index_inner b (role_at kind b p) c x);
  none = λ p l e. h.none p l (λ c x. subst (λ r. IsInner r c) e x);
  whole = h.whole;
}

with_rest : (k : Known) (b : Bool) (kind : ℕ) (ws : List ℕ) (n : ℕ) (sources first : List Source) (x : ℕ) (us : List ℕ) → kind ≡ 37 → ws ≡ x ∷ us → Listed k b x first → Front k b kind ws (suc n) sources → All k b kind ws (suc n) (first ++ sources)
unfolding role_at
with_rest k b kind ws n sources first x us e f listed h = record {
  parts = put_first first h.parts;
  each = each;
  none = none;
  whole = ap (λ (xs : List Source). first ++ xs) h.whole ∙ sym (joined_first first h.parts n (h.none 0 (omega arith) (λ c y. subst (λ q. IsInner (role_at q b 0) c) e y)));
}
  where
    each : (p : ℕ) (c : Bool) → p < suc n → IsIndex b (role_at kind b p) c → Listed k c (slice_index ws p) (put_first first h.parts p)
    each zero c l y =
        let s : c ≡ b = subst (λ q. IsIndex b (role_at q b 0) c) e y in
        subst (λ d. Listed k d (slice_index ws 0) first) (sym s) (subst (λ (vs : List ℕ). Listed k b (slice_index vs 0) first) (sym f) listed)
    each (suc p) c l y = ⊎_elim (h.each (suc p) c l) (λ r. let q = rest_role kind b (suc p) r in absurd (omega (arith, q.1))) (index_inner b (role_at kind b (suc p)) c y)

    none : (p : ℕ) → p < suc n → role_at kind b p ≡ role.Number → put_first first h.parts p ≡ []
    none zero l y = absurd (not_number (subst (λ q. role_at q b 0 ≡ role.Number) e y))
      where
        not_number : role.Rest ≡ role.Number → ⊥
        not_number e = cc
    none (suc p) l y = h.none (suc p) l (λ c z. subst (λ r. IsInner r c) y z)

-- ---- the tree of an index

-- the listing of the rest, where there is one, and else nothing
pub record OfRest (k : Known) (b : Bool) (i : ℕ) (first : List Source) : Type 0 where
  pub rest : (x : ℕ) (us : List ℕ) → words_at k (index_of i) ≡ Some (37 ∷ x ∷ us) → Listed k b x first
  pub none : ((x : ℕ) (us : List ℕ) → words_at k (index_of i) ≡ Some (37 ∷ x ∷ us) → ⊥) → first ≡ []

no_words : (k : Known) (i kind : ℕ) (ws : List ℕ) → words_at k (index_of i) ≡ Some (kind ∷ ws) → ((x : ℕ) (us : List ℕ) → kind ∷ ws ≡ 37 ∷ x ∷ us → ⊥) → (x : ℕ) (us : List ℕ) → words_at k (index_of i) ≡ Some (37 ∷ x ∷ us) → ⊥
no_words k i kind ws w f x us e = f x us (one (kind ∷ ws) (37 ∷ x ∷ us) (sym w ∙ e))
  where
    one : (a b : List ℕ) → Some a ≡ Some b → a ≡ b
    one a b e = cc

-- the trees of the first words, with that of the rest in front
front_all : (k : Known) (b : Bool) (i kind : ℕ) (ws : List ℕ) (n : ℕ) (sources first : List Source) → words_at k (index_of i) ≡ Some (kind ∷ ws) → OfRest k b i first → n ≤ length ws → ((x : ℕ) (us : List ℕ) → kind ≡ 37 → ws ≡ x ∷ us → 0 < n) → Front k b kind ws n sources → All k b kind ws n (first ++ sources)
front_all k b i kind ws zero sources first w r le some h = ⊎_elim
    (λ y. absurd (omega (arith, some y.0 y.1 y.2 y.3)))
    (λ f. subst (λ (xs : List Source). All k b kind ws 0 (xs ++ sources)) (sym (r.none (no_words k i kind ws w f))) (without_rest k b kind ws 0 sources f le h))
    (rest_cases kind ws)
front_all k b i kind ws (suc n) sources first w r le some h = ⊎_elim
    (λ y. with_rest k b kind ws n sources first y.0 y.1 y.2 y.3 (r.rest y.0 y.1 (w ∙ ap Some (ap₂ (λ (x : ℕ) (xs : List ℕ). x ∷ xs) y.2 y.3))) h)
    (λ f. subst (λ (xs : List Source). All k b kind ws (suc n) (xs ++ sources)) (sym (r.none (no_words k i kind ws w f))) (without_rest k b kind ws (suc n) sources f le h))
    (rest_cases kind ws)

all_listed : (k : Known) (b : Bool) (i kind : ℕ) (ws : List ℕ) (sources : List Source) → words_at k (index_of i) ≡ Some (kind ∷ ws) → All k b kind ws (length ws) sources → Listed k b i (sources ++ (b, i) ∷ [])
all_listed k b i kind ws sources w h = subst (λ (xs : List Source). Listed k b i (xs ++ (b, i) ∷ [])) (sym h.whole) (Whole b i kind ws h.parts w h.each h.none)

-- what a key holds, with its rest in front and itself at the end
pub key_listed : (k : Known) (b : Bool) (i : ℕ) (sources first : List Source) → InKey k b i sources → OfRest k b i first → Listed k b i (first ++ (sources ++ (b, i) ∷ []))
key_listed k b i sources first h r =
    let a = front_all k b i h.kind h.ws (length h.ws) sources first h.words r (omega arith) (λ x us e f. let l = ap length f in omega (arith, l)) h.front in
    subst (Listed k b i) (append_assoc first sources ((b, i) ∷ [])) (all_listed k b i h.kind h.ws (first ++ sources) h.words a)

-- the same up to a source
pub key_up : (k : Known) (b : Bool) (i : ℕ) (done first : List Source) (next : Source) → InKeyUpTo k b i done next → OfRest k b i first → ListedUpTo k next b i (first ++ done)
unfolding role_at
key_up k b i done first next h r = ⊎_elim own inside h.way
  where
    own : (h.n ≡ length h.ws) × (next ≡ (b, i)) × (done ≡ h.sources) → ListedUpTo k next b i (first ++ done)
    own (e, f, g) =
        let front : Front k b h.kind h.ws (length h.ws) h.sources = subst (λ n. Front k b h.kind h.ws n h.sources) e h.front in
        let a = front_all k b i h.kind h.ws (length h.ws) h.sources first h.words r (omega arith) (λ x us y z. let l = ap length z in omega (arith, l)) front in
        subst (λ (xs : List Source). ListedUpTo k next b i (first ++ xs)) (sym g) (Own b i (first ++ h.sources) f (all_listed k b i h.kind h.ws (first ++ h.sources) h.words a))

    first_word : (kind n : ℕ) (c : Bool) → kind ≡ 37 → IsInner (role_at kind b n) c → 0 < n
    first_word kind zero c e x = absurd (subst (λ q. IsInner (role_at q b 0) c) e x)
    first_word kind (suc n) c e x = omega arith

    inside : (h.n < length h.ws) × (c : Bool) × (inner : List Source) × IsInner (role_at h.kind b h.n) c × ListedUpTo k next c (slice_index h.ws h.n) inner × (done ≡ h.sources ++ inner) → ListedUpTo k next b i (first ++ done)
    inside (l, c, inner, x, up, g) =
        let a = front_all k b i h.kind h.ws h.n h.sources first h.words r (omega arith) (λ y us e f. first_word h.kind h.n c e x) h.front in
        let whole : first ++ done ≡ joined a.parts h.n ++ inner = ap (λ (xs : List Source). first ++ xs) g ∙ (sym (append_assoc first h.sources inner) ∙ ap (λ (xs : List Source). xs ++ inner) a.whole) in
        subst (ListedUpTo k next b i) (sym whole) (Inside b i h.kind h.ws a.parts h.n c inner h.words a.each a.none l (inner_index b (role_at h.kind b h.n) c x) up)

-- along a chain
pub chain_up : (k : Known) (b : Bool) (i : ℕ) (cs : List ℕ) (c : ℕ) (next : Source) (done : List Source) → IsChain k i cs c → ListedUpTo k next b c done → ListedUpTo k next b i done
unfolding role_at
chain_up k b i [] c next done h up = subst (λ x. ListedUpTo k next b x done) (sym h) up
chain_up k b i (d ∷ cs) c next done h up =
    subst (λ x. ListedUpTo k next b x done) (sym h.0)
    (Inside b d 37 (h.1 ∷ h.2) (λ p. []) 0 b done h.3 (λ p e l x. absurd (omega (arith, l))) (λ p l e. absurd (omega (arith, l))) (omega arith) refl (chain_up k b h.1 cs c next done h.4 up))

-- ---- steps

pub moves_then : (k : Known) (m l n : Mover) (xs ys : List Source) → Later l n → Moves k m l xs → Moves k l n ys → Moves k m n (xs ++ ys)
moves_then k m l n xs ys h a b = adds_then k (places m.to) (olds m.moved.items) l.to n.to l.moved.items n.moved.items xs ys h.keeps h.moved a b

pub stops_then : (k : Known) (m l n : Mover) (s : ℕ) (xs done : List Source) (next : Source) → Later l n → Moves k m l xs → StopsAt k l n s done next → StopsAt k m n s (xs ++ done) next
stops_then k m l n s xs done next h a b = record { moves = moves_then k m l n xs done h a b.moves; key = b.key; new = b.new; refused = b.refused }

-- from what is the same
pub moves_from : (k : Known) (m l n : Mover) (xs : List Source) → SameNew m l → Moves k l n xs → Moves k m n xs
moves_from k m l n xs h a = subst (λ p. Adds k (places p) (olds m.moved.items) n.to n.moved.items xs) h.to (subst (λ (t : Pairs). Adds k (places l.to) (olds t) n.to n.moved.items xs) h.moved a)

pub stops_from : (k : Known) (m l n : Mover) (s : ℕ) (done : List Source) (next : Source) → SameNew m l → StopsAt k l n s done next → StopsAt k m n s done next
stops_from k m l n s done next h a = record { moves = moves_from k m l n done h a.moves; key = a.key; new = a.new; refused = a.refused }

pub moves_none : (k : Known) (m n : Mover) → SameNew m n → Moves k m n []
moves_none k m n h = moves_from k m n n [] h (adds_none k n.to n.moved.items)

-- ---- the words of a key, one after the other

pub no_front : (k : Known) (b : Bool) (kind : ℕ) (ws : List ℕ) (m n : Mover) → SameNew m n → MovesFront k b kind ws 0 m n
no_front k b kind ws m n h = record {
  sources = [];
  front = record { parts = λ p. []; each = λ p c l x. absurd (omega (arith, l)); none = λ p l f. refl; whole = refl };
  moves = moves_none k m n h;
}

record OfWord (k : Known) (r : Role) (w : ℕ) (m n : Mover) : Type 0 where
  sources : List Source
  listed : (c : Bool) → IsInner r c → Listed k c w sources
  none : ((c : Bool) → IsInner r c → ⊥) → sources ≡ []
  moves : Moves k m n sources

of_word : (k : Known) (r : Role) (w : ℕ) (m n : Mover) → WordMoved k r w m n → OfWord k r w m n
of_word k role.Number w m n h = record { sources = []; listed = λ c x. absurd x; none = λ f. refl; moves = h }
of_word k role.Part w m n h = record { sources = h.listing; listed = λ c x. subst (λ d. Listed k d w h.listing) (sym x) h.listed; none = λ f. absurd (f false refl); moves = h.moves }
of_word k role.List w m n h = record { sources = h.listing; listed = λ c x. subst (λ d. Listed k d w h.listing) (sym x) h.listed; none = λ f. absurd (f true refl); moves = h.moves }
of_word k role.Rest w m n h = record { sources = []; listed = λ c x. absurd x; none = λ f. refl; moves = h }

-- with one word more
pub more_front : (k : Known) (b : Bool) (kind : ℕ) (ws : List ℕ) (n : ℕ) (m l o : Mover) → Later l o → MovesFront k b kind ws n m l → WordMoved k (role_at kind b n) (slice_index ws n) l o → MovesFront k b kind ws (suc n) m o
more_front k b kind ws n m l o later s h =
    let w = of_word k (role_at kind b n) (slice_index ws n) l o h in
    let g = s.front in
    let f : ℕ → List Source = λ p. if p == n then w.sources else g.parts p in
    let here : f n ≡ w.sources = ap (λ c. if c then w.sources else g.parts n) (eq-eqb n n refl) in
    let there : (p : ℕ) → p < n → f p ≡ g.parts p = λ p l. ap (λ c. if c then w.sources else g.parts p) (ne_eqb p n (λ e. absurd (omega (arith, l, e)))) in
    let front : joined f n ≡ joined g.parts n = joined_same f g.parts n there in
    record {
      sources = s.sources ++ w.sources;
      front = record {
        parts = f;
        each = λ p c l x. ⊎_elim
            (λ a. subst (Listed k c (slice_index ws p)) (sym (there p a)) (g.each p c a x))
            (λ a. let e : n ≡ p = omega (arith, l, a) in subst (λ q. IsInner (role_at kind b q) c → Listed k c (slice_index ws q) (f q)) e (λ y. subst (Listed k c (slice_index ws n)) (sym here) (w.listed c y)) x)
            (cases_lt p n);
        none = λ p l x. ⊎_elim
            (λ a. there p a ∙ g.none p a x)
            (λ a. let e : n ≡ p = omega (arith, l, a) in subst (λ q. ((c : Bool) → IsInner (role_at kind b q) c → ⊥) → f q ≡ []) e (λ y. here ∙ w.none y) x)
            (cases_lt p n);
        whole = ap (λ (xs : List Source). xs ++ w.sources) g.whole ∙ ap₂ (λ (x y : List Source). x ++ y) (sym front) (sym here);
      };
      moves = moves_then k m l o s.sources w.sources later s.moves w.moves;
    }

-- and where no more is moved in the tree of a word
pub front_stop : (k : Known) (b : Bool) (i kind : ℕ) (ws : List ℕ) (n : ℕ) (m l o : Mover) (e : Stop) → Later l o → words_at k (index_of i) ≡ Some (kind ∷ ws) → n < length ws → MovesFront k b kind ws n m l → IsStopInWord k (role_at kind b n) (slice_index ws n) l o e → IsStopInKey k b i m o e
front_stop k b i kind ws n m l o OutOfMemory later w lt s h = tt
front_stop k b i kind ws n m l o (Full shard) later w lt s h = by_role (role_at kind b n) refl h
  where
    at_word : (c : Bool) → IsInner (role_at kind b n) c → StopsInTree k c (slice_index ws n) l o shard → StopsInKey k b i m o shard
    at_word c x t = record {
      done = s.sources ++ t.done;
      next = t.next;
      before = record { kind = kind; ws = ws; words = w; n = n; sources = s.sources; front = s.front; way = inr (lt, c, t.done, x, t.before, refl) };
      at = stops_then k m l o shard s.sources t.done t.next later s.moves t.at;
    }

    by_role : (r : Role) → role_at kind b n ≡ r → IsStopInWord k r (slice_index ws n) l o (Full shard) → StopsInKey k b i m o shard
    by_role role.Number e y = absurd y
    by_role role.Part e y = at_word false (subst (λ r. IsInner r false) (sym e) refl) y
    by_role role.List e y = at_word true (subst (λ r. IsInner r true) (sym e) refl) y
    by_role role.Rest e y = absurd y

-- the row itself is not taken
pub own_stop : (k : Known) (b : Bool) (i kind : ℕ) (ws : List ℕ) (m l o : Mover) (key : List ℕ) (e : Stop) → Later l o → words_at k (index_of i) ≡ Some (kind ∷ ws) → MovesFront k b kind ws (length ws) m l → o.moved.items ≡ l.moved.items → places o.to ≡ places l.to → IsNewKey k (known o.to) o.moved.items b i key → IsStopAtKey o key e → IsStopInKey k b i m o e
own_stop k b i kind ws m l o key OutOfMemory later w s t r new h = absurd h
own_stop k b i kind ws m l o key (Full shard) later w s t r new h = record {
  done = s.sources;
  next = (b, i);
  before = record { kind = kind; ws = ws; words = w; n = length ws; sources = s.sources; front = s.front; way = inl (refl, refl, refl) };
  at = record { moves = adds_later k (places m.to) (olds m.moved.items) l.to o.to l.moved.items o.moved.items s.sources later.keeps later.moved r t s.moves; key = key; new = new; refused = h };
}

-- ---- the live indices

pub none_live : (k : Known) (m : Mover) → MovesAll k [] m m
none_live k m = record { listing = []; listed = refl; moves = adds_none k m.to m.moved.items }

listed_push : (k : Known) (live : List Index) (i : Index) (a b : List Source) → AllListed k live a → Listed k false i.0 b → AllListed k (live ++ i ∷ []) (a ++ b)
listed_push k [] i a b e h = (b, [], h, refl, ap (λ (xs : List Source). xs ++ b) e ∙ sym (append-nil b))
listed_push k (x ∷ live) i a b s h = (s.0, s.1 ++ b, s.2, listed_push k live i s.1 b s.3 h, ap (λ (xs : List Source). xs ++ b) s.4 ∙ append_assoc s.0 s.1 b)

pub more_live : (k : Known) (live : List Index) (i : Index) (m l n : Mover) → Later l n → MovesAll k live m l → MovesTree k false i.0 l n → MovesAll k (live ++ i ∷ []) m n
more_live k live i m l n h s t = record {
  listing = s.listing ++ t.listing;
  listed = listed_push k live i s.listing t.listing s.listed t.listed;
  moves = moves_then k m l n s.listing t.listing h s.moves t.moves;
}

live_up : (k : Known) (live more : List Index) (i : Index) (next : Source) (a done : List Source) → AllListed k live a → ListedUpTo k next false i.0 done → AllListedUpTo k next (live ++ i ∷ more) (a ++ done)
live_up k [] more i next a done e h = inl (subst (λ (xs : List Source). ListedUpTo k next false i.0 (xs ++ done)) (sym e) h)
live_up k (x ∷ live) more i next a done s h = inr (s.0, s.1 ++ done, s.2, live_up k live more i next s.1 done s.3 h, ap (λ (xs : List Source). xs ++ done) s.4 ∙ append_assoc s.0 s.1 done)

pub live_stop : (k : Known) (live more : List Index) (i : Index) (m l n : Mover) (e : Stop) → Later l n → MovesAll k live m l → IsStopInTree k false i.0 l n e → IsStopInAll k (live ++ i ∷ more) m n e
live_stop k live more i m l n OutOfMemory h s t = tt
live_stop k live more i m l n (Full shard) h s t = record {
  done = s.listing ++ t.done;
  next = t.next;
  before = live_up k live more i t.next s.listing t.done s.listed t.before;
  at = stops_then k m l n shard s.listing t.done t.next h s.moves t.at;
}

-- ---- a key that was moved, and its tree

same_rest : (o : Option (List ℕ)) (a b : ℕ) (us ws : List ℕ) → o ≡ Some (37 ∷ a ∷ us) → o ≡ Some (37 ∷ b ∷ ws) → a ≡ b
same_rest o a b us ws e f = cc

-- the rest is this one
pub of_rest : (k : Known) (b : Bool) (i x : ℕ) (us : List ℕ) (first : List Source) → words_at k (index_of i) ≡ Some (37 ∷ x ∷ us) → Listed k b x first → OfRest k b i first
of_rest k b i x us first w h = record {
  rest = λ y vs v. subst (λ z. Listed k b z first) (same_rest (words_at k (index_of i)) x y us vs w v) h;
  none = λ f. absurd (f x us w);
}

-- there is none
pub of_no_rest : (k : Known) (b : Bool) (i : ℕ) → ((x : ℕ) (us : List ℕ) → words_at k (index_of i) ≡ Some (37 ∷ x ∷ us) → ⊥) → OfRest k b i []
of_no_rest k b i f = record { rest = λ x us w. absurd (f x us w); none = λ g. refl }

pub key_tree : (k : Known) (b : Bool) (i : ℕ) (first : List Source) (m l n : Mover) → Later l n → OfRest k b i first → Moves k m l first → MovesKey k b i l n → MovesTree k b i m n
key_tree k b i first m l n h r a s = record {
  listing = first ++ (s.sources ++ (b, i) ∷ []);
  listed = key_listed k b i s.sources first s.inner r;
  moves = moves_then k m l n first (s.sources ++ (b, i) ∷ []) h a s.moves;
}

pub key_stop : (k : Known) (b : Bool) (i : ℕ) (cs : List ℕ) (c : ℕ) (first : List Source) (m l n : Mover) (e : Stop) → Later l n → IsChain k i cs c → OfRest k b c first → Moves k m l first → IsStopInKey k b c l n e → IsStopInTree k b i m n e
key_stop k b i cs c first m l n OutOfMemory h chain r a s = tt
key_stop k b i cs c first m l n (Full shard) h chain r a s = record {
  done = first ++ s.done;
  next = s.next;
  before = chain_up k b i cs c s.next (first ++ s.done) chain (key_up k b c s.done first s.next s.before r);
  at = stops_then k m l n shard first s.done s.next h a s.at;
}

-- what was moved adds nothing
pub tree_there : (k : Known) (b : Bool) (i : ℕ) (m : Mover) → HasTree k m.to m.moved.items b i → MovesTree k b i m m
tree_there k b i m s = record { listing = s.listing; listed = s.listed; moves = has_adds k m.to m.moved.items s.listing s.has }

-- with its row all that a key holds was moved
pub row_parts : (k : Known) (b : Bool) (i : ℕ) (m n : Mover) (j : ℕ) → MovesRow k b i m n j → ((x : ℕ) (us : List ℕ) → words_at k (index_of i) ≡ Some (37 ∷ x ∷ us) → HasTree k n.to n.moved.items b x) → HasParts k n.to n.moved.items b i
row_parts k b i m n j s tree = ⊎_elim
    (λ y.
    let w : words_at k (index_of i) ≡ Some (37 ∷ y.0 ∷ y.1) = s.inner.words ∙ ap Some (ap₂ (λ (x : ℕ) (xs : List ℕ). x ∷ xs) y.2 y.3) in
    let t = tree y.0 y.1 w in
    with_first t.listing t.has (of_rest k b i y.0 y.1 t.listing w t.listed))
    (λ f. with_first [] (has_none k n.to n.moved.items) (of_no_rest k b i (no_words k i s.inner.kind s.inner.ws s.inner.words f)))
    (rest_cases s.inner.kind s.inner.ws)
  where
    own : HasAll k n.to n.moved.items s.sources
    own = row_has k (olds m.moved.items) n.to n.moved.items s.sources s.new_places s.are s.pairs

    with_first : (first : List Source) → HasAll k n.to n.moved.items first → OfRest k b i first → HasParts k n.to n.moved.items b i
    with_first first h r = record {
      listing = first ++ s.sources;
      listed = subst (Listed k b i) (sym (append_assoc first s.sources ((b, i) ∷ []))) (key_listed k b i s.sources first s.inner r);
      has = has_append k n.to n.moved.items first s.sources h own;
    }

-- a list of parts has no pair of its own
pub parts_key : (k : Known) (i : ℕ) (m n : Mover) (j : ℕ) → MovesRow k true i m n j → IsNewRow k (known n.to) n.moved.items (true, i) j → MovesKey k true i m n
parts_key k i m n j s row = record {
  sources = s.sources;
  inner = s.inner;
  moves = adds_row k (places m.to) (olds m.moved.items) n.to n.moved.items s.sources true i j s.new_places s.are row s.rows (parts_pairs (olds m.moved.items) n.moved.items s.sources i s.pairs);
}

-- else its pair is noted
pub index_key : (k : Known) (i : ℕ) (m n o : Mover) (j : ℕ) → Later n o → o.to ≡ n.to → olds o.moved.items ≡ added (olds n.moved.items) i → MovesRow k false i m n j → IsNewRow k (known n.to) n.moved.items (false, i) j → MovesKey k false i m o
index_key k i m n o j h to e s row = record {
  sources = s.sources;
  inner = s.inner;
  moves = adds_row k (places m.to) (olds m.moved.items) o.to o.moved.items s.sources false i j s.new_places
      (new_rows_later k (known n.to) (known o.to) n.moved.items o.moved.items s.sources s.new_places h.keeps h.moved s.are)
      (new_row_later k (known n.to) (known o.to) n.moved.items o.moved.items (false, i) j h.keeps h.moved row)
      (ap places to ∙ s.rows) (index_pairs (olds m.moved.items) n.moved.items o.moved.items s.sources i s.pairs e);
}

-- the row of a key whose words were moved
pub row_moved : (k : Known) (b : Bool) (i kind : ℕ) (ws : List ℕ) (m l o : Mover) (j : ℕ) → Later l o → words_at k (index_of i) ≡ Some (kind ∷ ws) → MovesFront k b kind ws (length ws) m l → o.moved.items ≡ l.moved.items → places o.to ≡ added (places l.to) j → MovesRow k b i m o j
row_moved k b i kind ws m l o j h w s t e = record {
  sources = s.sources;
  inner = record { kind = kind; ws = ws; words = w; front = s.front };
  new_places = s.moves.new_places;
  are = new_rows_later k (known l.to) (known o.to) l.moved.items o.moved.items s.sources s.moves.new_places h.keeps h.moved s.moves.are;
  rows = e ∙ ap (λ (xs : List ℕ). added xs j) s.moves.rows;
  pairs = ap olds t ∙ s.moves.pairs;
}
