-- All that is reached was moved, where what is live was.
use Rattle.std.proofs.Common.{◌≡◌, inl, inr, ⊎_elim, ℕ, zero, suc, ◌+◌, ◌*◌, ◌^◌, ◌<◌, ◌≤◌, Bool, true, false, if◌then◌else◌, List, [], ◌∷◌, length, get_or, map, slice_index, Some, None, refl, sym, ap, ◌∙◌, subst, arith}
use Rattle.type_form.specs.declared.index.Index.{Index}
use Rattle.type_form.specs.Known.{Known, words_at, IsInjective}
use Rattle.type_form.specs.Words.{index_of}
use Rattle.type_form.specs.Denote.{denoted, list_in}
use Rattle.pool_words.specs.Layout.{Row, used, base, start, rows_of, IsLayout}
use Rattle.pool_words.proofs.Members.{used-nil}
use Rattle.pool_words.proofs.Opening.{no_rows as no_shard_rows}
use Rattle.pool_words.proofs.Places.{start_low}
use Rattle.pool_words.specs.Rule.{In, Laid}
use Rattle.pool_shard.specs.Pairs.{Rows, known, known_of, ArePlaced}
use Rattle.type_form.specs.declared.roles.Role.{Role}
use Rattle.type_form.specs.declared.roles.Role.TheVariants as role
use Rattle.type_form.specs.Roles.{role_at}
use Rattle.type_form.specs.Reach.{IsIndex, Live, Word}
use Rattle.pool_seat.specs.Reach.{Reached}
use Rattle.pool_seat.specs.Moves.{Pairs, IsMoved, AreMoved, IsListMoved, WordMoves, AreApart, HasMoved, IsRehomed}
use Rattle.pool_seat.specs.Order.{places}
use Rattle.pool_seat.specs.declared.mover.Mover.{Mover}
use Rattle.pool_seat.specs.Movers.{IsMover}
use Rattle.pool_seat.proofs.Depths.{In-at, In-front, In-back}
use Rattle.type_form.proofs.PartLemmas.{after_first}
use Rattle.pool_seat.proofs.RowMoves.{IsEnd, IsMore, deep_key, heads, tails}

-- an index was moved; the parts of a list were
abbrev Done : Known → Pairs → Bool → ℕ → Type 0
Done k moved false i = (j : ℕ) × IsMoved moved i j
Done k moved true i = (ns : List ℕ) × (list_in (denoted k) (index_of i) ≡ Some ns) × ((n : ℕ) → In n ns → (j : ℕ) × IsMoved moved n j)

each_moved : (moved : Pairs) (ns ms : List ℕ) → AreMoved moved ns ms → (n : ℕ) → In n ns → (j : ℕ) × IsMoved moved n j
each_moved moved [] [] a n i = absurd i
each_moved moved [] (m ∷ ms) a n i = absurd a
each_moved moved (x ∷ ns) [] a n i = absurd a
each_moved moved (x ∷ ns) (m ∷ ms) a n i = ⊎_elim (λ e. (m, subst (λ y. IsMoved moved y m) (sym e) a.0)) (λ t. each_moved moved ns ms a.1 n t) i

list_done : (k l : Known) (moved : Pairs) (i j : ℕ) → IsListMoved k l moved i j → Done k moved true i
list_done k l moved i j s = (s.parts, s.before, each_moved moved s.parts s.new_parts s.are)

-- the word of a key that was moved
word_done : (k l : Known) (moved : Pairs) (r : Role) (c : Bool) (w v : ℕ) → IsIndex false r c → WordMoves k l moved false r w v → Done k moved c w
word_done k l moved role.Number c w v x m = absurd x
word_done k l moved role.Part c w v x m = subst (λ b. Done k moved b w) (sym x) (v, m)
word_done k l moved role.List c w v x m = subst (λ b. Done k moved b w) (sym x) (list_done k l moved w v m)
word_done k l moved role.Rest c w v x m = subst (λ b. Done k moved b w) (sym x) (v, m)

-- of a list whose parts were moved
deep_done : (k : Known) (moved : Pairs) (i kind : ℕ) (ws : List ℕ) (p : ℕ) (c : Bool) → Done k moved true i → words_at k (index_of i) ≡ Some (kind ∷ ws) → p < length ws → IsIndex true (role_at kind true p) c → Done k moved c (slice_index ws p)
unfolding role_at
deep_done k moved i kind ws p c (ns, is, all) words l x = ⊎_elim short long (deep_key k i ns is)
  where
    short : IsEnd k i ns → Done k moved c (slice_index ws p)
    short e =
        let a : kind ≡ 36 = heads kind 36 ws ns (words_at k (index_of i)) words e.words in
        let b : ns ≡ ws = tails 36 kind ns ws (words_at k (index_of i)) e.words words in
        let y : c ≡ false = subst (λ n. IsIndex true (role_at n true p) c) a x in
        subst (λ b. Done k moved b (slice_index ws p)) (sym y) (all (slice_index ws p) (subst (λ (us : List ℕ). In (slice_index us p) ns) b (In-at ns p (subst (λ (us : List ℕ). p < length us) (sym b) l))))

    at_place : (e : IsMore k i ns) (q : ℕ) → q < length (e.rest ∷ e.front) → IsIndex true (role_at 37 true q) c → Done k moved c (slice_index (e.rest ∷ e.front) q)
    at_place e zero l y = subst (λ b. Done k moved b e.rest) (sym y) (e.back, e.behind, λ n i. all n (subst (In n) (sym e.whole) (In-back n e.front e.back i)))
    at_place e (suc q) l y =
        let z : c ≡ false = subst (λ b. IsIndex true (if b then role.Rest else role.Part) c) (after_first q) y in
        subst (λ b. Done k moved b (slice_index e.front q)) (sym z) (all (slice_index e.front q) (subst (In (slice_index e.front q)) (sym e.whole) (In-front (slice_index e.front q) e.front e.back (In-at e.front q (omega (arith, l))))))

    long : IsMore k i ns → Done k moved c (slice_index ws p)
    long e =
        let a : kind ≡ 37 = heads kind 37 ws (e.rest ∷ e.front) (words_at k (index_of i)) words e.words in
        let b : e.rest ∷ e.front ≡ ws = tails 37 kind (e.rest ∷ e.front) ws (words_at k (index_of i)) e.words words in
        subst (λ (us : List ℕ). Done k moved c (slice_index us p)) b (at_place e p (subst (λ (us : List ℕ). p < length us) (sym b) l) (subst (λ n. IsIndex true (role_at n true p) c) a x))

shallow_done : (k : Known) (live : List Index) (q : Rows) (moved : Pairs) (i kind : ℕ) (ws : List ℕ) (p : ℕ) (c : Bool) → HasMoved k live q moved → Done k moved false i → words_at k (index_of i) ≡ Some (kind ∷ ws) → p < length ws → IsIndex false (role_at kind false p) c → Done k moved c (slice_index ws p)
shallow_done k live q moved i kind ws p c h done words l x =
    let y = h.keys i done.0 done.1 in
    let n = y.2 in
    let a : n.kind ≡ kind = heads n.kind kind n.old_words ws (words_at k (index_of i)) n.before words in
    let b : n.old_words ≡ ws = tails n.kind kind n.old_words ws (words_at k (index_of i)) n.before words in
    let m = n.words p (subst (λ (us : List ℕ). p < length us) (sym b) l) in
    subst (λ (us : List ℕ). Done k moved c (slice_index us p)) b (word_done k (known q) moved (role_at n.kind false p) c (slice_index n.old_words p) (slice_index n.new_words p) (subst (λ z. IsIndex false (role_at z false p) c) (sym a) x) m)

step_done : (k : Known) (live : List Index) (q : Rows) (moved : Pairs) (b : Bool) (i kind : ℕ) (ws : List ℕ) (p : ℕ) (c : Bool) → HasMoved k live q moved → Done k moved b i → words_at k (index_of i) ≡ Some (kind ∷ ws) → p < length ws → IsIndex b (role_at kind b p) c → Done k moved c (slice_index ws p)
step_done k live q moved false i kind ws p c h done words l x = shallow_done k live q moved i kind ws p c h done words l x
step_done k live q moved true i kind ws p c h done words l x = deep_done k moved i kind ws p c done words l x

all_done : (k : Known) (live : List Index) (q : Rows) (moved : Pairs) → HasMoved k live q moved → ((i : Index) → In i live → (j : ℕ) × IsMoved moved i.0 j) → (b : Bool) (i : ℕ) → Reached k live b i → Done k moved b i
all_done k live q moved h first b i (Live x m) = first x m
all_done k live q moved h first b i (Word of_parts n kind ws p c r words l x) = step_done k live q moved of_parts n kind ws p c h (all_done k live q moved h first of_parts n r) words l x

suc_same : (a b : ℕ) → suc a ≡ suc b → a ≡ b
suc_same a b e = omega arith

-- what a mover that is done has moved
pub rehomed : (k : Known) (live : List Index) (m : Mover) → IsMover m → known m.from ≡ k → m.live.now ≡ live → ((i : Index) → In i m.live.now → (j : ℕ) × IsMoved m.moved.items i.0 j) → IsRehomed k live m.to m.moved.items
rehomed k live m h e v first =
    let has : HasMoved k live m.to m.moved.items = subst (λ x. HasMoved x live m.to m.moved.items) e (subst (λ y. HasMoved (known m.from) y m.to m.moved.items) v h.has) in
    record {
      has = has;
      whole = λ i r. all_done k live m.to m.moved.items has (subst (λ y. (i : Index) → In i y → (j : ℕ) × IsMoved m.moved.items i.0 j) v first) false i r;
      once = λ i j n a b. suc_same j n (sym (h.entered (index_of i) (index_of j) a) ∙ h.entered (index_of i) (index_of n) b);
    }

no_rows : (log : List Row) → known_of log ≡ [] → log ≡ []
no_rows [] e = refl
no_rows (r ∷ log) e = cc

-- nothing is moved yet
pub nothing_moved : (k : Known) (live : List Index) (p : Rows) → known p ≡ [] → HasMoved k live p []
nothing_moved k live p e =
    let n = no_rows p.view.log e in
    record {
      same = λ i j s. absurd s;
      reached = λ i j s. absurd s;
      keys = λ i j s. absurd s;
      rows = λ r i. absurd (subst (In r) n i);
      apart = subst AreApart (sym n) tt;
      injective = subst IsInjective (sym e) (record { once = λ i j ws a b. none ws a });
    }
  where
    none : {A : Type 0} (ws : List ℕ) → None ≡ Some ws → A
    none ws a = cc

pub no_places : (p : Rows) → known p ≡ [] → places p ≡ []
no_places p e = ap (map (λ (r : Row). r.0)) (no_rows p.view.log e)

-- an empty pool has its rows in place
pub empty_placed : (p : Rows) → IsLayout p.view.layout → known p ≡ [] → ArePlaced p.view.layout p.view.log
empty_placed p l e =
    let z = p.view.layout in
    let none : (s : ℕ) → rows_of z s p.view.log ≡ [] = λ s. ap (rows_of z s) (no_rows p.view.log e) ∙ no_shard_rows z s in
    record {
      placed = λ s lt. subst (Laid (base z s + start z)) (sym (none s)) tt;
      fit = λ s lt. let a = start_low z l in let u = ap used (none s) ∙ used-nil in omega arith;
      most = λ s lt. let n = ap length (none s) in let t : ℕ = 32 * 2 ^ z.top in let f : length (rows_of z s p.view.log) ≤ t = omega arith in f;
    }

pub In-get : (live : List Index) (p : ℕ) (d : Index) → p < length live → In (get_or live p d) live
In-get [] p d l = absurd (omega (arith, l))
In-get (x ∷ live) zero d l = inl refl
In-get (x ∷ live) (suc p) d l = inr (In-get live p d (omega (arith, l)))

pub get-In : (live : List Index) (d i : Index) → In i live → (p : ℕ) × (p < length live) × (get_or live p d ≡ i)
get-In [] d i h = absurd h
get-In (x ∷ live) d i h = ⊎_elim (λ e. (0, omega arith, sym e)) (λ t. let g = get-In live d i t in (suc g.0, (let l = g.1 in omega arith), g.2)) h
