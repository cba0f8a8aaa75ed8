-- How deep keys are followed from an index, and that what a key holds is less deep.
use Rattle.std.proofs.Common.{◌≡◌, inl, inr, ⊎_elim, ℕ, zero, suc, ◌+◌, ◌*◌, ◌/◌, ◌%◌, ◌^◌, ◌<◌, ◌≤◌, max, Bool, true, false, if◌then◌else◌, List, [], ◌∷◌, ◌++◌, length, slice_index, take, Option, Some, None, IsSome, is_some, unwrap_or, pos, negsuc, refl, sym, ap, ◌∙◌, subst, arith}
use Rattle.std.proofs.lemmas.List.{length-take}
use Rattle.std.proofs.Math.Nat.{le-max_left, le-max_right, max-le}
use Rattle.std.specs.List.{AllByRecursion}
use Rattle.std.specs.Str.{bytes_eq}
use Rattle.type_form.specs.declared.index.Index.{Index}
use Rattle.type_form.specs.declared.key.Key.{Key}
use Rattle.type_form.specs.declared.key.Key.TheVariants as key
use Rattle.type_form.specs.Known.{Known, words_at, key_at}
use Rattle.type_form.specs.Words.{index_of, words_of, key_of, guess, Fits}
use Rattle.type_form.specs.Denote.{Node, reading, denoted, node_of, list_in}
use Rattle.type_form.proofs.Depth.{denoted-is, reaches}
use Rattle.type_form.proofs.KeyKinds.{list_in-lower}
use Rattle.type_form.proofs.Options.{then_tells, some_lower}
use Rattle.type_form.proofs.WordLemmas.{words_of-key_of}
use Rattle.pool_words.specs.Rule.{In}
use Rattle.type_form.specs.declared.roles.Role.{Role}
use Rattle.type_form.specs.declared.roles.Role.TheVariants as role
use Rattle.pool_seat.specs.Movers.{WordNeeds, lowest, height, greatest, work, word_work}
use Rattle.type_form.specs.Parts.{PartOf}

low_holds : (test : ℕ → Bool) (n : ℕ) → test n ≡ true → test (lowest test n) ≡ true
low_holds test zero h = h
low_holds test (suc n) h = by_test (test zero) refl (low_holds (λ m. test (suc m)) n h)
  where
    by_test : (b : Bool) → test zero ≡ b → test (suc (lowest (λ m. test (suc m)) n)) ≡ true → test (lowest test (suc n)) ≡ true
    by_test true e g = ap (λ b. test (if b then zero else suc (lowest (λ m. test (suc m)) n))) e ∙ e
    by_test false e g = ap (λ b. test (if b then zero else suc (lowest (λ m. test (suc m)) n))) e ∙ g

not_false : (b : Bool) → b ≡ true → b ≡ false → ⊥
not_false b e f = cc

low_least : (test : ℕ → Bool) (n m : ℕ) → test m ≡ true → lowest test n ≤ m
low_least test zero m h = omega arith
low_least test (suc n) m h = by_test (test zero) refl m h (low_least (λ m. test (suc m)) n)
  where
    by_test : (b : Bool) → test zero ≡ b → (m : ℕ) → test m ≡ true → ((m : ℕ) → test (suc m) ≡ true → lowest (λ m. test (suc m)) n ≤ m) → lowest test (suc n) ≤ m
    by_test true e m h g = subst (λ b. (if b then zero else suc (lowest (λ m. test (suc m)) n)) ≤ m) (sym e) (omega arith)
    by_test false e zero h g = absurd (not_false (test zero) h e)
    by_test false e (suc m) h g = let l = g m h in subst (λ b. (if b then zero else suc (lowest (λ m. test (suc m)) n)) ≤ suc m) (sym e) (omega arith)

height_reads : (k : Known) (i : ℕ) → IsSome (denoted k (index_of i)) → IsSome (reading (height k i) k (index_of i))
unfolding height denoted
height_reads k i h = low_holds (λ n. is_some (reading n k (index_of i))) (length k + 1) h

pub height_least : (k : Known) (i n : ℕ) → IsSome (reading n k (index_of i)) → height k i ≤ n
unfolding height
height_least k i n h = low_least (λ n. is_some (reading n k (index_of i))) (length k + 1) n h

guess_is : (ws : List ℕ) (k : Key) → key_of ws ≡ Some k → guess ws ≡ k
unfolding key_of
guess_is ws k e = by_test (bytes_eq (words_of (guess ws)) ws) refl
  where
    by_test : (b : Bool) → bytes_eq (words_of (guess ws)) ws ≡ b → guess ws ≡ k
    by_test true t = let f = sym (ap (λ b. if b then Some (guess ws) else None) t) ∙ e in cc
    by_test false t = let f = sym (ap (λ b. if b then Some (guess ws) else None) t) ∙ e in cc

cut_low : (n : ℕ) → n % 2 ^ 32 ≡ n → n < 2 ^ 32
cut_low n h = omega arith

joined_low : (n : ℕ) → n % 2 ^ 64 + 2 ^ 64 * (n / 2 ^ 64 % 2 ^ 63) ≡ n → n < 2 ^ 127
joined_low n h = omega arith

few : (ns : List ℕ) → take 60 ns ≡ ns → length ns ≤ 60
few ns h = let e : length ns ≡ length (take 60 ns) = ap length (sym h) in omega (arith, length-take 60 ns)

-- a key that is read back from its words fits them
fits : (k : Key) → guess (words_of k) ≡ k → Fits k
fits (key.IntType b n) h = cut_low n (int_number _ _ _ _ h)
  where
    int_number : (b c : Bool) (n m : ℕ) → key.IntType b n ≡ key.IntType c m → n ≡ m
    int_number b c n m e = cc
fits (key.ContainerType d n l) h = cut_low n (ordinal _ _ _ _ _ _ h)
  where
    ordinal : (d e : Index) (n m : ℕ) (l q : Index) → key.ContainerType d n l ≡ key.ContainerType e m q → n ≡ m
    ordinal d e n m l q h = cc
fits (key.IntValue i (pos n)) h = joined_low n (number _ _ _ _ h)
  where
    number : (i j : Index) (n m : ℕ) → key.IntValue i (pos n) ≡ key.IntValue j (pos m) → n ≡ m
    number i j n m e = cc
fits (key.IntValue i (negsuc n)) h = joined_low n (number _ _ _ _ h)
  where
    number : (i j : Index) (n m : ℕ) → key.IntValue i (negsuc n) ≡ key.IntValue j (negsuc m) → n ≡ m
    number i j n m e = cc
fits (key.ComptimeDecl l n) h = cut_low n (number _ _ _ _ h)
  where
    number : (l q : Index) (n m : ℕ) → key.ComptimeDecl l n ≡ key.ComptimeDecl q m → n ≡ m
    number l q n m e = cc
fits (key.End ns) h = few ns (numbers _ _ h)
  where
    numbers : (ns ms : List ℕ) → key.End ns ≡ key.End ms → ns ≡ ms
    numbers ns ms e = cc
fits (key.More ns i) h = few ns (numbers _ _ _ _ h)
  where
    numbers : (ns ms : List ℕ) (i j : Index) → key.More ns i ≡ key.More ms j → ns ≡ ms
    numbers ns ms i j e = cc
fits (key.SimpleType s) h = tt
fits (key.ErrorSetType l) h = tt
fits (key.PointerType b i) h = tt
fits (key.SliceType b i) h = tt
fits (key.ArrayType n i) h = tt
fits (key.TerminatedType n) h = tt
fits (key.OptionalType i) h = tt
fits (key.ErrorUnionType i j) h = tt
fits (key.FileType l) h = tt
fits (key.FunctionType l i) h = tt
fits (key.UnionTagType i) h = tt
fits (key.SimpleValue i s) h = tt
fits (key.TagValue i l) h = tt
fits (key.ErrorValue i l) h = tt
fits (key.SomeValue i j) h = tt
fits (key.GoodValue i j) h = tt
fits (key.ListValue i l) h = tt
fits (key.TextValue i l) h = tt
fits (key.TaggedValue i l j) h = tt
fits (key.TypeValue i) h = tt
fits (key.FunctionValue d) h = tt
fits (key.AddressValue i d) h = tt
fits (key.ConstantValue i j) h = tt
fits (key.PlaceValue i n) h = tt
fits (key.PartValue i j n c) h = tt
fits (key.SliceValue i j lo hi) h = tt
fits (key.NamedDecl i l) h = tt
fits (key.KnownArg j) h = tt
fits (key.FunctionArg i d) h = tt
fits (key.TypedArg i) h = tt
fits (key.Instance d l) h = tt

-- the key at an index that denotes something, and what it denotes where its parts are read one step less deep
pub record HasDepth (k : Known) (i : ℕ) (m : Node) (d : ℕ) : Type 0 where
  pub key : Key
  pub high : height k i ≡ suc d
  pub words : words_at k (index_of i) ≡ Some (words_of key)
  pub fit : Fits key
  pub reads : node_of (reading d k) key ≡ Some m
  pub denotes : node_of (denoted k) key ≡ Some m

pub key_words : (k : Known) (i : Index) (key : Key) → key_at k i ≡ Some key → (words_at k i ≡ Some (words_of key)) × Fits key
unfolding key_at
key_words k i key e =
    let t = then_tells key_of (words_at k i) key e in
    let w = words_of-key_of t.0 key t.2 in
    (t.1 ∙ ap Some (sym w), fits key (ap guess w ∙ guess_is t.0 key t.2))

pub some_of : {X : Type 0} (o : Option X) → IsSome o → (x : X) × (o ≡ Some x)
some_of None h = cc
some_of (Some x) h = (x, refl)

pub one_some : {X : Type 0} (x y : X) (o : Option X) → o ≡ Some x → o ≡ Some y → x ≡ y
one_some x y o e f = cc

pub at_depth : (k : Known) (i : ℕ) (m : Node) → denoted k (index_of i) ≡ Some m → (d : ℕ) × HasDepth k i m d
at_depth k i m e = by_height (height k i) refl (height_reads k i (ap is_some e))
  where
    by_height : (h : ℕ) → height k i ≡ h → IsSome (reading (height k i) k (index_of i)) → (d : ℕ) × HasDepth k i m d
    by_height zero f s = absurd (not_false (is_some (reading (height k i) k (index_of i))) s (ap (λ n. is_some (reading n k (index_of i))) f))
    by_height (suc d) f s =
        let r = some_of (reading (suc d) k (index_of i)) (subst (λ n. IsSome (reading n k (index_of i))) f s) in
        let same : r.0 ≡ m = one_some r.0 m (denoted k (index_of i)) (reaches (suc d) k (index_of i) r.0 r.1) e in
        let t = then_tells (node_of (reading d k)) (key_at k (index_of i)) r.0 r.1 in
        let w = key_words k (index_of i) t.0 t.1 in
        let u = then_tells (node_of (denoted k)) (key_at k (index_of i)) m (sym (denoted-is k (index_of i)) ∙ e) in
        let one : u.0 ≡ t.0 = one_some u.0 t.0 (key_at k (index_of i)) u.1 t.1 in
        (d, record { key = t.0; high = f; words = w.0; fit = w.1; reads = t.2 ∙ ap Some same; denotes = subst (λ x. node_of (denoted k) x ≡ Some m) one u.2 })

-- the greatest of numbers
pub greatest_has : (f : ℕ → ℕ) (ns : List ℕ) (n : ℕ) → In n ns → f n ≤ greatest f ns
greatest_has f [] n i = absurd i
greatest_has f (m ∷ ns) n i = ⊎_elim (λ e. let a = le-max_left (f m) (greatest f ns) in subst (λ x. f x ≤ max (f m) (greatest f ns)) (sym e) a) (λ j. let a = greatest_has f ns n j in let b = le-max_right (f m) (greatest f ns) in omega arith) i

greatest_least : (f : ℕ → ℕ) (ns : List ℕ) (b : ℕ) → ((n : ℕ) → In n ns → f n ≤ b) → greatest f ns ≤ b
greatest_least f [] b h = omega arith
greatest_least f (m ∷ ns) b h = max-le (h m (inl refl)) (greatest_least f ns b (λ n i. h n (inr i)))

pub greatest_back : (f : ℕ → ℕ) (us ms : List ℕ) → greatest f ms ≤ greatest f (us ++ ms)
greatest_back f [] ms = omega arith
greatest_back f (u ∷ us) ms = let a = greatest_back f us ms in let b = le-max_right (f u) (greatest f (us ++ ms)) in omega arith

pub In-at : (ns : List ℕ) (p : ℕ) → p < length ns → In (slice_index ns p) ns
In-at [] p l = absurd (omega (arith, l))
In-at (n ∷ ns) zero l = inl refl
In-at (n ∷ ns) (suc p) l = inr (In-at ns p (omega (arith, l)))

pub In-front : (x : ℕ) (us ms : List ℕ) → In x us → In x (us ++ ms)
In-front x [] ms i = absurd i
In-front x (u ∷ us) ms i = ⊎_elim (λ e. inl e) (λ j. inr (In-front x us ms j)) i

pub In-back : (x : ℕ) (us ms : List ℕ) → In x ms → In x (us ++ ms)
In-back x [] ms i = i
In-back x (u ∷ us) ms i = inr (In-back x us ms i)

-- a word that can be moved, with no more work than this
pub record WordFits (k : Known) (r : Role) (w n : ℕ) : Type 0 where
  pub needs : WordNeeds k r w
  pub less : word_work k r w ≤ n

pub list_work : (k : Known) (l : ℕ) (ns : List ℕ) → list_in (denoted k) (index_of l) ≡ Some ns → work k true l ≡ 2 * greatest (height k) ns + 1
unfolding work
list_work k l ns e = ap (λ o. 2 * greatest (height k) (unwrap_or o []) + 1) e

pub part_work : (k : Known) (i : ℕ) → work k false i ≡ 2 * height k i
unfolding work
part_work k i = refl

all_in : (P : ℕ → Type 0) (ns : List ℕ) → AllByRecursion P ns → (n : ℕ) → In n ns → P n
all_in P [] a n i = absurd i
all_in P (m ∷ ns) a n i = ⊎_elim (λ q. subst P (sym q) a.0) (λ j. all_in P ns a.1 n j) i

pub part_fits : (k : Known) (d : ℕ) (r : Role) (w : ℕ) → PartOf (reading d k) r w → WordFits k r w (8 * d + 8)
part_fits k d role.Number w h = record { needs = tt; less = omega arith }
part_fits k d role.Rest w h = record { needs = tt; less = omega arith }
part_fits k d role.Part w h =
    let l = height_least k w d h in
    let e = part_work k w in
    record { needs = some_lower _ _ (reaches d k (index_of w)) h; less = omega arith }
part_fits k d role.List w h =
    let ns : List ℕ = h.0 in
    let is : list_in (denoted k) (index_of w) ≡ Some ns = list_in-lower (reading d k) (denoted k) (reaches d k) (index_of w) ns h.1 in
    let each : (n : ℕ) → In n ns → IsSome (reading d k (index_of n)) = all_in (λ n. IsSome (reading d k (index_of n))) ns h.2 in
    let g : greatest (height k) ns ≤ d = greatest_least (height k) ns d (λ n i. height_least k n d (each n i)) in
    let e = list_work k w ns is in
    record { needs = (ns, is, λ n i. some_lower _ _ (reaches d k (index_of n)) (each n i)); less = omega arith }
