-- What a row needs to be moved, and what its new row denotes.
use Rattle.std.proofs.Common.{◌≡◌, inl, inr, ⊎_elim, ◌⊎◌, ℕ, zero, suc, ◌+◌, ◌*◌, ◌<◌, ◌≤◌, Bool, true, false, if◌then◌else◌, List, [], ◌∷◌, ◌++◌, length, slice_index, drop, Option, Some, IsSome, refl, sym, ap, ap₂, ◌∙◌, subst, arith}
use Rattle.type_form.specs.declared.index.Index.{Index}
use Rattle.type_form.specs.declared.key.Key.{Key}
use Rattle.type_form.specs.declared.key.Key.TheVariants as key
use Rattle.type_form.specs.Known.{Known, words_at}
use Rattle.type_form.specs.Words.{index_of, words_of}
use Rattle.type_form.specs.Denote.{reading, denoted, node_of, list_in, more_of}
use Rattle.type_form.specs.Means.{list_at, IsListOf}
use Rattle.type_form.proofs.Depth.{reaches}
use Rattle.type_form.proofs.MeansLemmas.{list_part, IsListOf-key, IsList-has_key, list_whole}
use Rattle.type_form.proofs.Options.{then_tells, some_lower}
use Rattle.pool_words.specs.Rule.{In}
use Rattle.type_form.specs.declared.roles.Role.{Role}
use Rattle.type_form.specs.declared.roles.Role.TheVariants as role
use Rattle.type_form.specs.Roles.{role_at}
use Rattle.type_form.specs.Reach.{IsIndex, Word}
use Rattle.pool_seat.specs.Reach.{Reached}
use Rattle.pool_seat.specs.Movers.{AllDenote, Needs, WordReached, height, work, IsChain}
use Rattle.type_form.specs.Parts.{PartOf, kind_of, rest_of}
use Rattle.type_form.proofs.PartLemmas.{after_first, parts_denote, list_in_some}
use Rattle.pool_seat.proofs.Depths.{at_depth, key_words, some_of, one_some, height_least, greatest_has, greatest_back, In-at, In-front, In-back, WordFits, list_work, part_work, part_fits}

-- the key of a list with a rest
more_key : (k : Key) (x : ℕ) (us : List ℕ) → words_of k ≡ 37 ∷ x ∷ us → k ≡ key.More us (index_of x)
more_key (key.More ns i) x us e = let a : i.0 ≡ x = cc in let b : ns ≡ us = cc in ap₂ (λ (ns : List ℕ) (i : Index). key.More ns i) b (ap index_of a)
more_key k x us e = absurd (omega (arith, ap (λ (ws : List ℕ). slice_index ws 0) e))

-- a key's words begin with the number of its kind
words_start : (k : Key) → words_of k ≡ kind_of k ∷ rest_of k
words_start (key.SimpleType s) = refl
words_start (key.IntType b n) = refl
words_start (key.ErrorSetType l) = refl
words_start (key.PointerType b i) = refl
words_start (key.SliceType b i) = refl
words_start (key.ArrayType n i) = refl
words_start (key.TerminatedType n) = refl
words_start (key.OptionalType i) = refl
words_start (key.ErrorUnionType i j) = refl
words_start (key.FileType l) = refl
words_start (key.ContainerType d n l) = refl
words_start (key.FunctionType l i) = refl
words_start (key.UnionTagType i) = refl
words_start (key.SimpleValue i s) = refl
words_start (key.IntValue i z) = refl
words_start (key.TagValue i l) = refl
words_start (key.ErrorValue i l) = refl
words_start (key.SomeValue i j) = refl
words_start (key.GoodValue i j) = refl
words_start (key.ListValue i l) = refl
words_start (key.TextValue i l) = refl
words_start (key.TaggedValue i l j) = refl
words_start (key.TypeValue i) = refl
words_start (key.FunctionValue d) = refl
words_start (key.AddressValue i d) = refl
words_start (key.ConstantValue i j) = refl
words_start (key.PlaceValue i n) = refl
words_start (key.PartValue i j n c) = refl
words_start (key.SliceValue i j lo hi) = refl
words_start (key.NamedDecl i l) = refl
words_start (key.ComptimeDecl l n) = refl
words_start (key.KnownArg j) = refl
words_start (key.FunctionArg i d) = refl
words_start (key.TypedArg i) = refl
words_start (key.Instance d l) = refl
words_start (key.End ns) = refl
words_start (key.More ns i) = refl

more_words : (k : Key) → kind_of k ≡ 37 → (x : ℕ) × (us : List ℕ) × (words_of k ≡ 37 ∷ x ∷ us)
more_words (key.More ns i) e = (i.0, ns, refl)
more_words k e = absurd (omega (arith, e))

-- the words at an index that denotes something
pub row_starts : (k : Known) (i : ℕ) (ws : List ℕ) → IsSome (denoted k (index_of i)) → words_at k (index_of i) ≡ Some ws → ws ≡ slice_index ws 0 ∷ drop 1 ws
row_starts k i ws some e =
    let s = some_of (denoted k (index_of i)) some in
    let a = at_depth k i s.0 s.1 in
    subst (λ (us : List ℕ). us ≡ slice_index us 0 ∷ drop 1 us) (one_some (words_of a.1.key) ws (words_at k (index_of i)) a.1.words e) (words_start a.1.key)

pub list_starts : (k : Known) (i : ℕ) (ws : List ℕ) → IsSome (denoted k (index_of i)) → words_at k (index_of i) ≡ Some ws → slice_index ws 0 ≡ 37 → (x : ℕ) × (us : List ℕ) × (ws ≡ 37 ∷ x ∷ us)
list_starts k i ws some e first =
    let s = some_of (denoted k (index_of i)) some in
    let a = at_depth k i s.0 s.1 in
    let w = one_some (words_of a.1.key) ws (words_at k (index_of i)) a.1.words e in
    let m = more_words a.1.key (ap (λ (us : List ℕ). slice_index us 0) w ∙ first) in
    (m.0, m.1, sym w ∙ m.2)

-- a list in one key
pub record IsEnd (k : Known) (i : ℕ) (ns : List ℕ) : Type 0 where
  pub short : length ns ≤ 60
  pub words : words_at k (index_of i) ≡ Some (36 ∷ ns)

-- a longer one
pub record IsMore (k : Known) (i : ℕ) (ns : List ℕ) : Type 0 where
  pub rest : ℕ
  pub front : List ℕ
  pub back : List ℕ
  pub words : words_at k (index_of i) ≡ Some (37 ∷ rest ∷ front)
  pub full : length front ≡ 60
  pub some : 0 < length back
  pub behind : list_in (denoted k) (index_of rest) ≡ Some back
  pub whole : ns ≡ front ++ back

by_key : (k : Known) (i : ℕ) (ns : List ℕ) (y : Key) → words_at k (index_of i) ≡ Some (words_of y) → IsListOf k y ns → IsEnd k i ns ⊎ IsMore k i ns
by_key k i ns (key.End us) w l = inl (record { short = subst (λ (xs : List ℕ). length xs ≤ 60) (sym l.1) l.0; words = w ∙ ap (λ (xs : List ℕ). Some (36 ∷ xs)) (sym l.1) })
by_key k i ns (key.More us x) w l = inr (record { rest = x.0; front = us; back = list_at k x; words = w; full = l.1; some = l.2; behind = list_whole k x l.0; whole = l.3 })
by_key k i ns y w l = absurd l

pub deep_key : (k : Known) (i : ℕ) (ns : List ℕ) → list_in (denoted k) (index_of i) ≡ Some ns → IsEnd k i ns ⊎ IsMore k i ns
deep_key k i ns e =
    let p = list_part k (index_of i) ns e in
    let h = IsList-has_key k (index_of i) p.0 in
    let w = key_words k (index_of i) h.0 h.1.is in
    by_key k i ns h.0 w.0 (subst (IsListOf k h.0) (sym p.1) (IsListOf-key k (index_of i) h.0 h.1 p.0))

-- words that are the same
pub heads : (a b : ℕ) (us ws : List ℕ) (o : Option (List ℕ)) → o ≡ Some (a ∷ us) → o ≡ Some (b ∷ ws) → a ≡ b
heads a b us ws o e f = cc

pub tails : (a b : ℕ) (us ws : List ℕ) (o : Option (List ℕ)) → o ≡ Some (a ∷ us) → o ≡ Some (b ∷ ws) → us ≡ ws
tails a b us ws o e f = cc

rest_fits : (k : Known) (w n : ℕ) → WordFits k role.Rest w n
rest_fits k w n = record { needs = tt; less = omega arith }

shallow_fits : (k : Known) (i kind : ℕ) (ws : List ℕ) (p : ℕ) → Needs k false i → words_at k (index_of i) ≡ Some (kind ∷ ws) → p < length ws → WordFits k (role_at kind false p) (slice_index ws p) (4 * work k false i)
shallow_fits k i kind ws p needs words l =
    let s = some_of (denoted k (index_of i)) needs in
    let a = at_depth k i s.0 s.1 in
    let h = a.1 in
    let d : ℕ = a.0 in
    let all : words_of h.key ≡ kind ∷ ws = one_some (words_of h.key) (kind ∷ ws) (words_at k (index_of i)) h.words words in
    let part = parts_denote (reading d k) h.key s.0 h.reads p (subst (λ (us : List ℕ). p < length (drop 1 us)) (sym all) l) in
    let part' : PartOf (reading d k) (role_at kind false p) (slice_index ws p) = subst (λ (us : List ℕ). PartOf (reading d k) (role_at (slice_index us 0) false p) (slice_index (drop 1 us) p)) all part in
    let b : 8 * d + 8 ≡ 4 * work k false i = let e = part_work k i in let f = h.high in omega arith in
    subst (WordFits k (role_at kind false p) (slice_index ws p)) b (part_fits k d (role_at kind false p) (slice_index ws p) part')

listed_fits : (k : Known) (i : ℕ) (ns : List ℕ) (w : ℕ) → list_in (denoted k) (index_of i) ≡ Some ns → AllDenote k ns → In w ns → WordFits k role.Part w (4 * work k true i)
listed_fits k i ns w e all j =
    let g = greatest_has (height k) ns w j in
    let x = part_work k w in
    let y = list_work k i ns e in
    record { needs = all w j; less = omega arith }

deep_fits : (k : Known) (i kind : ℕ) (ws : List ℕ) (p : ℕ) → Needs k true i → words_at k (index_of i) ≡ Some (kind ∷ ws) → p < length ws → WordFits k (role_at kind true p) (slice_index ws p) (4 * work k true i)
unfolding role_at
deep_fits k i kind ws p (ns, is, all) words l = ⊎_elim short long (deep_key k i ns is)
  where
    short : IsEnd k i ns → WordFits k (role_at kind true p) (slice_index ws p) (4 * work k true i)
    short e =
        let a : 36 ≡ kind = heads 36 kind ns ws (words_at k (index_of i)) e.words words in
        let b : ns ≡ ws = tails 36 kind ns ws (words_at k (index_of i)) e.words words in
        subst (λ n. WordFits k (role_at n true p) (slice_index ws p) (4 * work k true i)) a
        (listed_fits k i ns (slice_index ws p) is all (subst (λ (us : List ℕ). In (slice_index us p) ns) b (In-at ns p (subst (λ (us : List ℕ). p < length us) (sym b) l))))

    at_place : (q : ℕ) (e : IsMore k i ns) → q < length (e.rest ∷ e.front) → WordFits k (role_at 37 true q) (slice_index (e.rest ∷ e.front) q) (4 * work k true i)
    at_place zero e l = rest_fits k e.rest (4 * work k true i)
    at_place (suc q) e l = subst (λ b. WordFits k (if b then role.Rest else role.Part) (slice_index e.front q) (4 * work k true i)) (sym (after_first q))
        (listed_fits k i ns (slice_index e.front q) is all (subst (In (slice_index e.front q)) (sym e.whole) (In-front (slice_index e.front q) e.front e.back (In-at e.front q (omega (arith, l))))))

    long : IsMore k i ns → WordFits k (role_at kind true p) (slice_index ws p) (4 * work k true i)
    long e =
        let a : 37 ≡ kind = heads 37 kind (e.rest ∷ e.front) ws (words_at k (index_of i)) e.words words in
        let b : e.rest ∷ e.front ≡ ws = tails 37 kind (e.rest ∷ e.front) ws (words_at k (index_of i)) e.words words in
        subst (λ n. WordFits k (role_at n true p) (slice_index ws p) (4 * work k true i)) a
        (subst (λ (us : List ℕ). WordFits k (role_at 37 true p) (slice_index us p) (4 * work k true i)) b (at_place p e (subst (λ (us : List ℕ). p < length us) (sym b) l)))

-- what the words of a key need
pub row_fits : (k : Known) (b : Bool) (i kind : ℕ) (ws : List ℕ) (p : ℕ) → Needs k b i → words_at k (index_of i) ≡ Some (kind ∷ ws) → p < length ws → WordFits k (role_at kind b p) (slice_index ws p) (4 * work k b i)
row_fits k false i kind ws p needs words l = shallow_fits k i kind ws p needs words l
row_fits k true i kind ws p needs words l = deep_fits k i kind ws p needs words l

-- the rest of a list is less deep
pub rest_less : (k : Known) (c x : ℕ) (us : List ℕ) → IsSome (denoted k (index_of c)) → words_at k (index_of c) ≡ Some (37 ∷ x ∷ us) → IsSome (denoted k (index_of x)) × (height k x < height k c)
rest_less k c x us needs words =
    let s = some_of (denoted k (index_of c)) needs in
    let a = at_depth k c s.0 s.1 in
    let h = a.1 in
    let d : ℕ = a.0 in
    let y : h.key ≡ key.More us (index_of x) = more_key h.key x us (one_some (words_of h.key) (37 ∷ x ∷ us) (words_at k (index_of c)) h.words words) in
    let t = then_tells (more_of us) (list_in (reading d k) (index_of x)) s.0 (subst (λ z. node_of (reading d k) z ≡ Some s.0) y h.reads) in
    let r = list_in_some (reading d k) (index_of x) t.0 t.1 in
    let l = height_least k x d r in
    let g = h.high in
    (some_lower _ _ (reaches d k (index_of x)) r, omega arith)

-- the rest of a list needs what the list needs
pub rest_needs : (k : Known) (b : Bool) (c x : ℕ) (us : List ℕ) → Needs k b c → words_at k (index_of c) ≡ Some (37 ∷ x ∷ us) → Needs k b x × (work k b x ≤ work k b c)
rest_needs k false c x us needs words = let r = rest_less k c x us needs words in let l = r.1 in let e = part_work k x in let f = part_work k c in (r.0, omega arith)
rest_needs k true c x us (ns, is, all) words = ⊎_elim short long (deep_key k c ns is)
  where
    short : IsEnd k c ns → Needs k true x × (work k true x ≤ work k true c)
    short e = absurd (omega (arith, heads 36 37 ns (x ∷ us) (words_at k (index_of c)) e.words words))

    long : IsMore k c ns → Needs k true x × (work k true x ≤ work k true c)
    long e =
        let b : e.rest ∷ e.front ≡ x ∷ us = tails 37 37 (e.rest ∷ e.front) (x ∷ us) (words_at k (index_of c)) e.words words in
        let r : e.rest ≡ x = ap (λ (ws : List ℕ). slice_index ws 0) b in
        let behind = subst (λ n. list_in (denoted k) (index_of n) ≡ Some e.back) r e.behind in
        let g = greatest_back (height k) e.front e.back in
        let y = list_work k x e.back behind in
        let z = list_work k c (e.front ++ e.back) (is ∙ ap Some e.whole) in
        ((e.back, behind, λ n i. all n (subst (In n) (sym e.whole) (In-back n e.front e.back i))), omega arith)

-- along a chain
pub chain_needs : (k : Known) (b : Bool) (i : ℕ) (cs : List ℕ) (e : ℕ) → IsChain k i cs e → Needs k b i → Needs k b e × (work k b e ≤ work k b i)
chain_needs k b i [] e h needs = (subst (Needs k b) h needs, subst (λ n. work k b n ≤ work k b i) h (omega arith))
chain_needs k b i (c ∷ cs) e h needs =
    let a = rest_needs k b c h.1 h.2 (subst (Needs k b) h.0 needs) h.3 in
    let g = chain_needs k b h.1 cs e h.4 a.0 in
    (g.0, let y = subst (λ n. work k b h.1 ≤ work k b n) (sym h.0) a.1 in let z = g.1 in omega arith)

pub chain_push : (k : Known) (i : ℕ) (cs : List ℕ) (c x : ℕ) (us : List ℕ) → IsChain k i cs c → words_at k (index_of c) ≡ Some (37 ∷ x ∷ us) → IsChain k i (cs ++ c ∷ []) x
chain_push k i [] c x us h w = (h, x, us, w, refl)
chain_push k i (d ∷ cs) c x us h w = (h.0, h.1, h.2, h.3, chain_push k h.1 cs c x us h.4 w)

pub chain_pop : (k : Known) (i : ℕ) (cs : List ℕ) (c e : ℕ) → IsChain k i (cs ++ c ∷ []) e → IsChain k i cs c × (us : List ℕ) × (words_at k (index_of c) ≡ Some (37 ∷ e ∷ us))
chain_pop k i [] c e h = (h.0, h.2, subst (λ x. words_at k (index_of c) ≡ Some (37 ∷ x ∷ h.2)) h.4 h.3)
chain_pop k i (d ∷ cs) c e h = let g = chain_pop k h.1 cs c e h.4 in ((h.0, h.1, h.2, h.3, g.0), g.1, g.2)

-- what can be moved denotes something
pub needs_some : (k : Known) (b : Bool) (i : ℕ) → Needs k b i → IsSome (denoted k (index_of i))
needs_some k false i needs = needs
needs_some k true i needs = list_in_some (denoted k) (index_of i) needs.0 needs.1

-- what is reached along a chain
pub chain_reached : (k : Known) (live : List Index) (b : Bool) (i : ℕ) (cs : List ℕ) (e : ℕ) → IsChain k i cs e → Reached k live b i → Reached k live b e
unfolding role_at
chain_reached k live b i [] e h r = subst (Reached k live b) h r
chain_reached k live b i (c ∷ cs) e h r = chain_reached k live b h.1 cs e h.4 (Word b c 37 (h.1 ∷ h.2) 0 b (subst (Reached k live b) h.0 r) h.3 (omega arith) refl)

by_role : (k : Known) (live : List Index) (b : Bool) (i kind : ℕ) (ws : List ℕ) (p : ℕ) (r : Role) → role_at kind b p ≡ r → Reached k live b i → words_at k (index_of i) ≡ Some (kind ∷ ws) → p < length ws → WordReached k live r (slice_index ws p)
by_role k live b i kind ws p role.Number e h w l = tt
by_role k live b i kind ws p role.Part e h w l = Word b i kind ws p false h w l (subst (λ r. IsIndex b r false) (sym e) refl)
by_role k live b i kind ws p role.List e h w l = Word b i kind ws p true h w l (subst (λ r. IsIndex b r true) (sym e) refl)
by_role k live b i kind ws p role.Rest e h w l = tt

-- and by the words of a key
pub word_reached : (k : Known) (live : List Index) (b : Bool) (i kind : ℕ) (ws : List ℕ) (p : ℕ) → Reached k live b i → words_at k (index_of i) ≡ Some (kind ∷ ws) → p < length ws → WordReached k live (role_at kind b p) (slice_index ws p)
word_reached k live b i kind ws p h w l = by_role k live b i kind ws p (role_at kind b p) refl h w l
