-- Names and the map from names to their numbers.
use Rattle.std.proofs.Common.{◌≡◌, ℕ, ◌+◌, ◌<◌, ◌≤◌, ◌==◌, nat_lt, not, eqb-true, length-append, ◌++◌, Bool, true, false, cond, if◌then◌else◌, List, [], ◌∷◌, length, Option, Some, None, refl, sym, ap, ◌∙◌, subst, arith, Vec}
use Rattle.std.proofs.lemmas.Slice.Eq.{bytes_eq-Decides}
use Rattle.std.proofs.lemmas.List.Folds.{position_or_len_push}
use Rattle.std.proofs.lemmas.Bool.Decides.{nat_tests}
use Rattle.std.specs.Str.{bytes_eq}
use Rattle.std.specs.BTreeMap.{BTreeMap, get_by, is_at, IsEmpty, UpdatesBy}
use Rattle.std.specs.Map.{lookup, KeepsOthers, IsKeyTest, AreApart}
use Rattle.std.specs.Ordering.{nat_cmp, is_eq}
use Rattle.std.specs.Cmp.Lexicographic.{slice_cmp}
use Rattle.std.proofs.lemmas.Cmp.{nat_list_cmp_total, eq_by_cmp_equiv, nat_list_eq_equiv}
use Rattle.std.proofs.lemmas.Map.Text.{is_eq-slice_cmp}
use Rattle.std.specs.declared.alloc.Global.{Global}
use Rattle.wasm_link.specs.Names.{number_of}
use Rattle.wasm_link.specs.NameTable.{place_in, AreNumbered}

pub AreNumbered-empty : (places : BTreeMap (Vec ℕ Global) ℕ) → IsEmpty places → AreNumbered places []
unfolding place_in
AreNumbered-empty places e = record {
  placed = λ name. ap (λ (es : List (Vec ℕ Global × ℕ)). lookup (is_at (λ k. slice_cmp nat_cmp name k.items)) es) e;
}

apart : (bs cs ks : List ℕ) → bytes_eq bs cs ≡ false → bytes_eq bs ks ≡ true → bytes_eq cs ks ≡ false
apart bs cs ks n y = nat_list_eq_equiv.symm cs ks ∙ sym (nat_list_eq_equiv.congr bs ks cs y) ∙ n

apart_in_order : (bs cs ks : List ℕ) → bytes_eq bs cs ≡ false → is_eq (slice_cmp nat_cmp bs ks) ≡ true → is_eq (slice_cmp nat_cmp cs ks) ≡ false
apart_in_order bs cs ks n y = is_eq-slice_cmp cs ks ∙ apart bs cs ks n (sym (is_eq-slice_cmp bs ks) ∙ y)

others : (old new : List (Vec ℕ Global × ℕ)) (eq : Vec ℕ Global → Vec ℕ Global → Bool) (test : Vec ℕ Global → Bool) → KeepsOthers eq test old new
    → (other : Vec ℕ Global → Bool) → IsKeyTest eq other → AreApart test other → lookup other new ≡ lookup other old
unfolding KeepsOthers
others old new eq test h = h

place_in-updated : (bs : List ℕ) (old new : BTreeMap (Vec ℕ Global) ℕ) (w : Option ℕ) → UpdatesBy (λ x y. slice_cmp nat_cmp x.items y.items) (λ k. slice_cmp nat_cmp bs k.items) old new w
    → (cs : List ℕ) → place_in new cs ≡ (if bytes_eq bs cs then w else place_in old cs)
unfolding place_in
place_in-updated bs old new w h cs = by_test (bytes_eq bs cs) refl
  where
    by_test : (b : Bool) → bytes_eq bs cs ≡ b → get_by (λ k. slice_cmp nat_cmp cs k.items) new ≡ (if bytes_eq bs cs then w else get_by (λ k. slice_cmp nat_cmp cs k.items) old)
    by_test true t = subst (λ l. get_by (λ k. slice_cmp nat_cmp l k.items) new ≡ w) ((bytes_eq-Decides bs cs).0 t) h.1 ∙ sym (ap (λ b. if b then w else get_by (λ k. slice_cmp nat_cmp cs k.items) old) t)
    by_test false t = others old.entries new.entries _ _ h.3 (is_at (λ k. slice_cmp nat_cmp cs k.items)) (λ x y. (eq_by_cmp_equiv nat_list_cmp_total).congr cs x.items y.items) (λ k. apart_in_order bs cs k.items t) ∙ sym (ap (λ b. if b then w else get_by (λ k. slice_cmp nat_cmp cs k.items) old) t)

-- after an insertion the map has the new number at the name, and at any other what it had
pub place_in-inserted : (bs ds : List ℕ) (old new : BTreeMap (Vec ℕ Global) ℕ) (w : Option ℕ) → bs ≡ ds → UpdatesBy (λ x y. slice_cmp nat_cmp x.items y.items) (λ k. slice_cmp nat_cmp bs k.items) old new w
    → (cs : List ℕ) → place_in new cs ≡ (if bytes_eq ds cs then w else place_in old cs)
place_in-inserted bs ds old new w e h cs = place_in-updated bs old new w h cs ∙ ap (λ x. if bytes_eq x cs then w else place_in old cs) e

pub number_within : (names : List (List ℕ)) (name : List ℕ) → number_of names name ≤ length names
number_within [] name = omega arith
number_within (n ∷ names) name = within (bytes_eq n name) (number_within names name)
  where
    within : (b : Bool) → number_of names name ≤ length names → (if not b then 1 + number_of names name else 0) ≤ length (n ∷ names)
    within true h = omega arith
    within false h = omega (arith, h)

-- a number, if it is within a length
abbrev number_in : ℕ → ℕ → Option ℕ
number_in len n = if nat_lt n len then Some n else None

none_in : (len n : ℕ) → n ≤ len → number_in len n ≡ None → n ≡ len
none_in len n le = by_test (nat_lt n len) refl
  where
    by_test : (b : Bool) → nat_lt n len ≡ b → (if b then Some n else None) ≡ None → n ≡ len
    by_test true t e = cc
    by_test false t e = grind (arith, nat_tests)

some_in : (len n k : ℕ) → number_in len n ≡ Some k → k ≡ n
some_in len n k = by_test (nat_lt n len)
  where
    by_test : (b : Bool) → (if b then Some n else None) ≡ Some k → k ≡ n
    by_test true e = cc
    by_test false e = cc

in_true : (len n : ℕ) → n < len → number_in len n ≡ Some n
in_true len n lt = grind (arith, nat_tests)

in_false : (len n : ℕ) → len ≤ n → number_in len n ≡ None
in_false len n le = grind (arith, nat_tests)

-- after another name the number is the same, and one that stood nowhere stands nowhere
after_other : (len n m : ℕ) → n ≤ len → m ≡ cond (n == len) (len + 1) n → number_in (len + 1) m ≡ number_in len n
after_other len n m le e = by_test (n == len) refl e
  where
    by_test : (b : Bool) → (n == len) ≡ b → m ≡ cond b (len + 1) n → number_in (len + 1) m ≡ number_in len n
    by_test true t f = let k : n ≡ len = eqb-true n len t in in_false (len + 1) m (omega (arith, f)) ∙ sym (in_false len n (omega (arith, k)))
    by_test false t f =
        let lt : n < len = grind (arith, nat_tests) in
        in_true (len + 1) m (omega (arith, f, lt)) ∙ ap Some f ∙ sym (in_true len n lt)

-- a name that stood nowhere stands last
after_itself : (len n m : ℕ) → n ≡ len → m ≡ cond (n == len) (len + 0) n → number_in (len + 1) m ≡ Some len
after_itself len n m k e = by_test (n == len) e
  where
    by_test : (b : Bool) → m ≡ cond b (len + 0) n → number_in (len + 1) m ≡ Some len
    by_test true f = let g : m ≡ len = omega (arith, f) in in_true (len + 1) m (omega (arith, g)) ∙ ap Some g
    by_test false f = let g : m ≡ len = omega (arith, f, k) in in_true (len + 1) m (omega (arith, g)) ∙ ap Some g

-- a number that was there stays
after_known : (b : Bool) (len n m : ℕ) → n < len → m ≡ cond (n == len) (len + cond b 0 1) n → number_in (len + 1) m ≡ number_in len n
after_known b len n m lt e = by_test (n == len) refl e
  where
    by_test : (d : Bool) → (n == len) ≡ d → m ≡ cond d (len + cond b 0 1) n → number_in (len + 1) m ≡ number_in len n
    by_test true t f = let k : n ≡ len = eqb-true n len t in absurd (omega (arith, k, lt))
    by_test false t f = in_true (len + 1) m (omega (arith, f, lt)) ∙ ap Some f ∙ sym (in_true len n lt)

pushed_len : (names : List (List ℕ)) (name : List ℕ) → length (names ++ name ∷ []) ≡ length names + 1
pushed_len names name = simp length-append

pub find_none : (places : BTreeMap (Vec ℕ Global) ℕ) (names : List (List ℕ)) (name : List ℕ) → AreNumbered places names → place_in places name ≡ None → number_of names name ≡ length names
find_none places names name h e = none_in (length names) (number_of names name) (number_within names name) (sym (h.placed name) ∙ e)

pub find_some : (places : BTreeMap (Vec ℕ Global) ℕ) (names : List (List ℕ)) (name : List ℕ) (k : ℕ) → AreNumbered places names → place_in places name ≡ Some k → k ≡ number_of names name
find_some places names name k h e = some_in (length names) (number_of names name) k (sym (h.placed name) ∙ e)

-- a name that is there already stands behind the others too
pub AreNumbered-known : (places : BTreeMap (Vec ℕ Global) ℕ) (names : List (List ℕ)) (name : List ℕ) → AreNumbered places names → number_of names name < length names → AreNumbered places (names ++ name ∷ [])
AreNumbered-known places names name h there = record { placed = λ other. h.placed other ∙ sym (kept other (bytes_eq name other) refl) }
  where
    pushed : (other : List ℕ) → number_of (names ++ name ∷ []) other ≡ cond (number_of names other == length names) (length names + cond (bytes_eq name other) 0 1) (number_of names other)
    pushed other = position_or_len_push (λ n. bytes_eq n other) names name

    kept : (other : List ℕ) (b : Bool) → bytes_eq name other ≡ b → number_in (length (names ++ name ∷ [])) (number_of (names ++ name ∷ []) other) ≡ number_in (length names) (number_of names other)
    kept other true t =
        let lt : number_of names other < length names = subst (λ x. number_of names x < length names) ((bytes_eq-Decides name other).0 t) there in
        ap (λ len. number_in len (number_of (names ++ name ∷ []) other)) (pushed_len names name) ∙ after_known (bytes_eq name other) (length names) (number_of names other) _ lt (pushed other)
    kept other false t =
        ap (λ len. number_in len (number_of (names ++ name ∷ []) other)) (pushed_len names name)
        ∙ after_other (length names) (number_of names other) _ (number_within names other) (pushed other ∙ ap (λ b. cond (number_of names other == length names) (length names + cond b 0 1) (number_of names other)) t)

-- a new name has the next number
pub AreNumbered-new : (old new : BTreeMap (Vec ℕ Global) ℕ) (names : List (List ℕ)) (name : List ℕ) (number : ℕ) → AreNumbered old names → number_of names name ≡ length names → number ≡ length names
    → ((other : List ℕ) → place_in new other ≡ (if bytes_eq name other then Some number else place_in old other)) → AreNumbered new (names ++ name ∷ [])
AreNumbered-new old new names name number h absent is after = record { placed = λ other. by_test other (bytes_eq name other) refl }
  where
    pushed : (other : List ℕ) (b : Bool) → bytes_eq name other ≡ b → number_of (names ++ name ∷ []) other ≡ cond (number_of names other == length names) (length names + cond b 0 1) (number_of names other)
    pushed other b t = position_or_len_push (λ n. bytes_eq n other) names name ∙ ap (λ d. cond (number_of names other == length names) (length names + cond d 0 1) (number_of names other)) t

    now_at : (other : List ℕ) (b : Bool) → bytes_eq name other ≡ b → place_in new other ≡ (if b then Some number else place_in old other)
    now_at other b t = after other ∙ ap (λ d. if d then Some number else place_in old other) t

    by_test : (other : List ℕ) (b : Bool) → bytes_eq name other ≡ b → place_in new other ≡ number_in (length (names ++ name ∷ [])) (number_of (names ++ name ∷ []) other)
    by_test other true t =
        let n : number_of names other ≡ length names = subst (λ x. number_of names x ≡ length names) ((bytes_eq-Decides name other).0 t) absent in
        now_at other true t ∙ ap Some is ∙ sym (ap (λ len. number_in len (number_of (names ++ name ∷ []) other)) (pushed_len names name) ∙ after_itself (length names) (number_of names other) _ n (pushed other true t))
    by_test other false t =
        now_at other false t ∙ h.placed other
        ∙ sym (ap (λ len. number_in len (number_of (names ++ name ∷ []) other)) (pushed_len names name) ∙ after_other (length names) (number_of names other) _ (number_within names other) (pushed other false t))
