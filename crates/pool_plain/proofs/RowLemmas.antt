-- The pool's list of keys, and the map beside it.
use Rattle.std.proofs.Common.{◌≡◌, ◌≢◌, ◌⊎◌, inl, inr, ℕ, zero, suc, ◌+◌, ◌<◌, ◌≤◌, ◌==◌, ◌++◌, Bool, true, false, if◌then◌else◌, List, [], ◌∷◌, length, Option, Some, None, IsSome, slice_get, slice_index_or, refl, sym, ap, ◌∙◌, subst, arith, eqb-true, eq-eqb, ne_eqb, true≢false, Vec}
use Rattle.std.proofs.lemmas.Bool.{cases_Bool}
use Rattle.std.proofs.lemmas.Slice.Eq.{bytes_eq-Decides}
use Rattle.std.specs.Str.{bytes_eq}
use Rattle.std.specs.BTreeMap.{BTreeMap, get_by, IsUnchanged, is_at, IsEmpty, UpdatesBy}
use Rattle.std.specs.Map.{lookup, KeepsOthers, IsKeyTest, AreApart}
use Rattle.std.specs.Cmp.Lexicographic.{pointwise}
use Rattle.std.specs.Ordering.{eq_by_cmp}
use Rattle.std.proofs.lemmas.Cmp.{nat_list_cmp_total, eq_by_cmp_equiv, nat_list_eq_equiv}
use Rattle.std.proofs.lemmas.Map.Text.{is_eq-slice_cmp}
use Rattle.std.specs.Ordering.{nat_cmp, is_eq}
use Rattle.std.specs.Cmp.Lexicographic.{slice_cmp}
use Rattle.std.specs.declared.alloc.Global.{Global}
use Rattle.type_form.specs.declared.index.Index.{Index}
use Rattle.type_form.specs.Known.{Known, words_at, Keeps, IsInjective}
use Rattle.type_form.specs.Words.{index_of}
use Rattle.type_form.specs.Means.{Grows}
use Rattle.type_form.proofs.MeansLemmas.{Grows-keeps}
use Rattle.pool_plain.specs.Rows.{numbered, place_in, Matches}

numbered_at : (n : ℕ) (rows : List (List ℕ)) (j : Index) (i : ℕ) → n + i ≡ j.0 → words_at (numbered n rows) j ≡ slice_get rows i
numbered_at n [] j i e = refl
numbered_at n (row ∷ rows) j zero e =
    let h : (n == j.0) ≡ true = eq-eqb n j.0 (omega (arith, e)) in
    ap (λ b. if b then Some row else words_at (numbered (suc n) rows) j) h
numbered_at n (row ∷ rows) j (suc i) e =
    let h : (n == j.0) ≡ false = ne_eqb n j.0 (λ d. absurd (omega (arith, d, e))) in
    ap (λ b. if b then Some row else words_at (numbered (suc n) rows) j) h ∙ numbered_at (suc n) rows j i (omega (arith, e))

-- what is known at an index is the key at its place
pub known_at : (rows : List (List ℕ)) (j : Index) → words_at (numbered 0 rows) j ≡ slice_get rows j.0
known_at rows j = numbered_at 0 rows j j.0 (omega arith)

get_kept : (rows : List (List ℕ)) (row : List ℕ) (n : ℕ) (ws : List ℕ) → slice_get rows n ≡ Some ws → slice_get (rows ++ row ∷ []) n ≡ Some ws
get_kept [] row n ws e = cc
get_kept (r ∷ rows) row zero ws e = e
get_kept (r ∷ rows) row (suc n) ws e = get_kept rows row n ws e

get_last : (rows : List (List ℕ)) (row : List ℕ) → slice_get (rows ++ row ∷ []) (length rows) ≡ Some row
get_last [] row = refl
get_last (r ∷ rows) row = get_last rows row

get_pushed : (rows : List (List ℕ)) (row : List ℕ) (n : ℕ) (ws : List ℕ) → slice_get (rows ++ row ∷ []) n ≡ Some ws → (slice_get rows n ≡ Some ws) ⊎ ((n ≡ length rows) × (ws ≡ row))
get_pushed [] row zero ws e = inr (refl, cc)
get_pushed [] row (suc n) ws e = cc
get_pushed (r ∷ rows) row zero ws e = inl e
get_pushed (r ∷ rows) row (suc n) ws e = elim (get_pushed rows row n ws e) [ inl h ↦ inl h | inr h ↦ inr (ap suc h.0, h.1) ]

pub keeps_pushed : (rows : List (List ℕ)) (row : List ℕ) → Keeps (numbered 0 rows) (numbered 0 (rows ++ row ∷ []))
keeps_pushed rows row = record { words = λ j ws e. known_at (rows ++ row ∷ []) j ∙ get_kept rows row j.0 ws (sym (known_at rows j) ∙ e) }

same_index : (i j : Index) → i.0 ≡ j.0 → i ≡ j
same_index i j e = ap index_of e

pub Matches-injective : (places : BTreeMap (Vec ℕ Global) ℕ) (rows : List (List ℕ)) → Matches places rows → IsInjective (numbered 0 rows)
Matches-injective places rows h = record {
  once = λ i j ws e f.
      let a = h.placed ws i.0 (sym (known_at rows i) ∙ e) in
      let b = h.placed ws j.0 (sym (known_at rows j) ∙ f) in
      let c : Some i.0 ≡ Some j.0 = sym a ∙ b in
      same_index i j (some_one i.0 j.0 c);
}
  where
    some_one : (a b : ℕ) → Some a ≡ Some b → a ≡ b
    some_one a b e = cc

pub Matches-grows : (places : BTreeMap (Vec ℕ Global) ℕ) (rows : List (List ℕ)) (row : List ℕ) → Matches places (rows ++ row ∷ []) → Grows (numbered 0 rows) (numbered 0 (rows ++ row ∷ []))
Matches-grows places rows row h = Grows-keeps _ _ (keeps_pushed rows row) (λ _. Matches-injective places (rows ++ row ∷ []) h)

pub Matches-empty : (places : BTreeMap (Vec ℕ Global) ℕ) → IsEmpty places → Matches places []
unfolding place_in
Matches-empty places e = record {
  found = λ ws n h. let g : get_by (λ k. slice_cmp nat_cmp ws k.items) places ≡ None = ap (λ (es : List (Vec ℕ Global × ℕ)). lookup (is_at (λ k. slice_cmp nat_cmp ws k.items)) es) e in cc;
  placed = λ ws n h. cc;
  few = λ ws n h. cc;
}

place_in-unchanged : (old new : BTreeMap (Vec ℕ Global) ℕ) (ws : List ℕ) → IsUnchanged old new → place_in new ws ≡ place_in old ws
unfolding place_in
place_in-unchanged old new ws e = ap (λ (es : List (Vec ℕ Global × ℕ)). lookup (is_at (λ k. slice_cmp nat_cmp ws k.items)) es) e

pub Matches-unchanged : (old new : BTreeMap (Vec ℕ Global) ℕ) (rows : List (List ℕ)) → Matches old rows → IsUnchanged old new → Matches new rows
Matches-unchanged old new rows h e = record {
  found = λ ws n f. h.found ws n (sym (place_in-unchanged old new ws e) ∙ f);
  placed = λ ws n f. place_in-unchanged old new ws e ∙ h.placed ws n f;
  few = h.few;
}

pub Matches-added : (old new : BTreeMap (Vec ℕ Global) ℕ) (rows : List (List ℕ)) (row : List ℕ) → Matches old rows → place_in old row ≡ None → length row ≤ 64
    → ((cs : List ℕ) → place_in new cs ≡ (if bytes_eq row cs then Some (length rows) else place_in old cs)) → Matches new (rows ++ row ∷ [])
Matches-added old new rows row h absent few after = record {
  found = λ ws n e. found_in ws n (bytes_eq row ws) refl e;
  placed = λ ws n e. elim (get_pushed rows row n ws e) [ inl f ↦ placed_old ws n f | inr f ↦ placed_new ws n f.0 f.1 ];
  few = λ ws n e. elim (get_pushed rows row n ws e) [ inl f ↦ h.few ws n f | inr f ↦ subst (λ x. length x ≤ 64) (sym f.1) few ];
}
  where
    tested : (ws : List ℕ) (b : Bool) → bytes_eq row ws ≡ b → place_in new ws ≡ (if b then Some (length rows) else place_in old ws)
    tested ws b t = after ws ∙ ap (λ x. if x then Some (length rows) else place_in old ws) t

    found_in : (ws : List ℕ) (n : ℕ) (b : Bool) → bytes_eq row ws ≡ b → place_in new ws ≡ Some n → slice_get (rows ++ row ∷ []) n ≡ Some ws
    found_in ws n true t e =
        let m : Some (length rows) ≡ Some n = sym (tested ws true t) ∙ e in
        let k : length rows ≡ n = cc in
        subst (λ x. slice_get (rows ++ row ∷ []) x ≡ Some ws) k (get_last rows row ∙ ap Some ((bytes_eq-Decides row ws).0 t))
    found_in ws n false t e = get_kept rows row n ws (h.found ws n (sym (tested ws false t) ∙ e))

    placed_new : (ws : List ℕ) (n : ℕ) → n ≡ length rows → ws ≡ row → place_in new ws ≡ Some n
    placed_new ws n e f = tested ws true ((bytes_eq-Decides row ws).1 (sym f)) ∙ ap Some (sym e)

    differs : (ws : List ℕ) (n : ℕ) → place_in old ws ≡ Some n → (b : Bool) → bytes_eq row ws ≡ b → b ≡ false
    differs ws n e true t = let f : place_in old row ≡ Some n = ap (place_in old) ((bytes_eq-Decides row ws).0 t) ∙ e in let g : Some n ≡ None = sym f ∙ absent in cc
    differs ws n e false t = refl

    placed_old : (ws : List ℕ) (n : ℕ) → slice_get rows n ≡ Some ws → place_in new ws ≡ Some n
    placed_old ws n f = let e = h.placed ws n f in tested ws false (differs ws n e (bytes_eq row ws) refl) ∙ e

apart : (bs cs ks : List ℕ) → bytes_eq bs cs ≡ false → bytes_eq bs ks ≡ true → bytes_eq cs ks ≡ false
apart bs cs ks n y = nat_list_eq_equiv.symm cs ks ∙ sym (nat_list_eq_equiv.congr bs ks cs y) ∙ n

apart_in_order : (bs cs ks : List ℕ) → bytes_eq bs cs ≡ false → is_eq (slice_cmp nat_cmp bs ks) ≡ true → is_eq (slice_cmp nat_cmp cs ks) ≡ false
apart_in_order bs cs ks n y = is_eq-slice_cmp cs ks ∙ apart bs cs ks n (sym (is_eq-slice_cmp bs ks) ∙ y)

others : (old new : List (Vec ℕ Global × ℕ)) (eq : Vec ℕ Global → Vec ℕ Global → Bool) (test : Vec ℕ Global → Bool) → KeepsOthers eq test old new → (other : Vec ℕ Global → Bool) → IsKeyTest eq other → AreApart test other → lookup other new ≡ lookup other old
unfolding KeepsOthers
others old new eq test h = h

-- after an insertion the map has the new place at the key, and at any other words what it had
pub place_in-updated : (bs : List ℕ) (old new : BTreeMap (Vec ℕ Global) ℕ) (w : Option ℕ) → UpdatesBy (λ x y. slice_cmp nat_cmp x.items y.items) (λ k. slice_cmp nat_cmp bs k.items) old new w
    → (cs : List ℕ) → place_in new cs ≡ (if bytes_eq bs cs then w else place_in old cs)
unfolding place_in
place_in-updated bs old new w h cs = by_test (bytes_eq bs cs) refl
  where
    by_test : (b : Bool) → bytes_eq bs cs ≡ b → get_by (λ k. slice_cmp nat_cmp cs k.items) new ≡ (if bytes_eq bs cs then w else get_by (λ k. slice_cmp nat_cmp cs k.items) old)
    by_test true t = subst (λ l. get_by (λ k. slice_cmp nat_cmp l k.items) new ≡ w) ((bytes_eq-Decides bs cs).0 t) h.1 ∙ sym (ap (λ b. if b then w else get_by (λ k. slice_cmp nat_cmp cs k.items) old) t)
    by_test false t = others old.entries new.entries _ _ h.3 (is_at (λ k. slice_cmp nat_cmp cs k.items)) (λ x y. (eq_by_cmp_equiv nat_list_cmp_total).congr cs x.items y.items) (λ k. apart_in_order bs cs k.items t) ∙ sym (ap (λ b. if b then w else get_by (λ k. slice_cmp nat_cmp cs k.items) old) t)

-- a known index has a key at its place
pub row_known : (rows : List (List ℕ)) (i : Index) → IsSome (words_at (numbered 0 rows) i) → (ws : List ℕ) × (slice_get rows i.0 ≡ Some ws)
row_known rows i h = some_of (slice_get rows i.0) (subst IsSome (known_at rows i) h)
  where
    some_of : (o : Option (List ℕ)) → IsSome o → (ws : List ℕ) × (o ≡ Some ws)
    some_of None h = cc
    some_of (Some ws) h = (ws, refl)

pub get_within : (rows : List (List ℕ)) (n : ℕ) (ws : List ℕ) → slice_get rows n ≡ Some ws → n < length rows
get_within [] n ws e = cc
get_within (r ∷ rows) zero ws e = omega arith
get_within (r ∷ rows) (suc n) ws e = omega (arith, get_within rows n ws e)

pub get_is : (rows : List (List ℕ)) (n : ℕ) (ws d : List ℕ) → slice_get rows n ≡ Some ws → slice_index_or rows n d ≡ ws
get_is [] n ws d e = cc
get_is (r ∷ rows) zero ws d e = cc
get_is (r ∷ rows) (suc n) ws d e = get_is rows n ws d e

pub get_last-is : (rows : List (List ℕ)) (row : List ℕ) (n : ℕ) → n ≡ length rows → slice_get (rows ++ row ∷ []) n ≡ Some row
get_last-is rows row n e = ap (slice_get (rows ++ row ∷ [])) e ∙ get_last rows row

pub place_in-inserted : (bs ds : List ℕ) (old new : BTreeMap (Vec ℕ Global) ℕ) (w : Option ℕ) → bs ≡ ds → UpdatesBy (λ x y. slice_cmp nat_cmp x.items y.items) (λ k. slice_cmp nat_cmp bs k.items) old new w
    → (cs : List ℕ) → place_in new cs ≡ (if bytes_eq ds cs then w else place_in old cs)
place_in-inserted bs ds old new w e h cs = place_in-updated bs old new w h cs ∙ ap (λ x. if bytes_eq x cs then w else place_in old cs) e
