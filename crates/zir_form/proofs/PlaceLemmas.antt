-- The map from names to places, after an insertion.
use Rattle.std.proofs.Common.{◌≡◌, ℕ, Bool, true, false, if◌then◌else◌, List, Option, None, refl, sym, ap, ◌∙◌, subst, Vec}
use Rattle.std.proofs.lemmas.Slice.Eq.{bytes_eq-Decides}
use Rattle.std.specs.Str.{bytes_eq}
use Rattle.std.specs.BTreeMap.{BTreeMap, get_by, is_at, IsEmpty, UpdatesBy}
use Rattle.std.specs.Map.{lookup, KeepsOthers, IsKeyTest, AreApart}
use Rattle.std.specs.Ordering.{nat_cmp, is_eq}
use Rattle.std.specs.Cmp.Lexicographic.{slice_cmp}
use Rattle.std.proofs.lemmas.Cmp.{nat_list_cmp_total, eq_by_cmp_equiv, nat_list_eq_equiv}
use Rattle.std.proofs.lemmas.Map.Text.{is_eq-slice_cmp}
use Rattle.std.specs.declared.alloc.Global.{Global}
use Rattle.zir_form.specs.Places.{place_in}

-- a map without entries has no places
pub place_in-empty : (places : BTreeMap (Vec ℕ Global) ℕ) (name : List ℕ) → IsEmpty places → place_in places name ≡ None
unfolding place_in
place_in-empty places name e = ap (λ (es : List (Vec ℕ Global × ℕ)). lookup (is_at (λ k. slice_cmp nat_cmp name k.items)) es) e

apart : (bs cs ks : List ℕ) → bytes_eq bs cs ≡ false → bytes_eq bs ks ≡ true → bytes_eq cs ks ≡ false
apart bs cs ks n y = nat_list_eq_equiv.symm cs ks ∙ sym (nat_list_eq_equiv.congr bs ks cs y) ∙ n

apart_in_order : (bs cs ks : List ℕ) → bytes_eq bs cs ≡ false → is_eq (slice_cmp nat_cmp bs ks) ≡ true → is_eq (slice_cmp nat_cmp cs ks) ≡ false
apart_in_order bs cs ks n y = is_eq-slice_cmp cs ks ∙ apart bs cs ks n (sym (is_eq-slice_cmp bs ks) ∙ y)

others : (old new : List (Vec ℕ Global × ℕ)) (eq : Vec ℕ Global → Vec ℕ Global → Bool) (test : Vec ℕ Global → Bool) → KeepsOthers eq test old new → (other : Vec ℕ Global → Bool) → IsKeyTest eq other → AreApart test other → lookup other new ≡ lookup other old
unfolding KeepsOthers
others old new eq test h = h

-- after an insertion the map has the new place at the key, and at any other words what it had
pub place_in-updated : (bs : List ℕ) (old new : BTreeMap (Vec ℕ Global) ℕ) (w : Option ℕ) → UpdatesBy (λ x y. slice_cmp nat_cmp x.items y.items) (λ k. slice_cmp nat_cmp bs k.items) old new w
    → (cs : List ℕ) → place_in new cs ≡ (if bytes_eq bs cs then w else place_in old cs)
unfolding place_in
place_in-updated bs old new w h cs = by_test (bytes_eq bs cs) refl
  where
    by_test : (b : Bool) → bytes_eq bs cs ≡ b → get_by (λ k. slice_cmp nat_cmp cs k.items) new ≡ (if bytes_eq bs cs then w else get_by (λ k. slice_cmp nat_cmp cs k.items) old)
    by_test true t = subst (λ l. get_by (λ k. slice_cmp nat_cmp l k.items) new ≡ w) ((bytes_eq-Decides bs cs).0 t) h.1 ∙ sym (ap (λ b. if b then w else get_by (λ k. slice_cmp nat_cmp cs k.items) old) t)
    by_test false t = others old.entries new.entries _ _ h.3 (is_at (λ k. slice_cmp nat_cmp cs k.items)) (λ x y. (eq_by_cmp_equiv nat_list_cmp_total).congr cs x.items y.items) (λ k. apart_in_order bs cs k.items t) ∙ sym (ap (λ b. if b then w else get_by (λ k. slice_cmp nat_cmp cs k.items) old) t)

pub place_in-inserted : (bs ds : List ℕ) (old new : BTreeMap (Vec ℕ Global) ℕ) (w : Option ℕ) → bs ≡ ds → UpdatesBy (λ x y. slice_cmp nat_cmp x.items y.items) (λ k. slice_cmp nat_cmp bs k.items) old new w
    → (cs : List ℕ) → place_in new cs ≡ (if bytes_eq ds cs then w else place_in old cs)
place_in-inserted bs ds old new w e h cs = place_in-updated bs old new w h cs ∙ ap (λ x. if bytes_eq x cs then w else place_in old cs) e
