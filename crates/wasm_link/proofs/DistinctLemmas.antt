-- Values of which each name stands once.
use Rattle.std.proofs.Common.{◌≡◌, ℕ, ◌+◌, ◌≤◌, nat_lt, not, Bool, true, false, if◌then◌else◌, List, [], ◌∷◌, ◌++◌, map, length, refl, sym, ap, subst, arith}
use Rattle.std.proofs.lemmas.Bool.Decides.{nat_tests}
use Rattle.std.specs.List.{IsDistinct, AllByRecursion, fold}
use Rattle.std.specs.Str.{bytes_eq}
use Rattle.wasm_link.specs.Names.{number_of, stands_in, with_new}

all_pushed : {T : Type 0} (P : T → Type 0) (xs : List T) (x : T) → AllByRecursion P xs → P x → AllByRecursion P (xs ++ x ∷ [])
all_pushed P [] x all p = (p, tt)
all_pushed P (y ∷ ys) x all p = (all.0, all_pushed P ys x all.1 p)

distinct_pushed : (names : List (List ℕ)) (name : List ℕ) → IsDistinct bytes_eq names → length names ≤ number_of names name → IsDistinct bytes_eq (names ++ name ∷ [])
unfolding IsDistinct
distinct_pushed [] name d le = (tt, tt)
distinct_pushed (n ∷ names) name d le = by_test (bytes_eq n name) refl le (distinct_pushed names name d.1)
  where
    by_test : (b : Bool) → bytes_eq n name ≡ b → length (n ∷ names) ≤ (if not b then 1 + number_of names name else 0)
        → (length names ≤ number_of names name → IsDistinct bytes_eq (names ++ name ∷ []))
        → AllByRecursion (λ y. bytes_eq n y ≡ false) (names ++ name ∷ []) × IsDistinct bytes_eq (names ++ name ∷ [])
    by_test true t f rest = absurd (omega (arith, f))
    by_test false t f rest = (all_pushed (λ y. bytes_eq n y ≡ false) names name d.0 t, rest (omega (arith, f)))

-- names with another behind them that wasn't there
pub distinct_with : (names more : List (List ℕ)) (name : List ℕ) → IsDistinct bytes_eq names → length names ≤ number_of names name → more ≡ names ++ name ∷ [] → IsDistinct bytes_eq more
distinct_with names more name d le e = subst (IsDistinct bytes_eq) (sym e) (distinct_pushed names name d le)

map_pushed : {T U : Type 0} (f : T → U) (xs : List T) (x : T) → map f (xs ++ x ∷ []) ≡ map f xs ++ f x ∷ []
map_pushed f [] x = refl
map_pushed f (y ∷ ys) x = ap (λ zs. f y ∷ zs) (map_pushed f ys x)

not_within : (len n : ℕ) → nat_lt n len ≡ false → len ≤ n
not_within len n t = grind (arith, nat_tests)

with_new_distinct : {T : Type 0} (key : T → List ℕ) (xs : List T) (x : T) → IsDistinct bytes_eq (map key xs) → IsDistinct bytes_eq (map key (with_new key xs x))
with_new_distinct key xs x d = by_test (stands_in (map key xs) (key x)) refl
  where
    by_test : (b : Bool) → stands_in (map key xs) (key x) ≡ b → IsDistinct bytes_eq (map key (if b then xs else xs ++ x ∷ []))
    by_test true t = d
    by_test false t =
        let last = not_within (length (map key xs)) (number_of (map key xs) (key x)) t in
        subst (IsDistinct bytes_eq) (sym (map_pushed key xs x)) (distinct_pushed (map key xs) (key x) d last)

-- values that are put together one of each name have distinct names
pub fold_distinct : {T : Type 0} (key : T → List ℕ) (so_far xs : List T) → IsDistinct bytes_eq (map key so_far) → IsDistinct bytes_eq (map key (fold (with_new key) so_far xs))
fold_distinct key so_far [] d = d
fold_distinct key so_far (x ∷ xs) d = fold_distinct key (with_new key so_far x) xs (with_new_distinct key so_far x d)

pub none_distinct : IsDistinct bytes_eq []
unfolding IsDistinct
none_distinct = tt
