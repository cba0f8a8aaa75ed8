-- A list kept from its last value to its first, with another first value.
use Rattle.std.proofs.Common.{◌≡◌, ◌-◌, List, [], ◌∷◌, ◌++◌, length, take, refl, sym, subst, arith, length-append}
use Rattle.std.specs.Prelude.{reverse}
use Rattle.std.proofs.lemmas.List.{reverse-append, reverse-reverse, take_at}
use Rattle.std.proofs.Math.Seq.{set-append_seam}
use Rattle.std.proofs.Math.ListN.{set}
use Rattle.zig_parse.specs.Stack.{rest, with_first}

pub reverse_cons : {T : Type 0} (y : T) (ys : List T) → reverse (y ∷ ys) ≡ reverse ys ++ y ∷ []
reverse_cons y ys = reverse-append (y ∷ []) ys

snoc_length : {T : Type 0} (ys : List T) (y : T) → length (ys ++ y ∷ []) - 1 ≡ length ys
snoc_length ys y = omega (arith, length-append ys (y ∷ []))

front_set : {T : Type 0} (x y : T) (ys : List T) → reverse (set (reverse ys ++ y ∷ []) (length (reverse ys ++ y ∷ []) - 1) x) ≡ x ∷ ys
front_set x y ys = rw (snoc_length (reverse ys) y, set-append_seam (reverse ys) y [] x, reverse-append (reverse ys) (x ∷ []), reverse-reverse ys) refl

pub set_front : {T : Type 0} (x : T) (r : List T) → reverse (set (reverse r) (length (reverse r) - 1) x) ≡ with_first x r
set_front x [] = refl
set_front x (y ∷ ys) = rw (reverse_cons y ys) (front_set x y ys)

pub set_last : {T : Type 0} (x : T) (xs : List T) → reverse (set xs (length xs - 1) x) ≡ with_first x (reverse xs)
set_last x xs = subst (λ l. reverse (set l (length l - 1) x) ≡ with_first x (reverse xs)) (reverse-reverse xs) (set_front x (reverse xs))

front_left : {T : Type 0} (y : T) (ys : List T) → take (length (ys ++ y ∷ []) - 1) (ys ++ y ∷ []) ≡ ys
front_left y ys = take_at ys (y ∷ []) (length (ys ++ y ∷ []) - 1) (sym (snoc_length ys y))

below_front : {T : Type 0} (r : List T) → take (length (reverse r) - 1) (reverse r) ≡ reverse (rest r)
below_front [] = refl
below_front (y ∷ ys) = rw (reverse_cons y ys) (front_left y (reverse ys))

-- without the last value it is what is below the front
pub below_last : {T : Type 0} (xs : List T) → take (length xs - 1) xs ≡ reverse (rest (reverse xs))
below_last xs = subst (λ l. take (length l - 1) l ≡ reverse (rest (reverse xs))) (reverse-reverse xs) (below_front (reverse xs))
