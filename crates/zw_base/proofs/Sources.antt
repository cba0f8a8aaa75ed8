-- The bytes of a source in memory before and after a call.
use Rattle.std.proofs.Common.{◌≡◌, ℕ, ◌+◌, ◌-◌, List, ◌++◌, length, take, drop, sym, ap, ◌∙◌, arith, length-drop}
use Rattle.std.proofs.lemmas.List.{take-append-drop, drop-drop, take_all}

-- a part from a place to the end
pub part_to_end : (xs ys : List ℕ) (at : ℕ) → xs ≡ ys → take (length xs - at) (drop at xs) ≡ drop at ys
part_to_end xs ys at is = take_all _ _ (omega (arith, length-drop {A = ℕ})) ∙ ap (drop at) is

-- what was left is what came into the buffer, and what stands after it
pub front_and_rest : (bytes into left passed : List ℕ) (at n : ℕ) → drop at bytes ≡ left → passed ≡ drop at bytes → take n into ≡ take n passed → left ≡ take n into ++ drop (at + n) bytes
front_and_rest bytes into left passed at n is from given =
    sym (rw (given, from, ← drop-drop n at bytes) (take-append-drop n (drop at bytes) ∙ is))
