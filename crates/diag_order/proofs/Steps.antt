-- A column is at most one more than the byte's number.
use Rattle.std.proofs.Common.{ℕ, ◌+◌, ◌≤◌, Bool, not, List, [], ◌∷◌, length, take, arith, reverse}
use Rattle.std.specs.List.{prefix_len}
use Rattle.std.proofs.lemmas.Bool.{cond_both}
use Rattle.std.proofs.lemmas.List.{length-reverse, length-take}
use Rattle.diag_order.specs.Places.{is_line_end, col_at}

prefix_short : (p : ℕ → Bool) (xs : List ℕ) → prefix_len p xs ≤ length xs
prefix_short p [] = omega arith
prefix_short p (x ∷ xs) = cond_both (p x) (1 + prefix_len p xs) 0 (λ n. n ≤ length (x ∷ xs)) (λ _. omega (arith, prefix_short p xs)) (λ _. omega arith)

pub col_small : (text : List ℕ) (offset : ℕ) → col_at text offset ≤ offset + 1
col_small text offset =
    let before = take offset text in
    omega (arith, prefix_short (λ b. not (is_line_end b)) (reverse before), length-reverse before, length-take offset text)
