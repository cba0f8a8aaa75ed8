-- A function over what is left of a text that passes over the bytes of one item.
use Rattle.std.proofs.Common.{◌≡◌, ℕ, zero, suc, ◌+◌, ◌-◌, ◌<◌, ◌≤◌, List, [], ◌∷◌, length, get_or, drop, refl, ap, ◌∙◌, arith, add-zero}
use Rattle.std.proofs.lemmas.List.{drop_more, drop-drop, length-drop}

-- a byte that is not 0 stands within the text
pub within_text : (text : List ℕ) (at : ℕ) → 0 < get_or text at 0 → at < length text
within_text [] at h = absurd (omega arith)
within_text (b ∷ text) zero h = omega arith
within_text (b ∷ text) (suc at) h = omega (arith, within_text text at h)

pub skipped : {R : Type 0} (F : ℕ → ℕ → List ℕ → R) → ((at k b : ℕ) (rest : List ℕ) → F at (suc k) (b ∷ rest) ≡ F (at + 1) k rest)
    → (at k : ℕ) (rest : List ℕ) → k ≤ length rest → F at k rest ≡ F (at + k) 0 (drop k rest)
skipped F step at zero rest le = rw add-zero refl
skipped F step at (suc k) [] le = absurd (omega arith)
skipped F step at (suc k) (b ∷ rest) le =
    let e : (at + 1) + k ≡ at + suc k = omega arith in
    step at k b rest ∙ skipped F step (at + 1) k rest (omega arith) ∙ ap (λ n. F n 0 (drop k rest)) e

-- an item of some bytes is passed
pub passed : {R : Type 0} (F : ℕ → ℕ → List ℕ → R) → ((at k b : ℕ) (rest : List ℕ) → F at (suc k) (b ∷ rest) ≡ F (at + 1) k rest)
    → (text : List ℕ) (at end : ℕ) → at < end → end ≤ length text → F (at + 1) (end - (at + 1)) (drop (at + 1) text) ≡ F end 0 (drop end text)
passed F step text at end lt le =
    let e : (at + 1) + (end - (at + 1)) ≡ end = omega arith in
    skipped F step (at + 1) (end - (at + 1)) (drop (at + 1) text) (omega (arith, length-drop (at + 1) text))
    ∙ ap (λ xs. F ((at + 1) + (end - (at + 1))) 0 xs) (drop-drop (end - (at + 1)) (at + 1) text)
    ∙ ap (λ n. F n 0 (drop n text)) e

-- the byte at a place, and what is left
pub here : (text : List ℕ) (at : ℕ) → at < length text → drop at text ≡ get_or text at 0 ∷ drop (at + 1) text
here text at lt = drop_more text at 0 lt
