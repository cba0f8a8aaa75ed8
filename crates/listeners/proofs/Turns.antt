-- Turns of a queue, one after another.
use Rattle.std.proofs.Common.{◌≡◌, ℕ, ◌+◌, ◌<◌, ◌⊎◌, inl, inr, List, [], ◌∷◌, ◌++◌, length, take, drop, get_or, refl, sym, ◌∙◌, ap, append_assoc, add-one, drop-cons}
use Rattle.std.proofs.lemmas.List.{take_more}
use Rattle.zw_base.specs.declared.listener.Report.{Report}
use Rattle.listeners.specs.Told.{HasHeard, HasFailed, AllTold, IsTurn}

-- the first i listeners were told: the queue has the others, and then those that heard
abbrev pub SoFar : {L : Type 0} → (L → List Report) → (L → ℕ) → (L → ℕ) → Report → List L → ℕ → List L → List L → List L → Type 0
SoFar {L} heard faults calls report old i queue gone now =
    (stay moved : List L) × (queue ≡ drop i old ++ stay) × (now ≡ gone ++ moved) × AllTold heard faults calls report (take i old) stay moved

pub one_more_heard : {L : Type 0} (heard : L → List Report) (faults calls : L → ℕ) (report : Report) (xs stay moved : List L) (x y : L) →
    AllTold heard faults calls report xs stay moved → HasHeard heard faults calls report x y → AllTold heard faults calls report (xs ++ x ∷ []) (stay ++ y ∷ []) moved
one_more_heard heard faults calls report [] stay moved x y (none, still) h = inl (y, [], ap (λ l. l ++ y ∷ []) none, h, (refl, still))
one_more_heard heard faults calls report (z ∷ xs) stay moved x y (inl (now, more, e, g, rest)) h =
    inl (now, more ++ y ∷ [], ap (λ l. l ++ y ∷ []) e, g, one_more_heard heard faults calls report xs more moved x y rest h)
one_more_heard heard faults calls report (z ∷ xs) stay moved x y (inr (now, more, e, g, rest)) h =
    inr (now, more, e, g, one_more_heard heard faults calls report xs stay more x y rest h)

pub one_more_failed : {L : Type 0} (heard : L → List Report) (faults calls : L → ℕ) (report : Report) (xs stay moved : List L) (x y : L) →
    AllTold heard faults calls report xs stay moved → HasFailed heard faults calls x y → AllTold heard faults calls report (xs ++ x ∷ []) stay (moved ++ y ∷ [])
one_more_failed heard faults calls report [] stay moved x y (none, still) h = inr (y, [], ap (λ l. l ++ y ∷ []) still, h, (none, refl))
one_more_failed heard faults calls report (z ∷ xs) stay moved x y (inl (now, more, e, g, rest)) h =
    inl (now, more, e, g, one_more_failed heard faults calls report xs more moved x y rest h)
one_more_failed heard faults calls report (z ∷ xs) stay moved x y (inr (now, more, e, g, rest)) h =
    inr (now, more ++ y ∷ [], ap (λ l. l ++ y ∷ []) e, g, one_more_failed heard faults calls report xs stay more x y rest h)

turned : {L : Type 0} (heard : L → List Report) (faults calls : L → ℕ) (report : Report) (old : List L) (i : ℕ) (stay moved : List L) (first told : L) (more after gone now now' : List L) →
    AllTold heard faults calls report (take i old) stay moved → drop i old ≡ first ∷ drop (i + 1) old → take (i + 1) old ≡ take i old ++ first ∷ [] → more ≡ drop (i + 1) old ++ stay → now ≡ gone ++ moved →
    ((after ≡ more ++ told ∷ []) × (now' ≡ now) × HasHeard heard faults calls report first told) ⊎ ((after ≡ more) × (now' ≡ now ++ told ∷ []) × HasFailed heard faults calls first told) →
    SoFar heard faults calls report old (i + 1) after gone now'
turned heard faults calls report old i stay moved first told more after gone now now' so e t m n (inl (a, same, h)) =
    (stay ++ told ∷ [], moved, a ∙ rw (m, append_assoc (drop (i + 1) old) stay (told ∷ [])) refl, same ∙ n, rw t (one_more_heard heard faults calls report (take i old) stay moved first told so h))
turned heard faults calls report old i stay moved first told more after gone now now' so e t m n (inr (a, same, h)) =
    (stay, moved ++ told ∷ [], a ∙ m, same ∙ rw (n, append_assoc gone moved (told ∷ [])) refl, rw t (one_more_failed heard faults calls report (take i old) stay moved first told so h))

-- one turn more
pub turn : {L : Type 0} (heard : L → List Report) (faults calls : L → ℕ) (report : Report) (old : List L) (i : ℕ) (queue after gone now now' : List L) → i < length old →
    SoFar heard faults calls report old i queue gone now → IsTurn heard faults calls report queue after now now' → SoFar heard faults calls report old (i + 1) after gone now'
turn heard faults calls report old i queue after gone now now' lt (stay, moved, q, n, so) (first, told, more, e, cases) =
    let d : drop i old ≡ get_or old i first ∷ drop (i + 1) old = rw (add-one i) (drop-cons old i first lt) in
    let both : first ∷ more ≡ get_or old i first ∷ (drop (i + 1) old ++ stay) = sym e ∙ (q ∙ ap (λ l. l ++ stay) d) in
    let here : get_or old i first ≡ first = cc in
    let behind : more ≡ drop (i + 1) old ++ stay = cc in
    turned heard faults calls report old i stay moved first told more after gone now now' so (rw here at d) (rw here at (take_more old i first lt)) behind n cases
