-- References that are below a number.
use Rattle.std.proofs.Common.{◌≡◌, ℕ, zero, suc, ◌+◌, ◌<◌, ◌≤◌, List, [], ◌∷◌, ◌++◌, length, take, drop, refl, sym, ◌∙◌, ap, subst, arith, length-append, Some, None, Option, inl, inr, ◌⊎◌}
use Rattle.std.specs.Prelude.{slice_get}
use Rattle.air_form.specs.declared.node.AirRef.{AirRef}
use Rattle.air_form.specs.declared.node.AirNode.{AirNode}
use Rattle.air_form.specs.Nodes.{AirState, AreBelow, AreEarlier, IsBuilt, refs_of}

-- a greater bound
pub AreBelow-more : (m n : ℕ) (rs : List AirRef) → m ≤ n → AreBelow m rs → AreBelow n rs
AreBelow-more m n [] h b = tt
AreBelow-more m n (r ∷ rs) h b = (omega (arith, b.0), AreBelow-more m n rs h b.1)

pub AreBelow-push : (n : ℕ) (rs : List AirRef) (r : AirRef) → AreBelow n rs → r.0 < n → AreBelow n (rs ++ r ∷ [])
AreBelow-push n [] r b h = (h, tt)
AreBelow-push n (s ∷ rs) r b h = (b.0, AreBelow-push n rs r b.1 h)

pub AreBelow-take : (k n : ℕ) (rs : List AirRef) → AreBelow n rs → AreBelow n (take k rs)
AreBelow-take zero n rs b = tt
AreBelow-take (suc k) n [] b = tt
AreBelow-take (suc k) n (r ∷ rs) b = (b.0, AreBelow-take k n rs b.1)

pub AreBelow-drop : (k n : ℕ) (rs : List AirRef) → AreBelow n rs → AreBelow n (drop k rs)
AreBelow-drop zero n rs b = b
AreBelow-drop (suc k) n [] b = tt
AreBelow-drop (suc k) n (r ∷ rs) b = AreBelow-drop k n rs b.1

some_is : {A : Type 0} (a b : A) → Some a ≡ Some b → a ≡ b
some_is a b h = cc

-- what stands at a place where one is put behind the others
pub slice_get-push : {A : Type 0} (xs : List A) (x y : A) (i : ℕ) → slice_get (xs ++ x ∷ []) i ≡ Some y
    → (slice_get xs i ≡ Some y) ⊎ ((i ≡ length xs) × (x ≡ y))
slice_get-push [] x y zero e = inr (refl, some_is x y e)
slice_get-push [] x y (suc i) e = absurd (cc)
slice_get-push (z ∷ xs) x y zero e = inl e
slice_get-push (z ∷ xs) x y (suc i) e =
    elim (slice_get-push xs x y i e) as (λ _. (slice_get xs i ≡ Some y) ⊎ ((suc i ≡ length (z ∷ xs)) × (x ≡ y))) [
      | inl h ↦ inl h
      | inr h ↦ inr (omega (arith, h.0), h.1)
    ]

pub AreEarlier-push : (nodes : List AirNode) (n : AirNode) → AreEarlier nodes → AreBelow (length nodes) (refs_of n) → AreEarlier (nodes ++ n ∷ [])
AreEarlier-push nodes n e b = record {
  earlier = λ i m at.
      elim (slice_get-push nodes n m i at) as (λ _. AreBelow i (refs_of m)) [
        | inl h ↦ e.earlier i m h
        | inr h ↦ subst (λ (x : AirNode). AreBelow i (refs_of x)) h.1 (subst (λ (k : ℕ). AreBelow k (refs_of n)) (sym h.0) b)
      ];
}

-- a builder with a node more
pub IsBuilt-push : (b : AirState) (n : AirNode) → IsBuilt b → AreBelow (length b.nodes) (refs_of n) → IsBuilt (record b { nodes = b.nodes ++ n ∷ [] })
IsBuilt-push b n h r = record {
  earlier = AreEarlier-push b.nodes n h.earlier r;
  statements = AreBelow-more (length b.nodes) (length (b.nodes ++ n ∷ [])) b.statements (omega (arith, length-append b.nodes (n ∷ []))) h.statements;
}

-- and with a statement more
pub IsBuilt-state : (b : AirState) (r : AirRef) → IsBuilt b → r.0 < length b.nodes → IsBuilt (record b { statements = b.statements ++ r ∷ [] })
IsBuilt-state b r h below = record { earlier = h.earlier; statements = AreBelow-push (length b.nodes) b.statements r h.statements below }

-- and with the first statements alone
pub IsBuilt-close : (b : AirState) (k : ℕ) → IsBuilt b → IsBuilt (record b { statements = take k b.statements })
IsBuilt-close b k h = record { earlier = h.earlier; statements = AreBelow-take k (length b.nodes) b.statements h.statements }
