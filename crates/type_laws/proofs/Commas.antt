-- Lists with commas between their items are read back up to the bracket that closes them.
use Rattle.std.proofs.Common.{◌≡◌, ℕ, ◌<◌, List, [], ◌∷◌, ◌++◌, length, map, refl, sym, ◌∙◌, arith, append_assoc, length-append}
use Rattle.std.specs.List.{AllByRecursion}
use Rattle.type_form.specs.Spelling.{commas, behind_commas}

-- what goes on with a comma, or with the byte that closes the list
pub data Goes (c : ℕ) : List ℕ → Type 0 where
  more : (r : List ℕ) → Goes c (44 ∷ r)
  done : (r : List ℕ) → Goes c (c ∷ r)

-- items of two lists at one place are alike, as far as both lists go
abbrev pub AreLike : {X : Type 0} → (X → X → Type 0) → List X → List X → Type 0
AreLike Like [] ys = Unit {0}
AreLike Like (a ∷ xs) [] = Unit {0}
AreLike Like (a ∷ xs) (b ∷ ys) = Like a b × AreLike Like xs ys

module _ {X : Type 0} (f : X → List ℕ) (IsFit : X → Type 0) (Like : X → X → Type 0) (n c : ℕ) where
  -- what is known of each item shorter than n
  pub record Items : Type 0 where
    pub unique : (a b : X) (x y : List ℕ) → IsFit a → IsFit b → Like a b → length (f a) < n → Goes c x → Goes c y → f a ++ x ≡ f b ++ y → (a ≡ b) × (x ≡ y)
    pub begins : (a : X) (x y : List ℕ) → IsFit a → Goes c x → f a ++ x ≡ c ∷ y → ⊥

  pub goes_on : (xs : List X) (x : List ℕ) → Goes c (behind_commas (map f xs) ++ c ∷ x)
  goes_on [] x = done x
  goes_on (a ∷ xs) x = more ((f a ++ behind_commas (map f xs)) ++ c ∷ x)

  behind_unique : Items → (44 ≡ c → ⊥) → (xs ys : List X) (x y : List ℕ) → AllByRecursion IsFit xs → AllByRecursion IsFit ys → AreLike Like xs ys → length (behind_commas (map f xs)) < n
      → behind_commas (map f xs) ++ c ∷ x ≡ behind_commas (map f ys) ++ c ∷ y → (xs ≡ ys) × (x ≡ y)
  behind_unique items other [] [] x y p q l h e = (refl, cc)
  behind_unique items other [] (b ∷ ys) x y p q l h e = let same : 44 ≡ c = cc in absurd (other same)
  behind_unique items other (a ∷ xs) [] x y p q l h e = let same : 44 ≡ c = cc in absurd (other same)
  behind_unique items other (a ∷ xs) (b ∷ ys) x y p q l h e =
      let size = length-append (f a) (behind_commas (map f xs)) in
      let g : (f a ++ behind_commas (map f xs)) ++ c ∷ x ≡ (f b ++ behind_commas (map f ys)) ++ c ∷ y = cc in
      let k = sym (append_assoc (f a) (behind_commas (map f xs)) (c ∷ x)) ∙ g ∙ append_assoc (f b) (behind_commas (map f ys)) (c ∷ y) in
      let r = items.unique a b _ _ p.0 q.0 l.0 (omega (arith, h, size)) (goes_on xs x) (goes_on ys y) k in
      let s = behind_unique items other xs ys x y p.1 q.1 l.1 (omega (arith, h, size)) r.1 in
      let head = r.0 in
      let rest = s.0 in
      (cc, s.1)

  pub commas_unique : Items → (44 ≡ c → ⊥) → (xs ys : List X) (x y : List ℕ) → AllByRecursion IsFit xs → AllByRecursion IsFit ys → AreLike Like xs ys → length (commas (map f xs)) < n
      → commas (map f xs) ++ c ∷ x ≡ commas (map f ys) ++ c ∷ y → (xs ≡ ys) × (x ≡ y)
  unfolding commas
  commas_unique items other [] [] x y p q l h e = (refl, cc)
  commas_unique items other [] (b ∷ ys) x y p q l h e = absurd (items.begins b _ x q.0 (goes_on ys y) (sym (append_assoc (f b) (behind_commas (map f ys)) (c ∷ y)) ∙ sym e))
  commas_unique items other (a ∷ xs) [] x y p q l h e = absurd (items.begins a _ y p.0 (goes_on xs x) (sym (append_assoc (f a) (behind_commas (map f xs)) (c ∷ x)) ∙ e))
  commas_unique items other (a ∷ xs) (b ∷ ys) x y p q l h e =
      let size = length-append (f a) (behind_commas (map f xs)) in
      let k = sym (append_assoc (f a) (behind_commas (map f xs)) (c ∷ x)) ∙ e ∙ append_assoc (f b) (behind_commas (map f ys)) (c ∷ y) in
      let r = items.unique a b _ _ p.0 q.0 l.0 (omega (arith, h, size)) (goes_on xs x) (goes_on ys y) k in
      let s = behind_unique items other xs ys x y p.1 q.1 l.1 (omega (arith, h, size)) r.1 in
      let head = r.0 in
      let rest = s.0 in
      (cc, s.1)
