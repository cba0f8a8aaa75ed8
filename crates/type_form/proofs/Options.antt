-- What is known of an answer that was made of others, and of answers below others.
use Rattle.std.proofs.Common.{◌≡◌, ℕ, zero, suc, Bool, true, false, List, [], ◌∷◌, Option, Some, None, IsSome, is_some, unwrap_or, option_and_then, option_map, refl, sym, ap, ◌∙◌, subst}
use Rattle.type_form.specs.declared.index.Index.{Index}
use Rattle.type_form.specs.Words.{index_of}
use Rattle.type_form.specs.Denote.{option_map2, option_map3, each}

pub one_tells : {A B : Type 0} (f : A → B) (o : Option A) (n : B) → option_map f o ≡ Some n → (x : A) × (o ≡ Some x) × (f x ≡ n)
one_tells f None n e = cc
one_tells f (Some x) n e = (x, refl, cc)

pub then_tells : {A B : Type 0} (f : A → Option B) (o : Option A) (n : B) → option_and_then f o ≡ Some n → (x : A) × (o ≡ Some x) × (f x ≡ Some n)
then_tells f None n e = cc
then_tells f (Some x) n e = (x, refl, e)

pub two_tells : {A B C : Type 0} (f : A → B → C) (o : Option A) (p : Option B) (n : C) → option_map2 f o p ≡ Some n →
    (x : A) × (y : B) × (o ≡ Some x) × (p ≡ Some y) × (f x y ≡ n)
two_tells f None p n e = cc
two_tells f (Some x) p n e = let h = one_tells (f x) p n e in (x, h.0, refl, h.1, h.2)

pub three_tells : {A B C D : Type 0} (f : A → B → C → D) (o : Option A) (p : Option B) (q : Option C) (n : D) → option_map3 f o p q ≡ Some n →
    (x : A) × (y : B) × (z : C) × (o ≡ Some x) × (p ≡ Some y) × (q ≡ Some z) × (f x y z ≡ n)
three_tells f None p q n e = cc
three_tells f (Some x) p q n e = let h = two_tells (f x) p q n e in (x, h.0, h.1, refl, h.2, h.3, h.4)

-- an answer is below another where the other is the same, or it is none
abbrev pub Lower : {A : Type 0} → Option A → Option A → Type 0
Lower {A} o p = (x : A) → o ≡ Some x → p ≡ Some x

pub lower_refl : {A : Type 0} (o : Option A) → Lower o o
lower_refl o x e = e

pub lower_both : {A : Type 0} (o p : Option A) → Lower o p → Lower p o → o ≡ p
lower_both None None h g = refl
lower_both None (Some y) h g = g y refl
lower_both (Some x) p h g = sym (h x refl)

pub then_lower : {A B : Type 0} (f g : A → Option B) (o p : Option A) → Lower o p → ((x : A) → Lower (f x) (g x)) → Lower (option_and_then f o) (option_and_then g p)
then_lower f g o p h k x e = let t = then_tells f o x e in ap (option_and_then g) (h t.0 t.1) ∙ k t.0 x t.2

pub one_lower : {A B : Type 0} (f : A → B) (o p : Option A) → Lower o p → Lower (option_map f o) (option_map f p)
one_lower f o p h x e = let t = one_tells f o x e in ap (option_map f) (h t.0 t.1) ∙ ap Some t.2

pub two_lower : {A B C : Type 0} (f : A → B → C) (o o' : Option A) (p p' : Option B) → Lower o o' → Lower p p' → Lower (option_map2 f o p) (option_map2 f o' p')
two_lower f o o' p p' h g x e =
    let t = two_tells f o p x e in
    ap (λ q. option_map2 f q p') (h t.0 t.2) ∙ ap (option_map (f t.0)) (g t.1 t.3) ∙ ap Some t.4

pub three_lower : {A B C D : Type 0} (f : A → B → C → D) (o o' : Option A) (p p' : Option B) (q q' : Option C) → Lower o o' → Lower p p' → Lower q q' → Lower (option_map3 f o p q) (option_map3 f o' p' q')
three_lower f o o' p p' q q' h g k x e =
    let t = three_tells f o p q x e in
    ap (λ r. option_map3 f r p' q') (h t.0 t.3) ∙ ap (λ r. option_map2 (f t.0) r q') (g t.1 t.4) ∙ ap (option_map (f t.0 t.1)) (k t.2 t.5) ∙ ap Some t.6

pub each_lower : {A : Type 0} (f g : Index → Option A) → ((i : Index) → Lower (f i) (g i)) → (ns : List ℕ) → Lower (each f ns) (each g ns)
each_lower f g h [] = lower_refl _
each_lower f g h (n ∷ ns) = two_lower _ _ _ _ _ (h (index_of n)) (each_lower f g h ns)

pub some_lower : {A : Type 0} (o p : Option A) → Lower o p → IsSome o → IsSome p
some_lower None p h s = cc
some_lower (Some x) p h s = ap is_some (h x refl)

pub unwrap_lower : {A : Type 0} (o p : Option A) (d : A) → Lower o p → IsSome o → unwrap_or p d ≡ unwrap_or o d
unwrap_lower None p d h s = cc
unwrap_lower (Some x) p d h s = ap (λ q. unwrap_or q d) (h x refl)

-- what is there is what a default would replace
pub part : {A : Type 0} (o : Option A) (d x : A) → o ≡ Some x → IsSome o × (x ≡ unwrap_or o d)
part None d x e = cc
part (Some y) d x e = (refl, cc)

pub whole : {A : Type 0} (o : Option A) (d : A) → IsSome o → o ≡ Some (unwrap_or o d)
whole None d s = cc
whole (Some y) d s = refl

pub ap₃ : {A B C D : Type 0} (f : A → B → C → D) {a a' : A} {b b' : B} {c c' : C} → a ≡ a' → b ≡ b' → c ≡ c' → f a b c ≡ f a' b' c'
ap₃ f {a} {a'} {b} {b'} {c} {c'} p q r = cc
