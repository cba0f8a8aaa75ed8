-- Which tokens are marked, and that the choices to come agree with that.
use Rattle.std.proofs.Common.{◌≡◌, ℕ, zero, suc, ◌+◌, ◌-◌, ◌<◌, ◌≤◌, Bool, true, false, ◌⊎◌, inl, inr, List, [], ◌∷◌, ◌++◌, length, refl, sym, ◌∙◌, ap, subst, arith}
use Rattle.std.specs.Prelude.{nat_eq, replicate, slice_set}
use Rattle.std.proofs.lemmas.Bool.{eqb-true, eqb-false}
use Rattle.zig_tree.specs.declared.token.TokenKind.{TokenKind}
use Rattle.zig_parse.specs.Growth.{is_second}
use Rattle.zig_parse.specs.Passes.{marked}
use Rattle.zig_parse.specs.Ways.{Fork, noted}
use Rattle.zig_parse.proofs.Settling.{chosen_with}

set_length : (m : List Bool) (at : ℕ) (b : Bool) → length (slice_set m at b) ≡ length m
set_length [] at b = refl
set_length (x ∷ m) zero b = refl
set_length (x ∷ m) (suc at) b = ap suc (set_length m at b)

set_same : (m : List Bool) (at : ℕ) → at < length m → is_second (slice_set m at true) at ≡ true
set_same [] at l = absurd (omega arith)
set_same (x ∷ m) zero l = refl
set_same (x ∷ m) (suc at) l = set_same m at (omega arith)

set_other : (m : List Bool) (at n : ℕ) (b : Bool) → (n ≡ at → ⊥) → is_second (slice_set m at b) n ≡ is_second m n
set_other [] at n b d = refl
set_other (x ∷ m) zero zero b d = absurd (d refl)
set_other (x ∷ m) zero (suc n) b d = refl
set_other (x ∷ m) (suc at) zero b d = refl
set_other (x ∷ m) (suc at) (suc n) b d = set_other m at n b (λ e. d (ap suc e))

pub marked_length : (ds : List ℕ) (m : List Bool) → length (marked ds m) ≡ length m
unfolding marked
marked_length [] m = refl
marked_length (d ∷ ds) m = marked_length ds (slice_set m d true) ∙ set_length m d true

pub marked_joined : (a b : List ℕ) (m : List Bool) → marked (a ++ b) m ≡ marked b (marked a m)
unfolding marked
marked_joined [] b m = refl
marked_joined (d ∷ a) b m = marked_joined a b (slice_set m d true)

-- a mark stays
stays : (m : List Bool) (d n : ℕ) → n < length m → (b : Bool) → nat_eq n d ≡ b → is_second m n ≡ true → is_second (slice_set m d true) n ≡ true
stays m d n l true e h = subst (λ (k : ℕ). is_second (slice_set m k true) n ≡ true) (eqb-true n d e) (set_same m n l)
stays m d n l false e h = set_other m d n true (eqb-false n d e) ∙ h

marked_stays : (ds : List ℕ) (m : List Bool) (n : ℕ) → n < length m → is_second m n ≡ true → is_second (marked ds m) n ≡ true
unfolding marked
marked_stays [] m n l h = h
marked_stays (d ∷ ds) m n l h = marked_stays ds (slice_set m d true) n (subst (λ (k : ℕ). n < k) (sym (set_length m d true)) l) (stays m d n l (nat_eq n d) refl h)

-- what was the same at a token is so after further marks
alike : (a b : List Bool) (d n : ℕ) → length a ≡ length b → (t : Bool) → nat_eq n d ≡ t → is_second a n ≡ is_second b n → is_second (slice_set a d true) n ≡ is_second (slice_set b d true) n
alike [] [] d n l t e h = refl
alike [] (y ∷ b) d n l t e h = absurd (omega (arith, l))
alike (x ∷ a) [] d n l t e h = absurd (omega (arith, l))
alike (x ∷ a) (y ∷ b) zero zero l t e h = refl
alike (x ∷ a) (y ∷ b) zero (suc n) l t e h = h
alike (x ∷ a) (y ∷ b) (suc d) zero l t e h = h
alike (x ∷ a) (y ∷ b) (suc d) (suc n) l t e h = alike a b d n (omega (arith, l)) (nat_eq n d) refl h

marked_alike : (ds : List ℕ) (a b : List Bool) (n : ℕ) → length a ≡ length b → is_second a n ≡ is_second b n → is_second (marked ds a) n ≡ is_second (marked ds b) n
unfolding marked
marked_alike [] a b n l h = h
marked_alike (d ∷ ds) a b n l h = marked_alike ds (slice_set a d true) (slice_set b d true) n (set_length a d true ∙ l ∙ sym (set_length b d true)) (alike a b d n l (nat_eq n d) refl h)

-- the first of some choices, where there is one
abbrev pub first_of : List Bool → Bool
first_of [] = false
first_of (b ∷ _) = b

chosen_other : (at n : ℕ) (news : List Bool) (ds : List ℕ) (m : List Bool) → (n ≡ at → ⊥) → is_second (marked (chosen_with at news ds) m) n ≡ is_second (marked ds m) n
unfolding marked
chosen_other at n [] ds m d = refl
chosen_other at n (false ∷ news) ds m d = refl
chosen_other at n (true ∷ news) ds m d = marked_alike ds (slice_set m at true) m n (set_length m at true) (set_other m at n true d)

chosen_here : (at : ℕ) (news : List Bool) (ds : List ℕ) (m : List Bool) → at < length m → is_second (marked ds m) at ≡ false → is_second (marked (chosen_with at news ds) m) at ≡ first_of news
unfolding marked
chosen_here at [] ds m l h = h
chosen_here at (false ∷ news) ds m l h = h
chosen_here at (true ∷ news) ds m l h = marked_stays ds (slice_set m at true) at (subst (λ (k : ℕ). at < k) (sym (set_length m at true)) l) (set_same m at l)

-- no token from a number on is marked
pub record Open (total at : ℕ) (m : List Bool) : Type 0 where
  pub long : length m ≡ total
  pub free : (n : ℕ) → at ≤ n → is_second m n ≡ false

pub record Noted (at : ℕ) (news : List Bool) (old new : List Bool) : Type 0 where
  pub others : (n : ℕ) → (n ≡ at → ⊥) → is_second new n ≡ is_second old n
  pub here : is_second new at ≡ first_of news

pub chosen_noted : (total at : ℕ) (news : List Bool) (ds : List ℕ) (m : List Bool) → at < total → Open total at (marked ds m) → Noted at news (marked ds m) (marked (chosen_with at news ds) m)
chosen_noted total at news ds m l o = record {
  others = λ n d. chosen_other at n news ds m d;
  here = chosen_here at news ds m (subst (λ (k : ℕ). at < k) (sym o.long ∙ marked_length ds m) l) (o.free at (omega arith));
}

pub noted_open : (total at : ℕ) (news : List Bool) (ds : List ℕ) (m : List Bool) → Open total at (marked ds m) → Noted at news (marked ds m) (marked (chosen_with at news ds) m) → Open total (at + 1) (marked (chosen_with at news ds) m)
noted_open total at news ds m o k = record {
  long = marked_length (chosen_with at news ds) m ∙ sym (marked_length ds m) ∙ o.long;
  free = λ n l. k.others n (λ e. omega (arith, e, l)) ∙ o.free n (omega (arith, l));
}

-- the marks agree with the choices
abbrev pub Agree : ℕ → List Bool → List Fork → Type 0
Agree total m [] = Unit {0}
Agree total m (f ∷ fs) = (is_second m (total - f.left) ≡ f.second) × Agree total m fs

pub agree_noted : (total at : ℕ) (tokens : List TokenKind) (news : List Bool) (later : List Fork) (m : List Bool) → (news ≡ []) ⊎ ((b : Bool) × (news ≡ b ∷ [])) → at + length tokens ≡ total → is_second m at ≡ first_of news → Agree total m later
    → Agree total m (noted tokens news ++ later)
agree_noted total at tokens [] later m few e h k = k
agree_noted total at tokens (b ∷ []) later m few e h k = (ap (is_second m) (omega (arith, e)) ∙ h, k)
agree_noted total at tokens (b ∷ c ∷ news) later m (inl f) e h k = absurd (cc)
agree_noted total at tokens (b ∷ c ∷ news) later m (inr f) e h k = absurd (let x = f.1 in cc)

none_second : (n k : ℕ) → is_second (replicate n false) k ≡ false
none_second zero k = refl
none_second (suc n) zero = refl
none_second (suc n) (suc k) = none_second n k

none_long : (n : ℕ) → length (replicate n false) ≡ n
none_long zero = refl
none_long (suc n) = ap suc (none_long n)

pub open_first : (n : ℕ) → Open n 0 (replicate n false)
open_first n = record { long = none_long n; free = λ k l. none_second n k }
