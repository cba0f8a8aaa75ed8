-- Byte order, where one text does not come before another.
use Rattle.std.proofs.Common.{◌≡◌, ℕ, ◌⊎◌, inl, inr, List, true, false, refl, sym, ◌∙◌}
use Rattle.std.specs.declared.cmp.Ordering.{Ordering}
use Rattle.std.specs.declared.cmp.Ordering.TheVariants.{Less, Equal, Greater}
use Rattle.std.specs.Ordering.{nat_cmp, match_ordering, ordering_reverse, is_lt}
use Rattle.std.specs.Cmp.Lexicographic.{slice_cmp}
use Rattle.std.proofs.lemmas.Cmp.{nat_list_cmp_total, alike_right}
use Rattle.pointer_cycles.specs.Cycles.{is_before}

abbrev order : List ℕ → List ℕ → Ordering
order = slice_cmp nat_cmp

-- what is less or equal
abbrev AtMost : Ordering → Type 0
AtMost p = (p ≡ Less) ⊎ (p ≡ Equal)

pub lt-before : (o : Ordering) → is_lt o ≡ match_ordering o true false false
lt-before Less = refl
lt-before Equal = refl
lt-before Greater = refl

turned : (o p : Ordering) → p ≡ ordering_reverse o → match_ordering o true false false ≡ false → AtMost p
turned Less p e n = cc
turned Equal p e n = inr e
turned Greater p e n = inl e

back : (o p : Ordering) → p ≡ ordering_reverse o → AtMost p → match_ordering o true false false ≡ false
back Less p e (inl h) = cc
back Less p e (inr h) = cc
back Equal p e h = refl
back Greater p e h = refl

is-less : (o : Ordering) → match_ordering o true false false ≡ true → o ≡ Less
is-less Less n = refl
is-less Equal n = cc
is-less Greater n = cc

at-most : (a b : List ℕ) → is_before b a ≡ false → AtMost (order a b)
at-most a b n = turned (order b a) (order a b) (nat_list_cmp_total.antisymm a b) n

not-before : (a b : List ℕ) → AtMost (order a b) → is_before b a ≡ false
not-before a b h = back (order b a) (order a b) (nat_list_cmp_total.antisymm a b) h

chained : (a b c : List ℕ) → AtMost (order a b) → AtMost (order b c) → AtMost (order a c)
chained a b c (inr e) h = elim h [
  | inl l ↦ inl (nat_list_cmp_total.congr a b c e ∙ l)
  | inr l ↦ inr (nat_list_cmp_total.congr a b c e ∙ l)
]
chained a b c (inl l) (inl m) = inl (nat_list_cmp_total.trans a b c l m)
chained a b c (inl l) (inr e) = inl (sym (alike_right nat_list_cmp_total b c a e) ∙ l)

-- what does not come before a, which does not come before b: none comes before another in the order c, b, a
pub not-before-chain : (a b c : List ℕ) → is_before b a ≡ false → is_before c b ≡ false → is_before c a ≡ false
not-before-chain a b c h g = not-before a c (chained a b c (at-most a b h) (at-most b c g))

-- of two texts not both come before the other
pub not-before-back : (a b : List ℕ) → is_before a b ≡ true → is_before b a ≡ false
not-before-back a b h = not-before a b (inl (is-less (order a b) h))

itself : (o : Ordering) → o ≡ ordering_reverse o → match_ordering o true false false ≡ false
itself Less e = cc
itself Equal e = refl
itself Greater e = refl

pub not-before-itself : (a : List ℕ) → is_before a a ≡ false
not-before-itself a = itself (order a a) (nat_list_cmp_total.antisymm a a)
